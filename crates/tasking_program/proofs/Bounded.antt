-- Prices that cover the programme: one tick of each processor.
use Rattle.std.proofs.Common.{◌≡◌, ◌≢◌, ℕ, ◌+◌, ◌*◌, ◌<◌, ◌≤◌, Bool, true, false, nat_eq, List, ◌++◌, length, slice_index_or, unwrap_or, All, Option, Some, None, IfSome, ℤ, pos, ◌*ℤ◌, ◌≤ℤ◌, refl, sym, ap, ◌∙◌, arith}
use Rattle.std.specs.Option.{is_some}
use Rattle.std.proofs.lemmas.Int.{ints}
use Rattle.std.proofs.lemmas.Bool.{eq-eqb, ne_eqb}
use Rattle.std.proofs.lemmas.List.{length-append, length-map, get_or-map}
use Rattle.std.proofs.lemmas.List.Elements.{All-append}
use Rattle.linear_program.specs.Sums.{sum_below}
use Rattle.linear_program.specs.Programmes.{RowView, cell_at, gain_at}
use Rattle.linear_program.specs.Duality.{priced_column, IsBounded}
use Rattle.linear_program.proofs.Sums.{zero_sum, single_sum}
use Rattle.platform_file.specs.Ticks.{TimedView, IsTimed}
use Rattle.schedule_model.specs.Operations.{time_of}
use Rattle.programme_rows.specs.Listings.{each_where}
use Rattle.programme_rows.specs.Cells.{where_true}
use Rattle.programme_rows.proofs.Listings.{each_all, each_few, sum_over_each}
use Rattle.programme_rows.proofs.Cells.{cell_there}
use Rattle.programme_rows.proofs.Weights.{where_nothing}
use Rattle.programme_rows.proofs.Prices.{nothing, ones, priced_front, constant}
use Rattle.tasking_program.specs.declared.columns.Column.{Column}
use Rattle.tasking_program.specs.declared.columns.Column.TheVariants.{Computes, Flows}
use Rattle.tasking_program.specs.declared.rows.Limit.TheVariants.{Compute as Processor, Send as SendPort, Receive as ReceivePort, Supply}
use Rattle.tasking_program.specs.Columns.{computes, carries, columns_of, column_at, Exists}
use Rattle.tasking_program.specs.Rows.{cell_of, is_limited, row_of, rows_of}
use Rattle.tasking_program.specs.Programme.{gain_of, tasking_programme}

-- each column of the programme exists
pub columns_exist : (t : TimedView) → All (Exists t) (columns_of t)
columns_exist t =
    All-append (Exists t) (each_where (computes t) Computes (length t.platform.nodes)) (each_where (carries t) Flows (length t.platform.links))
    (each_all (Exists t) (computes t) Computes (length t.platform.nodes) (λ i l e. (l, e)))
    (each_all (Exists t) (carries t) Flows (length t.platform.links) (λ i l e. l))

pub columns_few : (t : TimedView) → length (columns_of t) ≤ length t.platform.nodes + length t.platform.links
columns_few t =
    few (length-append (each_where (computes t) Computes (length t.platform.nodes)) (each_where (carries t) Flows (length t.platform.links)))
    (each_few (computes t) Computes (length t.platform.nodes)) (each_few (carries t) Flows (length t.platform.links))
  where
    few : {a b c n m : ℕ} → c ≡ a + b → a ≤ n → b ≤ m → c ≤ n + m
    few e h k = omega arith

module _ (t : TimedView) (timed : IsTimed t) where
  abbrev rest : List RowView
  rest = rows_of t SendPort ++ (rows_of t ReceivePort ++ rows_of t Supply)

  abbrev prices : List ℤ
  prices = ones (rows_of t Processor) ++ nothing rest

  abbrev term : ℕ → ℕ → ℤ
  term j i = where_true (computes t i) (cell_at (row_of t Processor i).cells j)

  -- what a column costs, processor by processor
  column_costs : (j : ℕ) → priced_column (tasking_programme t).rows prices j ≡ sum_below (length t.platform.nodes) (term j)
  column_costs j = priced_front (rows_of t Processor) rest j ∙ sum_over_each (λ row. cell_at row.cells j) (is_limited t Processor) (row_of t Processor) (length t.platform.nodes)

  some_ticks : (node : ℕ) → node < length t.platform.nodes → computes t node ≡ true → 1 ≤ time_of t node
  some_ticks node l e =
      let long : node < length t.times = rw (ap length timed.times ∙ length-map t.platform.nodes _) l in
      each (slice_index_or t.times node None) e (timed.some_time node None long)
    where
      each : (time : Option ℕ) → is_some time ≡ true → IfSome time (λ ticks. 1 ≤ ticks) → 1 ≤ unwrap_or time 0
      each (Some ticks) e h = h
      each None e h = absurd cc

  -- a column costs what it gains, and more
  covered : (j : ℕ) → j < length (columns_of t) → (c : Column) → column_at (columns_of t) j ≡ c → Exists t c → gain_of c ≤ℤ sum_below (length t.platform.nodes) (term j)
  covered j l (Flows link) e exists =
      rw (zero_sum (length t.platform.nodes) (term j) (λ i m. none i)) (omega (arith, ints))
    where
      free : (b : Bool) (z : ℤ) → z ≡ pos 0 → where_true b z ≡ pos 0
      free true z e = e
      free false z e = refl

      none : (i : ℕ) → term j i ≡ pos 0
      none i = free (computes t i) _ (cell_there (λ k. cell_of t Processor i (column_at (columns_of t) k)) (length (columns_of t)) j l ∙ ap (cell_of t Processor i) e)
  covered j l (Computes node) e exists =
      rw (single_sum (length t.platform.nodes) node (term j) exists.0 (λ i m apart. none i apart), here) (one _ (some_ticks node exists.0 exists.1))
    where
      cell : (i : ℕ) → cell_at (row_of t Processor i).cells j ≡ where_true (nat_eq node i) (pos (time_of t node))
      cell i = cell_there (λ k. cell_of t Processor i (column_at (columns_of t) k)) (length (columns_of t)) j l ∙ ap (cell_of t Processor i) e

      here : term j node ≡ pos (time_of t node)
      here = rw (cell node, exists.1, eq-eqb node node refl) refl

      none : (i : ℕ) → i ≢ node → term j i ≡ pos 0
      none i apart = rw (cell i, ne_eqb node i (λ e. apart (sym e))) (where_nothing (computes t i))

      one : (n : ℕ) → 1 ≤ n → pos 1 ≤ℤ pos n
      one n h = omega (arith, ints)

  pub bounded : IsBounded (tasking_programme t)
  bounded = record {
    prices = prices;
    scale = pos 1;
    bound = record {
      some_scale = omega (arith, ints);
      one_each =
          length-append (ones (rows_of t Processor)) (nothing rest)
          ∙ rw (length-map (rows_of t Processor) (λ _. pos 1), length-map rest (λ _. pos 0)) (sym (length-append (rows_of t Processor) rest));
      not_negative = All-append (λ price. pos 0 ≤ℤ price) (ones (rows_of t Processor)) (nothing rest) (constant (pos 1) (omega (arith, ints)) (rows_of t Processor)) (constant (pos 0) (omega (arith, ints)) rest);
      covers = λ j l. rw (column_costs j, gained j l) (one_times _ _ (covered j l (column_at (columns_of t) j) refl (columns_exist t j (Computes 0) l)));
    };
  }
    where
      gained : (j : ℕ) → j < length (columns_of t) → gain_at (tasking_programme t) j ≡ gain_of (column_at (columns_of t) j)
      gained j l = get_or-map gain_of (columns_of t) j (Computes 0) (pos 0) l

      one_times : (a b : ℤ) → a ≤ℤ b → (pos 1 *ℤ a) ≤ℤ b
      one_times a b h = omega (arith, ints)

-- there are at most as many rows of a kind as nodes
pub rows_few : (t : TimedView) → length (tasking_programme t).rows ≤ 4 * length t.platform.nodes
rows_few t =
    let n = length t.platform.nodes in
    few (length-append (rows_of t Processor) (rows_of t SendPort ++ (rows_of t ReceivePort ++ rows_of t Supply)))
    (length-append (rows_of t SendPort) (rows_of t ReceivePort ++ rows_of t Supply)) (length-append (rows_of t ReceivePort) (rows_of t Supply))
    (each_few (is_limited t Processor) (row_of t Processor) n) (each_few (is_limited t SendPort) (row_of t SendPort) n)
    (each_few (is_limited t ReceivePort) (row_of t ReceivePort) n) (each_few (is_limited t Supply) (row_of t Supply) n)
  where
    few : {a b c d x y z n : ℕ} → z ≡ a + y → y ≡ b + x → x ≡ c + d → a ≤ n → b ≤ n → c ≤ n → d ≤ n → z ≤ 4 * n
    few e f g h i j k = omega arith

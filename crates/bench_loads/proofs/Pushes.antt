-- A chain's rows with one more row.
use Rattle.std.proofs.Common.{rules, ◌≡◌, ◌≢◌, ◌^◌, nat_abs, ℕ, zero, suc, ◌*◌, ◌<◌, ◌≤◌, ℤ, pos, ◌+ℤ◌, ◌*ℤ◌, ◌≤ℤ◌, List, [], ◌∷◌, ◌++◌, All, length, length-append, cond, true, false, nat_lt, slice_index_or, arith, refl, ◌∙◌, ap, inl, inr}
use Rattle.std.proofs.lemmas.Int.{ints}
use Rattle.std.proofs.lemmas.Bool.{cases_eq, cases_lt, eq-eqb, ne_eqb, lt-ltb, le-ltb}
use Rattle.std.proofs.lemmas.List.Elements.{All-push}
use Rattle.linear_program.specs.Programmes.{RowView, IsRow, cell_at}
use Rattle.linear_program.specs.Duality.{priced_column, IsBounded}
use Rattle.bench_loads.specs.Chains.{time_prices, IsChain}

pub prices_length : (workers n : ℕ) → length (time_prices workers n) ≡ n
prices_length workers zero = refl
prices_length workers (suc n) = omega (arith, length-append (time_prices workers n) (cond (nat_lt n workers) (pos 1) (pos 0) ∷ []), prices_length workers n)

-- what a column costs with one more row
priced_push : (rows : List RowView) (ys : List ℤ) (row : RowView) (y : ℤ) (j : ℕ) → length ys ≡ length rows →
    priced_column (rows ++ row ∷ []) (ys ++ y ∷ []) j ≡ priced_column rows ys j +ℤ y *ℤ cell_at row.cells j
priced_push [] [] row y j h = omega (arith, ints)
priced_push [] (z ∷ ys) row y j h = absurd (omega arith)
priced_push (r ∷ rows) [] row y j h = absurd (omega arith)
priced_push (r ∷ rows) (z ∷ ys) row y j h = omega (arith, ints, priced_push rows ys row y j (omega arith))

-- the cost of a column in a chain with one more row
pushed_cost : (workers : ℕ) (rows : List RowView) (row : RowView) (j : ℕ) →
    priced_column (rows ++ row ∷ []) (time_prices workers (length (rows ++ row ∷ []))) j ≡
    priced_column rows (time_prices workers (length rows)) j +ℤ cond (nat_lt (length rows) workers) (pos 1) (pos 0) *ℤ cell_at row.cells j
pushed_cost workers rows row j =
    let n = length rows in
    let more : length (rows ++ row ∷ []) ≡ suc n = omega (arith, length-append rows (row ∷ [])) in
    ap (λ k. priced_column (rows ++ row ∷ []) (time_prices workers k) j) more
    ∙ priced_push rows (time_prices workers n) row (cond (nat_lt n workers) (pos 1) (pos 0)) j (prices_length workers n)

-- a row behind those of the times
pub behind_pushed : (workers : ℕ) (rows : List RowView) (row : RowView) → IsChain workers rows → IsRow (2 * workers) row → workers ≤ length rows → IsChain workers (rows ++ row ∷ [])
behind_pushed workers rows row chain here behind =
    let same : (j : ℕ) → priced_column (rows ++ row ∷ []) (time_prices workers (length (rows ++ row ∷ []))) j ≡ priced_column rows (time_prices workers (length rows)) j =
    λ j. pushed_cost workers rows row j ∙ rw (le-ltb (length rows) workers behind) (omega (arith, ints)) in
    record {
      kept = All-push (IsRow (2 * workers)) rows row chain.kept here;
      covered = λ j l m. rw (same j) (chain.covered j l (omega arith));
      not_negative = λ j. rw (same j) (chain.not_negative j);
    }

-- the row of the next worker's time
pub time_pushed : (workers : ℕ) (rows : List RowView) (t : ℤ) → IsChain workers rows → IsRow (2 * workers) (record { cells = (length rows, t) ∷ []; rhs = pos 1 }) → pos 1 ≤ℤ t → length rows < workers →
    IsChain workers (rows ++ record { cells = (length rows, t) ∷ []; rhs = pos 1 } ∷ [])
time_pushed workers rows t chain here some left =
    let n = length rows in
    let row : RowView = record { cells = (n, t) ∷ []; rhs = pos 1 } in
    let cost : (j : ℕ) → priced_column (rows ++ row ∷ []) (time_prices workers (length (rows ++ row ∷ []))) j ≡ priced_column rows (time_prices workers n) j +ℤ cell_at row.cells j =
    λ j. pushed_cost workers rows row j ∙ rw (lt-ltb n workers left) (omega (arith, ints)) in
    let cell_not_negative : (j : ℕ) → pos 0 ≤ℤ cell_at row.cells j =
    λ j. elim (cases_eq n j) [
      | inl same ↦ rw (eq-eqb n j same) (omega (arith, ints, some))
      | inr other ↦ rw (ne_eqb n j other) (omega (arith, ints))
    ] in
    record {
      kept = All-push (IsRow (2 * workers)) rows row chain.kept here;
      covered = λ j l m.
          elim (cases_eq n j) [
            | inl same ↦
                let own : cell_at row.cells j ≡ t = rw (eq-eqb n j same) refl in
                rw (cost j) (omega (arith, ints, own, some, chain.not_negative j))
            | inr other ↦
                let more : length (rows ++ row ∷ []) ≡ suc n = omega (arith, length-append rows (row ∷ [])) in
                rw (cost j) (omega (arith, ints, cell_not_negative j, chain.covered j l (omega (arith, m, more))))
          ];
      not_negative = λ j. rw (cost j) (omega (arith, ints, cell_not_negative j, chain.not_negative j));
    }

pub time_row : (workers k : ℕ) (t : ℤ) → k < workers → pos 1 ≤ℤ t → t ≤ℤ pos 15 → IsRow (2 * workers) (record { cells = (k, t) ∷ []; rhs = pos 1 })
time_row workers k t left some few = record {
  exist = All-push (λ (c : ℕ × ℤ). c.0 < 2 * workers) [] (k, t) (search rules) (omega arith);
  ascend = λ i l. absurd (omega arith);
  no_zero = All-push (λ (c : ℕ × ℤ). c.1 ≢ pos 0) [] (k, t) (search rules) (λ e. absurd (omega (arith, ints, e, some)));
  small = All-push (λ (c : ℕ × ℤ). nat_abs c.1 < 2 ^ 127) [] (k, t) (search rules) (omega (arith, ints, some, few));
  side = inr refl;
}

prices_not_negative : (workers n : ℕ) → All (λ price. pos 0 ≤ℤ price) (time_prices workers n)
prices_not_negative workers zero = search rules
prices_not_negative workers (suc n) =
    All-push (λ price. pos 0 ≤ℤ price) (time_prices workers n) (cond (nat_lt n workers) (pos 1) (pos 0)) (prices_not_negative workers n)
    (elim (nat_lt n workers) as (λ b. pos 0 ≤ℤ cond b (pos 1) (pos 0)) [
      | true ↦ omega (arith, ints)
      | false ↦ omega (arith, ints)
    ])

-- a chain with the times of all workers among its rows is bounded
pub chain_bounded : (workers : ℕ) (rows : List RowView) (gain : List ℤ) → IsChain workers rows → workers ≤ length rows →
    ((j : ℕ) → j < 2 * workers → slice_index_or gain j (pos 0) ≡ cond (nat_lt j workers) (pos 1) (pos 0)) → IsBounded (record { columns = 2 * workers; rows = rows; gain = gain })
chain_bounded workers rows gain chain whole gains = record {
  prices = time_prices workers (length rows);
  scale = pos 1;
  bound = record {
    some_scale = omega (arith, ints);
    one_each = prices_length workers (length rows);
    not_negative = prices_not_negative workers (length rows);
    covers = λ j l.
        elim (cases_lt j workers) [
          | inl worker ↦
              let own : slice_index_or gain j (pos 0) ≡ pos 1 = gains j l ∙ rw (lt-ltb j workers worker) refl in
              rw own (let h = chain.covered j worker (omega arith) in omega (arith, ints, h))
          | inr flow ↦
              let none : slice_index_or gain j (pos 0) ≡ pos 0 = gains j l ∙ rw (le-ltb j workers flow) refl in
              rw none (let h = chain.not_negative j in omega (arith, ints, h))
        ];
  };
}

-- What the columns' amounts say of ports, processors and supplies, in whole numbers.
use Rattle.std.specs.Prelude.{◌≡◌, ℕ, ◌+◌, ◌*◌, ◌<◌, ◌≤◌, Bool, true, false, ◌&&◌, cond, nat_eq, List, length, slice_index_or}
use Rattle.ratio_core.specs.Fraction.{Fraction, whole}
use Rattle.platform_file.specs.Platform.{is_master}
use Rattle.platform_file.specs.Ticks.{TimedView}
use Rattle.programme_rows.specs.Listings.{total_below}
use Rattle.programme_rows.specs.LookUps.{value_of}
use Rattle.schedule_model.specs.Operations.{cost_of, time_of, sender_of, receiver_of}
use Rattle.tasking_program.specs.declared.columns.Column.{Column}
use Rattle.tasking_program.specs.declared.columns.Column.TheVariants.{Computes, Flows}
use Rattle.tasking_program.specs.Columns.{computes, carries, columns_of, column_at}

-- both columns stand for the same rate or flow
abbrev pub same_column : Column → Column → Bool
same_column (Computes node) (Computes other) = nat_eq node other
same_column (Computes node) (Flows link) = false
same_column (Flows link) (Computes node) = false
same_column (Flows link) (Flows other) = nat_eq link other

-- each column of the programme has the value of its number, and what isn't one has none
pub record AreLookedUp (t : TimedView) : Type 0 where
  pub there : (values : List Fraction) (j : ℕ) → j < length (columns_of t) → length values ≡ length (columns_of t) → value_of (same_column (column_at (columns_of t) j)) (columns_of t) values ≡ slice_index_or values j (whole 0)
  pub no_rate : (values : List Fraction) (node : ℕ) → computes t node ≡ false → value_of (same_column (Computes node)) (columns_of t) values ≡ whole 0
  pub no_flow : (values : List Fraction) (link : ℕ) → carries t link ≡ false → value_of (same_column (Flows link)) (columns_of t) values ≡ whole 0

-- the amounts of the columns in their order, by what they stand for
abbrev pub amounts_of : TimedView → (Column → ℕ) → ℕ → ℕ
amounts_of t amount j = amount (column_at (columns_of t) j)

-- what a number comes to over the links that pass a test and that a plan can use
abbrev pub over_links : TimedView → (ℕ → Bool) → (ℕ → ℕ) → ℕ
over_links t test f = total_below (length t.platform.links) (λ link. cond (carries t link && test link) (f link) 0)

-- in so many ticks each processor and each port has time for its amounts, and no node but the master passes on and computes more than it gets
pub record IsSteady (t : TimedView) (amount : Column → ℕ) (ticks : ℕ) : Type 0 where
  pub processors : (node : ℕ) → node < length t.platform.nodes → computes t node ≡ true → time_of t node * amount (Computes node) ≤ ticks
  pub senders : (node : ℕ) → node < length t.platform.nodes → over_links t (λ link. nat_eq (sender_of t link) node) (λ link. cost_of t link * amount (Flows link)) ≤ ticks
  pub receivers : (node : ℕ) → node < length t.platform.nodes → over_links t (λ link. nat_eq (receiver_of t link) node) (λ link. cost_of t link * amount (Flows link)) ≤ ticks
  pub supplies : (node : ℕ) → node < length t.platform.nodes → is_master t.platform node ≡ false →
      cond (computes t node) (amount (Computes node)) 0 + over_links t (λ link. nat_eq (sender_of t link) node) (λ link. amount (Flows link))
      ≤ over_links t (λ link. nat_eq (receiver_of t link) node) (λ link. amount (Flows link))

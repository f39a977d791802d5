-- What the columns' amounts say of ports and supplies, in whole numbers.
use Rattle.std.specs.Prelude.{◌≡◌, ℕ, ◌+◌, ◌*◌, ◌<◌, ◌≤◌, Bool, true, false, ◌&&◌, cond, nat_eq, List, length, slice_index_or}
use Rattle.ratio_core.specs.Fraction.{Fraction, whole}
use Rattle.platform_file.specs.Platform.{is_master}
use Rattle.platform_file.specs.Ticks.{TimedView}
use Rattle.schedule_model.specs.Operations.{cost_of, sender_of, receiver_of}
use Rattle.programme_rows.specs.Listings.{total_below}
use Rattle.programme_rows.specs.LookUps.{value_of}
use Rattle.scatter_program.specs.declared.columns.Column.{Column}
use Rattle.scatter_program.specs.declared.columns.Column.TheVariants.{Rate, Flows}
use Rattle.scatter_program.specs.Columns.{target_of, carries, columns_of, column_at}

-- both columns stand for the same rate or flow
abbrev pub same_column : Column → Column → Bool
same_column Rate Rate = true
same_column Rate (Flows link kind) = false
same_column (Flows link kind) Rate = false
same_column (Flows link kind) (Flows other own) = nat_eq link other && nat_eq kind own

-- each column of the programme has the value of its number, and a flow that isn't one has none
pub record AreLookedUp (t : TimedView) : Type 0 where
  pub there : (values : List Fraction) (j : ℕ) → j < length (columns_of t) → length values ≡ length (columns_of t) →
      value_of (same_column (column_at (columns_of t) j)) (columns_of t) values ≡ slice_index_or values j (whole 0)
  pub no_flow : (values : List Fraction) (link kind : ℕ) → carries t kind link ≡ false → value_of (same_column (Flows link kind)) (columns_of t) values ≡ whole 0

-- the amounts of the columns in their order, by what they stand for
abbrev pub amounts_of : TimedView → (Column → ℕ) → ℕ → ℕ
amounts_of t amount j = amount (column_at (columns_of t) j)

-- what a number comes to over the links that pass a test and that can carry messages of the kind
abbrev pub over_links : TimedView → ℕ → (ℕ → Bool) → (ℕ → ℕ) → ℕ
over_links t kind test f = total_below (length t.platform.links) (λ link. cond (carries t kind link && test link) (f link) 0)

-- in so many ticks each port has time for its amounts of all kinds, and no node but the master passes on more of a kind than it gets,
-- with what its target keeps
pub record IsSteady (t : TimedView) (amount : Column → ℕ) (ticks : ℕ) : Type 0 where
  pub senders : (node : ℕ) → node < length t.platform.nodes →
      total_below (length t.platform.targets) (λ kind. over_links t kind (λ link. nat_eq (sender_of t link) node) (λ link. cost_of t link * amount (Flows link kind))) ≤ ticks
  pub receivers : (node : ℕ) → node < length t.platform.nodes →
      total_below (length t.platform.targets) (λ kind. over_links t kind (λ link. nat_eq (receiver_of t link) node) (λ link. cost_of t link * amount (Flows link kind))) ≤ ticks
  pub supplies : (kind node : ℕ) → kind < length t.platform.targets → node < length t.platform.nodes → is_master t.platform node ≡ false →
      cond (nat_eq node (target_of t kind)) (amount Rate) 0 + over_links t kind (λ link. nat_eq (sender_of t link) node) (λ link. amount (Flows link kind))
      ≤ over_links t kind (λ link. nat_eq (receiver_of t link) node) (λ link. amount (Flows link kind))

-- What the amounts of each kind on links and at nodes have to keep to, so that routes and slots can be made of them.
use Rattle.std.specs.Prelude.{◌≡◌, ℕ, ◌+◌, ◌*◌, ◌<◌, ◌≤◌, Bool, true, false, cond, nat_eq, length}
use Rattle.platform_file.specs.Platform.{is_master}
use Rattle.platform_file.specs.Ticks.{TimedView}
use Rattle.schedule_model.specs.Operations.{cost_of, time_of, sender_of, receiver_of}
use Rattle.schedule_model.specs.declared.schedule.Series.{Series}
use Rattle.schedule_model.specs.declared.schedule.Series.TheVariants.{Tasking, Scatter}
use Rattle.programme_rows.specs.Listings.{total_below}
use Rattle.tasking_program.specs.Columns.{computes}
use Rattle.scatter_program.specs.Columns.{target_of}
use Rattle.series_flows.specs.Programmes.{kinds_of}

-- what a number comes to over the links that pass a test
abbrev pub over : TimedView → (ℕ → Bool) → (ℕ → ℕ) → ℕ
over t test f = total_below (length t.platform.links) (λ link. cond (test link) (f link) 0)

-- how much of all kinds a link carries
abbrev pub over_kinds : ℕ → (ℕ → ℕ → ℕ) → ℕ → ℕ
over_kinds kinds flow link = total_below kinds (λ kind. flow kind link)

-- a task is used where it is computed, a message at the target of its kind
abbrev pub MayUse : TimedView → Series → ℕ → ℕ → Type 0
MayUse t Tasking kind node = computes t node ≡ true
MayUse t Scatter kind node = node ≡ target_of t kind

-- each processor has time for its tasks, and each target gets as many messages as the first one
abbrev pub AreInUse : TimedView → Series → (ℕ → ℕ → ℕ) → ℕ → Type 0
AreInUse t Tasking uses ticks = (node : ℕ) → node < length t.platform.nodes → uses 0 node * time_of t node ≤ ticks
AreInUse t Scatter uses ticks =
    (kind : ℕ) → kind < length t.platform.targets → total_below (length t.platform.nodes) (uses kind) ≡ total_below (length t.platform.nodes) (uses 0)

-- in so many ticks each port has time for what its links carry, no node but the master passes on and uses more of a kind than it gets,
-- and what is used is little, slow, and used where it may be
pub record AreAmounts (t : TimedView) (series : Series) (flow uses : ℕ → ℕ → ℕ) (ticks : ℕ) : Type 0 where
  pub some_kind : 1 ≤ kinds_of t series
  pub few_kinds : kinds_of t series ≤ 8
  pub senders : (node : ℕ) → node < length t.platform.nodes →
      over t (λ link. nat_eq (sender_of t link) node) (λ link. cost_of t link * over_kinds (kinds_of t series) flow link) ≤ ticks
  pub receivers : (node : ℕ) → node < length t.platform.nodes →
      over t (λ link. nat_eq (receiver_of t link) node) (λ link. cost_of t link * over_kinds (kinds_of t series) flow link) ≤ ticks
  pub supplies : (kind node : ℕ) → kind < kinds_of t series → node < length t.platform.nodes → is_master t.platform node ≡ false →
      uses kind node + over t (λ link. nat_eq (sender_of t link) node) (flow kind) ≤ over t (λ link. nat_eq (receiver_of t link) node) (flow kind)
  pub may_use : (kind node : ℕ) → kind < kinds_of t series → node < length t.platform.nodes → 1 ≤ uses kind node → MayUse t series kind node
  pub little : (kind node : ℕ) → kind < kinds_of t series → node < length t.platform.nodes → uses kind node ≤ ticks
  pub slow : (kind node : ℕ) → kind < kinds_of t series → node < length t.platform.nodes → uses kind node * t.unit ≤ 2000000 * ticks
  pub used : AreInUse t series uses ticks

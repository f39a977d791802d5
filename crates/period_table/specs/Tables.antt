-- Which tables fit a platform, and which leave its ports free in time. Source: this project; the periodic schedules are those of Beaumont, Legrand and Robert.
use Rattle.std.specs.Prelude.{◌≡◌, ℕ, ◌*◌, ◌^◌, ◌<◌, ◌≤◌, true, false, List, [], ◌∷◌, length, map, max, All, None, IsSome, cond, nat_eq, slice_index, slice_index_or, sum_by}
use Rattle.std.specs.List.{IsDistinct}
use Rattle.std.specs.List.Sorted.{IsStrictlyIncreasing}
use Rattle.ratio_core.specs.Fraction.{reduced}
use Rattle.platform_file.specs.Platform.{is_master}
use Rattle.platform_file.specs.Ticks.{TimedView}
use Rattle.schedule_model.specs.declared.schedule.Series.{Series}
use Rattle.schedule_model.specs.declared.schedule.Series.TheVariants.{Tasking, Scatter}
use Rattle.schedule_model.specs.Operations.{sender_of, receiver_of, cost_of, time_of}
use Rattle.period_table.specs.declared.table.Table.{Table}
use Rattle.flow_routes.specs.declared.flow.Route.{Route}
use Rattle.period_table.specs.declared.table.Slot.{Slot}
use Rattle.period_table.specs.declared.table.Piece.{Piece}
use Rattle.period_table.specs.Lanes.{LaneAt, lanes_of, lane_at}
use Rattle.period_table.specs.TableSchedules.{tasks_over, tasks_at}

-- where a walk over some links to an end begins
abbrev pub first_node : TimedView → List ℕ → ℕ → ℕ
first_node t [] end = end
first_node t (link ∷ links) end = sender_of t link

-- all nodes on a walk over some links to an end
abbrev pub nodes_on : TimedView → List ℕ → ℕ → List ℕ
nodes_on t [] end = end ∷ []
nodes_on t (link ∷ links) end = sender_of t link ∷ nodes_on t links end

-- each link exists, enters no master, and enters the node from which the walk goes on
abbrev pub IsWalk : TimedView → List ℕ → ℕ → Type 0
IsWalk t [] end = Unit {0}
IsWalk t (link ∷ links) end =
    (link < length t.platform.links) × (receiver_of t link ≡ first_node t links end) × (is_master t.platform (receiver_of t link) ≡ false) × IsWalk t links end

-- a node with a time ends a route of Tasking, and the target of its kind one of Scatter
abbrev pub EndsWell : TimedView → Series → Route → Type 0
EndsWell t Tasking route = (route.kind ≡ 0) × IsSome (slice_index_or t.times route.end None)
EndsWell t Scatter route = (route.kind < length t.platform.targets) × (route.end ≡ slice_index t.platform.targets route.kind)

-- a simple walk from a master to where its tasks are used
pub record IsRoute (t : TimedView) (series : Series) (route : Route) : Type 0 where
  pub from_master : is_master t.platform (first_node t route.links route.end) ≡ true
  pub walk : IsWalk t route.links route.end
  pub simple : IsDistinct nat_eq (nodes_on t route.links route.end)
  pub ending : EndsWell t series route
  pub some : 1 ≤ route.count
  pub bounded : route.count ≤ 2 ^ 100

-- a piece of a lane that exists
pub record IsPiece (lanes : List LaneAt) (piece : Piece) : Type 0 where
  pub lane : piece.lane < length lanes
  pub some : 1 ≤ piece.count
  pub bounded : piece.count ≤ 2 ^ 100

-- some ticks, with pieces by ascending lane
pub record IsSlot (lanes : List LaneAt) (slot : Slot) : Type 0 where
  pub some : 1 ≤ slot.duration
  pub pieces : All (IsPiece lanes) slot.pieces
  pub ascending : IsStrictlyIncreasing (map (λ piece. piece.lane) slot.pieces)

-- the tasks of each period, those of each kind in a Scatter
abbrev pub HasTasks : TimedView → Series → Table → Type 0
HasTasks t Tasking table = table.tasks ≡ sum_by (λ route. route.count) table.routes
HasTasks t Scatter table =
    (0 < length t.platform.targets) ×
    ((kind : ℕ) → kind < length t.platform.targets → table.tasks ≡ sum_by (λ route. cond (nat_eq route.kind kind) route.count 0) table.routes)

-- the length of the longest route, and 0 where there is none
abbrev pub longest : List Route → ℕ
longest [] = 0
longest (route ∷ routes) = max (length route.links) (longest routes)

-- how many tasks the slots move over a lane
abbrev pub moved_over : ℕ → List Slot → ℕ
moved_over lane slots = sum_by (λ slot. sum_by (λ piece. cond (nat_eq piece.lane lane) piece.count 0) slot.pieces) slots

-- the table is one of this platform and series
pub record Fits (t : TimedView) (series : Series) (table : Table) : Type 0 where
  pub routes : All (IsRoute t series) table.routes
  pub tasks : HasTasks t series table
  pub few_tasks : table.tasks ≤ 2 ^ 107
  pub depth : table.depth ≡ longest table.routes
  pub some_slot : 1 ≤ length table.slots
  pub few_slots : length table.slots < 2 ^ 32
  pub slots : All (IsSlot (lanes_of table.routes)) table.slots
  pub period : table.period ≡ sum_by (λ slot. slot.duration) table.slots
  pub short_period : table.period ≤ 2 ^ 100
  pub moved : (lane : ℕ) → lane < length (lanes_of table.routes) → moved_over lane table.slots ≡ (lane_at (lanes_of table.routes) lane).count
  pub rate_num : (reduced (table.tasks * t.unit) table.period).num ≤ 2 ^ 127
  pub rate_den : (reduced (table.tasks * t.unit) table.period).den ≤ 2 ^ 127

-- in the slot each link has time for its tasks, and no two links meet at a sender or at a receiver
pub record IsMatching (t : TimedView) (lanes : List LaneAt) (slot : Slot) : Type 0 where
  pub in_time : (link : ℕ) → tasks_over lanes link slot.pieces * cost_of t link ≤ slot.duration
  pub senders : All (λ p. All (λ q. sender_of t (lane_at lanes p.lane).link ≡ sender_of t (lane_at lanes q.lane).link →
      (lane_at lanes q.lane).link ≡ (lane_at lanes p.lane).link) slot.pieces) slot.pieces
  pub receivers : All (λ p. All (λ q. receiver_of t (lane_at lanes p.lane).link ≡ receiver_of t (lane_at lanes q.lane).link →
      (lane_at lanes q.lane).link ≡ (lane_at lanes p.lane).link) slot.pieces) slot.pieces

-- each node has time for its computations
abbrev pub HasTime : TimedView → Series → Table → Type 0
HasTime t Tasking table = (node : ℕ) → tasks_at node table.routes * time_of t node ≤ table.period
HasTime t Scatter table = Unit {0}

-- no port and no processor is needed for longer than it is there
pub record KeepsPorts (t : TimedView) (series : Series) (table : Table) : Type 0 where
  pub slots : All (IsMatching t (lanes_of table.routes)) table.slots
  pub processors : HasTime t series table

-- Which schedules a platform can carry out, and what they complete.
-- Source: Beaumont, Legrand and Robert; the ticks and the form of a list are this project's.
use Rattle.std.specs.Prelude.{◌≡◌, ℕ, ◌+◌, ◌%◌, ◌<◌, ◌≤◌, ◌≢◌, false, ◌&&◌, List, [], ◌∷◌, length, min, None, slice_get, slice_index_or, All, count_by, IsSome, IfSome}
use Rattle.std.specs.List.Sorted.{IsNonDecreasingBy}
use Rattle.platform_file.specs.Platform.{is_master}
use Rattle.platform_file.specs.Ticks.{TimedView}
use Rattle.schedule_model.specs.declared.schedule.Op.{Op}
use Rattle.schedule_model.specs.declared.schedule.Op.TheVariants.{Send, Compute}
use Rattle.schedule_model.specs.declared.schedule.Series.{Series}
use Rattle.schedule_model.specs.declared.schedule.Series.TheVariants.{Tasking, Scatter}
use Rattle.schedule_model.specs.declared.schedule.Schedule.{Schedule}
use Rattle.schedule_model.specs.Operations.{start_of, end_of, sender_of, sends_from, sends_to, computes_at, is_compute, is_of_kind, has_started, has_ended, is_open}

-- the link or the node exists, and the series has such an operation
abbrev pub IsInRange : TimedView → Series → Op → Type 0
IsInRange t Tasking (Send link kind start) = (link < length t.platform.links) × (kind ≡ 0)
IsInRange t Tasking (Compute node start) = IsSome (slice_index_or t.times node None)
IsInRange t Scatter (Send link kind start) = (link < length t.platform.links) × (kind < length t.platform.targets)
IsInRange t Scatter (Compute node start) = ⊥

-- no target sends messages of its own kind
abbrev pub KeepsOwn : TimedView → Series → Op → Type 0
KeepsOwn t Scatter (Send link kind start) = IfSome (slice_get t.platform.targets kind) (λ target. sender_of t link ≢ target)
KeepsOwn t series op = Unit {0}

-- a list of operations that the platform has, by their starts, all over by the end
pub record IsWellFormed (t : TimedView) (series : Series) (s : Schedule) : Type 0 where
  pub some_unit : 0 < s.ticks_per_unit
  pub whole_unit : s.ticks_per_unit % t.unit ≡ 0
  pub in_order : IsNonDecreasingBy start_of s.ops
  pub in_range : All (IsInRange t series) s.ops
  pub in_time : All (λ op. end_of t s.ticks_per_unit op ≤ s.length) s.ops
  pub own_kept : All (KeepsOwn t series) s.ops

-- how many sends from a node are open at a tick
abbrev pub open_sends : TimedView → Schedule → ℕ → ℕ → ℕ
open_sends t s node tick = count_by (λ op. sends_from t node op && is_open t s.ticks_per_unit tick op) s.ops

-- how many sends to a node are open at a tick
abbrev pub open_receives : TimedView → Schedule → ℕ → ℕ → ℕ
open_receives t s node tick = count_by (λ op. sends_to t node op && is_open t s.ticks_per_unit tick op) s.ops

-- how many computations at a node are open at a tick
abbrev pub open_computes : TimedView → Schedule → ℕ → ℕ → ℕ
open_computes t s node tick = count_by (λ op. computes_at node op && is_open t s.ticks_per_unit tick op) s.ops

-- at every tick each node has at most one send, one receive and one computation open
pub record IsOnePort (t : TimedView) (s : Schedule) : Type 0 where
  pub sends : (node tick : ℕ) → open_sends t s node tick ≤ 1
  pub receives : (node tick : ℕ) → open_receives t s node tick ≤ 1
  pub computes : (node tick : ℕ) → open_computes t s node tick ≤ 1

-- how many tasks a node has begun to send or to compute by a tick
abbrev pub started_tasks : TimedView → Schedule → ℕ → ℕ → ℕ
started_tasks t s node tick =
    count_by (λ op. sends_from t node op && has_started tick op) s.ops + count_by (λ op. computes_at node op && has_started tick op) s.ops

-- how many tasks a node has received by a tick
abbrev pub received_tasks : TimedView → Schedule → ℕ → ℕ → ℕ
received_tasks t s node tick = count_by (λ op. sends_to t node op && has_ended t s.ticks_per_unit tick op) s.ops

-- how many messages of a kind a node has begun to send by a tick
abbrev pub started_messages : TimedView → Schedule → ℕ → ℕ → ℕ → ℕ
started_messages t s kind node tick = count_by (λ op. is_of_kind kind op && (sends_from t node op && has_started tick op)) s.ops

-- how many messages of a kind a node has received by a tick
abbrev pub received_messages : TimedView → Schedule → ℕ → ℕ → ℕ → ℕ
received_messages t s kind node tick =
    count_by (λ op. is_of_kind kind op && (sends_to t node op && has_ended t s.ticks_per_unit tick op)) s.ops

-- no node but a master has begun more than it has received, at any tick
abbrev pub IsSupplied : TimedView → Series → Schedule → Type 0
IsSupplied t Tasking s = (node tick : ℕ) → is_master t.platform node ≡ false → started_tasks t s node tick ≤ received_tasks t s node tick
IsSupplied t Scatter s =
    (kind node tick : ℕ) → kind < length t.platform.targets → is_master t.platform node ≡ false →
    started_messages t s kind node tick ≤ received_messages t s kind node tick

-- a schedule that the platform can carry out
pub record IsValid (t : TimedView) (series : Series) (s : Schedule) : Type 0 where
  pub well_formed : IsWellFormed t series s
  pub one_port : IsOnePort t s
  pub supplied : IsSupplied t series s

-- the least of some numbers, and 0 for none
abbrev pub least : List ℕ → ℕ
least [] = 0
least (n ∷ []) = n
least (n ∷ (m ∷ ns)) = min n (least (m ∷ ns))

-- how many messages of its own kind each target gets, for targets with kinds from one on
abbrev pub deliveries_from : TimedView → Schedule → ℕ → List ℕ → List ℕ
deliveries_from t s kind [] = []
deliveries_from t s kind (target ∷ targets) =
    count_by (λ op. is_of_kind kind op && sends_to t target op) s.ops ∷ deliveries_from t s (kind + 1) targets

-- how many tasks are computed, or how many messages every target gets
abbrev pub completed : TimedView → Series → Schedule → ℕ
completed t Tasking s = count_by is_compute s.ops
completed t Scatter s = least (deliveries_from t s 0 t.platform.targets)

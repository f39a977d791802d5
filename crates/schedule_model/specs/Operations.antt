-- The operations of a schedule: how long they last, and which port of which node they use.
-- Source of the one-port model with full overlap: Beaumont, Legrand and Robert; Casanova, Legrand and Robert, "Parallel Algorithms".
use Rattle.std.specs.Prelude.{ℕ, ◌+◌, ◌*◌, ◌/◌, Bool, false, true, ◌&&◌, None, unwrap_or, slice_index, slice_index_or, nat_eq, nat_lt, nat_le}
use Rattle.platform_file.specs.Platform.{LinkView}
use Rattle.platform_file.specs.Ticks.{TimedView}
use Rattle.schedule_model.specs.declared.schedule.Op.{Op}
use Rattle.schedule_model.specs.declared.schedule.Op.TheVariants.{Send, Compute}

-- the tick at which an operation starts
abbrev pub start_of : Op → ℕ
start_of (Send link kind start) = start
start_of (Compute node start) = start

-- the platform's ticks for a task or message over a link
abbrev pub cost_of : TimedView → ℕ → ℕ
cost_of t link = slice_index t.costs link

-- the platform's ticks for a task at a node, 0 where it doesn't compute
abbrev pub time_of : TimedView → ℕ → ℕ
time_of t node = unwrap_or (slice_index_or t.times node None) 0

-- how many ticks an operation lasts where a time unit has u ticks (this project)
abbrev pub duration_of : TimedView → ℕ → Op → ℕ
duration_of t u (Send link kind start) = cost_of t link * (u / t.unit)
duration_of t u (Compute node start) = time_of t node * (u / t.unit)

-- the first tick after an operation
abbrev pub end_of : TimedView → ℕ → Op → ℕ
end_of t u op = start_of op + duration_of t u op

-- what a look-up of a link that doesn't exist gives
abbrev pub no_link : LinkView
no_link = record { from = 0; to = 0; cost = record { num = 0; den = 1 } }

-- the node that a link leaves
abbrev pub sender_of : TimedView → ℕ → ℕ
sender_of t link = (slice_index_or t.platform.links link no_link).from

-- the node that a link enters
abbrev pub receiver_of : TimedView → ℕ → ℕ
receiver_of t link = (slice_index_or t.platform.links link no_link).to

-- the operation uses the node's send port
abbrev pub sends_from : TimedView → ℕ → Op → Bool
sends_from t node (Send link kind start) = nat_eq (sender_of t link) node
sends_from t node (Compute at start) = false

-- the operation uses the node's receive port
abbrev pub sends_to : TimedView → ℕ → Op → Bool
sends_to t node (Send link kind start) = nat_eq (receiver_of t link) node
sends_to t node (Compute at start) = false

-- the operation uses the node's processor
abbrev pub computes_at : ℕ → Op → Bool
computes_at node (Send link kind start) = false
computes_at node (Compute at start) = nat_eq at node

-- the operation computes a task
abbrev pub is_compute : Op → Bool
is_compute (Send link kind start) = false
is_compute (Compute node start) = true

-- the operation moves a message of this kind
abbrev pub is_of_kind : ℕ → Op → Bool
is_of_kind kind (Send link own start) = nat_eq own kind
is_of_kind kind (Compute node start) = false

-- the operation has started by the tick
abbrev pub has_started : ℕ → Op → Bool
has_started tick op = nat_le (start_of op) tick

-- the operation has ended by the tick
abbrev pub has_ended : TimedView → ℕ → ℕ → Op → Bool
has_ended t u tick op = nat_le (end_of t u op) tick

-- the operation is open at the tick: from its start up to, not including, its end
abbrev pub is_open : TimedView → ℕ → ℕ → Op → Bool
is_open t u tick op = nat_le (start_of op) tick && nat_lt tick (end_of t u op)

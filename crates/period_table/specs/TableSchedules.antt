-- The schedule of a table over some periods. Source: this project, after the periodic schedules of Beaumont, Legrand and Robert.
use Rattle.std.specs.Prelude.{ℕ, zero, suc, ◌+◌, ◌*◌, Bool, List, [], ◌∷◌, ◌++◌, length, map, cond, nat_eq, nat_le, sum_by, filter}
use Rattle.std.specs.declared.cmp.Ordering.{Ordering}
use Rattle.std.specs.Ordering.{nat_cmp, is_le}
use Rattle.std.specs.Cmp.Lexicographic.{slice_cmp}
use Rattle.platform_file.specs.Ticks.{TimedView}
use Rattle.schedule_model.specs.Operations.{cost_of, time_of}
use Rattle.schedule_model.specs.declared.schedule.Op.{Op}
use Rattle.schedule_model.specs.declared.schedule.Op.TheVariants.{Send, Compute}
use Rattle.schedule_model.specs.declared.schedule.Series.{Series}
use Rattle.schedule_model.specs.declared.schedule.Series.TheVariants.{Tasking, Scatter}
use Rattle.schedule_model.specs.declared.schedule.Schedule.{Schedule}
use Rattle.period_table.specs.declared.table.Table.{Table}
use Rattle.flow_routes.specs.declared.flow.Route.{Route}
use Rattle.period_table.specs.declared.table.Slot.{Slot}
use Rattle.period_table.specs.declared.table.Piece.{Piece}
use Rattle.period_table.specs.Lanes.{LaneAt, lanes_of, lane_at}

-- an operation, with the lane by which ties are ordered; a computation has lane 0
pub record Placed : Type 0 where
  pub op : Op
  pub lane : ℕ

-- a send over a lane, from a start on
abbrev pub send_over : List LaneAt → ℕ → ℕ → Placed
send_over lanes lane start = record { op = Send (lane_at lanes lane).link (lane_at lanes lane).kind start; lane = lane }

-- a computation at a node, from a start on
abbrev pub compute_at : ℕ → ℕ → Placed
compute_at node start = record { op = Compute node start; lane = 0 }

-- `count` equal operations, one after another
abbrev pub one_after_another : (ℕ → Placed) → ℕ → ℕ → ℕ → List Placed
one_after_another make lasts start zero = []
one_after_another make lasts start (suc count) = make start ∷ one_after_another make lasts (start + lasts) count

-- how many tasks the pieces move over a link
abbrev pub tasks_over : List LaneAt → ℕ → List Piece → ℕ
tasks_over lanes link pieces = sum_by (λ piece. cond (nat_eq (lane_at lanes piece.lane).link link) piece.count 0) pieces

-- the sends of a slot's pieces: the tasks of a link follow each other from the slot's start
abbrev pub sends_of_pieces : TimedView → List LaneAt → ℕ → List Piece → List Piece → List Placed
sends_of_pieces t lanes start before [] = []
sends_of_pieces t lanes start before (piece ∷ pieces) =
    one_after_another (send_over lanes piece.lane) (cost_of t (lane_at lanes piece.lane).link)
    (start + tasks_over lanes (lane_at lanes piece.lane).link before * cost_of t (lane_at lanes piece.lane).link) piece.count
    ++ sends_of_pieces t lanes start (piece ∷ before) pieces

-- the batch that crosses the piece's hop in a period exists
abbrev pub has_batch : List LaneAt → ℕ → Piece → Bool
has_batch lanes period piece = nat_le (lane_at lanes piece.lane).hop period

-- the sends of a period's slots from a start on
abbrev pub sends_of_slots : TimedView → List LaneAt → ℕ → ℕ → List Slot → List Placed
sends_of_slots t lanes period start [] = []
sends_of_slots t lanes period start (slot ∷ slots) =
    sends_of_pieces t lanes start [] (filter (has_batch lanes period) slot.pieces) ++ sends_of_slots t lanes period (start + slot.duration) slots

-- how many tasks the routes bring to an end at a node
abbrev pub tasks_at : ℕ → List Route → ℕ
tasks_at node routes = sum_by (λ route. cond (nat_eq route.end node) route.count 0) routes

-- the computations of some routes: those of a node follow each other from the start
abbrev pub computes_of_routes : TimedView → ℕ → List Route → List Route → List Placed
computes_of_routes t start before [] = []
computes_of_routes t start before (route ∷ routes) =
    one_after_another (compute_at route.end) (time_of t route.end) (start + tasks_at route.end before * time_of t route.end) route.count
    ++ computes_of_routes t start (route ∷ before) routes

-- the batch that has come to the route's end in a period exists
abbrev pub has_arrived : ℕ → Route → Bool
has_arrived period route = nat_le (length route.links) period

-- the computations of a period: a Scatter has none
abbrev pub period_computes : TimedView → Series → Table → ℕ → List Placed
period_computes t Tasking table period = computes_of_routes t (period * table.period) [] (filter (has_arrived period) table.routes)
period_computes t Scatter table period = []

-- the operations of a period
abbrev pub period_ops : TimedView → Series → Table → ℕ → List Placed
period_ops t series table period =
    sends_of_slots t (lanes_of table.routes) period (period * table.period) table.slots ++ period_computes t series table period

-- the operations of the first periods, period by period
abbrev pub ops_below : TimedView → Series → Table → ℕ → List Placed
ops_below t series table zero = []
ops_below t series table (suc n) = ops_below t series table n ++ period_ops t series table n

-- what decides the place in the list: the start, sends before computations, the link or node, the lane; the kind never decides
abbrev pub key_of_op : Op → ℕ → List ℕ
key_of_op (Send link kind start) lane = start ∷ (0 ∷ (link ∷ (lane ∷ (kind ∷ []))))
key_of_op (Compute node start) lane = start ∷ (1 ∷ (node ∷ (lane ∷ (0 ∷ []))))

-- the same of an operation with its lane
abbrev pub key_of : Placed → List ℕ
key_of p = key_of_op p.op p.lane

-- the first number that differs decides
abbrev pub order_of : Placed → Placed → Ordering
order_of p q = slice_cmp nat_cmp (key_of p) (key_of q)

-- an operation put into its place in an ordered list
abbrev pub put_in_order : Placed → List Placed → List Placed
put_in_order p [] = p ∷ []
put_in_order p (q ∷ qs) = cond (is_le (order_of p q)) (p ∷ (q ∷ qs)) (q ∷ put_in_order p qs)

-- a list put into order, by insertion
abbrev pub in_order : List Placed → List Placed
in_order [] = []
in_order (p ∷ ps) = put_in_order p (in_order ps)

-- the schedule of n periods
abbrev pub table_schedule : TimedView → Series → Table → ℕ → Schedule
table_schedule t series table n = record {
  ticks_per_unit = t.unit;
  length = n * table.period;
  ops = map (λ p. p.op) (in_order (ops_below t series table n));
}

-- The lanes, the actors and their programs, for a table and a number of chunks.
use Rattle.std.specs.Prelude.{ℕ, zero, suc, ◌+◌, ◌*◌, Bool, List, [], ◌∷◌, ◌++◌, length, map, filter, max, min, cond, nat_eq, Option, Some, None}
use Rattle.std.specs.List.{list_any, range_with_len}
use Rattle.platform_file.specs.Ticks.{TimedView}
use Rattle.schedule_model.specs.Operations.{sender_of, receiver_of}
use Rattle.flow_routes.specs.declared.flow.Route.{Route}
use Rattle.period_table.specs.declared.table.Table.{Table}
use Rattle.period_table.specs.declared.table.Slot.{Slot}
use Rattle.period_table.specs.declared.table.Piece.{Piece}
use Rattle.period_table.specs.Lanes.{lanes_of, lane_at}
use Rattle.period_table.specs.Tables.{moved_over}
use Rattle.step_core.specs.declared.wiring.Event.{Event}
use Rattle.step_core.specs.declared.wiring.Lane.{Lane}
use Rattle.step_core.specs.Wirings.{WiringView}
use Rattle.actor_programs.specs.Tasks.{batches_of, count_of, route_tasks, route_of, offset_at}
use Rattle.actor_programs.specs.declared.actor.Actor.{Actor}
use Rattle.actor_programs.specs.declared.actor.Actor.TheVariants.{Sender, Consumer}
use Rattle.actor_programs.specs.declared.run.Run.{Run}
use Rattle.actor_programs.specs.Runs.{period_events, numbers_below, events_below}

-- the lane before a lane of this hop
abbrev pub lane_before : ℕ → ℕ → Option ℕ
lane_before zero lane = None
lane_before (suc hop) zero = None
lane_before (suc hop) (suc lane) = Some lane

-- the run of a piece, where some slots are before it
abbrev pub run_of : List Route → List Slot → Piece → Run
run_of routes before piece = record {
  take = lane_before (lane_at (lanes_of routes) piece.lane).hop piece.lane;
  lane = Some piece.lane;
  hop = (lane_at (lanes_of routes) piece.lane).hop;
  offset = offset_at routes piece.lane + moved_over piece.lane before;
  count = piece.count;
}

-- the piece is of a lane of the link
abbrev pub is_over : List Route → ℕ → Piece → Bool
is_over routes link piece = nat_eq (lane_at (lanes_of routes) piece.lane).link link

-- what a link's sender does in a period, slot by slot and piece by piece
abbrev pub sends_of : List Route → ℕ → List Slot → List Slot → List Run
sends_of routes link before [] = []
sends_of routes link before (slot ∷ slots) = map (run_of routes before) (filter (is_over routes link) slot.pieces) ++ sends_of routes link (slot ∷ before) slots

-- what is computed of a route at its end, where so many lanes and tasks come before the route
abbrev pub end_run : Route → ℕ → ℕ → Run
end_run route lanes offset = record {
  take = lane_before (length route.links) (lanes + length route.links);
  lane = None;
  hop = length route.links;
  offset = offset;
  count = route.count;
}

-- what is computed at a node in a period, route by route, where so many lanes and tasks come before
abbrev pub computes_of : ℕ → ℕ → ℕ → List Route → List Run
computes_of node lanes offset [] = []
computes_of node lanes offset (route ∷ routes) =
    cond (nat_eq route.end node) (end_run route lanes offset ∷ []) [] ++ computes_of node (lanes + length route.links) (offset + route.count) routes

-- what an actor does in each period
abbrev pub runs_of : Table → Actor → List Run
runs_of table (Sender link) = sends_of table.routes link [] table.slots
runs_of table (Consumer node) = computes_of node 0 0 table.routes

-- a lane goes over the link
abbrev pub is_used : List Route → ℕ → Bool
is_used routes link = list_any (λ lane. nat_eq lane.link link) (lanes_of routes)

-- a route ends at the node
abbrev pub is_end : List Route → ℕ → Bool
is_end routes node = list_any (λ route. nat_eq route.end node) routes

-- a sender for each link with a lane, then a consumer for each node at which a route ends
abbrev pub actors_of : TimedView → Table → List Actor
actors_of t table =
    map Sender (filter (is_used table.routes) (range_with_len 0 (length t.platform.links)))
    ++ map Consumer (filter (is_end table.routes) (range_with_len 0 (length t.platform.nodes)))

-- how many periods a run has
abbrev pub run_periods : Table → ℕ → ℕ
run_periods table chunks = cond (nat_eq chunks 0) 0 (batches_of table.tasks chunks + table.depth)

-- an actor's program, and the periods of its events
abbrev pub program_from : Table → ℕ → ℕ → Actor → List Event
program_from table chunks number actor = events_below table.tasks chunks number (runs_of table actor) (run_periods table chunks)

abbrev pub periods_from : Table → ℕ → ℕ → Actor → List ℕ
periods_from table chunks number actor = numbers_below (period_events table.tasks chunks number (runs_of table actor)) (run_periods table chunks)

-- the same of each actor, numbered from one on
abbrev pub each_numbered : {X : Type 0} → (ℕ → Actor → X) → ℕ → List Actor → List X
each_numbered make number [] = []
each_numbered make number (actor ∷ actors) = make number actor ∷ each_numbered make (number + 1) actors

-- a lane has room for two batches, but not for more tasks than its route has, and for one at least
abbrev pub capacity_of : Table → ℕ → ℕ → ℕ
capacity_of table chunks lane =
    let route = route_of table.routes lane in
    max 1 (min (2 * count_of table.routes route) (length (route_tasks table chunks route)))

-- a lane joins the ends of its link
abbrev pub lane_of : TimedView → Table → ℕ → ℕ → Lane
lane_of t table chunks lane = record {
  sender = sender_of t (lane_at (lanes_of table.routes) lane).link;
  receiver = receiver_of t (lane_at (lanes_of table.routes) lane).link;
  capacity = capacity_of table chunks lane;
}

-- the wiring
abbrev pub wiring_of : TimedView → Table → ℕ → WiringView
wiring_of t table chunks = record {
  nodes = length t.platform.nodes;
  lanes = map (lane_of t table chunks) (range_with_len 0 (length (lanes_of table.routes)));
  programs = each_numbered (program_from table chunks) 0 (actors_of t table);
}

-- the periods of all events
abbrev pub periods_of : TimedView → Table → ℕ → List (List ℕ)
periods_of t table chunks = each_numbered (periods_from table chunks) 0 (actors_of t table)

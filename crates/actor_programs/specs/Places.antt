-- What is looked up of each lane.
use Rattle.std.specs.Prelude.{ℕ, ◌+◌, ◌*◌, length, max, min, Bool, List, [], ◌∷◌, ◌++◌, cond, sum_by, nat_eq, slice_index_or, Some}
use Rattle.flow_routes.specs.declared.flow.Route.{Route}
use Rattle.period_table.specs.declared.table.Piece.{Piece}
use Rattle.actor_programs.specs.declared.places.Place.{Place}
use Rattle.actor_programs.specs.declared.run.Run.{Run}
use Rattle.platform_file.specs.Ticks.{TimedView}
use Rattle.schedule_model.specs.Operations.{sender_of, receiver_of}
use Rattle.step_core.specs.declared.wiring.Lane.{Lane}
use Rattle.actor_programs.specs.Tasks.{all_tasks}
use Rattle.actor_programs.specs.Programs.{lane_before}

-- the places of a route's lanes from a hop on
abbrev pub places_from : ℕ → ℕ → ℕ → List ℕ → List Place
places_from offset count hop [] = []
places_from offset count hop (link ∷ links) = record { link = link; hop = hop; offset = offset; count = count } ∷ places_from offset count (hop + 1) links

-- those of all lanes
abbrev pub places_of : ℕ → List Route → List Place
places_of offset [] = []
places_of offset (route ∷ routes) = places_from offset route.count 0 route.links ++ places_of (offset + route.count) routes

abbrev pub place_at : List Place → ℕ → Place
place_at places lane = slice_index_or places lane (record { link = 0; hop = 0; offset = 0; count = 0 })

-- the run of a piece, where each lane has moved some tasks before
abbrev pub run_with : List Place → List ℕ → Piece → Run
run_with places moved piece = record {
  take = lane_before (place_at places piece.lane).hop piece.lane;
  lane = Some piece.lane;
  hop = (place_at places piece.lane).hop;
  offset = (place_at places piece.lane).offset + slice_index_or moved piece.lane 0;
  count = piece.count;
}

-- the piece goes over the link
abbrev pub goes_over : List Place → ℕ → Piece → Bool
goes_over places link piece = nat_eq (place_at places piece.lane).link link

-- the lane at a place
abbrev pub lane_with : TimedView → ℕ → ℕ → Place → Lane
lane_with t tasks chunks place = record {
  sender = sender_of t place.link;
  receiver = receiver_of t place.link;
  capacity = max 1 (min (2 * place.count) (length (all_tasks tasks chunks place.offset place.count)));
}

-- how many tasks some pieces move over a lane
abbrev pub moved_in : ℕ → List Piece → ℕ
moved_in lane pieces = sum_by (λ piece. cond (nat_eq piece.lane lane) piece.count 0) pieces

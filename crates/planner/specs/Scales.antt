-- A table's numbers, scaled up and divided by their common factor.
use Rattle.std.specs.Prelude.{ℕ, ◌*◌, ◌/◌, List, [], ◌∷◌, ◌++◌, map, flat_map}
use Rattle.ratio_core.specs.Fraction.{gcd_of}
use Rattle.platform_file.specs.Ticks.{TimedView}
use Rattle.schedule_model.specs.Operations.{cost_of}
use Rattle.flow_routes.specs.declared.flow.Route.{Route}
use Rattle.bipartite_slots.specs.declared.weights.SlotPart.{SlotPart}

-- the greatest common divisor of a number and of those that follow
abbrev pub factor_with : ℕ → List ℕ → ℕ
factor_with common [] = common
factor_with common (number ∷ numbers) = factor_with (gcd_of common number) numbers

-- a part's duration and how many tasks each of its links has time for, where it is so many times as long
abbrev pub part_numbers : TimedView → ℕ → SlotPart → List ℕ
part_numbers t times part = part.duration * times ∷ map (λ link. part.duration * times / cost_of t link) part.edges

-- the greatest number that divides a period, the counts of its routes and the numbers of its parts, where all are so many times as much
abbrev pub common_factor : TimedView → ℕ → ℕ → List Route → List SlotPart → ℕ
common_factor t times ticks routes parts =
    factor_with (ticks * times) (map (λ route. route.count * times) routes ++ flat_map (part_numbers t times) parts)

-- a route whose count is so many times as much, divided by a number
abbrev pub scaled_route : ℕ → ℕ → Route → Route
scaled_route times divisor route = record { links = route.links; end = route.end; count = route.count * times / divisor; kind = route.kind }

-- a part that is so many times as long, divided by a number
abbrev pub scaled_part : ℕ → ℕ → SlotPart → SlotPart
scaled_part times divisor part = record { duration = part.duration * times / divisor; edges = part.edges }

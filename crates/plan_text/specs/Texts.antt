-- The text of a plan (this project).
use Rattle.std.specs.Prelude.{ℕ, ◌+◌, ◌*◌, List, [], ◌∷◌, ◌++◌, None, slice_index_or, codes, decimal}
use Rattle.ratio_core.specs.Fraction.{Fraction, reduced}
use Rattle.platform_file.specs.Platform.{NodeView}
use Rattle.platform_file.specs.Ticks.{TimedView}
use Rattle.schedule_model.specs.declared.schedule.Series.{Series}
use Rattle.schedule_model.specs.Texts.{series_text}
use Rattle.text_lines.specs.Lines.{line}
use Rattle.period_table.specs.declared.table.Table.{Table}
use Rattle.flow_routes.specs.declared.flow.Route.{Route}
use Rattle.period_table.specs.declared.table.Slot.{Slot}
use Rattle.period_table.specs.declared.table.Piece.{Piece}
use Rattle.period_table.specs.Tables.{nodes_on}

-- a fraction's parts round a slash
abbrev pub ratio_text : Fraction → List ℕ
ratio_text f = decimal f.num ++ (codes "/" ++ decimal f.den)

-- what a look-up of a node that doesn't exist gives
abbrev pub no_node : NodeView
no_node = record { name = []; time = None }

-- a node's name
abbrev pub name_of : TimedView → ℕ → List ℕ
name_of t node = (slice_index_or t.platform.nodes node no_node).name

-- the names of some nodes, each after a space
abbrev pub names_text : TimedView → List ℕ → List ℕ
names_text t [] = []
names_text t (node ∷ nodes) = codes " " ++ (name_of t node ++ names_text t nodes)

-- a route's number, its count and its nodes from the master to the end
abbrev pub route_line : TimedView → ℕ → Route → List ℕ
route_line t number route = codes "route " ++ (decimal number ++ (codes " " ++ (decimal route.count ++ names_text t (nodes_on t route.links route.end))))

-- the line of a route
abbrev pub route_text : TimedView → ℕ → Route → List ℕ
route_text t number route = line (route_line t number route)

-- the lines of some routes, numbered from one on
abbrev pub routes_text : TimedView → ℕ → List Route → List ℕ
routes_text t number [] = []
routes_text t number (route ∷ routes) = route_text t number route ++ routes_text t (number + 1) routes

-- a piece's lane and its count
abbrev pub piece_text : Piece → List ℕ
piece_text piece = decimal piece.lane ++ (codes ":" ++ decimal piece.count)

-- some pieces, each after a space
abbrev pub pieces_text : List Piece → List ℕ
pieces_text [] = []
pieces_text (piece ∷ pieces) = codes " " ++ (piece_text piece ++ pieces_text pieces)

-- a slot's duration and its pieces
abbrev pub slot_line : Slot → List ℕ
slot_line slot = codes "slot " ++ (decimal slot.duration ++ pieces_text slot.pieces)

-- the line of a slot
abbrev pub slot_text : Slot → List ℕ
slot_text slot = line (slot_line slot)

-- the lines of some slots
abbrev pub slots_text : List Slot → List ℕ
slots_text [] = []
slots_text (slot ∷ slots) = slot_text slot ++ slots_text slots

-- the line that names the series
abbrev pub header_text : Series → List ℕ
header_text series = codes "plan 1 " ++ series_text series

-- the numbers of a table: its unit, its period, its tasks, its depth and its rate in time units
abbrev pub numbers_text : TimedView → Table → List ℕ
numbers_text t table =
    line (codes "unit " ++ decimal t.unit)
    ++ (line (codes "period " ++ decimal table.period)
    ++ (line (codes "tasks " ++ decimal table.tasks)
    ++ (line (codes "depth " ++ decimal table.depth)
    ++ line (codes "rate " ++ ratio_text (reduced (table.tasks * t.unit) table.period)))))

-- the table and its rate in time units
abbrev pub plan_text : TimedView → Series → Table → List ℕ
plan_text t series table =
    line (header_text series)
    ++ (line (codes "unit " ++ decimal t.unit)
    ++ (line (codes "period " ++ decimal table.period)
    ++ (line (codes "tasks " ++ decimal table.tasks)
    ++ (line (codes "depth " ++ decimal table.depth)
    ++ (line (codes "rate " ++ ratio_text (reduced (table.tasks * t.unit) table.period))
    ++ (routes_text t 0 table.routes
    ++ (slots_text table.slots
    ++ line (codes "end"))))))))

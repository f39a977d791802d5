-- How a plan's text is read, in two passes: each line by itself, in order, and then the numbers of the table against each other (this project).
use Rattle.std.specs.Prelude.{◌≡◌, ⊤, ℕ, zero, suc, ◌+◌, ◌-◌, ◌*◌, ◌^◌, ◌<◌, ◌≤◌, ◌≢◌, ◌⊎◌, List, [], ◌∷◌, ◌++◌, length, All, Some, codes, decimal, sum_by}
use Rattle.ratio_core.specs.Fraction.{Fraction, IsReduced, reduced}
use Rattle.platform_file.specs.Ticks.{TimedView}
use Rattle.schedule_model.specs.declared.schedule.Series.{Series}
use Rattle.schedule_model.specs.declared.schedule.Series.TheVariants.{Tasking, Scatter}
use Rattle.text_lines.specs.Lines.{first_line}
use Rattle.flow_routes.specs.declared.flow.Route.{Route}
use Rattle.period_table.specs.declared.table.Table.{Table}
use Rattle.period_table.specs.declared.table.Slot.{Slot}
use Rattle.period_table.specs.declared.table.Piece.{Piece}
use Rattle.period_table.specs.Lanes.{LaneAt, lanes_of, lane_at}
use Rattle.period_table.specs.Tables.{IsRoute, IsSlot, HasTasks, Fits, longest, moved_over}
use Rattle.plan_text.specs.declared.fault.PlanTextFault.{PlanTextFault}
use Rattle.plan_text.specs.declared.fault.PlanTextFault.TheVariants.{Line, NoMemory}
use Rattle.plan_text.specs.Walks.{IsNamed}
use Rattle.plan_text.specs.Texts.{header_text, route_line, slot_line, plan_text}

-- the next line means a value
pub record IsNext {A : Type 0} (means : List ℕ → A → Type 0) (bytes : List ℕ) (value : A) (left : List ℕ) : Type 0 where
  pub text : List ℕ
  pub split : first_line bytes ≡ Some (text, left)
  pub meaning : means text value

-- there is no next line, or it means nothing of the kind
abbrev pub HasNoNext : {A : Type 0} → (List ℕ → A → Type 0) → List ℕ → Type 0
HasNoNext {A} means bytes = (value : A) (left : List ℕ) → IsNext means bytes value left → ⊥

-- the header of a series; messages need a target
abbrev pub IsHeaderLine : TimedView → List ℕ → Series → Type 0
IsHeaderLine t text Tasking = text ≡ header_text Tasking
IsHeaderLine t text Scatter = (text ≡ header_text Scatter) × (0 < length t.platform.targets)

-- a word and a number up to 2^107
pub record IsNumberLine (word text : List ℕ) (number : ℕ) : Type 0 where
  pub is_line : text ≡ word ++ decimal number
  pub bounded : number ≤ 2 ^ 107

-- the platform's unit
abbrev pub IsUnitLine : TimedView → List ℕ → ℕ → Type 0
IsUnitLine t text unit = (unit ≡ t.unit) × IsNumberLine (codes "unit ") text unit

-- two numbers within bounds round a byte
pub record ArePair (by most_first most_second : ℕ) (text : List ℕ) (first second : ℕ) : Type 0 where
  pub is_text : text ≡ decimal first ++ by ∷ decimal second
  pub first_bounded : first ≤ most_first
  pub second_bounded : second ≤ most_second

-- a rate in lowest terms
pub record IsRateLine (text : List ℕ) (rate : Fraction) : Type 0 where
  pub part : List ℕ
  pub is_line : text ≡ codes "rate " ++ part
  pub numbers : ArePair 47 (2 ^ 127) (2 ^ 127) part rate.num rate.den
  pub lowest : IsReduced rate

-- a line's first words are this one and a number, and others follow
pub record IsNumbered (word : List ℕ) (words : List (List ℕ)) (number : ℕ) (others : List (List ℕ)) : Type 0 where
  pub are_words : words ≡ word ∷ (decimal number ∷ others)
  pub bounded : number ≤ 2 ^ 107

-- a route's line before its second node: its number, its count and its start
pub record IsRouteHead (t : TimedView) (number : ℕ) (words : List (List ℕ)) (count start : ℕ) (others : List (List ℕ)) : Type 0 where
  pub name : List ℕ
  pub are_words : words ≡ codes "route" ∷ (decimal number ∷ (decimal count ∷ (name ∷ others)))
  pub bounded : count ≤ 2 ^ 100
  pub named : IsNamed t name start

-- the route of a number
pub record IsRouteLine (t : TimedView) (series : Series) (number : ℕ) (text : List ℕ) (route : Route) : Type 0 where
  pub is_line : text ≡ route_line t number route
  pub is_route : IsRoute t series route

-- lanes have numbers of 32 bits
abbrev pub HasLanes32 : Slot → Type 0
HasLanes32 slot = All (λ piece. piece.lane < 2 ^ 32) slot.pieces

-- the word of a piece
abbrev pub IsPieceWord : List ℕ → Piece → Type 0
IsPieceWord word piece = ArePair 58 (2 ^ 32 - 1) (2 ^ 100) word piece.lane piece.count

-- the words of some pieces
abbrev pub ArePieceWords : List (List ℕ) → List Piece → Type 0
ArePieceWords [] [] = Unit {0}
ArePieceWords [] (piece ∷ pieces) = ⊥
ArePieceWords (word ∷ words) [] = ⊥
ArePieceWords (word ∷ words) (piece ∷ pieces) = IsPieceWord word piece × ArePieceWords words pieces

-- a slot over these lanes
pub record IsSlotLine (lanes : List LaneAt) (text : List ℕ) (slot : Slot) : Type 0 where
  pub is_line : text ≡ slot_line slot
  pub is_slot : IsSlot lanes slot
  pub short : slot.duration ≤ 2 ^ 100
  pub lanes32 : HasLanes32 slot

-- the end
abbrev pub IsEndLine : List ℕ → Unit {0} → Type 0
IsEndLine text nothing = text ≡ codes "end"

-- behind the slots, reading stops at the line of the end, since there is no slot or another line stands there, or at the one behind it
abbrev pub IsFaultBehind : List Slot → ℕ → List ℕ → ℕ → Type 0
IsFaultBehind slots end bytes number =
    ((number ≡ end) × (slots ≢ [] → HasNoNext IsEndLine bytes))
    ⊎ ((number ≡ end + 1) × (slots ≢ []) × ((left : List ℕ) × IsNext IsEndLine bytes tt left × (left ≢ [])))

-- what the lines before the routes say
pub record HeadView : Type 0 where
  pub series : Series
  pub period : ℕ
  pub tasks : ℕ
  pub depth : ℕ
  pub rate : Fraction

-- how far the first pass has come: which line comes next, with what was read
pub data Place : Type 0 where
  at_header : Place
  at_unit : Series → Place
  at_period : Series → Place
  at_tasks : Series → ℕ → Place
  at_depth : Series → ℕ → ℕ → Place
  at_rate : Series → ℕ → ℕ → ℕ → Place
  at_row : HeadView → List Route → List Slot → Place
  behind_end : HeadView → List Route → List Slot → Place

-- a line that has the form of its place leads to the next; no route comes behind a slot, and fewer than 2^32 slots come, but one does
abbrev pub LeadsTo : TimedView → Place → List ℕ → Place → Type 0
LeadsTo t at_header text next = (series : Series) × IsHeaderLine t text series × (next ≡ at_unit series)
LeadsTo t (at_unit series) text next = (unit : ℕ) × IsUnitLine t text unit × (next ≡ at_period series)
LeadsTo t (at_period series) text next = (period : ℕ) × IsNumberLine (codes "period ") text period × (next ≡ at_tasks series period)
LeadsTo t (at_tasks series period) text next = (tasks : ℕ) × IsNumberLine (codes "tasks ") text tasks × (next ≡ at_depth series period tasks)
LeadsTo t (at_depth series period tasks) text next = (depth : ℕ) × IsNumberLine (codes "depth ") text depth × (next ≡ at_rate series period tasks depth)
LeadsTo t (at_rate series period tasks depth) text next =
    (rate : Fraction) × IsRateLine text rate × (next ≡ at_row (record { series = series; period = period; tasks = tasks; depth = depth; rate = rate }) [] [])
LeadsTo t (at_row head routes slots) text next =
    ((slots ≡ []) × ((route : Route) × IsRouteLine t head.series (length routes) text route × (next ≡ at_row head (routes ++ route ∷ []) [])))
    ⊎ (((suc (length slots) < 2 ^ 32) × ((slot : Slot) × IsSlotLine (lanes_of routes) text slot × (next ≡ at_row head routes (slots ++ slot ∷ []))))
    ⊎ ((slots ≢ []) × IsEndLine text tt × (next ≡ behind_end head routes slots)))
LeadsTo t (behind_end head routes slots) text next = ⊥

-- the next line leads from a place to another, and leaves some bytes
pub record IsStep (t : TimedView) (place : Place) (bytes : List ℕ) (next : Place) (left : List ℕ) : Type 0 where
  pub text : List ℕ
  pub split : first_line bytes ≡ Some (text, left)
  pub leads : LeadsTo t place text next

-- the next line has not the form of its place, or there is none
abbrev pub IsStuck : TimedView → Place → List ℕ → Type 0
IsStuck t place bytes = (next : Place) (left : List ℕ) → IsStep t place bytes next left → ⊥

-- some steps, and one more
pub record IsOneMore (before : Place → List ℕ → Type 0) (t : TimedView) (place : Place) (left : List ℕ) : Type 0 where
  pub last : Place
  pub rest : List ℕ
  pub read : before last rest
  pub step : IsStep t last rest place left

-- so many lines lead from one place to another, and leave these bytes
abbrev pub AreRead : ℕ → TimedView → Place → List ℕ → Place → List ℕ → Type 0
AreRead zero t from bytes place left = (place ≡ from) × (left ≡ bytes)
AreRead (suc lines) t from bytes place left = IsOneMore (AreRead lines t from bytes) t place left

-- the text ends with its end
abbrev pub IsOver : Place → List ℕ → Type 0
IsOver (behind_end head routes slots) left = left ≡ []
IsOver place left = ⊥

-- the line at which the first pass stops: it has not the form of its place, is missing, or stands behind the end
pub record IsFirstFault (t : TimedView) (bytes : List ℕ) (number : ℕ) : Type 0 where
  pub lines : ℕ
  pub place : Place
  pub left : List ℕ
  pub read : AreRead lines t at_header bytes place left
  pub stuck : IsStuck t place left
  pub not_over : IsOver place left → ⊥
  pub is : number ≡ suc lines

-- what the first pass reads of a text that it goes through
pub record IsReadThrough (t : TimedView) (bytes : List ℕ) (head : HeadView) (routes : List Route) (slots : List Slot) : Type 0 where
  pub lines : ℕ
  pub read : AreRead lines t at_header bytes (behind_end head routes slots) []

-- the table of what was read
abbrev pub table_of : HeadView → List Route → List Slot → Table
table_of head routes slots = record { period = head.period; tasks = head.tasks; depth = head.depth; routes = routes; slots = slots }

-- the period is the sum of the durations
abbrev pub PeriodAgrees : Table → Type 0
PeriodAgrees table = (table.period ≡ sum_by (λ slot. slot.duration) table.slots) × (table.period ≤ 2 ^ 100)

-- the pieces of each lane sum to its route's count
abbrev pub LanesAgree : Table → Type 0
LanesAgree table = (lane : ℕ) → lane < length (lanes_of table.routes) → moved_over lane table.slots ≡ (lane_at (lanes_of table.routes) lane).count

-- the rate is that of the tasks and the period
abbrev pub RateAgrees : TimedView → Fraction → Table → Type 0
RateAgrees t rate table = rate ≡ reduced (table.tasks * t.unit) table.period

-- the line of the first of the comparisons that fails
abbrev pub IsDisagreement : TimedView → HeadView → Table → ℕ → Type 0
IsDisagreement t head table number =
    ((number ≡ 3) × (PeriodAgrees table → ⊥))
    ⊎ (PeriodAgrees table × (((number ≡ 4) × (HasTasks t head.series table → ⊥))
    ⊎ (HasTasks t head.series table × (((number ≡ 5) × (head.depth ≢ longest table.routes))
    ⊎ ((head.depth ≡ longest table.routes) × (((number ≡ 6) × (RateAgrees t head.rate table → ⊥))
    ⊎ (RateAgrees t head.rate table × (number ≡ 7 + length table.routes + length table.slots) × (LanesAgree table → ⊥))))))))

-- none of the comparisons fails
pub record Agrees (t : TimedView) (head : HeadView) (table : Table) : Type 0 where
  pub period : PeriodAgrees table
  pub tasks : HasTasks t head.series table
  pub depth : head.depth ≡ longest table.routes
  pub rate : RateAgrees t head.rate table
  pub lanes : LanesAgree table

-- the line at which the second pass stops
pub record IsSecondFault (t : TimedView) (bytes : List ℕ) (number : ℕ) : Type 0 where
  pub head : HeadView
  pub routes : List Route
  pub slots : List Slot
  pub through : IsReadThrough t bytes head routes slots
  pub disagrees : IsDisagreement t head (table_of head routes slots) number

-- the first line at which reading stops
abbrev pub IsFaultAt : TimedView → List ℕ → ℕ → Type 0
IsFaultAt t bytes number = IsFirstFault t bytes number ⊎ IsSecondFault t bytes number

-- why a text is no plan; memory may run out at any time
abbrev pub IsPlanTextFault : TimedView → List ℕ → PlanTextFault → Type 0
IsPlanTextFault t bytes (Line number) = IsFaultAt t bytes number
IsPlanTextFault t bytes NoMemory = ⊤

-- the text is that of a table which fits and whose lanes have numbers of 32 bits
pub record IsPlanOf (t : TimedView) (bytes : List ℕ) (series : Series) (table : Table) : Type 0 where
  pub fits : Fits t series table
  pub lanes32 : All HasLanes32 table.slots
  pub is_text : bytes ≡ plan_text t series table

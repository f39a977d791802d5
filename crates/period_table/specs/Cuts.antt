-- How a period's tasks are cut into the pieces of its slots (this project).
use Rattle.std.specs.Prelude.{◌≡◌, ℕ, ◌+◌, ◌-◌, ◌/◌, ◌^◌, ◌<◌, ◌≤◌, All, List, [], ◌∷◌, ◌++◌, length, min, max, cond, nat_eq, sum_by}
use Rattle.bipartite_slots.specs.Parts.{is_in}
use Rattle.bipartite_slots.specs.declared.weights.SlotPart.{SlotPart}
use Rattle.platform_file.specs.Ticks.{TimedView}
use Rattle.schedule_model.specs.Operations.{cost_of, sender_of, receiver_of}
use Rattle.period_table.specs.declared.table.Slot.{Slot}
use Rattle.period_table.specs.declared.table.Piece.{Piece}
use Rattle.period_table.specs.Lanes.{LaneAt}

-- a part of some ticks, of links that exist, in which no two meet at a sender or at a receiver
pub record IsSeparate (t : TimedView) (part : SlotPart) : Type 0 where
  pub some : 1 ≤ part.duration
  pub short : part.duration ≤ 2 ^ 100
  pub exist : All (λ link. link < length t.platform.links) part.edges
  pub senders : All (λ link. All (λ other. sender_of t link ≡ sender_of t other → other ≡ link) part.edges) part.edges
  pub receivers : All (λ link. All (λ other. receiver_of t link ≡ receiver_of t other → other ≡ link) part.edges) part.edges

-- how many tasks a link has time for in the part
abbrev pub room_in : TimedView → SlotPart → ℕ → ℕ
room_in t part link = cond (is_in link part) (part.duration / cost_of t link) 0

-- how many it has time for in all parts
abbrev pub room_of : TimedView → ℕ → List SlotPart → ℕ
room_of t link parts = sum_by (λ part. room_in t part link) parts

-- how many tasks the lanes of a link carry in each period
abbrev pub carried_on : ℕ → List LaneAt → ℕ
carried_on link lanes = sum_by (λ lane. cond (nat_eq lane.link link) lane.count 0) lanes

-- how many numbers two ranges share, each given by its first number and its size
abbrev pub overlap : ℕ → ℕ → ℕ → ℕ → ℕ
overlap from count first size = min (from + count) (first + size) - max from first

-- a piece, where there is something in it
abbrev pub piece_of : ℕ → ℕ → List Piece
piece_of lane count = cond (nat_eq count 0) [] (record { lane = lane; count = count } ∷ [])

-- the pieces of a slot: of each link's tasks, in lane order, those from `first` on that the slot has room for
abbrev pub pieces_from : (ℕ → ℕ) → (ℕ → ℕ) → ℕ → List LaneAt → List LaneAt → List Piece
pieces_from first size number before [] = []
pieces_from first size number before (lane ∷ lanes) =
    piece_of number (overlap (carried_on lane.link before) lane.count (first lane.link) (size lane.link))
    ++ pieces_from first size (number + 1) (lane ∷ before) lanes

-- the slots of some parts, where each link has moved some tasks before
abbrev pub slots_from : TimedView → List LaneAt → (ℕ → ℕ) → List SlotPart → List Slot
slots_from t lanes moved [] = []
slots_from t lanes moved (part ∷ parts) =
    record { duration = part.duration; pieces = pieces_from moved (room_in t part) 0 [] lanes }
    ∷ slots_from t lanes (λ link. moved link + room_in t part link) parts

-- the slots into which parts cut a period of some lanes
abbrev pub cut_slots : TimedView → List LaneAt → List SlotPart → List Slot
cut_slots t lanes parts = slots_from t lanes (λ link. 0) parts

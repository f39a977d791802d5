-- The slots that a period is cut into are slots of the table, and keep the ports.
use Rattle.std.proofs.Common.{◌≡◌, ℕ, zero, suc, ◌+◌, ◌*◌, ◌/◌, ◌<◌, ◌≤◌, Bool, true, false, cond, nat_eq, List, [], ◌∷◌, ◌++◌, map, length, slice_index, refl, ap, arith, inl, inr, All, sum_by}
use Rattle.std.specs.List.Sorted.{IsStrictlyIncreasing}
use Rattle.std.proofs.lemmas.Bool.Decides.{nat_tests}
use Rattle.std.proofs.lemmas.List.Sums.{sum_by-cons}
use Rattle.std.proofs.lemmas.List.Elements.{All-head, All-tail, All-cons, All-nil, All-append, All-weaker}
use Rattle.std.specs.List.{Contains}
use Rattle.std.proofs.lemmas.List.Elements.{All-contains, All-map}
use Rattle.std.proofs.lemmas.Map.Views.{Contains-from_any}
use Rattle.std.proofs.Math.Nat.{div-mul-le_self, div-le_self, mul-le-mul_right}
use Rattle.platform_file.specs.Ticks.{TimedView}
use Rattle.schedule_model.specs.Operations.{cost_of, sender_of, receiver_of}
use Rattle.period_table.specs.declared.table.Slot.{Slot}
use Rattle.period_table.specs.declared.table.Piece.{Piece}
use Rattle.period_table.specs.Lanes.{LaneAt, lane_at}
use Rattle.period_table.specs.Tables.{IsPiece, IsSlot, IsMatching}
use Rattle.bipartite_slots.specs.declared.weights.SlotPart.{SlotPart}
use Rattle.bipartite_slots.specs.Parts.{is_in}
use Rattle.period_table.specs.Cuts.{IsSeparate, room_in, carried_on, overlap, piece_of, pieces_from, slots_from}
use Rattle.period_table.proofs.Chains.{true_or_false}
use Rattle.period_table.proofs.Overlaps.{overlap_fits, moves_what_fits}

-- a piece of a lane from a number on, whose link has room in the slot
record HasRoom (size : ℕ → ℕ) (all : List LaneAt) (number : ℕ) (piece : Piece) : Type 0 where
  from : number ≤ piece.lane
  exists : piece.lane < length all
  some : 1 ≤ piece.count
  fits : piece.count ≤ size (lane_at all piece.lane).link

later : (size : ℕ → ℕ) (all : List LaneAt) (number : ℕ) (piece : Piece) → HasRoom size all (number + 1) piece → HasRoom size all number piece
later size all number piece h = record { from = omega (arith, h.from); exists = h.exists; some = h.some; fits = h.fits }

-- what holds of a piece that may be missing
one_piece : (P : Piece → Type 0) (lane count : ℕ) → (1 ≤ count → P (record { lane = lane; count = count })) → All P (piece_of lane count)
one_piece P lane zero h = All-nil P
one_piece P lane (suc count) h =
    rw some (All-cons P (record { lane = lane; count = suc count }) [] (h (omega arith)) (All-nil P))
  where
    some : nat_eq (suc count) 0 ≡ false
    some = grind (arith, nat_tests)

ascending_cons : (x : ℕ) (xs : List ℕ) → All (λ y. x < y) xs → IsStrictlyIncreasing xs → IsStrictlyIncreasing (x ∷ xs)
ascending_cons x [] above up = λ k h. absurd (omega arith)
ascending_cons x (y ∷ ys) above up = go
  where
    go : (k : ℕ) → k + 1 < length (x ∷ (y ∷ ys)) → slice_index (x ∷ (y ∷ ys)) k < slice_index (x ∷ (y ∷ ys)) (k + 1)
    go zero h = All-head (λ z. x < z) y ys above
    go (suc k) h = let e : suc k + 1 ≡ suc (k + 1) = omega arith in rw e (up k (omega arith))

module _ (first size : ℕ → ℕ) (all : List LaneAt) where
  pieces_have_room : (number : ℕ) (before lanes : List LaneAt) → number + length lanes ≡ length all →
      ((i : ℕ) → i < length lanes → lane_at all (number + i) ≡ lane_at lanes i) → All (HasRoom size all number) (pieces_from first size number before lanes)
  pieces_have_room number before [] e h = All-nil (HasRoom size all number)
  pieces_have_room number before (lane ∷ lanes) e h =
      All-append (HasRoom size all number)
      (piece_of number (overlap (carried_on lane.link before) lane.count (first lane.link) (size lane.link)))
      (pieces_from first size (number + 1) (lane ∷ before) lanes)
      (one_piece (HasRoom size all number) number (overlap (carried_on lane.link before) lane.count (first lane.link) (size lane.link))
      (λ some. record {
        from = omega arith;
        exists = omega arith;
        some = some;
        fits = rw this (overlap_fits (carried_on lane.link before) lane.count (first lane.link) (size lane.link));
      }))
      (All-weaker (HasRoom size all (number + 1)) (HasRoom size all number) (later size all number) (pieces_from first size (number + 1) (lane ∷ before) lanes)
      (pieces_have_room (number + 1) (lane ∷ before) lanes (omega arith) (λ i l. (let g : number + 1 + i ≡ number + suc i = omega arith in rw g (h (suc i) (omega arith))))))
    where
      this : lane_at all number ≡ lane
      this = let g : number + 0 ≡ number = omega arith in rw g at (h 0 (omega arith))

  with_piece : (number count : ℕ) (rest : List Piece) → All (λ piece. number < piece.lane) rest → IsStrictlyIncreasing (map (λ piece. piece.lane) rest) →
      IsStrictlyIncreasing (map (λ piece. piece.lane) (piece_of number count ++ rest))
  with_piece number zero rest above up = up
  with_piece number (suc count) rest above up =
      rw some (ascending_cons number (map (λ piece. piece.lane) rest) (All-map (λ y. number < y) (λ piece. piece.lane) rest above) up)
    where
      some : nat_eq (suc count) 0 ≡ false
      some = grind (arith, nat_tests)

  pieces_ascend : (number : ℕ) (before lanes : List LaneAt) → number + length lanes ≡ length all →
      ((i : ℕ) → i < length lanes → lane_at all (number + i) ≡ lane_at lanes i) → IsStrictlyIncreasing (map (λ piece. piece.lane) (pieces_from first size number before lanes))
  pieces_ascend number before [] e h = λ k l. absurd (omega arith)
  pieces_ascend number before (lane ∷ lanes) e h =
      with_piece number (overlap (carried_on lane.link before) lane.count (first lane.link) (size lane.link)) (pieces_from first size (number + 1) (lane ∷ before) lanes)
      (All-weaker (HasRoom size all (number + 1)) (λ piece. number < piece.lane) (λ piece r. omega (arith, r.from)) (pieces_from first size (number + 1) (lane ∷ before) lanes)
      (pieces_have_room (number + 1) (lane ∷ before) lanes (omega arith) rest))
      (pieces_ascend (number + 1) (lane ∷ before) lanes (omega arith) rest)
    where
      rest : (i : ℕ) → i < length lanes → lane_at all (number + 1 + i) ≡ lane_at lanes i
      rest i l = let g : number + 1 + i ≡ number + suc i = omega arith in rw g (h (suc i) (omega arith))

-- a link with room in a part is one of its links
is_busy : (t : TimedView) (part : SlotPart) (link : ℕ) → 1 ≤ room_in t part link → Contains part.edges link
is_busy t part link h = elim (true_or_false (is_in link part)) [
  | inl busy ↦ Contains-from_any same link part.edges busy
  | inr idle ↦ absurd (none _ h (ap (λ b. cond b (part.duration / cost_of t link) 0) idle))
]
  where
    same : (a b : ℕ) → nat_eq a b ≡ true → a ≡ b
    same a b e = grind (arith, nat_tests)

    none : (n : ℕ) → 1 ≤ n → n ≡ 0 → ⊥
    none n h e = omega arith

size_in_time : (t : TimedView) (part : SlotPart) (link : ℕ) → room_in t part link * cost_of t link ≤ part.duration
size_in_time t part link = either (is_in link part)
  where
    either : (b : Bool) → cond b (part.duration / cost_of t link) 0 * cost_of t link ≤ part.duration
    either true = div-mul-le_self part.duration (cost_of t link)
    either false = omega arith

pub size_short : (t : TimedView) (part : SlotPart) (link : ℕ) → room_in t part link ≤ part.duration
size_short t part link = either (is_in link part)
  where
    either : (b : Bool) → cond b (part.duration / cost_of t link) 0 ≤ part.duration
    either true = div-le_self part.duration (cost_of t link)
    either false = omega arith

module _ (t : TimedView) (lanes : List LaneAt) (moved : ℕ → ℕ) (part : SlotPart) (is : IsSeparate t part) where
  abbrev cut : Slot
  cut = record { duration = part.duration; pieces = pieces_from moved (room_in t part) 0 [] lanes }

  at_start : (i : ℕ) → i < length lanes → lane_at lanes (0 + i) ≡ lane_at lanes i
  at_start i l = let e : 0 + i ≡ i = omega arith in rw e refl

  rooms : All (HasRoom (room_in t part) lanes 0) cut.pieces
  rooms = pieces_have_room moved (room_in t part) lanes 0 [] lanes (omega arith) at_start

  pub cut_is_slot : IsSlot lanes cut
  cut_is_slot = record {
    some = is.some;
    pieces = All-weaker (HasRoom (room_in t part) lanes 0) (IsPiece lanes) is_piece cut.pieces rooms;
    ascending = pieces_ascend moved (room_in t part) lanes 0 [] lanes (omega arith) at_start;
  }
    where
      is_piece : (piece : Piece) → HasRoom (room_in t part) lanes 0 piece → IsPiece lanes piece
      is_piece piece r = record {
        lane = r.exists;
        some = r.some;
        bounded = let s = size_short t part (lane_at lanes piece.lane).link in let a = r.fits in let b = is.short in omega (arith, s, a, b);
      }

  busy : (piece : Piece) → HasRoom (room_in t part) lanes 0 piece → Contains part.edges (lane_at lanes piece.lane).link
  busy piece r = is_busy t part (lane_at lanes piece.lane).link (let a = r.some in let b = r.fits in omega (arith, a, b))

  -- what two links of a part keep, the links of two pieces keep
  apart : (end : ℕ → ℕ) → All (λ link. All (λ other. end link ≡ end other → other ≡ link) part.edges) part.edges →
      All (λ p. All (λ q. end (lane_at lanes p.lane).link ≡ end (lane_at lanes q.lane).link → (lane_at lanes q.lane).link ≡ (lane_at lanes p.lane).link) cut.pieces) cut.pieces
  apart end h =
      All-weaker (HasRoom (room_in t part) lanes 0)
      (λ p. All (λ q. end (lane_at lanes p.lane).link ≡ end (lane_at lanes q.lane).link → (lane_at lanes q.lane).link ≡ (lane_at lanes p.lane).link) cut.pieces)
      (λ p r. All-weaker (HasRoom (room_in t part) lanes 0) (λ q. end (lane_at lanes p.lane).link ≡ end (lane_at lanes q.lane).link → (lane_at lanes q.lane).link ≡ (lane_at lanes p.lane).link)
      (λ q s. All-contains (λ other. end (lane_at lanes p.lane).link ≡ end other → other ≡ (lane_at lanes p.lane).link) part.edges (lane_at lanes q.lane).link
      (All-contains (λ link. All (λ other. end link ≡ end other → other ≡ link) part.edges) part.edges (lane_at lanes p.lane).link h (busy p r)) (busy q s))
      cut.pieces rooms)
      cut.pieces rooms

  pub cut_is_matching : IsMatching t lanes cut
  cut_is_matching = record {
    in_time = λ link. (let a = mul-le-mul_right (cost_of t link) (moves_what_fits t moved part lanes link) in let b = size_in_time t part link in omega (arith, a, b));
    senders = apart (sender_of t) is.senders;
    receivers = apart (receiver_of t) is.receivers;
  }

-- all slots of a cut
pub slots_are_slots : (t : TimedView) (lanes : List LaneAt) (moved : ℕ → ℕ) (parts : List SlotPart) → All (IsSeparate t) parts → All (IsSlot lanes) (slots_from t lanes moved parts)
slots_are_slots t lanes moved [] h = All-nil (IsSlot lanes)
slots_are_slots t lanes moved (part ∷ parts) h =
    All-cons (IsSlot lanes) (record { duration = part.duration; pieces = pieces_from moved (room_in t part) 0 [] lanes })
    (slots_from t lanes (λ link. moved link + room_in t part link) parts)
    (cut_is_slot t lanes moved part (All-head (IsSeparate t) part parts h))
    (slots_are_slots t lanes (λ link. moved link + room_in t part link) parts (All-tail (IsSeparate t) part parts h))

pub slots_are_matchings : (t : TimedView) (lanes : List LaneAt) (moved : ℕ → ℕ) (parts : List SlotPart) → All (IsSeparate t) parts → All (IsMatching t lanes) (slots_from t lanes moved parts)
slots_are_matchings t lanes moved [] h = All-nil (IsMatching t lanes)
slots_are_matchings t lanes moved (part ∷ parts) h =
    All-cons (IsMatching t lanes) (record { duration = part.duration; pieces = pieces_from moved (room_in t part) 0 [] lanes })
    (slots_from t lanes (λ link. moved link + room_in t part link) parts)
    (cut_is_matching t lanes moved part (All-head (IsSeparate t) part parts h))
    (slots_are_matchings t lanes (λ link. moved link + room_in t part link) parts (All-tail (IsSeparate t) part parts h))

-- as many slots as parts, which last as long together
pub slots_as_many : (t : TimedView) (lanes : List LaneAt) (moved : ℕ → ℕ) (parts : List SlotPart) → length (slots_from t lanes moved parts) ≡ length parts
slots_as_many t lanes moved [] = refl
slots_as_many t lanes moved (part ∷ parts) = ap suc (slots_as_many t lanes (λ link. moved link + room_in t part link) parts)

pub slots_as_long : (t : TimedView) (lanes : List LaneAt) (moved : ℕ → ℕ) (parts : List SlotPart) →
    sum_by (λ (slot : Slot). slot.duration) (slots_from t lanes moved parts) ≡ sum_by (λ (part : SlotPart). part.duration) parts
slots_as_long t lanes moved [] = refl
slots_as_long t lanes moved (part ∷ parts) =
    more _ _ _ _ _ (sum_by-cons (λ (slot : Slot). slot.duration) (record { duration = part.duration; pieces = pieces_from moved (room_in t part) 0 [] lanes }) (slots_from t lanes (λ link. moved link + room_in t part link) parts))
    (sum_by-cons (λ (one : SlotPart). one.duration) part parts) (slots_as_long t lanes (λ link. moved link + room_in t part link) parts)
  where
    more : (a b d n v : ℕ) → a ≡ d + n → b ≡ d + v → n ≡ v → a ≡ b
    more a b d n v e f h = omega arith

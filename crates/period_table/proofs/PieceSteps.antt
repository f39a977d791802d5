-- Steps of the loops that cut a slot into pieces and a period into slots.
use Rattle.std.proofs.Common.{◌≡◌, ℕ, suc, ◌+◌, ◌<◌, ◌≤◌, ◌++◌, List, [], ◌∷◌, All, length, drop, get_or, sum_by, refl, sym, ap, ◌∙◌, arith}
use Rattle.std.proofs.Math.Seq.{drop-cons}
use Rattle.std.proofs.lemmas.List.{append_assoc}
use Rattle.std.proofs.lemmas.List.Elements.{All-head, All-tail}
use Rattle.std.proofs.lemmas.List.Sums.{sum_by-cons}
use Rattle.bipartite_slots.specs.declared.weights.SlotPart.{SlotPart}
use Rattle.platform_file.specs.Ticks.{TimedView}
use Rattle.period_table.specs.declared.table.Piece.{Piece}
use Rattle.period_table.specs.declared.table.Slot.{Slot}
use Rattle.period_table.specs.Lanes.{LaneAt}
use Rattle.period_table.specs.Cuts.{room_in, carried_on, overlap, piece_of, pieces_from, slots_from}
use Rattle.period_table.proofs.Steps.{within_total}
use Rattle.period_table.proofs.CutSlots.{size_short}

abbrev pub link_of : LaneAt → ℕ
link_of lane = lane.link

abbrev pub count_of : LaneAt → ℕ
count_of lane = lane.count

module _ (lanes : List LaneAt) (k : ℕ) (lane : LaneAt) (l : k < length lanes) (is : lane ≡ get_or lanes k lane) where
  split : drop k lanes ≡ lane ∷ drop (k + 1) lanes
  split = let next : k + 1 ≡ suc k = omega arith in rw next (drop-cons lanes k lane l ∙ ap (λ first. first ∷ drop (suc k) lanes) (sym is))

  -- the pieces so far, with that of one more lane
  pub piece_cut : (first size : ℕ → ℕ) (before : List LaneAt) (old out new : List Piece) →
      out ++ pieces_from first size k before (drop k lanes) ≡ old →
      new ≡ out ++ piece_of k (overlap (carried_on lane.link before) lane.count (first lane.link) (size lane.link)) →
      new ++ pieces_from first size (k + 1) (lane ∷ before) (drop (k + 1) lanes) ≡ old
  piece_cut first size before old out new h e =
      rw e (append_assoc out (piece_of k (overlap (carried_on lane.link before) lane.count (first lane.link) (size lane.link))) (pieces_from first size (k + 1) (lane ∷ before) (drop (k + 1) lanes)))
      ∙ sym (ap (λ rest. out ++ pieces_from first size k before rest) split) ∙ h

  -- the tasks so far, with those of one more lane
  pub counts_more : (before : List LaneAt) (all : ℕ) → sum_by count_of before + sum_by count_of (drop k lanes) ≡ all → sum_by count_of (lane ∷ before) + sum_by count_of (drop (k + 1) lanes) ≡ all
  counts_more before all h = more _ _ _ _ _ _ (ap (sum_by count_of) split ∙ sum_by-cons count_of lane (drop (k + 1) lanes)) (sum_by-cons count_of lane before) h
    where
      more : (b d n v m all : ℕ) → d ≡ n + v → m ≡ n + b → b + d ≡ all → m + v ≡ all
      more b d n v m all e f h = omega arith

  -- what a link has carried so far and the lane's tasks together are at most all
  pub counts_within : (before : List LaneAt) (all : ℕ) → sum_by count_of before + sum_by count_of (drop k lanes) ≡ all → (link : ℕ) → carried_on link before + lane.count ≤ all
  counts_within before all h link =
      within _ _ _ _ _ _ (within_total link_of count_of link before) (ap (sum_by count_of) split ∙ sum_by-cons count_of lane (drop (k + 1) lanes)) h
    where
      within : (c b d n v all : ℕ) → c ≤ b → d ≡ n + v → b + d ≡ all → c + n ≤ all
      within c b d n v all e f h = omega arith

-- the pieces depend on the links of the lanes alone
pub same_pieces : (f g s r : ℕ → ℕ) (number : ℕ) (before lanes : List LaneAt) → All (λ lane. lane.link < 128) lanes →
    ((link : ℕ) → link < 128 → f link ≡ g link) → ((link : ℕ) → link < 128 → s link ≡ r link) → pieces_from f s number before lanes ≡ pieces_from g r number before lanes
same_pieces f g s r number before [] few first size = refl
same_pieces f g s r number before (lane ∷ lanes) few first size =
    let here : lane.link < 128 = All-head (λ (one : LaneAt). one.link < 128) lane lanes few in
    rw (first lane.link here, size lane.link here) (ap (λ rest. piece_of number (overlap (carried_on lane.link before) lane.count (g lane.link) (r lane.link)) ++ rest)
    (same_pieces f g s r (number + 1) (lane ∷ before) lanes (All-tail (λ (one : LaneAt). one.link < 128) lane lanes few) first size))

module _ (t : TimedView) (lanes : List LaneAt) (parts : List SlotPart) (k : ℕ) (part : SlotPart) (l : k < length parts) (is : part ≡ get_or parts k part) (before : ℕ → ℕ) where
  split_parts : drop k parts ≡ part ∷ drop (k + 1) parts
  split_parts = let next : k + 1 ≡ suc k = omega arith in rw next (drop-cons parts k part l ∙ ap (λ first. first ∷ drop (suc k) parts) (sym is))

  -- the slots so far, with that of one more part
  pub part_cut : (old out new : List Slot) (pieces : List Piece) → out ++ slots_from t lanes before (drop k parts) ≡ old → pieces ≡ pieces_from before (room_in t part) 0 [] lanes →
      new ≡ out ++ record { duration = part.duration; pieces = pieces } ∷ [] → new ++ slots_from t lanes (λ link. before link + room_in t part link) (drop (k + 1) parts) ≡ old
  part_cut old out new pieces h p e =
      rw (e, p) (append_assoc out (record { duration = part.duration; pieces = pieces_from before (room_in t part) 0 [] lanes } ∷ []) (slots_from t lanes (λ link. before link + room_in t part link) (drop (k + 1) parts)))
      ∙ sym (ap (λ rest. out ++ slots_from t lanes before rest) split_parts) ∙ h

  -- what a link has moved so far is at most the ticks of the parts so far
  pub time_more : (total link : ℕ) → before link + sum_by (λ (one : SlotPart). one.duration) (drop k parts) ≤ total →
      before link + room_in t part link + sum_by (λ (one : SlotPart). one.duration) (drop (k + 1) parts) ≤ total
  time_more total link h =
      more _ _ _ _ _ (ap (sum_by (λ (one : SlotPart). one.duration)) split_parts ∙ sum_by-cons (λ (one : SlotPart). one.duration) part (drop (k + 1) parts)) (size_short t part link) h
    where
      more : (b d n v r : ℕ) → d ≡ n + v → r ≤ n → b + d ≤ total → b + r + v ≤ total
      more b d n v r e f h = omega arith

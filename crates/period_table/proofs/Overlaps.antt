-- The pieces that a period is cut into: in a slot a link moves what it has room for, and over a period each lane moves its tasks.
use Rattle.std.proofs.Common.{◌≡◌, ℕ, zero, suc, ◌+◌, ◌<◌, ◌≤◌, Bool, true, false, cond, nat_eq, List, [], ◌∷◌, length, refl, sym, ◌∙◌, ap, arith, inl, inr, sum_by}
use Rattle.std.proofs.lemmas.Bool.Decides.{nat_tests}
use Rattle.std.proofs.lemmas.List.Sums.{sum_by-cons, sum_by-append}
use Rattle.platform_file.specs.Ticks.{TimedView}
use Rattle.period_table.specs.declared.table.Piece.{Piece}
use Rattle.period_table.specs.Lanes.{LaneAt, lane_at}
use Rattle.period_table.specs.TableSchedules.{tasks_over}
use Rattle.period_table.specs.Tables.{moved_over}
use Rattle.bipartite_slots.specs.declared.weights.SlotPart.{SlotPart}
use Rattle.period_table.specs.Cuts.{room_in, room_of, carried_on, overlap, piece_of, pieces_from, slots_from}
use Rattle.period_table.proofs.Chains.{true_or_false}

-- two ranges that follow each other
overlap_joins : (a n m x s : ℕ) → overlap a n x s + overlap (a + n) m x s ≡ overlap a (n + m) x s
overlap_joins a n m x s = omega arith

overlap_joins_other : (a n x s r : ℕ) → overlap a n x s + overlap a n (x + s) r ≡ overlap a n x (s + r)
overlap_joins_other a n x s r = omega arith

overlap_none : (a x s : ℕ) → overlap a 0 x s ≡ 0
overlap_none a x s = omega arith

overlap_nothing : (a n x : ℕ) → overlap a n x 0 ≡ 0
overlap_nothing a n x = omega arith

pub overlap_fits : (a n x s : ℕ) → overlap a n x s ≤ s
overlap_fits a n x s = omega arith

pub overlap_whole : (a n s : ℕ) → a + n ≤ s → overlap a n 0 s ≡ n
overlap_whole a n s h = omega arith

-- a sum over a piece that may be missing
sum_piece : (f : Piece → ℕ) (lane count : ℕ) → f (record { lane = lane; count = 0 }) ≡ 0 → sum_by f (piece_of lane count) ≡ f (record { lane = lane; count = count })
sum_piece f lane zero none = sym none
sum_piece f lane (suc count) none =
    ap (sum_by f) some ∙ sum_by-cons f (record { lane = lane; count = suc count }) [] ∙ nothing_more (f (record { lane = lane; count = suc count }))
  where
    some : piece_of lane (suc count) ≡ record { lane = lane; count = suc count } ∷ []
    some = let e : nat_eq (suc count) 0 ≡ false = grind (arith, nat_tests) in rw e refl

    nothing_more : (n : ℕ) → n + 0 ≡ n
    nothing_more n = omega arith

module _ (first size : ℕ → ℕ) (all : List LaneAt) (link : ℕ) where
  -- what the pieces move over a link is what its lanes part with the slot's range
  over_link : (number : ℕ) (before lanes : List LaneAt) → ((i : ℕ) → i < length lanes → lane_at all (number + i) ≡ lane_at lanes i) →
      tasks_over all link (pieces_from first size number before lanes) ≡ overlap (carried_on link before) (carried_on link lanes) (first link) (size link)
  over_link number before [] h = sym (overlap_none (carried_on link before) (first link) (size link))
  over_link number before (lane ∷ lanes) h =
      step _ _ _ _ _ _ _ _
      (sum_by-append (λ piece. cond (nat_eq (lane_at all piece.lane).link link) piece.count 0)
      (piece_of number (overlap (carried_on lane.link before) lane.count (first lane.link) (size lane.link)))
      (pieces_from first size (number + 1) (lane ∷ before) lanes))
      (sum_piece (λ piece. cond (nat_eq (lane_at all piece.lane).link link) piece.count 0) number _ (nothing (nat_eq (lane_at all number).link link)) ∙ here)
      (over_link (number + 1) (lane ∷ before) lanes (λ i l. (let e : number + 1 + i ≡ number + suc i = omega arith in rw e (h (suc i) (omega arith)))))
      (sum_by-cons (λ lane. cond (nat_eq lane.link link) lane.count 0) lane before)
      (sum_by-cons (λ lane. cond (nat_eq lane.link link) lane.count 0) lane lanes)
    where
      nothing : (b : Bool) → cond {A = ℕ} b 0 0 ≡ 0
      nothing true = refl
      nothing false = refl

      this : lane_at all number ≡ lane
      this = let e : number + 0 ≡ number = omega arith in rw e at (h 0 (omega arith))

      here : cond (nat_eq (lane_at all number).link link) (overlap (carried_on lane.link before) lane.count (first lane.link) (size lane.link)) 0
          ≡ overlap (carried_on link before) (cond (nat_eq lane.link link) lane.count 0) (first link) (size link)
      here = rw this (elim (true_or_false (nat_eq lane.link link)) [
        | inl same ↦ rw same (ap (λ (l : ℕ). overlap (carried_on l before) lane.count (first l) (size l)) (number_of lane.link link same))
        | inr other ↦ rw other (sym (overlap_none (carried_on link before) (first link) (size link)))
      ])
        where
          number_of : (a b : ℕ) → nat_eq a b ≡ true → a ≡ b
          number_of a b e = grind (arith, nat_tests)

      step : (total p rest a v b' n c : ℕ) → total ≡ p + rest → p ≡ overlap a v (first link) (size link) → rest ≡ overlap b' n (first link) (size link) →
          b' ≡ v + a → c ≡ v + n → total ≡ overlap a c (first link) (size link)
      step total p rest a v b' n c e f g h i = let j = overlap_joins a v n (first link) (size link) in omega (arith, j)

-- in a slot no link moves more than it has room for
pub moves_what_fits : (t : TimedView) (moved : ℕ → ℕ) (part : SlotPart) (lanes : List LaneAt) (link : ℕ) →
    tasks_over lanes link (pieces_from moved (room_in t part) 0 [] lanes) ≤ room_in t part link
moves_what_fits t moved part lanes link =
    rw (over_link moved (room_in t part) lanes link 0 [] lanes (λ i l. (let e : 0 + i ≡ i = omega arith in rw e refl)))
    (overlap_fits (carried_on link []) (carried_on link lanes) (moved link) (room_in t part link))

-- ---- over all slots a lane moves its tasks

-- where a lane's tasks stand among those of its link
abbrev begins_at : List LaneAt → List LaneAt → ℕ → ℕ
begins_at before [] place = 0
begins_at before (lane ∷ lanes) zero = carried_on lane.link before
begins_at before (lane ∷ lanes) (suc place) = begins_at (lane ∷ before) lanes place

module _ (first size : ℕ → ℕ) where
  -- the pieces from a number on have none of an earlier lane
  none_of_earlier : (lane number : ℕ) (before lanes : List LaneAt) → lane < number →
      sum_by (λ piece. cond (nat_eq piece.lane lane) piece.count 0) (pieces_from first size number before lanes) ≡ 0
  none_of_earlier lane number before [] h = refl
  none_of_earlier lane number before (one ∷ lanes) h =
      sum_by-append (λ piece. cond (nat_eq piece.lane lane) piece.count 0)
      (piece_of number (overlap (carried_on one.link before) one.count (first one.link) (size one.link))) (pieces_from first size (number + 1) (one ∷ before) lanes)
      ∙ both _ _ (sum_piece (λ piece. cond (nat_eq piece.lane lane) piece.count 0) number _ (rw other refl) ∙ rw other refl)
      (none_of_earlier lane (number + 1) (one ∷ before) lanes (omega arith))
    where
      other : nat_eq number lane ≡ false
      other = grind (arith, nat_tests)

      both : (a b : ℕ) → a ≡ 0 → b ≡ 0 → a + b ≡ 0
      both a b e f = omega arith

  of_lane : (place lane number : ℕ) (before lanes : List LaneAt) → lane ≡ number + place → place < length lanes →
      sum_by (λ piece. cond (nat_eq piece.lane lane) piece.count 0) (pieces_from first size number before lanes)
      ≡ overlap (begins_at before lanes place) (lane_at lanes place).count (first (lane_at lanes place).link) (size (lane_at lanes place).link)
  of_lane place lane number before [] e h = absurd (omega arith)
  of_lane zero lane number before (one ∷ lanes) e h =
      sum_by-append (λ piece. cond (nat_eq piece.lane lane) piece.count 0)
      (piece_of number (overlap (carried_on one.link before) one.count (first one.link) (size one.link))) (pieces_from first size (number + 1) (one ∷ before) lanes)
      ∙ first_alone _ _ _ (sum_piece (λ piece. cond (nat_eq piece.lane lane) piece.count 0) number _ (rw same refl) ∙ rw same refl)
      (none_of_earlier lane (number + 1) (one ∷ before) lanes (omega arith))
    where
      same : nat_eq number lane ≡ true
      same = grind (arith, nat_tests)

      first_alone : (a b v : ℕ) → a ≡ v → b ≡ 0 → a + b ≡ v
      first_alone a b v e f = omega arith
  of_lane (suc place) lane number before (one ∷ lanes) e h =
      sum_by-append (λ piece. cond (nat_eq piece.lane lane) piece.count 0)
      (piece_of number (overlap (carried_on one.link before) one.count (first one.link) (size one.link))) (pieces_from first size (number + 1) (one ∷ before) lanes)
      ∙ rest_alone _ _ _ (sum_piece (λ piece. cond (nat_eq piece.lane lane) piece.count 0) number _ (rw other refl) ∙ rw other refl)
      (of_lane place lane (number + 1) (one ∷ before) lanes (omega arith) (omega arith))
    where
      other : nat_eq number lane ≡ false
      other = grind (arith, nat_tests)

      rest_alone : (a b v : ℕ) → a ≡ 0 → b ≡ v → a + b ≡ v
      rest_alone a b v e f = omega arith

over_slots : (t : TimedView) (lanes : List LaneAt) (moved : ℕ → ℕ) (parts : List SlotPart) (lane : ℕ) → lane < length lanes →
    moved_over lane (slots_from t lanes moved parts)
    ≡ overlap (begins_at [] lanes lane) (lane_at lanes lane).count (moved (lane_at lanes lane).link) (room_of t (lane_at lanes lane).link parts)
over_slots t lanes moved [] lane h = sym (overlap_nothing (begins_at [] lanes lane) (lane_at lanes lane).count (moved (lane_at lanes lane).link))
over_slots t lanes moved (part ∷ parts) lane h =
    step (begins_at [] lanes lane) (lane_at lanes lane).count (moved (lane_at lanes lane).link) _ _ _ _ _ _
    (sum_by-cons (λ slot. sum_by (λ piece. cond (nat_eq piece.lane lane) piece.count 0) slot.pieces)
    (record { duration = part.duration; pieces = pieces_from moved (room_in t part) 0 [] lanes })
    (slots_from t lanes (λ link. moved link + room_in t part link) parts))
    (of_lane moved (room_in t part) lane lane 0 [] lanes (omega arith) h)
    (over_slots t lanes (λ link. moved link + room_in t part link) parts lane h)
    (sum_by-cons (λ part. room_in t part (lane_at lanes lane).link) part parts)
  where
    step : (a n x s r q total p rest : ℕ) → total ≡ p + rest → p ≡ overlap a n x s → rest ≡ overlap a n (x + s) r → q ≡ s + r → total ≡ overlap a n x q
    step a n x s r q total p rest e f g h = let j = overlap_joins_other a n x s r in omega (arith, j)

-- a lane's tasks are within those of its link
within_link : (before lanes : List LaneAt) (place : ℕ) → place < length lanes →
    begins_at before lanes place + (lane_at lanes place).count ≤ carried_on (lane_at lanes place).link before + carried_on (lane_at lanes place).link lanes
within_link before [] place h = absurd (omega arith)
within_link before (lane ∷ lanes) zero h =
    first _ _ _ _ (sum_by-cons (λ one. cond (nat_eq one.link lane.link) one.count 0) lane lanes) (ap (λ b. cond {A = ℕ} b lane.count 0) (equal lane.link))
  where
    equal : (a : ℕ) → nat_eq a a ≡ true
    equal a = grind (arith, nat_tests)

    first : (b c v n : ℕ) → c ≡ v + n → v ≡ lane.count → b + lane.count ≤ b + c
    first b c v n e f = omega arith
within_link before (lane ∷ lanes) (suc place) h =
    rest _ _ _ _ _ _ (within_link (lane ∷ before) lanes place (omega arith))
    (sum_by-cons (λ one. cond (nat_eq one.link (lane_at lanes place).link) one.count 0) lane before)
    (sum_by-cons (λ one. cond (nat_eq one.link (lane_at lanes place).link) one.count 0) lane lanes)
  where
    rest : (x b b' c c' v : ℕ) → x ≤ b' + c → b' ≡ v + b → c' ≡ v + c → x ≤ b + c'
    rest x b b' c c' v h e f = omega arith

-- where the parts have room for all tasks of a link, they move those of each of its lanes
pub moves_all : (t : TimedView) (lanes : List LaneAt) (parts : List SlotPart) → ((link : ℕ) → carried_on link lanes ≤ room_of t link parts) → (lane : ℕ) → lane < length lanes →
    moved_over lane (slots_from t lanes (λ link. 0) parts) ≡ (lane_at lanes lane).count
moves_all t lanes parts room lane h =
    over_slots t lanes (λ link. 0) parts lane h
    ∙ overlap_whole (begins_at [] lanes lane) (lane_at lanes lane).count (room_of t (lane_at lanes lane).link parts)
    (enough _ _ _ (within_link [] lanes lane h) (room (lane_at lanes lane).link))
  where
    enough : (x c r : ℕ) → x ≤ 0 + c → c ≤ r → x ≤ r
    enough x c r h k = omega arith

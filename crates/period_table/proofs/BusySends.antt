-- The sends of a period, slot by slot of those in which something moves.
use Rattle.std.proofs.Common.{◌≡◌, ℕ, zero, suc, ◌+◌, ◌*◌, ◌<◌, ◌≤◌, true, nat_eq, List, [], ◌∷◌, ◌++◌, length, drop, filter, get_or, sum_by, refl, sym, ◌∙◌, ap, arith, inl, inr, All}
use Rattle.std.proofs.lemmas.Bool.Decides.{nat_tests}
use Rattle.std.proofs.lemmas.List.{length-append, append_assoc}
use Rattle.std.proofs.lemmas.List.Elements.{All-cons, All-nil}
use Rattle.std.proofs.lemmas.List.Sums.{sum_by-cons}
use Rattle.std.proofs.Math.Seq.{drop-cons}
use Rattle.platform_file.specs.Ticks.{TimedView}
use Rattle.schedule_model.specs.Operations.{cost_of}
use Rattle.period_table.specs.declared.table.Piece.{Piece}
use Rattle.period_table.specs.declared.table.Slot.{Slot}
use Rattle.period_table.specs.declared.busy.BusySlot.{BusySlot}
use Rattle.period_table.specs.BusySlots.{busy_slots}
use Rattle.period_table.specs.Lanes.{LaneAt, lane_at}
use Rattle.period_table.specs.TableSchedules.{Placed, one_after_another, send_over, sends_of_pieces, sends_of_slots, has_batch, tasks_over}
use Rattle.period_table.proofs.Chains.{true_or_false}

abbrev pub no_slot : Slot
no_slot = record { duration = 0; pieces = [] }

-- the sends of some busy slots
abbrev pub sends_of_busy : TimedView → List LaneAt → ℕ → List Slot → ℕ → List BusySlot → List Placed
sends_of_busy t lanes period all start [] = []
sends_of_busy t lanes period all start (busy ∷ rest) =
    sends_of_pieces t lanes (start + busy.start) [] (filter (has_batch lanes period) (get_or all busy.slot no_slot).pieces) ++ sends_of_busy t lanes period all start rest

record IsFirstOf {X : Type 0} (xs : List X) (k : ℕ) (d x : X) (after : List X) : Type 0 where
  is : get_or xs k d ≡ x
  rest : drop (k + 1) xs ≡ after
  inside : k < length xs

first_of : {X : Type 0} (xs : List X) (k : ℕ) (d x : X) (rest : List X) → drop k xs ≡ x ∷ rest → IsFirstOf xs k d x rest
first_of [] zero d x rest e = absurd (differ e)
  where
    differ : [] ≡ x ∷ rest → ⊥
    differ e = cc
first_of [] (suc k) d x rest e = absurd (differ e)
  where
    differ : [] ≡ x ∷ rest → ⊥
    differ e = cc
first_of (y ∷ ys) zero d x rest e = record { is = cc; rest = cc; inside = omega arith }
first_of (y ∷ ys) (suc k) d x rest e =
    let h = first_of ys k d x rest e in
    let g : suc k + 1 ≡ suc (k + 1) = omega arith in
    record { is = h.is; rest = rw g h.rest; inside = omega (arith, h.inside) }

none_in : {X : Type 0} (xs : List X) → nat_eq (length xs) 0 ≡ true → xs ≡ []
none_in [] e = refl
none_in (x ∷ xs) e = absurd (some (length xs) e)
  where
    some : (n : ℕ) → nat_eq (suc n) 0 ≡ true → ⊥
    some n e = grind (arith, nat_tests)

pub sends_are_busy : (t : TimedView) (lanes : List LaneAt) (period : ℕ) (all : List Slot) (start : ℕ) (rest : List Slot) (before number : ℕ) → drop number all ≡ rest →
    sends_of_slots t lanes period (start + before) rest ≡ sends_of_busy t lanes period all start (busy_slots before number rest)
sends_are_busy t lanes period all start [] before number e = refl
sends_are_busy t lanes period all start (slot ∷ rest) before number e =
    let h = first_of all number no_slot slot rest e in
    let more : start + before + slot.duration ≡ start + (before + slot.duration) = omega arith in
    elim (true_or_false (nat_eq (length slot.pieces) 0)) [
      | inl idle ↦ rw (idle, more, none_in slot.pieces idle) (sends_are_busy t lanes period all start rest (before + slot.duration) (number + 1) h.rest)
      | inr busy ↦ rw (busy, more, h.is) (ap (λ ops. sends_of_pieces t lanes (start + before) [] (filter (has_batch lanes period) slot.pieces) ++ ops)
          (sends_are_busy t lanes period all start rest (before + slot.duration) (number + 1) h.rest))
    ]

-- a busy slot exists, and starts within the period
pub record IsBusy (all : List Slot) (busy : BusySlot) : Type 0 where
  pub exists : busy.slot < length all
  pub within : busy.start ≤ sum_by (λ slot. slot.duration) all

pub all_are_busy : (all rest : List Slot) (before number : ℕ) → drop number all ≡ rest → before + sum_by (λ slot. slot.duration) rest ≤ sum_by (λ slot. slot.duration) all →
    All (IsBusy all) (busy_slots before number rest)
all_are_busy all [] before number e le = All-nil (IsBusy all)
all_are_busy all (slot ∷ rest) before number e le =
    let h = first_of all number no_slot slot rest e in
    let more = sum_by-cons (λ (s : Slot). s.duration) slot rest in
    let later = all_are_busy all rest (before + slot.duration) (number + 1) h.rest (omega (arith, le, more)) in
    elim (true_or_false (nat_eq (length slot.pieces) 0)) [
      | inl idle ↦ rw idle later
      | inr busy ↦ rw busy (All-cons (IsBusy all) (record { start = before; slot = number }) (busy_slots (before + slot.duration) (number + 1) rest)
          (record { exists = h.inside; within = omega (arith, le) }) later)
    ]

pub length_run : (make : ℕ → Placed) (lasts start count : ℕ) → length (one_after_another make lasts start count) ≡ count
length_run make lasts start zero = refl
length_run make lasts start (suc count) = ap suc (length_run make lasts (start + lasts) count)

-- as many sends as the pieces carry tasks
pub length_sends : (t : TimedView) (lanes : List LaneAt) (start : ℕ) (before pieces : List Piece) →
    length (sends_of_pieces t lanes start before pieces) ≡ sum_by (λ piece. piece.count) pieces
length_sends t lanes start before [] = refl
length_sends t lanes start before (piece ∷ pieces) =
    length-append (one_after_another (send_over lanes piece.lane) (cost_of t (lane_at lanes piece.lane).link)
    (start + tasks_over lanes (lane_at lanes piece.lane).link before * cost_of t (lane_at lanes piece.lane).link) piece.count) (sends_of_pieces t lanes start (piece ∷ before) pieces)
    ∙ rw (
      length_run (send_over lanes piece.lane) (cost_of t (lane_at lanes piece.lane).link)
          (start + tasks_over lanes (lane_at lanes piece.lane).link before * cost_of t (lane_at lanes piece.lane).link) piece.count,
      length_sends t lanes start (piece ∷ before) pieces,
    ) refl
    ∙ sym (sum_by-cons (λ (p : Piece). p.count) piece pieces)

-- where the next busy slot's sends are placed
module _ (t : TimedView) (lanes : List LaneAt) (period : ℕ) (all : List Slot) (start : ℕ) (busy : List BusySlot) (k : ℕ) (d : BusySlot) (l : k < length busy) where
  abbrev pub next_sends : List Placed
  next_sends = sends_of_pieces t lanes (start + (get_or busy k d).start) [] (filter (has_batch lanes period) (get_or all (get_or busy k d).slot no_slot).pieces)

  pub next_busy : sends_of_busy t lanes period all start (drop k busy) ≡ next_sends ++ sends_of_busy t lanes period all start (drop (k + 1) busy)
  next_busy = let next : k + 1 ≡ suc k = omega arith in rw next (ap (sends_of_busy t lanes period all start) (drop-cons busy k d l))

  pub next_length : length (sends_of_busy t lanes period all start (drop k busy)) ≡
      sum_by (λ piece. piece.count) (filter (has_batch lanes period) (get_or all (get_or busy k d).slot no_slot).pieces) + length (sends_of_busy t lanes period all start (drop (k + 1) busy))
  next_length =
      ap length next_busy ∙ length-append next_sends (sends_of_busy t lanes period all start (drop (k + 1) busy))
      ∙ ap (λ n. n + length (sends_of_busy t lanes period all start (drop (k + 1) busy)))
      (length_sends t lanes (start + (get_or busy k d).start) [] (filter (has_batch lanes period) (get_or all (get_or busy k d).slot no_slot).pieces))

  pub busy_placed : (old out new : List Placed) → out ++ sends_of_busy t lanes period all start (drop k busy) ≡ old → new ≡ out ++ next_sends →
      new ++ sends_of_busy t lanes period all start (drop (k + 1) busy) ≡ old
  busy_placed old out new h n = rw n (append_assoc out next_sends (sends_of_busy t lanes period all start (drop (k + 1) busy))) ∙ ap (λ ops. out ++ ops) (sym next_busy) ∙ h

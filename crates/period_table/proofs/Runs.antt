-- What holds of every operation of a table, and what a test counts among them.
use Rattle.std.proofs.Common.{◌≡◌, ℕ, zero, suc, ◌+◌, ◌≤◌, Bool, true, false, cond, List, [], ◌∷◌, filter, refl, ◌∙◌, ap, arith, inl, inr, All, count_by, sum_by}
use Rattle.std.proofs.lemmas.List.Elements.{All-head, All-tail, All-cons, All-nil, All-append, All-filter}
use Rattle.std.proofs.lemmas.List.Sums.{sum_by-cons}
use Rattle.platform_file.specs.Ticks.{TimedView}
use Rattle.flow_routes.specs.declared.flow.Route.{Route}
use Rattle.period_table.specs.declared.table.Slot.{Slot}
use Rattle.period_table.specs.declared.table.Piece.{Piece}
use Rattle.period_table.specs.Lanes.{LaneAt}
use Rattle.period_table.specs.TableSchedules.{Placed, send_over, compute_at, one_after_another, sends_of_pieces, sends_of_slots, computes_of_routes, has_batch}
use Rattle.period_table.proofs.Chains.{true_or_false}

-- ---- what holds of all

pub run_all : (P : Placed → Type 0) (make : ℕ → Placed) (lasts : ℕ) → ((s : ℕ) → P (make s)) → (start count : ℕ) → All P (one_after_another make lasts start count)
run_all P make lasts h start zero = All-nil P
run_all P make lasts h start (suc count) = All-cons P (make start) (one_after_another make lasts (start + lasts) count) (h start) (run_all P make lasts h (start + lasts) count)

module _ (t : TimedView) (lanes : List LaneAt) (P : Placed → Type 0) where
  pub pieces_all : (start : ℕ) (before pieces : List Piece) → All (λ piece. (s : ℕ) → P (send_over lanes piece.lane s)) pieces →
      All P (sends_of_pieces t lanes start before pieces)
  pieces_all start before [] h = All-nil P
  pieces_all start before (piece ∷ pieces) h =
      All-append P _ (sends_of_pieces t lanes start (piece ∷ before) pieces)
      (run_all P (send_over lanes piece.lane) _ (All-head (λ piece. (s : ℕ) → P (send_over lanes piece.lane s)) piece pieces h) _ piece.count)
      (pieces_all start (piece ∷ before) pieces (All-tail (λ piece. (s : ℕ) → P (send_over lanes piece.lane s)) piece pieces h))

  pub slots_all : (period start : ℕ) (slots : List Slot) → All (λ slot. All (λ piece. (s : ℕ) → P (send_over lanes piece.lane s)) slot.pieces) slots →
      All P (sends_of_slots t lanes period start slots)
  slots_all period start [] h = All-nil P
  slots_all period start (slot ∷ slots) h =
      All-append P _ (sends_of_slots t lanes period (start + slot.duration) slots)
      (pieces_all start [] (filter (has_batch lanes period) slot.pieces)
      (All-filter (has_batch lanes period) (λ piece. (s : ℕ) → P (send_over lanes piece.lane s)) slot.pieces
      (All-head (λ slot. All (λ piece. (s : ℕ) → P (send_over lanes piece.lane s)) slot.pieces) slot slots h)))
      (slots_all period (start + slot.duration) slots (All-tail (λ slot. All (λ piece. (s : ℕ) → P (send_over lanes piece.lane s)) slot.pieces) slot slots h))

  pub routes_all : (start : ℕ) (before routes : List Route) → All (λ route. (s : ℕ) → P (compute_at route.end s)) routes →
      All P (computes_of_routes t start before routes)
  routes_all start before [] h = All-nil P
  routes_all start before (route ∷ routes) h =
      All-append P _ (computes_of_routes t start (route ∷ before) routes)
      (run_all P (compute_at route.end) _ (All-head (λ route. (s : ℕ) → P (compute_at route.end s)) route routes h) _ route.count)
      (routes_all start (route ∷ before) routes (All-tail (λ route. (s : ℕ) → P (compute_at route.end s)) route routes h))

-- ---- what a test counts

pub run_count : (f : Placed → Bool) (make : ℕ → Placed) (lasts : ℕ) (b : Bool) → ((s : ℕ) → f (make s) ≡ b) → (start count : ℕ) →
    count_by f (one_after_another make lasts start count) ≡ cond b count 0
run_count f make lasts true h start zero = refl
run_count f make lasts false h start zero = refl
run_count f make lasts true h start (suc count) =
    sum_by-cons (λ p. cond (f p) 1 0) (make start) (one_after_another make lasts (start + lasts) count)
    ∙ rw (h start, run_count f make lasts true h (start + lasts) count) (omega arith)
run_count f make lasts false h start (suc count) =
    sum_by-cons (λ p. cond (f p) 1 0) (make start) (one_after_another make lasts (start + lasts) count)
    ∙ rw (h start, run_count f make lasts false h (start + lasts) count) refl

-- a sum over what passes a test
pub sum_filter : {X : Type 0} (f : X → ℕ) (keep : X → Bool) (xs : List X) → sum_by f (filter keep xs) ≡ sum_by (λ x. cond (keep x) (f x) 0) xs
sum_filter f keep [] = refl
sum_filter f keep (x ∷ xs) =
    elim (true_or_false (keep x)) [
      | inl kept ↦
          joined _ _ _ _ _ _ (ap (sum_by f) (filter_cons true kept) ∙ sum_by-cons f x (filter keep xs)) (sum_filter f keep xs)
          (sum_by-cons (λ x. cond (keep x) (f x) 0) x xs) (ap (λ b. cond b (f x) 0) kept)
      | inr left ↦ rest _ _ _ _ (ap (sum_by f) (filter_cons false left) ∙ sum_filter f keep xs) (sum_by-cons (λ x. cond (keep x) (f x) 0) x xs) (ap (λ b. cond b (f x) 0) left)
    ]
  where
    filter_cons : (b : Bool) → keep x ≡ b → filter keep (x ∷ xs) ≡ cond b (x ∷ filter keep xs) (filter keep xs)
    filter_cons b e = rw e refl

    joined : (a b v w m n : ℕ) → a ≡ v + m → m ≡ n → b ≡ w + n → w ≡ v → a ≡ b
    joined a b v w m n e f g h = omega arith

    rest : (a b w n : ℕ) → a ≡ n → b ≡ w + n → w ≡ 0 → a ≡ b
    rest a b w n e f g = omega arith

pub sum_filter_le : {X : Type 0} (f : X → ℕ) (keep : X → Bool) (xs : List X) → sum_by f (filter keep xs) ≤ sum_by f xs
sum_filter_le f keep [] = omega arith
sum_filter_le f keep (x ∷ xs) =
    elim (true_or_false (keep x)) [
      | inl kept ↦ rw kept (both _ _ _ _ _ (sum_by-cons f x (filter keep xs)) (sum_by-cons f x xs) (sum_filter_le f keep xs))
      | inr left ↦ rw left (one _ _ _ _ (sum_by-cons f x xs) (sum_filter_le f keep xs))
    ]
  where
    both : (a b v m n : ℕ) → a ≡ v + m → b ≡ v + n → m ≤ n → a ≤ b
    both a b v m n e g h = omega arith

    one : (a b v n : ℕ) → b ≡ v + n → a ≤ n → a ≤ b
    one a b v n e h = omega arith

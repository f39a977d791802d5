-- Steps of the loops that place operations.
use Rattle.std.proofs.Common.{◌≡◌, ℕ, zero, suc, ◌+◌, ◌-◌, ◌*◌, ◌^◌, ◌<◌, ◌≤◌, ◌≢◌, Bool, true, false, cond, nat_eq, List, [], ◌∷◌, ◌++◌, length, drop, filter, get_or, slice_set, sum_by, refl, sym, ◌∙◌, ap, subst, arith, inl, inr}
use Rattle.std.proofs.Math.Seq.{drop-cons}
use Rattle.std.proofs.Math.Nat.{mul-le-mul_right}
use Rattle.std.proofs.lemmas.Bool.Decides.{nat_tests}
use Rattle.std.proofs.lemmas.List.{append_assoc, get_or-set_same, get_or-set_other}
use Rattle.std.proofs.lemmas.List.Sums.{sum_by-cons}
use Rattle.platform_file.specs.Ticks.{TimedView}
use Rattle.schedule_model.specs.Operations.{cost_of, time_of}
use Rattle.flow_routes.specs.declared.flow.Route.{Route}
use Rattle.period_table.specs.declared.table.Piece.{Piece}
use Rattle.period_table.specs.Lanes.{LaneAt, lane_at}
use Rattle.period_table.specs.TableSchedules.{Placed, one_after_another, send_over, compute_at, sends_of_pieces, computes_of_routes, tasks_over, tasks_at, has_batch, has_arrived}
use Rattle.period_table.proofs.Chains.{true_or_false}

pub run_more : (make : ℕ → Placed) (lasts start next count left : ℕ) (old out new : List Placed) (item : Placed) → 0 < left → next ≡ start + lasts → item ≡ make start →
    new ≡ out ++ item ∷ [] → out ++ one_after_another make lasts start left ≡ old → new ++ one_after_another make lasts next (left - 1) ≡ old
run_more make lasts start next count zero old out new item some e i n h = absurd (omega arith)
run_more make lasts start next count (suc left) old out new item some e i n h =
    let g : suc left - 1 ≡ left = omega arith in
    rw (g, n, e, i) (append_assoc out (make start ∷ []) (one_after_another make lasts (start + lasts) left)) ∙ h

pub ends_more : (next cost left all : ℕ) → 0 < left → next + left * cost ≡ all → next + cost + (left - 1) * cost ≡ all
ends_more next cost zero all some h = absurd (omega arith)
ends_more next cost (suc left) all some h = let g : suc left - 1 ≡ left = omega arith in rw g (omega arith)

-- what is left of a list after a test, where the next item passes or not
pub kept_rest : {X : Type 0} (keep : X → Bool) (xs : List X) (k : ℕ) (d : X) → k < length xs → (b : Bool) → keep (get_or xs k d) ≡ b →
    filter keep (drop k xs) ≡ cond b (get_or xs k d ∷ filter keep (drop (k + 1) xs)) (filter keep (drop (k + 1) xs))
kept_rest keep xs k d l b e = let next : k + 1 ≡ suc k = omega arith in rw next (ap (filter keep) (drop-cons xs k d l) ∙ rw e refl)

-- ---- items that each bring a count to a place: pieces to links, and routes to nodes

module _ {X : Type 0} (place count : X → ℕ) where
  abbrev pub total : List X → ℕ
  total xs = sum_by count xs

  abbrev pub brought : ℕ → List X → ℕ
  brought at xs = sum_by (λ x. cond (nat_eq (place x) at) (count x) 0) xs

  -- what comes to one place is some of all
  pub within_total : (at : ℕ) (xs : List X) → brought at xs ≤ total xs
  within_total at [] = omega arith
  within_total at (x ∷ xs) =
      both (nat_eq (place x) at) (count x) _ _ _ _ (sum_by-cons (λ y. cond (nat_eq (place y) at) (count y) 0) x xs) (sum_by-cons count x xs) (within_total at xs)
    where
      both : (b : Bool) (count a m v n : ℕ) → a ≡ cond b count 0 + m → v ≡ count + n → m ≤ n → a ≤ v
      both true count a m v n e f h = omega arith
      both false count a m v n e f h = omega arith

  module _ (keep : X → Bool) (xs : List X) (k : ℕ) (d : X) (l : k < length xs) where
    abbrev pub left_from : ℕ → List X
    left_from j = filter keep (drop j xs)

    abbrev pub next_item : X
    next_item = get_or xs k d

    pub next_left : keep next_item ≡ true → left_from k ≡ next_item ∷ left_from (k + 1)
    next_left e = kept_rest keep xs k d l true e

    pub none_left_out : keep next_item ≡ false → left_from k ≡ left_from (k + 1)
    none_left_out e = kept_rest keep xs k d l false e

    pub count_moved : keep next_item ≡ true → (before : List X) → total before + total (left_from k) ≤ 4000000 → total (next_item ∷ before) + total (left_from (k + 1)) ≤ 4000000
    count_moved e before h = moved _ _ _ _ _ (sum_by-cons count next_item before) (ap total (next_left e) ∙ sum_by-cons count next_item (left_from (k + 1))) h
      where
        moved : (a v m b n : ℕ) → a ≡ v + m → b ≡ v + n → m + b ≤ 4000000 → a + n ≤ 4000000
        moved a v m b n e f h = omega arith

    -- what a place has so far and the next item together stay few
    pub few_so_far : keep next_item ≡ true → (before : List X) (at : ℕ) → total before + total (left_from k) ≤ 4000000 → brought at before + count next_item ≤ 4000000
    few_so_far e before at h = few _ _ _ _ _ (within_total at before) (ap total (next_left e) ∙ sum_by-cons count next_item (left_from (k + 1))) h
      where
        few : (a m b v n : ℕ) → a ≤ m → b ≡ v + n → m + b ≤ 4000000 → a + v ≤ 4000000
        few a m b v n e f h = omega arith

  -- what is noted of each place after an item
  pub noted_more : (before : List X) (x : X) (used : List ℕ) (all : ℕ) → all ≤ length used → place x < all →
      ((at : ℕ) → at < all → get_or used at 0 ≡ brought at before) → (at : ℕ) → at < all →
      get_or (slice_set used (place x) (get_or used (place x) 0 + count x)) at 0 ≡ brought at (x ∷ before)
  noted_more before x used all long own h at l =
      elim (true_or_false (nat_eq (place x) at)) [
        | inl same ↦
            let is : at ≡ place x = grind (arith, nat_tests) in
            subst (λ (at : ℕ). get_or (slice_set used (place x) (get_or used (place x) 0 + count x)) at 0 ≡ brought at (x ∷ before)) (sym is)
            (get_or-set_same used (place x) _ 0 (omega (arith, own, long)) ∙ added (get_or used (place x) 0) _ _ _ (h _ own) (brought_here (place x) (itself _)))
        | inr other ↦
            get_or-set_other used (place x) at _ 0 (differ _ _ other) ∙ h at l
            ∙ sym (skipped _ _ (sum_by-cons (λ y. cond (nat_eq (place y) at) (count y) 0) x before ∙ ap (λ b. cond b (count x) 0 + brought at before) other))
      ]
    where
      itself : (a : ℕ) → nat_eq a a ≡ true
      itself a = grind (arith, nat_tests)

      differ : (a b : ℕ) → nat_eq a b ≡ false → b ≢ a
      differ a b e f = grind (arith, nat_tests)

      brought_here : (at : ℕ) → nat_eq (place x) at ≡ true → brought at (x ∷ before) ≡ count x + brought at before
      brought_here at e = sum_by-cons (λ y. cond (nat_eq (place y) at) (count y) 0) x before ∙ rw e refl

      skipped : (a n : ℕ) → a ≡ 0 + n → a ≡ n
      skipped a n e = omega arith

      added : (a n m b : ℕ) → a ≡ n → b ≡ m + n → a + m ≡ b
      added a n m b e f = omega arith

abbrev pub link_of : List LaneAt → Piece → ℕ
link_of lanes piece = (lane_at lanes piece.lane).link

abbrev pub tasks_of : Piece → ℕ
tasks_of piece = piece.count

-- the sends of a slot, where the next piece is placed
pub piece_placed : (t : TimedView) (lanes : List LaneAt) (start period : ℕ) (pieces : List Piece) (k : ℕ) (d : Piece) (l : k < length pieces) →
    has_batch lanes period (get_or pieces k d) ≡ true → (before : List Piece) (old out new : List Placed) →
    out ++ sends_of_pieces t lanes start before (filter (has_batch lanes period) (drop k pieces)) ≡ old →
    new ≡ out ++ one_after_another (send_over lanes (get_or pieces k d).lane) (cost_of t (link_of lanes (get_or pieces k d)))
    (start + tasks_over lanes (link_of lanes (get_or pieces k d)) before * cost_of t (link_of lanes (get_or pieces k d))) (get_or pieces k d).count →
    new ++ sends_of_pieces t lanes start (get_or pieces k d ∷ before) (filter (has_batch lanes period) (drop (k + 1) pieces)) ≡ old
piece_placed t lanes start period pieces k d l e before old out new h n =
    rw n (append_assoc out _ (sends_of_pieces t lanes start (get_or pieces k d ∷ before) (filter (has_batch lanes period) (drop (k + 1) pieces))))
    ∙ ap (λ rest. out ++ sends_of_pieces t lanes start before rest) (sym (kept_rest (has_batch lanes period) pieces k d l true e)) ∙ h

-- the computations of a period, where the next route's are placed
pub route_placed : (t : TimedView) (start period : ℕ) (routes : List Route) (k : ℕ) (d : Route) (l : k < length routes) →
    has_arrived period (get_or routes k d) ≡ true → (before : List Route) (old out new : List Placed) →
    out ++ computes_of_routes t start before (filter (has_arrived period) (drop k routes)) ≡ old →
    new ≡ out ++ one_after_another (compute_at (get_or routes k d).end) (time_of t (get_or routes k d).end)
    (start + tasks_at (get_or routes k d).end before * time_of t (get_or routes k d).end) (get_or routes k d).count →
    new ++ computes_of_routes t start (get_or routes k d ∷ before) (filter (has_arrived period) (drop (k + 1) routes)) ≡ old
route_placed t start period routes k d l e before old out new h n =
    rw n (append_assoc out _ (computes_of_routes t start (get_or routes k d ∷ before) (filter (has_arrived period) (drop (k + 1) routes))))
    ∙ ap (λ rest. out ++ computes_of_routes t start before rest) (sym (kept_rest (has_arrived period) routes k d l true e)) ∙ h

-- how many ticks a place's tasks so far come to
pub record AreShort (start used lasts count : ℕ) : Type 0 where
  pub product : used * lasts < 2 ^ 128
  pub begin : start + used * lasts < 2 ^ 128
  pub ends : start + used * lasts + count * lasts < 2 ^ 128
  pub more : used + count < 2 ^ 128

pub are_short : (start used lasts count : ℕ) → start < 2 ^ 127 → lasts < 2 ^ 64 → used + count ≤ 4000000 → AreShort start used lasts count
are_short start used lasts count s l few =
    let most : (used + count) * lasts ≤ 4000000 * lasts = mul-le-mul_right lasts few in
    record { product = omega (arith, most, l); begin = omega (arith, most, l, s); ends = omega (arith, most, l, s); more = omega (arith, few) }

-- How many operations of a period pass a test: a sum over the lanes, and one over the routes.
use Rattle.std.proofs.Common.{◌≡◌, ℕ, zero, suc, ◌+◌, ◌*◌, ◌<◌, Bool, true, false, ◌&&◌, cond, nat_eq, nat_le, List, [], ◌∷◌, length, filter, refl, sym, ◌∙◌, arith, All, count_by, sum_by}
use Rattle.std.proofs.lemmas.Bool.Decides.{nat_tests}
use Rattle.std.proofs.lemmas.List.Elements.{All-head, All-tail}
use Rattle.std.proofs.lemmas.List.Sums.{sum_by-cons, sum_by-append}
use Rattle.platform_file.specs.Ticks.{TimedView}
use Rattle.flow_routes.specs.declared.flow.Route.{Route}
use Rattle.period_table.specs.declared.table.Slot.{Slot}
use Rattle.period_table.specs.declared.table.Piece.{Piece}
use Rattle.period_table.specs.Lanes.{LaneAt, lane_at}
use Rattle.period_table.specs.TableSchedules.{Placed, send_over, compute_at, one_after_another, sends_of_pieces, sends_of_slots, computes_of_routes, has_batch, tasks_over, tasks_at}
use Rattle.schedule_model.specs.Operations.{cost_of, time_of}
use Rattle.period_table.specs.Tables.{IsPiece, IsSlot, moved_over}
use Rattle.period_table.proofs.Runs.{run_count, sum_filter}

-- sums of terms that agree
pub sum_same : {X : Type 0} (f g : X → ℕ) (xs : List X) → ((x : X) → f x ≡ g x) → sum_by f xs ≡ sum_by g xs
sum_same f g [] h = refl
sum_same f g (x ∷ xs) h = sum_by-cons f x xs ∙ rw (h x, sum_same f g xs h) refl ∙ sym (sum_by-cons g x xs)

-- a test passes a send by its lane, and a computation by its node
module _ (t : TimedView) (lanes : List LaneAt) (f : Placed → Bool) (pass : ℕ → Bool) where
  pub pieces_count : ((lane s : ℕ) → f (send_over lanes lane s) ≡ pass lane) → (start : ℕ) (before pieces : List Piece) →
      count_by f (sends_of_pieces t lanes start before pieces) ≡ sum_by (λ piece. cond (pass piece.lane) piece.count 0) pieces
  pieces_count h start before [] = refl
  pieces_count h start before (piece ∷ pieces) =
      sum_by-append (λ p. cond (f p) 1 0) (one_after_another (send_over lanes piece.lane) (cost_of t (lane_at lanes piece.lane).link)
      (start + tasks_over lanes (lane_at lanes piece.lane).link before * cost_of t (lane_at lanes piece.lane).link) piece.count)
      (sends_of_pieces t lanes start (piece ∷ before) pieces)
      ∙ rw (
        run_count f (send_over lanes piece.lane) (cost_of t (lane_at lanes piece.lane).link) (pass piece.lane) (λ s. h piece.lane s)
            (start + tasks_over lanes (lane_at lanes piece.lane).link before * cost_of t (lane_at lanes piece.lane).link) piece.count,
        pieces_count h start (piece ∷ before) pieces,
      ) refl
      ∙ sym (sum_by-cons (λ piece. cond (pass piece.lane) piece.count 0) piece pieces)

  pub routes_count : ((node s : ℕ) → f (compute_at node s) ≡ pass node) → (start : ℕ) (before routes : List Route) →
      count_by f (computes_of_routes t start before routes) ≡ sum_by (λ route. cond (pass route.end) route.count 0) routes
  routes_count h start before [] = refl
  routes_count h start before (route ∷ routes) =
      sum_by-append (λ p. cond (f p) 1 0) (one_after_another (compute_at route.end) (time_of t route.end) (start + tasks_at route.end before * time_of t route.end) route.count)
      (computes_of_routes t start (route ∷ before) routes)
      ∙ rw (
        run_count f (compute_at route.end) (time_of t route.end) (pass route.end) (λ s. h route.end s)
            (start + tasks_at route.end before * time_of t route.end) route.count,
        routes_count h start (route ∷ before) routes,
      ) refl
      ∙ sym (sum_by-cons (λ route. cond (pass route.end) route.count 0) route routes)

pub cond_and : (a b : Bool) (n : ℕ) → cond a (cond b n 0) 0 ≡ cond (a && b) n 0
cond_and true b n = refl
cond_and false b n = refl

-- what pieces that pass a test move in some slots
abbrev pub moved_by : (ℕ → Bool) → List Slot → ℕ
moved_by g slots = sum_by (λ slot. sum_by (λ piece. cond (g piece.lane) piece.count 0) slot.pieces) slots

pub slots_count : (t : TimedView) (lanes : List LaneAt) (f : Placed → Bool) (pass : ℕ → Bool) → ((lane s : ℕ) → f (send_over lanes lane s) ≡ pass lane) →
    (period start : ℕ) (slots : List Slot) →
    count_by f (sends_of_slots t lanes period start slots) ≡ moved_by (λ lane. nat_le (lane_at lanes lane).hop period && pass lane) slots
slots_count t lanes f pass h period start [] = refl
slots_count t lanes f pass h period start (slot ∷ slots) =
    sum_by-append (λ p. cond (f p) 1 0) (sends_of_pieces t lanes start [] (filter (has_batch lanes period) slot.pieces)) (sends_of_slots t lanes period (start + slot.duration) slots)
    ∙ rw (one_slot, slots_count t lanes f pass h period (start + slot.duration) slots) refl
    ∙ sym (sum_by-cons (λ slot. sum_by (λ piece. cond (nat_le (lane_at lanes piece.lane).hop period && pass piece.lane) piece.count 0) slot.pieces) slot slots)
  where
    one_slot : count_by f (sends_of_pieces t lanes start [] (filter (has_batch lanes period) slot.pieces)) ≡
        sum_by (λ piece. cond (nat_le (lane_at lanes piece.lane).hop period && pass piece.lane) piece.count 0) slot.pieces
    one_slot =
        pieces_count t lanes f pass h start [] (filter (has_batch lanes period) slot.pieces)
        ∙ sum_filter (λ piece. cond (pass piece.lane) piece.count 0) (has_batch lanes period) slot.pieces
        ∙ sum_same (λ piece. cond (has_batch lanes period piece) (cond (pass piece.lane) piece.count 0) 0)
        (λ piece. cond (nat_le (lane_at lanes piece.lane).hop period && pass piece.lane) piece.count 0) slot.pieces
        (λ piece. cond_and (nat_le (lane_at lanes piece.lane).hop period) (pass piece.lane) piece.count)

-- ---- a sum over pieces as a sum over lanes

module _ (pass : LaneAt → Bool) where
  -- what is carried over the lanes that pass, where `amount` says it by a lane's number
  abbrev weigh : (ℕ → ℕ) → ℕ → List LaneAt → ℕ
  weigh amount j [] = 0
  weigh amount j (lane ∷ lanes) = cond (pass lane) (amount j) 0 + weigh amount (j + 1) lanes

  weigh_same : (f g : ℕ → ℕ) → ((j : ℕ) → f j ≡ g j) → (j : ℕ) (lanes : List LaneAt) → weigh f j lanes ≡ weigh g j lanes
  weigh_same f g h j [] = refl
  weigh_same f g h j (lane ∷ lanes) = rw (h j, weigh_same f g h (j + 1) lanes) refl

  weigh_none : (j : ℕ) (lanes : List LaneAt) → weigh (λ i. 0) j lanes ≡ 0
  weigh_none j [] = refl
  weigh_none j (lane ∷ lanes) = rw (weigh_none (j + 1) lanes) (either (pass lane))
    where
      either : (b : Bool) → cond {A = ℕ} b 0 0 + 0 ≡ 0
      either true = refl
      either false = refl

  weigh_sum : (f g : ℕ → ℕ) (j : ℕ) (lanes : List LaneAt) → weigh (λ i. f i + g i) j lanes ≡ weigh f j lanes + weigh g j lanes
  weigh_sum f g j [] = refl
  weigh_sum f g j (lane ∷ lanes) = rw (weigh_sum f g (j + 1) lanes) (either (pass lane) (f j) (g j) (weigh f (j + 1) lanes) (weigh g (j + 1) lanes))
    where
      either : (b : Bool) (m n v w : ℕ) → cond b (m + n) 0 + (v + w) ≡ (cond b m 0 + v) + (cond b n 0 + w)
      either true m n v w = omega arith
      either false m n v w = omega arith

  weigh_before : (lane count j : ℕ) (lanes : List LaneAt) → lane < j → weigh (λ i. cond (nat_eq lane i) count 0) j lanes ≡ 0
  weigh_before lane count j [] h = refl
  weigh_before lane count j (one ∷ lanes) h =
      rw (other lane j h, weigh_before lane count (j + 1) lanes (omega arith)) (either (pass one))
    where
      other : (a b : ℕ) → a < b → nat_eq a b ≡ false
      other a b h = grind (arith, nat_tests)

      either : (b : Bool) → cond {A = ℕ} b 0 0 + 0 ≡ 0
      either true = refl
      either false = refl

  weigh_one : (place lane count j : ℕ) (lanes : List LaneAt) → lane ≡ j + place → place < length lanes →
      weigh (λ i. cond (nat_eq lane i) count 0) j lanes ≡ cond (pass (lane_at lanes place)) count 0
  weigh_one place lane count j [] e h = absurd (omega arith)
  weigh_one zero lane count j (one ∷ lanes) e h =
      rw (here lane j (omega arith), weigh_before lane count (j + 1) lanes (omega arith)) (omega arith)
    where
      here : (a b : ℕ) → a ≡ b → nat_eq a b ≡ true
      here a b h = grind (arith, nat_tests)
  weigh_one (suc place) lane count j (one ∷ lanes) e h =
      rw (other lane j (omega arith), weigh_one place lane count (j + 1) lanes (omega arith) (omega arith)) (either (pass one) (cond (pass (lane_at lanes place)) count 0))
    where
      other : (a b : ℕ) → b < a → nat_eq a b ≡ false
      other a b h = grind (arith, nat_tests)

      either : (b : Bool) (n : ℕ) → cond {A = ℕ} b 0 0 + n ≡ n
      either true n = omega arith
      either false n = omega arith

  weigh_counts : (amount : ℕ → ℕ) (j : ℕ) (lanes : List LaneAt) → ((i : ℕ) → i < length lanes → amount (j + i) ≡ (lane_at lanes i).count) →
      weigh amount j lanes ≡ sum_by (λ lane. cond (pass lane) lane.count 0) lanes
  weigh_counts amount j [] h = refl
  weigh_counts amount j (lane ∷ lanes) h =
      let e : j + 0 ≡ j = omega arith in
      let first : amount j ≡ lane.count = rw e at (h 0 (omega arith)) in
      rw (first, weigh_counts amount (j + 1) lanes (λ i l. (let k : j + 1 + i ≡ j + suc i = omega arith in rw k (h (suc i) (omega arith))))) refl
      ∙ sym (sum_by-cons (λ lane. cond (pass lane) lane.count 0) lane lanes)

  module _ (lanes : List LaneAt) where
    exchange_pieces : (pieces : List Piece) → All (IsPiece lanes) pieces →
        sum_by (λ piece. cond (pass (lane_at lanes piece.lane)) piece.count 0) pieces ≡ weigh (λ j. sum_by (λ piece. cond (nat_eq piece.lane j) piece.count 0) pieces) 0 lanes
    exchange_pieces [] h = sym (weigh_none 0 lanes)
    exchange_pieces (piece ∷ pieces) h =
        sum_by-cons (λ piece. cond (pass (lane_at lanes piece.lane)) piece.count 0) piece pieces
        ∙ rw (← weigh_one piece.lane piece.lane piece.count 0 lanes (omega arith) (All-head (IsPiece lanes) piece pieces h).lane, exchange_pieces pieces (All-tail (IsPiece lanes) piece pieces h)) refl
        ∙ sym (weigh_sum (λ j. cond (nat_eq piece.lane j) piece.count 0) (λ j. sum_by (λ piece. cond (nat_eq piece.lane j) piece.count 0) pieces) 0 lanes)
        ∙ weigh_same (λ j. cond (nat_eq piece.lane j) piece.count 0 + sum_by (λ piece. cond (nat_eq piece.lane j) piece.count 0) pieces)
        (λ j. sum_by (λ piece. cond (nat_eq piece.lane j) piece.count 0) (piece ∷ pieces))
        (λ j. sym (sum_by-cons (λ piece. cond (nat_eq piece.lane j) piece.count 0) piece pieces)) 0 lanes

    exchange : (slots : List Slot) → All (IsSlot lanes) slots → moved_by (λ lane. pass (lane_at lanes lane)) slots ≡ weigh (λ j. moved_over j slots) 0 lanes
    exchange [] h = sym (weigh_none 0 lanes)
    exchange (slot ∷ slots) h =
        sum_by-cons (λ slot. sum_by (λ piece. cond (pass (lane_at lanes piece.lane)) piece.count 0) slot.pieces) slot slots
        ∙ rw (exchange_pieces slot.pieces (All-head (IsSlot lanes) slot slots h).pieces, exchange slots (All-tail (IsSlot lanes) slot slots h)) refl
        ∙ sym (weigh_sum (λ j. sum_by (λ piece. cond (nat_eq piece.lane j) piece.count 0) slot.pieces) (λ j. moved_over j slots) 0 lanes)
        ∙ weigh_same (λ j. sum_by (λ piece. cond (nat_eq piece.lane j) piece.count 0) slot.pieces + moved_over j slots) (λ j. moved_over j (slot ∷ slots))
        (λ j. sym (sum_by-cons (λ slot. sum_by (λ piece. cond (nat_eq piece.lane j) piece.count 0) slot.pieces) slot slots)) 0 lanes

    -- what the slots move over the lanes that pass is what these lanes carry
    pub moved_is_carried : (slots : List Slot) → All (IsSlot lanes) slots → ((lane : ℕ) → lane < length lanes → moved_over lane slots ≡ (lane_at lanes lane).count) →
        moved_by (λ lane. pass (lane_at lanes lane)) slots ≡ sum_by (λ lane. cond (pass lane) lane.count 0) lanes
    moved_is_carried slots h moved =
        exchange slots h ∙ weigh_counts (λ j. moved_over j slots) 0 lanes (λ i l. (let e : 0 + i ≡ i = omega arith in rw e (moved i l)))

-- What is known of the parts of a table that fits.
use Rattle.std.proofs.Common.{◌≡◌, ℕ, ◌+◌, ◌*◌, ◌^◌, ◌<◌, ◌≤◌, true, false, List, [], length, filter, refl, ◌∷◌, None, slice_index_or, sym, ap, ◌∙◌, subst, arith, inl, inr, All, sum_by}
use Rattle.std.specs.Prelude.{IsSome}
use Rattle.std.proofs.lemmas.Bool.{cases_lt}
use Rattle.std.proofs.lemmas.List.{length-map, length-append}
use Rattle.std.proofs.lemmas.List.Sums.{sum_by-cons}
use Rattle.std.proofs.lemmas.List.Elements.{All-get_or, All-head, All-tail, All-cons, All-nil, All-append, All-weaker}
use Rattle.std.proofs.Math.ListN.{get_or-eq_default}
use Rattle.std.proofs.Math.Nat.{mul-le-mul_right}
use Rattle.platform_file.specs.Platform.{IsTarget}
use Rattle.platform_file.specs.Ticks.{TimedView, IsTimed}
use Rattle.schedule_model.specs.Operations.{time_of}
use Rattle.schedule_model.specs.declared.schedule.Series.{Series}
use Rattle.schedule_model.specs.declared.schedule.Series.TheVariants.{Tasking, Scatter}
use Rattle.flow_routes.specs.declared.flow.Route.{Route}
use Rattle.period_table.specs.declared.table.Table.{Table}
use Rattle.period_table.specs.Lanes.{LaneAt, lanes_of, lanes_from}
use Rattle.period_table.specs.TableSchedules.{one_after_another, compute_at, computes_of_routes, sends_of_slots, period_ops, tasks_at, has_arrived}
use Rattle.period_table.specs.declared.table.Slot.{Slot}
use Rattle.period_table.specs.Tables.{Fits, IsRoute, IsSlot}
use Rattle.period_table.proofs.BusySends.{length_run}
use Rattle.period_table.proofs.TableInRange.{IsLane, lanes_in_range}

lane_exists : (t : TimedView) (series : Series) (lane : LaneAt) → IsLane t series lane → lane.link < length t.platform.links
lane_exists t Tasking lane good = (good 0).0.0
lane_exists t Scatter lane good = (good 0).0.0

pub links_exist : (t : TimedView) (series : Series) (table : Table) → Fits t series table → All (λ lane. lane.link < length t.platform.links) (lanes_of table.routes)
links_exist t series table fits =
    All-weaker (IsLane t series) (λ lane. lane.link < length t.platform.links) (λ lane good. lane_exists t series lane good) (lanes_of table.routes) (lanes_in_range t series table.routes fits.routes)

node_exists : (t : TimedView) → IsTimed t → (node : ℕ) → IsSome (slice_index_or t.times node None) → node < length t.platform.nodes
node_exists t timed node some =
    elim (cases_lt node (length t.times)) [
      | inl inside ↦ rw (ap length timed.times ∙ length-map t.platform.nodes _) at inside
      | inr past ↦ let none : false ≡ true = rw (get_or-eq_default t.times None past) at some in cc
    ]

-- where a route ends
pub end_exists : (t : TimedView) (series : Series) (route : Route) → IsTimed t → IsRoute t series route → route.end < length t.platform.nodes
end_exists t Tasking route timed r = node_exists t timed route.end r.ending.1
end_exists t Scatter route timed r =
    rw r.ending.1 (All-get_or (IsTarget t.platform.nodes t.platform.master) t.platform.targets route.kind 0 r.ending.0 timed.platform.targets).exists

pub ends_exist : (t : TimedView) → IsTimed t → (table : Table) → Fits t Tasking table → All (λ route. route.end < length t.platform.nodes) table.routes
ends_exist t timed table fits =
    All-weaker (IsRoute t Tasking) (λ route. route.end < length t.platform.nodes) (λ route r. node_exists t timed route.end r.ending.1) table.routes fits.routes

-- a period starts early enough for all that is placed in it
pub starts_early : (p period : ℕ) → p < 1000000 → period ≤ 2 ^ 100 → p * period + period < 2 ^ 127
starts_early p period few short = let most : (p + 1) * period ≤ 1000000 * period = mul-le-mul_right period (omega (arith, few)) in omega (arith, most, short)

-- as many computations as the routes bring tasks
length_computes : (t : TimedView) (start : ℕ) (before routes : List Route) → length (computes_of_routes t start before routes) ≡ sum_by (λ route. route.count) routes
length_computes t start before [] = refl
length_computes t start before (route ∷ routes) =
    length-append (one_after_another (compute_at route.end) (time_of t route.end) (start + tasks_at route.end before * time_of t route.end) route.count)
    (computes_of_routes t start (route ∷ before) routes)
    ∙ rw (length_run (compute_at route.end) (time_of t route.end) (start + tasks_at route.end before * time_of t route.end) route.count, length_computes t start (route ∷ before) routes) refl
    ∙ sym (sum_by-cons (λ (r : Route). r.count) route routes)

pub few_computes : (t : TimedView) (series : Series) (table : Table) (p : ℕ) → series ≡ Tasking → length (period_ops t series table p) ≤ 4000000 →
    sum_by (λ route. route.count) (filter (has_arrived p) table.routes) ≤ 4000000
few_computes t series table p e few =
    let tasking : length (period_ops t Tasking table p) ≤ 4000000 = subst (λ s. length (period_ops t s table p) ≤ 4000000) e few in
    within _ _ _ _ (length-append (sends_of_slots t (lanes_of table.routes) p (p * table.period) table.slots) (computes_of_routes t (p * table.period) [] (filter (has_arrived p) table.routes)))
    (length_computes t (p * table.period) [] (filter (has_arrived p) table.routes)) tasking
  where
    within : (a b n v : ℕ) → a ≡ b + n → n ≡ v → a ≤ 4000000 → v ≤ 4000000
    within a b n v e f h = omega arith

-- what all lanes of routes carry
lanes_carry : (P : ℕ → Type 0) (kind count hop : ℕ) (links : List ℕ) → P count → All (λ lane. P lane.count) (lanes_from kind count hop links)
lanes_carry P kind count hop [] h = All-nil (λ (lane : LaneAt). P lane.count)
lanes_carry P kind count hop (link ∷ links) h =
    All-cons (λ (lane : LaneAt). P lane.count) (record { link = link; hop = hop; kind = kind; count = count }) (lanes_from kind count (hop + 1) links) h (lanes_carry P kind count (hop + 1) links h)

pub all_carry : (P : ℕ → Type 0) (routes : List Route) → All (λ route. P route.count) routes → All (λ lane. P lane.count) (lanes_of routes)
all_carry P [] h = All-nil (λ (lane : LaneAt). P lane.count)
all_carry P (route ∷ routes) h =
    All-append (λ (lane : LaneAt). P lane.count) (lanes_from route.kind route.count 0 route.links) (lanes_of routes)
    (lanes_carry P route.kind route.count 0 route.links (All-head (λ (r : Route). P r.count) route routes h)) (all_carry P routes (All-tail (λ (r : Route). P r.count) route routes h))

pub lanes_bounded : (t : TimedView) (series : Series) (table : Table) → Fits t series table → All (λ lane. lane.count ≤ 2 ^ 100) (lanes_of table.routes)
lanes_bounded t series table fits =
    all_carry (λ n. n ≤ 2 ^ 100) table.routes (All-weaker (IsRoute t series) (λ route. route.count ≤ 2 ^ 100) (λ route r. r.bounded) table.routes fits.routes)

-- slots last, and so does a period
pub slots_last : (lanes : List LaneAt) (slots : List Slot) → 1 ≤ length slots → All (IsSlot lanes) slots → 1 ≤ sum_by (λ slot. slot.duration) slots
slots_last lanes [] some each = absurd (omega arith)
slots_last lanes (slot ∷ slots) some each = more _ _ _ (sum_by-cons (λ (s : Slot). s.duration) slot slots) (All-head (IsSlot lanes) slot slots each).some
  where
    more : (a b n : ℕ) → n ≡ a + b → 1 ≤ a → 1 ≤ n
    more a b n e l = omega arith

pub some_period : (t : TimedView) (series : Series) (table : Table) → Fits t series table → 1 ≤ table.period
some_period t series table fits = rw fits.period (slots_last (lanes_of table.routes) table.slots fits.some_slot fits.slots)

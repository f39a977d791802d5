-- The table that a solution makes fits and keeps the ports.
use Rattle.std.proofs.Common.{◌≡◌, ℕ, zero, suc, ◌+◌, ◌*◌, ◌/◌, ◌^◌, ◌<◌, ◌≤◌, true, cond, nat_eq, List, [], ◌∷◌, length, map, max, get_or, All, Some, sum_by, refl, sym, ap, ◌∙◌, arith, inl, inr}
use Prim.Native.Nat.{◌∣◌}
use Rattle.std.specs.List.{slice_get}
use Rattle.std.proofs.Math.Nat.{mul_assoc, mul_comm, div-mul_cancel, mul-le-mul_left, mul-le-mul_right, le_of_mul-le-mul_right, div-le_self, pow-suc, pow-zero}
use Rattle.std.proofs.lemmas.Nat.Gcd.{dvd_of_mod-eq-zero}
use Rattle.std.proofs.lemmas.Bool.{cases_lt}
use Rattle.std.proofs.lemmas.Bool.Decides.{nat_tests}
use Rattle.std.proofs.lemmas.List.{length-map, length-append}
use Rattle.std.proofs.lemmas.List.Elements.{All-head, All-tail, All-cons, All-nil, All-append, All-map, All-weaker, All-get_or}
use Rattle.std.proofs.lemmas.List.Folds.{list_any_at}
use Rattle.std.proofs.lemmas.List.Sums.{sum_by-cons, sum_by-append, sum_by_more_le}
use Rattle.std.proofs.lemmas.Option.{slice_get-get_or}
use Rattle.ratio_core.specs.Fraction.{gcd_of}
use Rattle.ratio_core.proofs.GcdLemmas.{quotient_positive}
use Rattle.platform_file.specs.Ticks.{TimedView, IsTimed}
use Rattle.schedule_model.specs.declared.schedule.Series.{Series}
use Rattle.schedule_model.specs.declared.schedule.Series.TheVariants.{Tasking, Scatter}
use Rattle.schedule_model.specs.Operations.{cost_of, time_of}
use Rattle.flow_routes.specs.Routes.{carried, brought}
use Rattle.flow_routes.specs.declared.flow.Route.{Route}
use Rattle.bipartite_slots.specs.Parts.{is_in, SharesNothing}
use Rattle.bipartite_slots.specs.declared.weights.SlotPart.{SlotPart}
use Rattle.period_table.specs.declared.table.Table.{Table}
use Rattle.period_table.specs.Lanes.{LaneAt, lanes_from, lanes_of, lane_at}
use Rattle.period_table.specs.Cuts.{IsSeparate, carried_on, room_of, cut_slots}
use Rattle.period_table.specs.Tables.{EndsWell, IsRoute, IsSlot, IsMatching, HasTasks, HasTime, Fits, KeepsPorts, longest, moved_over}
use Rattle.series_routes.specs.declared.numbers.Scale.{Scale}
use Rattle.series_routes.specs.Loads.{edge_of, weights_of}
use Rattle.planner.specs.Scales.{part_numbers, common_factor, scaled_route, scaled_part}
use Rattle.series_routes.specs.Routings.{tasks_of_kind}
use Rattle.series_routes.specs.Solutions.{IsRouteOf}
use Rattle.planner.specs.Solutions.{IsSolution}
use Rattle.planner.specs.Making.{table_with}
use Rattle.series_flows.proofs.Terms.{length_terms, term_there}
use Rattle.planner.proofs.Divisors.{some_divisor, of_period, of_routes, of_parts}
use Rattle.series_routes.proofs.Routed.{walk_links}
use Rattle.planner.proofs.Rooms.{counts_scaled, kinds_scaled, ends_scaled, carried_scaled, room_enough, all_ticks_scaled}
use Rattle.series_routes.proofs.RouteLinks.{carries_none}
use Rattle.planner.proofs.LanesCarry.{lanes_carry}

-- ---- lanes and lengths

longest_within : (n : ℕ) (routes : List Route) → All (λ (route : Route). length route.links ≤ n) routes → longest routes ≤ n
longest_within n [] short = omega arith
longest_within n (route ∷ routes) short =
    both _ _ (All-head (λ (r : Route). length r.links ≤ n) route routes short) (longest_within n routes (All-tail (λ (r : Route). length r.links ≤ n) route routes short))
  where
    both : (a b : ℕ) → a ≤ n → b ≤ n → max a b ≤ n
    both a b h k = omega arith

lanes_long : (kind count hop : ℕ) (links : List ℕ) → length (lanes_from kind count hop links) ≡ length links
lanes_long kind count hop [] = refl
lanes_long kind count hop (link ∷ links) = ap suc (lanes_long kind count (hop + 1) links)

few_lanes : (n : ℕ) (routes : List Route) → All (λ (route : Route). length route.links ≤ n) routes → length (lanes_of routes) ≤ length routes * n
few_lanes n [] short = omega arith
few_lanes n (route ∷ routes) short =
    both _ _ _ _ _ (length-append (lanes_from route.kind route.count 0 route.links) (lanes_of routes)) (lanes_long route.kind route.count 0 route.links)
    (All-head (λ (r : Route). length r.links ≤ n) route routes short) (few_lanes n routes (All-tail (λ (r : Route). length r.links ≤ n) route routes short))
  where
    both : (a b c d r : ℕ) → a ≡ b + c → b ≡ d → d ≤ n → c ≤ r * n → a ≤ suc r * n
    both a b c d r e f h k = omega (arith, e, f, h, k)

lane_counts : (kind count hop : ℕ) (links : List ℕ) → sum_by (λ (lane : LaneAt). lane.count) (lanes_from kind count hop links) ≡ length links * count
lane_counts kind count hop [] = omega arith
lane_counts kind count hop (link ∷ links) =
    more _ _ _ (sum_by-cons (λ (lane : LaneAt). lane.count) (record { link = link; hop = hop; kind = kind; count = count }) (lanes_from kind count (hop + 1) links)) (lane_counts kind count (hop + 1) links)
  where
    more : (a b n : ℕ) → a ≡ count + b → b ≡ n * count → a ≡ suc n * count
    more a b n e f = omega (arith, e, f)

light_lanes : (n : ℕ) (routes : List Route) → All (λ (route : Route). length route.links ≤ n) routes → sum_by (λ (lane : LaneAt). lane.count) (lanes_of routes) ≤ n * sum_by (λ (route : Route). route.count) routes
light_lanes n [] short = omega arith
light_lanes n (route ∷ routes) short =
    both _ _ _ _ _ _ _ (sum_by-append (λ (lane : LaneAt). lane.count) (lanes_from route.kind route.count 0 route.links) (lanes_of routes)) (lane_counts route.kind route.count 0 route.links)
    (mul-le-mul_right route.count (All-head (λ (r : Route). length r.links ≤ n) route routes short))
    (light_lanes n routes (All-tail (λ (r : Route). length r.links ≤ n) route routes short)) (sum_by-cons (λ (r : Route). r.count) route routes)
  where
    both : (a b c d s v r : ℕ) → a ≡ b + c → b ≡ d → d ≤ n * v → c ≤ n * r → s ≡ v + r → a ≤ n * s
    both a b c d s v r e f h k i = let all : n * s ≡ n * (v + r) = ap (λ m. n * m) i in omega (arith, e, f, h, k, all)

links_there : (n kind count hop : ℕ) (links : List ℕ) → All (λ k. k < n) links → All (λ (lane : LaneAt). lane.link < n) (lanes_from kind count hop links)
links_there n kind count hop [] inside = All-nil (λ (lane : LaneAt). lane.link < n)
links_there n kind count hop (link ∷ links) inside =
    All-cons (λ (lane : LaneAt). lane.link < n) _ (lanes_from kind count (hop + 1) links) (All-head (λ k. k < n) link links inside)
    (links_there n kind count (hop + 1) links (All-tail (λ k. k < n) link links inside))

pub lanes_there : (n : ℕ) (routes : List Route) → All (λ (route : Route). All (λ k. k < n) route.links) routes → All (λ (lane : LaneAt). lane.link < n) (lanes_of routes)
lanes_there n [] inside = All-nil (λ (lane : LaneAt). lane.link < n)
lanes_there n (route ∷ routes) inside =
    All-append (λ (lane : LaneAt). lane.link < n) (lanes_from route.kind route.count 0 route.links) (lanes_of routes)
    (links_there n route.kind route.count 0 route.links (All-head (λ (r : Route). All (λ k. k < n) r.links) route routes inside))
    (lanes_there n routes (All-tail (λ (r : Route). All (λ k. k < n) r.links) route routes inside))

-- ---- numbers

-- what is divided stays at most what it was
lesser : (a g b : ℕ) → 1 ≤ g → a * g ≡ b → a ≤ b
lesser a g b some e = let most : a * 1 ≤ a * g = mul-le-mul_left a some in omega (arith, most, e)

-- equal multiples are of equal numbers
pub same_factor : (a b g : ℕ) → 1 ≤ g → a * g ≡ b * g → a ≡ b
same_factor a b g some e =
    let below : a ≤ b = le_of_mul-le-mul_right {k = g} (omega (arith, e)) some in
    let above : b ≤ a = le_of_mul-le-mul_right {k = g} (omega (arith, e)) some in
    omega (arith, below, above)

products : (a b c d : ℕ) → a ≤ c → b ≤ d → a * b ≤ c * d
products a b c d h k = let one : a * b ≤ c * b = mul-le-mul_right b h in let two : c * b ≤ c * d = mul-le-mul_left c k in omega (arith, one, two)

-- what is scaled ends where it did
ends_well : (t : TimedView) (series : Series) (times g : ℕ) (route : Route) → EndsWell t series route → EndsWell t series (scaled_route times g route)
ends_well t Tasking times g route ends = ends
ends_well t Scatter times g route ends = ends

-- where all are of the first kind, its tasks are all
all_first : (routes : List Route) → All (λ (route : Route). route.kind ≡ 0) routes → tasks_of_kind 0 routes ≡ sum_by (λ (route : Route). route.count) routes
all_first [] first = refl
all_first (route ∷ routes) first =
    let same : nat_eq route.kind 0 ≡ true = let is = All-head (λ (r : Route). r.kind ≡ 0) route routes first in grind (arith, nat_tests) in
    both _ _ _ _ _ (sum_by-cons (λ (r : Route). cond (nat_eq r.kind 0) r.count 0) route routes) (rw same refl) (all_first routes (All-tail (λ (r : Route). r.kind ≡ 0) route routes first)) (sum_by-cons (λ (r : Route). r.count) route routes)
  where
    both : (a v b d c : ℕ) → a ≡ v + b → v ≡ route.count → b ≡ c → d ≡ route.count + c → a ≡ d
    both a v b d c e f h k = omega (arith, e, f, h, k)

module _ (t : TimedView) (series : Series) (scale : Scale) (routes : List Route) (parts : List SlotPart) (timed : IsTimed t) (s : IsSolution t series scale routes parts) where
  abbrev times : ℕ
  times = scale.times

  abbrev g : ℕ
  g = common_factor t scale.times scale.ticks routes parts

  whole_routes : All (λ (route : Route). g ∣ route.count * times) routes
  whole_routes = of_routes t scale.times scale.ticks routes parts

  whole_parts : All (λ (part : SlotPart). All (λ n. g ∣ n) (part_numbers t times part)) parts
  whole_parts = of_parts t scale.times scale.ticks routes parts

  some_period : 1 ≤ scale.ticks * times
  some_period = let least = products 1 1 scale.ticks times s.routing.some_ticks s.routing.some_times in omega (arith, least)

  pub some_g : 1 ≤ g
  some_g = some_divisor g (scale.ticks * times) some_period (of_period t scale.times scale.ticks routes parts)

  -- ---- before the division

  pub period_small : scale.ticks * times < 2 ^ 128
  period_small = omega (arith, s.routing.short)

  pub counts_small : All (λ (route : Route). route.count * times < 2 ^ 128) routes
  counts_small =
      All-weaker (IsRouteOf t series scale.ticks) (λ (route : Route). route.count * times < 2 ^ 128) (λ (route : Route) (r : IsRouteOf t series scale.ticks route). let most : route.count * times ≤ scale.ticks * times = mul-le-mul_right times r.bounded in omega (arith, most, s.routing.short)) routes s.routing.are_routes

  -- no part lasts longer than all
  part_short : (k : ℕ) (d : SlotPart) → k < length parts → (get_or parts k d).duration ≤ scale.ticks
  part_short k d l = let more = sum_by_more_le (λ (part : SlotPart). part.duration) parts k d l in omega (arith, more, s.are_parts.whole)

  pub parts_small : All (λ (part : SlotPart). part.duration * times < 2 ^ 128) parts
  parts_small k d l = let most : (get_or parts k d).duration * times ≤ scale.ticks * times = mul-le-mul_right times (part_short k d l) in omega (arith, most, s.routing.short)

  edges_long : length (weights_of t routes).edges ≡ length t.platform.links
  edges_long = length_terms (edge_of t routes) (length t.platform.links)

  pub edges_there : All (λ (part : SlotPart). All (λ link. link < length t.platform.links) part.edges) parts
  edges_there = rw edges_long at s.are_parts.exist

  -- ---- behind it

  abbrev new_routes : List Route
  new_routes = map (scaled_route times g) routes

  abbrev new_parts : List SlotPart
  new_parts = map (scaled_part times g) parts

  links_inside : All (λ (route : Route). All (λ k. k < length t.platform.links) route.links) routes
  links_inside =
      All-weaker (IsRouteOf t series scale.ticks) (λ (route : Route). All (λ k. k < length t.platform.links) route.links) (λ (route : Route) (r : IsRouteOf t series scale.ticks route). walk_links t route.links route.end r.walk) routes s.routing.are_routes

  pub new_lanes_there : All (λ (lane : LaneAt). lane.link < length t.platform.links) (lanes_of new_routes)
  new_lanes_there = lanes_there (length t.platform.links) new_routes (All-map (λ (route : Route). All (λ k. k < length t.platform.links) route.links) (scaled_route times g) routes links_inside)

  new_short : All (λ (route : Route). length route.links ≤ 32) new_routes
  new_short =
      All-map (λ (route : Route). length route.links ≤ 32) (scaled_route times g) routes
      (All-weaker (IsRouteOf t series scale.ticks) (λ (route : Route). length route.links ≤ 32) (λ (route : Route) (r : IsRouteOf t series scale.ticks route). omega (arith, r.short, timed.platform.few_nodes)) routes s.routing.are_routes)

  pub deep : longest new_routes ≤ 32
  deep = longest_within 32 new_routes new_short

  pub lanes_few : length (lanes_of new_routes) < 2 ^ 32
  lanes_few = let most = few_lanes 32 new_routes new_short in omega (arith, most, length-map routes (scaled_route times g), s.routing.few_routes)

  counts_few : sum_by (λ (route : Route). route.count) new_routes ≤ 2 ^ 108
  counts_few =
      let less = lesser _ g _ some_g (counts_scaled times g routes whole_routes) in
      let most : sum_by (λ (route : Route). route.count) routes * times ≤ 256 * scale.ticks * times = mul-le-mul_right times s.routing.few_counts in
      omega (arith, less, most, mul_assoc 256 scale.ticks times, s.routing.short)

  pub tasks_whole : tasks_of_kind 0 new_routes * g ≡ tasks_of_kind 0 routes * times
  tasks_whole = kinds_scaled times g 0 routes whole_routes

  pub tasks_few : tasks_of_kind 0 new_routes ≤ 2 ^ 105
  tasks_few =
      let less = lesser _ g _ some_g tasks_whole in
      let most : tasks_of_kind 0 routes * times ≤ 32 * scale.ticks * times = mul-le-mul_right times s.routing.few_tasks in
      omega (arith, less, most, mul_assoc 32 scale.ticks times, s.routing.short)

  pub lanes_light : sum_by (λ (lane : LaneAt). lane.count) (lanes_of new_routes) < 2 ^ 128
  lanes_light = let most = light_lanes 32 new_routes new_short in omega (arith, most, counts_few)

  -- the link of an edge
  edge_there : (link : ℕ) → link < length t.platform.links → slice_get (weights_of t routes).edges link ≡ Some (edge_of t routes link)
  edge_there link l =
      slice_get-get_or (weights_of t routes).edges link (edge_of t routes link) (rw edges_long l) ∙ ap Some (term_there (edge_of t routes) (edge_of t routes link) (length t.platform.links) link l)

  listed : (part : SlotPart) (k : ℕ) (d : ℕ) → k < length part.edges → is_in (get_or part.edges k d) part ≡ true
  listed part k d l = list_any_at _ part.edges k d l (let same : nat_eq (get_or part.edges k d) (get_or part.edges k d) ≡ true = grind (arith, nat_tests) in same)

  separate : (part : SlotPart) → 1 ≤ part.duration → part.duration ≤ scale.ticks → g ∣ part.duration * times → All (λ link. link < length t.platform.links) part.edges → SharesNothing (weights_of t routes).edges part →
      IsSeparate t (scaled_part times g part)
  separate part some short whole there apart = record {
    some = quotient_positive (part.duration * times) g (let least = products 1 1 part.duration times some s.routing.some_times in omega (arith, least)) whole;
    short =
        let less = div-le_self (part.duration * times) g in
        let most : part.duration * times ≤ scale.ticks * times = mul-le-mul_right times short in
        omega (arith, less, most, s.routing.short);
    exist = there;
    senders = λ k d l j e m same. (let a = All-get_or (λ link. link < length t.platform.links) part.edges k d l there in let b = All-get_or (λ link. link < length t.platform.links) part.edges j e m there in
        sym (apart _ _ _ _ (edge_there _ a) (edge_there _ b) (listed part k d l) (listed part j e m) (inl same)));
    receivers = λ k d l j e m same. (let a = All-get_or (λ link. link < length t.platform.links) part.edges k d l there in let b = All-get_or (λ link. link < length t.platform.links) part.edges j e m there in
        sym (apart _ _ _ _ (edge_there _ a) (edge_there _ b) (listed part k d l) (listed part j e m) (inr same)));
  }

  pub separate_parts : All (IsSeparate t) new_parts
  separate_parts =
      All-map (IsSeparate t) (scaled_part times g) parts
      (λ k d l. separate (get_or parts k d) (All-get_or (λ (part : SlotPart). 1 ≤ part.duration) parts k d l s.are_parts.lasting) (part_short k d l)
      (All-head (λ n. g ∣ n) _ _ (All-get_or (λ (part : SlotPart). All (λ n. g ∣ n) (part_numbers t times part)) parts k d l whole_parts))
      (All-get_or (λ (part : SlotPart). All (λ link. link < length t.platform.links) part.edges) parts k d l edges_there)
      (All-get_or (SharesNothing (weights_of t routes).edges) parts k d l s.are_parts.separate))

  pub period_whole : scale.ticks * times / g * g ≡ scale.ticks * times
  period_whole = div-mul_cancel g (of_period t scale.times scale.ticks routes parts)

  -- the parts make up the period
  pub new_ticks : sum_by (λ (part : SlotPart). part.duration) new_parts ≡ scale.ticks * times / g
  new_ticks = same_factor _ _ g some_g (all_ticks_scaled times g t parts whole_parts ∙ ap (λ n. n * times) s.are_parts.whole ∙ sym period_whole)

  pub new_time : sum_by (λ (part : SlotPart). part.duration) new_parts < 2 ^ 128
  new_time = let less = div-le_self (scale.ticks * times) g in omega (arith, new_ticks, less, s.routing.short)

  -- ---- the table

  enough : (link : ℕ) → carried_on link (lanes_of new_routes) ≤ room_of t link new_parts
  enough link = rw (lanes_carry link new_routes) (by_load (carried link routes) refl)
    where
      scaled : carried link new_routes * g ≡ carried link routes * times
      scaled = carried_scaled times g link routes whole_routes

      by_load : (load : ℕ) → load ≡ carried link routes → carried link new_routes ≤ room_of t link new_parts
      by_load zero e =
          let none : carried link new_routes * g ≡ 0 = scaled ∙ ap (λ n. n * times) (sym e) ∙ nothing times in
          let less = lesser _ g _ some_g none in
          omega (arith, less)
        where
          nothing : (n : ℕ) → 0 * n ≡ 0
          nothing n = omega arith
      by_load (suc load) e =
          elim (cases_lt link (length t.platform.links)) [
            | inl there ↦
                let some : 1 ≤ carried link routes = omega (arith, e) in
                room_enough times g t link (carried link routes) some_g (All-get_or (λ n. 1 ≤ n) t.costs link 0 (cost_there there) timed.some_cost) (dvd_of_mod-eq-zero (cost_of t link) (s.routing.whole link some)) parts whole_parts
                (s.are_parts.served link (edge_of t routes link) (edge_there link there)) (carried link new_routes) scaled
            | inr past ↦ let none = carries_none (length t.platform.links) link routes links_inside past in absurd (omega (arith, e, none))
          ]
        where
          cost_there : link < length t.platform.links → link < length t.costs
          cost_there l = rw (ap length timed.costs ∙ length-map t.platform.links _) l

  route_fits : (route : Route) → IsRouteOf t series scale.ticks route → g ∣ route.count * times → IsRoute t series (scaled_route times g route)
  route_fits route r whole = record {
    from_master = r.from_master;
    walk = r.walk;
    simple = r.simple;
    ending = ends_well t series times g route r.ending;
    some = quotient_positive (route.count * times) g (let least = products 1 1 route.count times r.some s.routing.some_times in omega (arith, least)) whole;
    bounded =
        let less = div-le_self (route.count * times) g in
        let most : route.count * times ≤ scale.ticks * times = mul-le-mul_right times r.bounded in
        omega (arith, less, most, s.routing.short);
  }

  routes_fit : All (IsRoute t series) new_routes
  routes_fit =
      All-map (IsRoute t series) (scaled_route times g) routes
      (λ k d l. route_fits (get_or routes k d) (All-get_or (IsRouteOf t series scale.ticks) routes k d l s.routing.are_routes) (All-get_or (λ (route : Route). g ∣ route.count * times) routes k d l whole_routes))

  abbrev table : Table
  table = table_with t scale routes parts

  -- tasks times the unit come to at most 64,000,000 times the period
  slow : table.tasks * t.unit ≤ 64000000 * table.period
  slow =
      le_of_mul-le-mul_right {k = g} (over _ _ _ _ _ tasks_whole s.routing.slow period_whole) some_g
    where
      over : (tasks counts unit period ticks : ℕ) → tasks * g ≡ counts * times → counts * unit ≤ 64000000 * ticks → period * g ≡ ticks * times → tasks * unit * g ≤ 64000000 * period * g
      over tasks counts unit period ticks e h f =
          let left : tasks * unit * g ≡ counts * unit * times =
          mul_assoc tasks unit g ∙ ap (λ n. tasks * n) (mul_comm unit g) ∙ sym (mul_assoc tasks g unit) ∙ ap (λ n. n * unit) e ∙ mul_assoc counts times unit ∙ ap (λ n. counts * n) (mul_comm times unit) ∙ sym (mul_assoc counts unit times) in
          let right : 64000000 * period * g ≡ 64000000 * ticks * times = mul_assoc 64000000 period g ∙ ap (λ n. 64000000 * n) f ∙ sym (mul_assoc 64000000 ticks times) in
          let most : counts * unit * times ≤ 64000000 * ticks * times = mul-le-mul_right times h in
          omega (arith, left, right, most)

  in_time : ((node : ℕ) → brought node routes * time_of t node ≤ scale.ticks) → (node : ℕ) → brought node new_routes * time_of t node ≤ table.period
  in_time used node =
      le_of_mul-le-mul_right {k = g} (over _ _ _ _ (ends_scaled times g node routes whole_routes) (used node) period_whole) some_g
    where
      over : (here all period ticks : ℕ) → here * g ≡ all * times → all * time_of t node ≤ ticks → period * g ≡ ticks * times → here * time_of t node * g ≤ period * g
      over here all period ticks e h f =
          let left : here * time_of t node * g ≡ all * time_of t node * times =
          mul_assoc here (time_of t node) g ∙ ap (λ n. here * n) (mul_comm (time_of t node) g) ∙ sym (mul_assoc here g (time_of t node)) ∙ ap (λ n. n * time_of t node) e
          ∙ mul_assoc all times (time_of t node) ∙ ap (λ n. all * n) (mul_comm times (time_of t node)) ∙ sym (mul_assoc all (time_of t node) times) in
          let most : all * time_of t node * times ≤ ticks * times = mul-le-mul_right times h in
          omega (arith, left, most, f)

  few_slots : length parts < 2 ^ 32
  few_slots = let few = s.are_parts.few in let most : (2 * length t.platform.nodes) ^ 2 ≤ 64 * 64 = square (length t.platform.nodes) timed.platform.few_nodes in omega (arith, few, most)
    where
      square : (n : ℕ) → n ≤ 32 → (2 * n) ^ 2 ≤ 64 * 64
      square n h =
          let most = products (2 * n) (2 * n) 64 64 (omega (arith, h)) (omega (arith, h)) in
          rw (pow-suc (2 * n) 1, pow-suc (2 * n) 0, pow-zero (2 * n)) (omega (arith, most, mul_assoc 1 (2 * n) (2 * n)))

  some_part : 1 ≤ length parts
  some_part = some_one parts s.are_parts.whole
    where
      some_one : (parts : List SlotPart) → sum_by (λ (part : SlotPart). part.duration) parts ≡ scale.ticks → 1 ≤ length parts
      some_one [] e = let none : 0 ≡ scale.ticks = e in omega (arith, none, s.routing.some_ticks)
      some_one (part ∷ parts) e = omega arith

  -- each kind has as many tasks as the first one, where it has before the scaling
  as_many_of_each : (kind : ℕ) → tasks_of_kind 0 routes ≡ tasks_of_kind kind routes → tasks_of_kind 0 new_routes ≡ tasks_of_kind kind new_routes
  as_many_of_each kind same =
      same_factor (tasks_of_kind 0 new_routes) (tasks_of_kind kind new_routes) g some_g (tasks_whole ∙ ap (λ n. n * times) same ∙ sym (kinds_scaled times g kind routes whole_routes))

  module _ (slots : (lanes : List LaneAt) (parts : List SlotPart) → All (IsSeparate t) parts → All (IsSlot lanes) (cut_slots t lanes parts))
      (moved : (lanes : List LaneAt) (parts : List SlotPart) → ((link : ℕ) → carried_on link lanes ≤ room_of t link parts) → (lane : ℕ) → lane < length lanes → moved_over lane (cut_slots t lanes parts) ≡ (lane_at lanes lane).count)
      (as_many : (lanes : List LaneAt) (parts : List SlotPart) → length (cut_slots t lanes parts) ≡ length parts)
      (as_long : (lanes : List LaneAt) (parts : List SlotPart) → sum_by (λ slot. slot.duration) (cut_slots t lanes parts) ≡ sum_by (λ part. part.duration) parts) where
    pub fits : HasTasks t series table → Fits t series table
    fits tasks = record {
      routes = routes_fit;
      tasks = tasks;
      few_tasks = omega (arith, tasks_few);
      depth = refl;
      some_slot = omega (arith, as_many (lanes_of new_routes) new_parts, length-map parts (scaled_part times g), some_part);
      few_slots = omega (arith, as_many (lanes_of new_routes) new_parts, length-map parts (scaled_part times g), few_slots);
      slots = slots (lanes_of new_routes) new_parts separate_parts;
      period = sym (as_long (lanes_of new_routes) new_parts ∙ new_ticks);
      short_period = short;
      moved = moved (lanes_of new_routes) new_parts enough;
      rate_num = let less = div-le_self (table.tasks * t.unit) (gcd_of (table.tasks * t.unit) table.period) in omega (arith, less, slow, short);
      rate_den = let less = div-le_self table.period (gcd_of (table.tasks * t.unit) table.period) in omega (arith, less, short);
    }
      where
        short : table.period ≤ 2 ^ 100
        short = let less = div-le_self (scale.ticks * times) g in omega (arith, less, s.routing.short)

    pub keeps : HasTime t series table → ((lanes : List LaneAt) (parts : List SlotPart) → All (IsSeparate t) parts → All (IsMatching t lanes) (cut_slots t lanes parts)) → KeepsPorts t series table
    keeps time matchings = record { slots = matchings (lanes_of new_routes) new_parts separate_parts; processors = time }

-- the tasks are those of all routes, or as many of each kind
pub has_tasks : (t : TimedView) (series : Series) (scale : Scale) (routes : List Route) (parts : List SlotPart) → IsTimed t → IsSolution t series scale routes parts → HasTasks t series (table_with t scale routes parts)
has_tasks t Tasking scale routes parts timed s =
    all_first (map (scaled_route scale.times (common_factor t scale.times scale.ticks routes parts)) routes)
    (All-map (λ (route : Route). route.kind ≡ 0) (scaled_route scale.times (common_factor t scale.times scale.ticks routes parts)) routes
    (All-weaker (IsRouteOf t Tasking scale.ticks) (λ (route : Route). route.kind ≡ 0) (λ (route : Route) (r : IsRouteOf t Tasking scale.ticks route). r.ending.0) routes s.routing.are_routes))
has_tasks t Scatter scale routes parts timed s = (s.routing.used.0, λ kind known. as_many_of_each t Scatter scale routes parts timed s kind (s.routing.used.1 kind known))

-- each processor has time for its tasks
pub has_time : (t : TimedView) (series : Series) (scale : Scale) (routes : List Route) (parts : List SlotPart) → IsTimed t → IsSolution t series scale routes parts → HasTime t series (table_with t scale routes parts)
has_time t Tasking scale routes parts timed s = in_time t Tasking scale routes parts timed s s.routing.used
has_time t Scatter scale routes parts timed s = tt

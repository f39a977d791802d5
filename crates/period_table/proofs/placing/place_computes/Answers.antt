use Rattle.std.proofs.Common.{◌≡◌, ℕ, ◌+◌, ◌*◌, ◌<◌, ◌≤◌, ◌++◌, true, false, List, [], ◌∷◌, length, unwrap_or, All, get_or, slice_set, refl, sym, ◌∙◌, ap, arith}
use Rattle.std.proofs.lemmas.Bool.Decides.{nat_tests}
use Rattle.std.proofs.lemmas.List.{get_or-replicate, length-set, get_or_default}
use Rattle.std.proofs.lemmas.List.Elements.{All-get_or}
use Rattle.schedule_model.specs.Operations.{time_of}
use Rattle.flow_routes.specs.declared.flow.Route.{Route}
use Rattle.period_table.specs.TableSchedules.{has_arrived, tasks_at, one_after_another, compute_at}
use Rattle.period_table.proofs.Steps.{route_placed, count_moved, few_so_far, noted_more, none_left_out, total, left_from, are_short}
use Rattle.period_table.proofs.placing.place_computes.Goals.{then-len-period+in_ok-place_computations, else-len-period}
use Rattle.period_table.proofs.placing.place_computes.Goals as goal

abbrev nothing : Route
nothing = record { links = []; end = 0; count = 0; kind = 0 }

abbrev end_of : Route → ℕ
end_of route = route.end

abbrev tasks_of : Route → ℕ
tasks_of route = route.count

keeps : (period : ℕ) (route : Route) (hops : ℕ) → hops ≡ length route.links → hops ≤ period → has_arrived period route ≡ true
keeps period route hops e l = grind (arith, nat_tests)

drops : (period : ℕ) (route : Route) (hops : ℕ) → hops ≡ length route.links → period < hops → has_arrived period route ≡ false
drops period route hops e l = grind (arith, nat_tests)

used_few : (period : ℕ) (routes : List Route) (k : ℕ) (l : k < length routes) (before : List Route) (used : List ℕ) →
    ((node : ℕ) → node < 32 → get_or used node 0 ≡ tasks_at node before) →
    total end_of tasks_of before + total end_of tasks_of (left_from end_of tasks_of (has_arrived period) routes k nothing l k) ≤ 4000000 →
    has_arrived period (get_or routes k nothing) ≡ true → (node : ℕ) → node < 32 → get_or used node 0 + (get_or routes k nothing).count ≤ 4000000
used_few period routes k l before used noted few here node exists =
    rw (noted node exists) (few_so_far end_of tasks_of (has_arrived period) routes k nothing l here before node few)

nodes_few : (routes : List Route) (k nodes : ℕ) → All (λ route. route.end < nodes) routes → nodes ≤ 32 → k < length routes → (get_or routes k nothing).end < 32
nodes_few routes k nodes exist few l = let is : (get_or routes k nothing).end < nodes = All-get_or (λ (route : Route). route.end < nodes) routes k nothing l exist in omega (arith, is, few)

pub loop-route-init : goal.loop-route-init
loop-route-init c = ([], refl, (λ node l. get_or-replicate 32 node 0 0 l), omega (arith, c.requires.few), refl)

pub overflow_mul-begin : goal.overflow_mul-begin
overflow_mul-begin c =
    let routes = c.args.routes.now in
    let k = c.loop-route.route-index in
    let is : c.route-item.result ≡ get_or routes k nothing = c.route-item.is ∙ get_or_default routes k c.route-item.result nothing c.loop-route-test.true in
    let here : has_arrived c.args.period (get_or routes k nothing) ≡ true = keeps c.args.period (get_or routes k nothing) c.len.result (c.len.ensures ∙ ap (λ (route : Route). length route.links) is) c.if-len-period.true in
    let exists = nodes_few routes k _ c.requires.nodes c.known.ensures.platform.few_nodes c.loop-route-test.true in
    let few = used_few c.args.period routes k c.loop-route-test.true c.loop-route.invariant.0 c.loop-route.used c.loop-route.invariant.2 c.loop-route.invariant.3 here (get_or routes k nothing).end exists in
    let fine = are_short c.args.start (get_or c.loop-route.used (get_or routes k nothing).end 0) c.unwrap_or-lasts.result (get_or routes k nothing).count c.requires.short c.unwrap_or-lasts.type_inv few in
    rw (is, c.from.ensures) (record { fits = fine.product })

pub overflow_add-begin : goal.overflow_add-begin
overflow_add-begin c =
    let routes = c.args.routes.now in
    let k = c.loop-route.route-index in
    let is : c.route-item.result ≡ get_or routes k nothing = c.route-item.is ∙ get_or_default routes k c.route-item.result nothing c.loop-route-test.true in
    let here : has_arrived c.args.period (get_or routes k nothing) ≡ true = keeps c.args.period (get_or routes k nothing) c.len.result (c.len.ensures ∙ ap (λ (route : Route). length route.links) is) c.if-len-period.true in
    let exists = nodes_few routes k _ c.requires.nodes c.known.ensures.platform.few_nodes c.loop-route-test.true in
    let few = used_few c.args.period routes k c.loop-route-test.true c.loop-route.invariant.0 c.loop-route.used c.loop-route.invariant.2 c.loop-route.invariant.3 here (get_or routes k nothing).end exists in
    let fine = are_short c.args.start (get_or c.loop-route.used (get_or routes k nothing).end 0) c.unwrap_or-lasts.result (get_or routes k nothing).count c.requires.short c.unwrap_or-lasts.type_inv few in
    rw (is, c.from.ensures) (record { fits = fine.begin })

pub place_computations-requires : goal.place_computations-requires
place_computations-requires c =
    let routes = c.args.routes.now in
    let k = c.loop-route.route-index in
    let is : c.route-item.result ≡ get_or routes k nothing = c.route-item.is ∙ get_or_default routes k c.route-item.result nothing c.loop-route-test.true in
    let here : has_arrived c.args.period (get_or routes k nothing) ≡ true = keeps c.args.period (get_or routes k nothing) c.len.result (c.len.ensures ∙ ap (λ (route : Route). length route.links) is) c.if-len-period.true in
    let exists = nodes_few routes k _ c.requires.nodes c.known.ensures.platform.few_nodes c.loop-route-test.true in
    let few = used_few c.args.period routes k c.loop-route-test.true c.loop-route.invariant.0 c.loop-route.used c.loop-route.invariant.2 c.loop-route.invariant.3 here (get_or routes k nothing).end exists in
    let fine = are_short c.args.start (get_or c.loop-route.used (get_or routes k nothing).end 0) c.unwrap_or-lasts.result (get_or routes k nothing).count c.requires.short c.unwrap_or-lasts.type_inv few in
    rw (is, c.from.ensures) (record { short = fine.ends })

pub overflow_add-used : goal.overflow_add-used
overflow_add-used c =
    let routes = c.args.routes.now in
    let k = c.loop-route.route-index in
    let is : c.route-item.result ≡ get_or routes k nothing = c.route-item.is ∙ get_or_default routes k c.route-item.result nothing c.loop-route-test.true in
    let here : has_arrived c.args.period (get_or routes k nothing) ≡ true = keeps c.args.period (get_or routes k nothing) c.len.result (c.len.ensures ∙ ap (λ (route : Route). length route.links) is) c.if-len-period.true in
    let exists = nodes_few routes k _ c.requires.nodes c.known.ensures.platform.few_nodes c.loop-route-test.true in
    let few = used_few c.args.period routes k c.loop-route-test.true c.loop-route.invariant.0 c.loop-route.used c.loop-route.invariant.2 c.loop-route.invariant.3 here (get_or routes k nothing).end exists in
    let fine = are_short c.args.start (get_or c.loop-route.used (get_or routes k nothing).end 0) c.unwrap_or-lasts.result (get_or routes k nothing).count c.requires.short c.unwrap_or-lasts.type_inv few in
    rw is (record { fits = fine.more })

pub loop-route-preserved : goal.loop-route-preserved
loop-route-preserved c =
    let before = c.loop-route.invariant.0 in
    let routes = c.args.routes.now in
    let k = c.loop-route.route-index in
    let t = c.args.timed.now in
    let route = get_or routes k nothing in
    let is : c.route-item.result ≡ get_or routes k nothing = c.route-item.is ∙ get_or_default routes k c.route-item.result nothing c.loop-route-test.true in
    let hops : c.len.result ≡ length route.links = c.len.ensures ∙ ap (λ (route : Route). length route.links) is in
    elim c.if-len-period.branch [
      | then-len-period+in_ok-place_computations w ↦
          let here : has_arrived c.args.period route ≡ true = keeps c.args.period route c.len.result hops w.if-len-period.true in
          let exists = nodes_few routes k _ c.requires.nodes c.known.ensures.platform.few_nodes c.loop-route-test.true in
          let used : c.if-len-period.used ≡ slice_set c.loop-route.used route.end (get_or c.loop-route.used route.end 0 + route.count) = rw is at w.used-is in
          let lasts : w.unwrap_or-lasts.result ≡ time_of t route.end = w.unwrap_or-lasts.ensures ∙ ap (λ time. unwrap_or time 0) (sym (rw is at w.time.ensures.index)) in
          let brought : get_or c.loop-route.used route.end 0 ≡ tasks_at route.end before = c.loop-route.invariant.2 _ exists in
          let out : w.place_computations.new.out.items ≡ c.loop-route.out.items ++ one_after_another (compute_at route.end) w.unwrap_or-lasts.result
          (c.args.start + get_or c.loop-route.used route.end 0 * w.unwrap_or-lasts.result) route.count = rw (is, w.from.ensures) at w.in_ok-place_computations.ensures.ok in (
            route ∷ before,
            rw used (length-set c.loop-route.used _ _ ∙ c.loop-route.invariant.1),
            rw used (noted_more end_of tasks_of before route c.loop-route.used 32 (omega (arith, c.loop-route.invariant.1)) exists c.loop-route.invariant.2),
            count_moved end_of tasks_of (has_arrived c.args.period) routes k nothing c.loop-route-test.true here before c.loop-route.invariant.3,
            rw w.out-is (route_placed t c.args.start c.args.period routes k nothing c.loop-route-test.true here before _ c.loop-route.out.items _ c.loop-route.invariant.4 (rw (lasts, brought) at out)),
          )
      | else-len-period w ↦
          let away : has_arrived c.args.period route ≡ false = drops c.args.period route c.len.result hops w.if-len-period.false in
          let rest = none_left_out end_of tasks_of (has_arrived c.args.period) routes k nothing c.loop-route-test.true away in
          (before, rw w.used-is c.loop-route.invariant.1, rw w.used-is c.loop-route.invariant.2, rw rest at c.loop-route.invariant.3, rw (w.out-is) (rw rest at c.loop-route.invariant.4))
    ]

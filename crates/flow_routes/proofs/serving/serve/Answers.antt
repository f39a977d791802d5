use Rattle.std.proofs.Common.{◌≡◌, ℕ, List, [], ◌∷◌, ◌++◌, append_assoc, append-nil, length, arith, refl, ◌∙◌, ap, subst}
use Rattle.std.specs.Prelude.{IfSome, IfNone}
use Rattle.flow_routes.specs.Rounds.{IsRouteRound, IsCycleRound, AreServed}
use Rattle.flow_routes.specs.declared.flow.Route.{Route}
use Rattle.flow_routes.proofs.Outcomes.{route_falls, cycle_falls, route_keeps_only, cycle_keeps_only, continues_route, continues_cycle}
use Rattle.flow_routes.proofs.serving.serve.Goals as goal

-- the rounds of what is left are those of the node
route_of : (master kind left_kind : ℕ) (links : List (ℕ × ℕ)) (amounts : List ℕ) (demand node left_node : ℕ) (route : Route) (left : List ℕ) → left_node ≡ node → left_kind ≡ kind →
    IsRouteRound master left_kind links amounts demand left_node route left → IsRouteRound master kind links amounts demand node route left
route_of master kind left_kind links amounts demand node left_node route left same_node same_kind r =
    subst (λ n. IsRouteRound master kind links amounts demand n route left) same_node (subst (λ k. IsRouteRound master k links amounts demand left_node route left) same_kind r)

pub loop-left-smaller-in-Continue-branch-3 : goal.loop-left-smaller-in-Continue-branch-3
loop-left-smaller-in-Continue-branch-3 c =
    let inv = c.loop-left.invariant in
    let lengths : length c.loop-left.amounts ≡ length c.args.links.now = inv.size ∙ c.requires.lengths in
    let r0 = subst (λ o. IfSome o (λ route. IsRouteRound c.args.master c.loop-left.left.kind c.args.links.now c.loop-left.amounts c.loop-left.left.demand c.loop-left.left.node route c.round.new.amounts)) c.in-Some.is c.in_ok-route.ensures.route in
    let r = route_of c.args.master c.args.served.kind c.loop-left.left.kind c.args.links.now c.loop-left.amounts c.loop-left.left.demand c.args.served.node c.loop-left.left.node c.in-Some.route c.round.new.amounts inv.node inv.kind r0 in
    (route_falls c.args.master c.args.served.kind c.args.links.now c.loop-left.amounts c.loop-left.left.demand c.args.served.node c.in-Some.route c.round.new.amounts r lengths c.if-served-master.false c.loop-left-test.true).less

pub loop-left-preserved-in-Continue-branch-3 : goal.loop-left-preserved-in-Continue-branch-3
loop-left-preserved-in-Continue-branch-3 c =
    let inv = c.loop-left.invariant in
    let lengths : length c.loop-left.amounts ≡ length c.args.links.now = inv.size ∙ c.requires.lengths in
    let r0 = subst (λ o. IfSome o (λ route. IsRouteRound c.args.master c.loop-left.left.kind c.args.links.now c.loop-left.amounts c.loop-left.left.demand c.loop-left.left.node route c.round.new.amounts)) c.in-Some.is c.in_ok-route.ensures.route in
    let r = route_of c.args.master c.args.served.kind c.loop-left.left.kind c.args.links.now c.loop-left.amounts c.loop-left.left.demand c.args.served.node c.loop-left.left.node c.in-Some.route c.round.new.amounts inv.node inv.kind r0 in
    record {
      node = inv.node;
      kind = inv.kind;
      size = c.in_ok-route.ensures.length ∙ inv.size;
      kept = route_keeps_only c.args.master c.args.served.kind c.args.links.now c.loop-left.amounts c.loop-left.left.demand c.args.served.node c.in-Some.route c.round.new.amounts r lengths c.if-served-master.false c.loop-left-test.true inv.kept;
      own = inv.own ++ c.in-Some.route ∷ [];
      grown = c.in_ok-push.ensures.ok ∙ ap (λ l. l ++ c.in-Some.route ∷ []) inv.grown ∙ append_assoc c.args.routes.now inv.own (c.in-Some.route ∷ []);
      chosen = continues_route c.args.master c.args.served.kind c.args.links.now c.args.served.node c.args.amounts.now c.args.served.demand c.loop-left.amounts c.loop-left.left.demand inv.own c.in-Some.route c.round.new.amounts inv.chosen c.loop-left-test.true r;
    }

-- a cycle's round is one of the node
cycle_of : (master : ℕ) (links : List (ℕ × ℕ)) (amounts : List ℕ) (node left_node : ℕ) (left : List ℕ) → left_node ≡ node → IsCycleRound master links amounts left_node left → IsCycleRound master links amounts node left
cycle_of master links amounts node left_node left same r = subst (λ n. IsCycleRound master links amounts n left) same r

pub loop-left-smaller : goal.loop-left-smaller
loop-left-smaller c =
    let inv = c.loop-left.invariant in
    let lengths : length c.loop-left.amounts ≡ length c.args.links.now = inv.size ∙ c.requires.lengths in
    let r0 = subst (λ o. IfNone o (IsCycleRound c.args.master c.args.links.now c.loop-left.amounts c.loop-left.left.node c.round.new.amounts)) c.in_default.is c.in_ok-route.ensures.cycle in
    let r = cycle_of c.args.master c.args.links.now c.loop-left.amounts c.args.served.node c.loop-left.left.node c.round.new.amounts inv.node r0 in
    (cycle_falls c.args.master c.args.links.now c.loop-left.amounts c.args.served.node c.round.new.amounts r lengths).less

pub loop-left-preserved : goal.loop-left-preserved
loop-left-preserved c =
    let inv = c.loop-left.invariant in
    let lengths : length c.loop-left.amounts ≡ length c.args.links.now = inv.size ∙ c.requires.lengths in
    let r0 = subst (λ o. IfNone o (IsCycleRound c.args.master c.args.links.now c.loop-left.amounts c.loop-left.left.node c.round.new.amounts)) c.in_default.is c.in_ok-route.ensures.cycle in
    let r = cycle_of c.args.master c.args.links.now c.loop-left.amounts c.args.served.node c.loop-left.left.node c.round.new.amounts inv.node r0 in
    record {
      node = inv.node;
      kind = inv.kind;
      size = c.in_ok-route.ensures.length ∙ inv.size;
      kept = cycle_keeps_only c.args.master c.args.links.now c.loop-left.amounts c.loop-left.left.demand c.args.served.node c.round.new.amounts r lengths inv.kept;
      own = inv.own;
      grown = inv.grown;
      chosen = continues_cycle c.args.master c.args.served.kind c.args.links.now c.args.served.node c.args.amounts.now c.args.served.demand c.loop-left.amounts c.loop-left.left.demand inv.own c.round.new.amounts inv.chosen c.loop-left-test.true r;
    }

pub returns-clause-appended : goal.returns-clause-appended
returns-clause-appended c =
    let inv = c.loop-left.invariant in
    let none : c.loop-left.left.demand ≡ 0 = omega (arith, c.loop-left-test.false) in
    let ended = inv.chosen 0 [] c.loop-left.amounts (none, refl, refl) in
    record {
      own = inv.own;
      grown = inv.grown;
      holds = record {
        own = λ same. absurd (c.if-served-master.false same);
        rounds = ended.rounds;
        served = λ apart. subst (AreServed ended.rounds c.args.master c.args.served.kind c.args.links.now c.args.served.node c.loop-left.amounts c.args.amounts.now c.args.served.demand) (append-nil inv.own) ended.served;
      };
    }

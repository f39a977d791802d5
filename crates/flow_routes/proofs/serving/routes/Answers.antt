use Rattle.std.proofs.Common.{◌≡◌, ◌+◌, ◌-◌, ◌<◌, [], append-nil, add-one, length, slice_index, arith, refl, sym, ◌∙◌, ap, subst}
use Rattle.std.proofs.lemmas.List.{with_items_is}
use Rattle.flow_routes.specs.Flows.{IsKept}
use Rattle.flow_routes.specs.Rounds.{IsNodeServed, AreChosen, AreChosenFrom}
use Rattle.flow_routes.proofs.Chosen.{remaining, GoesOn, goes_on, kept_on, chosen_are_routes}
use Rattle.flow_routes.proofs.serving.routes.Goals as goal

pub loop-node-preserved : goal.loop-node-preserved
loop-node-preserved c =
    let f = c.args.flow.now in
    let kind = c.args.kind in
    let inv = c.loop-node.invariant in
    let node = c.loop-node.node in
    let amounts = c.loop-node.amounts.items in
    let lent = c.as_mut_slice.ensures in
    let marks = c.as_mut_slice-in-loop-node.ensures in
    let after = c.serve.new.amounts in
    let demand : slice_index c.as_slice-in-loop-node.result.now node ≡ slice_index f.demands node = ap (λ l. slice_index l node) c.as_slice-in-loop-node.ensures in
    let served = c.in_ok-serve.ensures.appended in
    let here : IsNodeServed f.master kind f.links node (slice_index f.demands node) amounts served.own after =
    subst (λ l. IsNodeServed f.master kind f.links node (slice_index f.demands node) l served.own after) lent.value
    (subst (λ l. IsNodeServed f.master kind l node (slice_index f.demands node) c.as_mut_slice.result.now served.own after) c.as_slice-in-loop-node-2.ensures
    (subst (λ d. IsNodeServed f.master kind c.as_slice-in-loop-node-2.result.now node d c.as_mut_slice.result.now served.own after) demand served.holds)) in
    let amounts_kept = with_items_is c.loop-node.amounts after (c.in_ok-serve.ensures.length ∙ lent.len) in
    let marks_kept = with_items_is c.loop-node.marked c.serve.new.marked (c.in_ok-serve.ensures.marks ∙ marks.len) in
    let within : node < f.nodes = omega (arith, c.loop-node-test.true) in
    let kept = kept_on f kind node amounts served.own after inv.size inv.kept here in
    let chosen = goes_on f kind node amounts c.loop-node.routes served.own after within inv.chosen here in
    record {
      size = ap length amounts_kept ∙ c.in_ok-serve.ensures.length ∙ ap length lent.value ∙ inv.size;
      marks = ap length marks_kept ∙ c.in_ok-serve.ensures.marks ∙ ap length marks.value ∙ inv.marks;
      kept = subst (λ l. IsKept f.master f.links l (remaining f.demands (node + 1))) (sym amounts_kept) (rw add-one kept);
      chosen = subst (λ l. GoesOn f kind (node + 1) l c.serve.new.routes) (sym amounts_kept) (subst (GoesOn f kind (node + 1) after) (sym served.grown) (rw add-one chosen));
    }

pub returns-clause-chosen : goal.returns-clause-chosen
returns-clause-chosen c =
    let f = c.args.flow.now in
    let none : f.nodes - c.loop-node.node ≡ 0 = omega (arith, c.loop-node-test.false) in
    subst (AreChosen f c.args.kind) (append-nil c.loop-node.routes)
    (c.loop-node.invariant.chosen [] (subst (λ n. AreChosenFrom n f c.args.kind c.loop-node.node c.loop-node.amounts.items []) (sym none) refl))

pub returns-clause-routes : goal.returns-clause-routes
returns-clause-routes c = chosen_are_routes c.args.flow.now c.args.kind c.loop-node.routes c.requires (returns-clause-chosen c)

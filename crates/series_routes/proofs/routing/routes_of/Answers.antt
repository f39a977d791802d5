use Rattle.std.proofs.Common.{rules, ◌≡◌, ◌<◌, ◌++◌, length, get_or, subst, ap, ◌∙◌, add-one}
use Rattle.flow_routes.specs.Routes.{AreRoutes}
use Rattle.flow_routes.specs.Rounds.{AreChosen}
use Rattle.series_flows.proofs.Terms.{term_there}
use Rattle.series_routes.proofs.routing.routes_of.Goals as goal

pub loop-kind-preserved : goal.loop-kind-preserved
loop-kind-preserved c = λ flow are.
    (let kind = c.loop-kind.kind in
    let flows = c.args.flows.now in
    let inside : kind < length flows = search rules in
    let here : c.index-flows-kind.result ≡ flow kind = c.index-flows-kind.is ∙ ap (λ fs. get_or fs kind c.index-flows-kind.result) are ∙ term_there flow c.index-flows-kind.result (length flows) kind inside in
    let own : c.as_slice.result.now ≡ c.in_ok-own.own = search rules in
    let parts : c.push_copies.new.routes ≡ c.loop-kind.list ++ c.in_ok-own.own = search rules in
    rw add-one
    (record {
      before = c.loop-kind.list;
      own = c.in_ok-own.own;
      parts = parts;
      earlier = c.loop-kind.invariant flow are;
      here = record {
        routed = subst (λ f. AreRoutes f kind c.in_ok-own.own) here c.in_ok-own.ensures.routes;
        chosen = subst (λ f. AreChosen f kind c.in_ok-own.own) here c.in_ok-own.ensures.chosen;
      };
    }))

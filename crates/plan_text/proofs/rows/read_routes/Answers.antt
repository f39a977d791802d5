use Rattle.std.proofs.Common.{rules, ◌≡◌, ◌++◌, ◌∷◌, [], length, subst}
use Rattle.plan_text.specs.Reading.{IsNext, HasNoNext, IsRouteLine}
use Rattle.plan_text.specs.Reading.Place.{at_row}
use Rattle.plan_text.proofs.Steps.{push_route, next_shorter}
use Rattle.plan_text.proofs.rows.read_routes.Goals as goal

pub loop-routes-smaller : goal.loop-routes-smaller
loop-routes-smaller c =
    let t = c.args.timed.now in
    let next : IsNext (IsRouteLine t c.args.head.now.series (length c.loop-routes.routes)) c.loop-routes.rest.now c.in-Some.route c.in-Some.left.now = search rules in
    next_shorter (IsRouteLine t c.args.head.now.series (length c.loop-routes.routes)) c.loop-routes.rest.now c.in-Some.left.now c.in-Some.route next

pub loop-routes-preserved : goal.loop-routes-preserved
loop-routes-preserved c =
    let t = c.args.timed.now in
    let next : IsNext (IsRouteLine t c.args.head.now.series (length c.loop-routes.routes)) c.loop-routes.rest.now c.in-Some.route c.in-Some.left.now = search rules in
    let pushed : c.push.new.self ≡ c.loop-routes.routes ++ c.in-Some.route ∷ [] = search rules in
    push_route t c.args.head.now (at_row c.args.head.now [] []) c.args.bytes.now c.loop-routes.rest.now c.in-Some.left.now c.loop-routes.routes c.in-Some.route c.push.new.self pushed c.loop-routes.invariant next

pub returns-clause-all : goal.returns-clause-all
returns-clause-all c =
    let t = c.args.timed.now in
    let rest = c.loop-routes.rest.now in
    let series : c.head.inside.series ≡ c.args.head.now.series = search rules in
    let none : HasNoNext (IsRouteLine t c.head.inside.series c.len.result) rest = search rules in
    subst (λ s. HasNoNext (IsRouteLine t s (length c.loop-routes.routes)) rest) series (subst (λ n. HasNoNext (IsRouteLine t c.head.inside.series n) rest) c.len.ensures none)

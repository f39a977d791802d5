use Rattle.std.proofs.Common.{rules, ◌≡◌, ℕ, ◌<◌, ◌^◌, List, true, false, sym, ◌∙◌, subst, arith}
use Rattle.flow_routes.specs.declared.flow.Route.{Route}
use Rattle.period_table.specs.Tables.{IsRoute}
use Rattle.text_lines.specs.Lines.{words_of}
use Rattle.plan_text.specs.Walks.{IsNamedWalk}
use Rattle.plan_text.proofs.RowHeads.{said}
use Rattle.plan_text.proofs.RowReads.{AreRouteWords, route_line_words, route_words_line, route_has_head, route_unwalked, route_unkind, route_told, route_read}
use Rattle.plan_text.proofs.rows.route_of_words.Goals as goal

pub returns-in_default : goal.returns-in_default
returns-in_default c = λ text same route line.
    let t = c.args.timed.now in
    let few : c.args.number < 10 ^ 64 = omega (arith, c.ranges.number.fits) in
    let ws = said c.args.words.now in
    let are : AreRouteWords t c.args.series c.args.number ws route = subst (λ words. AreRouteWords t c.args.series c.args.number words route) (sym same) (route_line_words t c.known.ensures c.args.series c.args.number few text route line) in
    c.in_default.ensures route.count _ _ (route_has_head t c.known.ensures c.args.series c.args.number few ws route are)

pub returns-in_default-2 : goal.returns-in_default-2
returns-in_default-2 c = λ text same route line.
    let t = c.args.timed.now in
    let few : c.args.number < 10 ^ 64 = omega (arith, c.ranges.number.fits) in
    let ws = said c.args.words.now in
    let are : AreRouteWords t c.args.series c.args.number ws route = subst (λ words. AreRouteWords t c.args.series c.args.number words route) (sym same) (route_line_words t c.known.ensures c.args.series c.args.number few text route line) in
    let others = said c.in-Some.names.now in
    let none : (links : List ℕ) (end : ℕ) → IsNamedWalk t c.in-Some.start others links end → ⊥ = search rules in
    route_unwalked t c.known.ensures c.args.series c.args.number few ws c.in-Some.count c.in-Some.start others c.in-Some.ensures none route are

pub returns-in_default-kind_of : goal.returns-in_default-kind_of
returns-in_default-kind_of c = λ text same route line.
    let t = c.args.timed.now in
    let few : c.args.number < 10 ^ 64 = omega (arith, c.ranges.number.fits) in
    let ws = said c.args.words.now in
    let are : AreRouteWords t c.args.series c.args.number ws route = subst (λ words. AreRouteWords t c.args.series c.args.number words route) (sym same) (route_line_words t c.known.ensures c.args.series c.args.number few text route line) in
    let others = said c.in-Some.names.now in
    let walk : IsNamedWalk t c.in-Some.start others c.in-Some-2.links c.in-Some-2.end = search rules in
    route_unkind t c.known.ensures c.args.series c.args.number few ws c.in-Some.count c.in-Some.start others c.in-Some-2.links c.in-Some-2.end c.in-Some.ensures walk c.in_default-kind_of.ensures route are

pub returns-then-is_route : goal.returns-then-is_route
returns-then-is_route c = λ text same.
    let t = c.args.timed.now in
    let few : c.args.number < 10 ^ 64 = omega (arith, c.ranges.number.fits) in
    let ws = said c.args.words.now in
    let others = said c.in-Some.names.now in
    let walk : IsNamedWalk t c.in-Some.start others c.in-Some-2.links c.in-Some-2.end = search rules in
    let route : Route = record { links = c.in-Some-2.links; end = c.in-Some-2.end; count = c.in-Some.count; kind = c.in-Some-kind_of.kind } in
    let is : IsRoute t c.args.series route = c.is_route.ensures.yes c.if-is_route.true in
    let are : AreRouteWords t c.args.series c.args.number ws route = route_read t c.known.ensures c.args.series c.args.number few ws c.in-Some.start others route c.in-Some.ensures walk is in
    route_words_line t c.known.ensures c.args.series c.args.number few text route (subst (λ words. AreRouteWords t c.args.series c.args.number words route) same are)

pub returns-else-is_route : goal.returns-else-is_route
returns-else-is_route c = λ text same route line.
    let t = c.args.timed.now in
    let few : c.args.number < 10 ^ 64 = omega (arith, c.ranges.number.fits) in
    let ws = said c.args.words.now in
    let are : AreRouteWords t c.args.series c.args.number ws route = subst (λ words. AreRouteWords t c.args.series c.args.number words route) (sym same) (route_line_words t c.known.ensures c.args.series c.args.number few text route line) in
    let others = said c.in-Some.names.now in
    let walk : IsNamedWalk t c.in-Some.start others c.in-Some-2.links c.in-Some-2.end = search rules in
    let told = route_told t c.known.ensures c.args.series c.args.number few ws c.in-Some.count c.in-Some.start others c.in-Some-2.links c.in-Some-2.end c.in-Some-kind_of.kind c.in-Some.ensures walk c.in-Some-kind_of.ensures route are in
    let yes : true ≡ false = sym (c.is_route.ensures.no (subst (IsRoute t c.args.series) told are.is_route)) ∙ c.if-is_route.false in
    cc

use Rattle.std.proofs.Common.{rules, ◌≡◌, ◌*◌, ◌≤◌, ◌^◌, length, Ok, Err, pos, ◌*ℤ◌, sym, ap, ◌∙◌, subst, inr}
use Rattle.schedule_model.specs.Operations.{cost_of}
use Rattle.exact_simplex.specs.Optima.{first_terms}
use Rattle.programme_rows.specs.Listings.{each_where}
use Rattle.series_flows.specs.Programmes.{kinds_of}
use Rattle.series_flows.specs.Flows.{flow_of}
use Rattle.series_flows.proofs.Terms.{length_terms}
use Rattle.series_routes.specs.declared.numbers.PeriodStep.TheVariants.{Costs}
use Rattle.series_routes.specs.declared.numbers.Scale.{Scale}
use Rattle.series_routes.specs.Numbers.{goes_over, multiple_of, common_denominator, common_cost, scale_of}
use Rattle.series_routes.specs.Routings.{AreRoutesBelow}
use Rattle.series_routes.proofs.Multiples.{denominators_divide, remainders, costs_divide, fault_in_costs, fault_in_product, all_steps}
use Rattle.series_routes.proofs.Flows.{all_long, all_flows, same_cost}
use Rattle.series_routes.proofs.Routed.{first_tasks, is_routing, are_used}
use Rattle.series_routes.proofs.routing.routing_of.Goals as goal

pub flows_of-requires-clause-small : goal.flows_of-requires-clause-small
flows_of-requires-clause-small c =
    let t = c.args.timed.now in
    let series = c.args.series in
    let values = c.args.values.now in
    let ticks = c.in_ok-ticks.ticks in
    let common : common_denominator values ≡ Ok ticks = sym c.in_ok-ticks.ensures.value in
    let whole = denominators_divide c.multiples_are_least.ensures values ticks common c.in_ok-ticks.ensures.some in
    c.points_are_amounts.ensures.small t series values ticks c.known.ensures c.requires.targets c.requires.point (remainders values ticks whole)

pub common_cost-requires : goal.common_cost-requires
common_cost-requires c = rw (c.as_slice.ensures, c.in_ok-flows.ensures) (all_long c.args.timed.now c.args.series c.args.values.now c.in_ok-ticks.ticks)

pub returns-in_err-times-clause-fault : goal.returns-in_err-times-clause-fault
returns-in_err-times-clause-fault c =
    let t = c.args.timed.now in
    let series = c.args.series in
    let values = c.args.values.now in
    let ticks = c.in_ok-ticks.ticks in
    let common : common_denominator values ≡ Ok ticks = sym c.in_ok-ticks.ensures.value in
    let whole = denominators_divide c.multiples_are_least.ensures values ticks common c.in_ok-ticks.ensures.some in
    let costs = ap (λ flows. multiple_of Costs 1 (each_where (goes_over flows) (cost_of t) (length t.platform.links))) (c.as_slice.ensures ∙ c.in_ok-flows.ensures) ∙ same_cost t series values ticks c.in_ok-ticks.ensures.some whole in
    let fault : c.from_residual-in_err-times.result ≡ Err c.in_err-times.field-0.0 = search rules in
    rw fault (inr (fault_in_costs t series values ticks c.in_err-times.field-0.0 common (sym (c.in_err-times.ensures.value ∙ costs))))

pub returns-in_err-product-clause-fault : goal.returns-in_err-product-clause-fault
returns-in_err-product-clause-fault c =
    let t = c.args.timed.now in
    let series = c.args.series in
    let values = c.args.values.now in
    let ticks = c.in_ok-ticks.ticks in
    let common : common_denominator values ≡ Ok ticks = sym c.in_ok-ticks.ensures.value in
    let whole = denominators_divide c.multiples_are_least.ensures values ticks common c.in_ok-ticks.ensures.some in
    let costs = ap (λ flows. multiple_of Costs 1 (each_where (goes_over flows) (cost_of t) (length t.platform.links))) (c.as_slice.ensures ∙ c.in_ok-flows.ensures) ∙ same_cost t series values ticks c.in_ok-ticks.ensures.some whole in
    let times : common_cost t series values ≡ Ok c.in_ok-times.times = sym (c.in_ok-times.ensures.value ∙ costs) in
    let fault : c.from_residual-in_err-product.result ≡ Err c.in_err-product.field-0.0 = search rules in
    rw fault (inr (fault_in_product t series values ticks c.in_ok-times.times c.in_err-product.field-0.0 common times (sym c.in_err-product.ensures.value)))

pub routes_of-requires-clause-flows : goal.routes_of-requires-clause-flows
routes_of-requires-clause-flows c =
    let t = c.args.timed.now in
    let series = c.args.series in
    let values = c.args.values.now in
    let ticks = c.in_ok-ticks.ticks in
    let common : common_denominator values ≡ Ok ticks = sym c.in_ok-ticks.ensures.value in
    let whole = denominators_divide c.multiples_are_least.ensures values ticks common c.in_ok-ticks.ensures.some in
    let amounts = c.points_are_amounts.ensures.amounts t series values ticks c.known.ensures c.requires.targets c.requires.point (remainders values ticks whole) in
    rw (c.as_slice-2.ensures, c.in_ok-flows.ensures) (all_flows t series values ticks c.known.ensures amounts)

pub routes_of-requires-clause-few : goal.routes_of-requires-clause-few
routes_of-requires-clause-few c =
    let t = c.args.timed.now in
    let series = c.args.series in
    let values = c.args.values.now in
    let ticks = c.in_ok-ticks.ticks in
    let common : common_denominator values ≡ Ok ticks = sym c.in_ok-ticks.ensures.value in
    let whole = denominators_divide c.multiples_are_least.ensures values ticks common c.in_ok-ticks.ensures.some in
    let amounts = c.points_are_amounts.ensures.amounts t series values ticks c.known.ensures c.requires.targets c.requires.point (remainders values ticks whole) in
    rw (c.as_slice-2.ensures, c.in_ok-flows.ensures, length_terms (flow_of t series values ticks) (kinds_of t series)) amounts.few_kinds

pub returns-clause-routed : goal.returns-clause-routed
returns-clause-routed c =
    let t = c.args.timed.now in
    let series = c.args.series in
    let values = c.args.values.now in
    let ticks = c.in_ok-ticks.ticks in
    let common : common_denominator values ≡ Ok ticks = sym c.in_ok-ticks.ensures.value in
    let whole = denominators_divide c.multiples_are_least.ensures values ticks common c.in_ok-ticks.ensures.some in
    let costs = ap (λ flows. multiple_of Costs 1 (each_where (goes_over flows) (cost_of t) (length t.platform.links))) (c.as_slice.ensures ∙ c.in_ok-flows.ensures) ∙ same_cost t series values ticks c.in_ok-ticks.ensures.some whole in
    let times : common_cost t series values ≡ Ok c.in_ok-times.times = sym (c.in_ok-times.ensures.value ∙ costs) in
    let scaled : scale_of t series values ≡ Ok (record { ticks = ticks; times = c.in_ok-times.times }) = all_steps t series values ticks c.in_ok-times.times c.in_ok-product.field-0 common times (sym c.in_ok-product.ensures.value) in
    let flows : c.as_slice-2.result.now ≡ first_terms (flow_of t series values ticks) (kinds_of t series) = c.as_slice-2.ensures ∙ c.in_ok-flows.ensures in
    let long : length c.as_slice-2.result.now ≡ kinds_of t series = ap length flows ∙ length_terms (flow_of t series values ticks) (kinds_of t series) in
    let routed = subst (λ n. AreRoutesBelow (flow_of t series values ticks) n c.in_ok-routes.routes) long (c.in_ok-routes.ensures (flow_of t series values ticks) (flows ∙ ap (first_terms (flow_of t series values ticks)) (sym long))) in
    record { scaled = scaled; routed = routed }

pub returns-clause-routing : goal.returns-clause-routing
returns-clause-routing c =
    let t = c.args.timed.now in
    let series = c.args.series in
    let values = c.args.values.now in
    let ticks = c.in_ok-ticks.ticks in
    let common : common_denominator values ≡ Ok ticks = sym c.in_ok-ticks.ensures.value in
    let whole = denominators_divide c.multiples_are_least.ensures values ticks common c.in_ok-ticks.ensures.some in
    let amounts = c.points_are_amounts.ensures.amounts t series values ticks c.known.ensures c.requires.targets c.requires.point (remainders values ticks whole) in
    let costs = ap (λ flows. multiple_of Costs 1 (each_where (goes_over flows) (cost_of t) (length t.platform.links))) (c.as_slice.ensures ∙ c.in_ok-flows.ensures) ∙ same_cost t series values ticks c.in_ok-ticks.ensures.some whole in
    let times : common_cost t series values ≡ Ok c.in_ok-times.times = sym (c.in_ok-times.ensures.value ∙ costs) in
    let scaled : scale_of t series values ≡ Ok (record { ticks = ticks; times = c.in_ok-times.times }) = all_steps t series values ticks c.in_ok-times.times c.in_ok-product.field-0 common times (sym c.in_ok-product.ensures.value) in
    let flows : c.as_slice-2.result.now ≡ first_terms (flow_of t series values ticks) (kinds_of t series) = c.as_slice-2.ensures ∙ c.in_ok-flows.ensures in
    let long : length c.as_slice-2.result.now ≡ kinds_of t series = ap length flows ∙ length_terms (flow_of t series values ticks) (kinds_of t series) in
    let routed = subst (λ n. AreRoutesBelow (flow_of t series values ticks) n c.in_ok-routes.routes) long (c.in_ok-routes.ensures (flow_of t series values ticks) (flows ∙ ap (first_terms (flow_of t series values ticks)) (sym long))) in
    let scale : Scale = record { ticks = ticks; times = c.in_ok-times.times } in
    let short : ticks * c.in_ok-times.times ≤ 2 ^ 100 = rw (← c.in_ok-product.ensures.period.0) c.in_ok-product.ensures.period.1 in
    let divided = costs_divide c.multiples_are_least.ensures t series values c.in_ok-times.times times c.in_ok-times.ensures.some in
    is_routing t c.known.ensures series values scale c.in_ok-routes.routes amounts routed c.in_ok-ticks.ensures.some c.in_ok-times.ensures.some short whole divided
    (are_used t c.known.ensures series values scale c.in_ok-routes.routes amounts routed c.in_ok-ticks.ensures.some c.in_ok-times.ensures.some short whole divided)

pub returns-clause-gain : goal.returns-clause-gain
returns-clause-gain c =
    let t = c.args.timed.now in
    let series = c.args.series in
    let values = c.args.values.now in
    let ticks = c.in_ok-ticks.ticks in
    let common : common_denominator values ≡ Ok ticks = sym c.in_ok-ticks.ensures.value in
    let whole = denominators_divide c.multiples_are_least.ensures values ticks common c.in_ok-ticks.ensures.some in
    let amounts = c.points_are_amounts.ensures.amounts t series values ticks c.known.ensures c.requires.targets c.requires.point (remainders values ticks whole) in
    let costs = ap (λ flows. multiple_of Costs 1 (each_where (goes_over flows) (cost_of t) (length t.platform.links))) (c.as_slice.ensures ∙ c.in_ok-flows.ensures) ∙ same_cost t series values ticks c.in_ok-ticks.ensures.some whole in
    let times : common_cost t series values ≡ Ok c.in_ok-times.times = sym (c.in_ok-times.ensures.value ∙ costs) in
    let scaled : scale_of t series values ≡ Ok (record { ticks = ticks; times = c.in_ok-times.times }) = all_steps t series values ticks c.in_ok-times.times c.in_ok-product.field-0 common times (sym c.in_ok-product.ensures.value) in
    let flows : c.as_slice-2.result.now ≡ first_terms (flow_of t series values ticks) (kinds_of t series) = c.as_slice-2.ensures ∙ c.in_ok-flows.ensures in
    let long : length c.as_slice-2.result.now ≡ kinds_of t series = ap length flows ∙ length_terms (flow_of t series values ticks) (kinds_of t series) in
    let routed = subst (λ n. AreRoutesBelow (flow_of t series values ticks) n c.in_ok-routes.routes) long (c.in_ok-routes.ensures (flow_of t series values ticks) (flows ∙ ap (first_terms (flow_of t series values ticks)) (sym long))) in
    let scale : Scale = record { ticks = ticks; times = c.in_ok-times.times } in
    let short : ticks * c.in_ok-times.times ≤ 2 ^ 100 = rw (← c.in_ok-product.ensures.period.0) c.in_ok-product.ensures.period.1 in
    let divided = costs_divide c.multiples_are_least.ensures t series values c.in_ok-times.times times c.in_ok-times.ensures.some in
    λ p. ap (λ n. pos p.den *ℤ pos n) (first_tasks t c.known.ensures series values scale c.in_ok-routes.routes amounts routed c.in_ok-ticks.ensures.some c.in_ok-times.ensures.some short whole divided)
    ∙ c.points_are_amounts.ensures.gain t series values ticks c.known.ensures c.requires.targets p (remainders values ticks whole)

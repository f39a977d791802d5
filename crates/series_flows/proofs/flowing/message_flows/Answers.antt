use Rattle.std.proofs.Common.{rules, ◌≡◌, ◌++◌, [], ◌∷◌, ap, ◌∙◌, add-one, arith}
use Rattle.schedule_model.specs.declared.schedule.Series.TheVariants.{Scatter}
use Rattle.scatter_program.specs.Columns.{columns_of}
use Rattle.series_flows.specs.Flows.{flow_in, use_in, flow_of}
use Rattle.series_flows.proofs.SameFlows.{same_flow}
use Rattle.series_flows.proofs.flowing.message_flows.Goals as goal

pub loop-kind-preserved : goal.loop-kind-preserved
loop-kind-preserved c =
    let t = c.args.timed.now in
    let values = c.args.values.now in
    let ticks = c.args.ticks in
    let kind = c.loop-kind.kind in
    let columns : c.as_slice.result.now ≡ columns_of t = c.as_slice.ensures ∙ c.in_ok-columns.ensures.value in
    let uses = rw columns at c.message_amounts-amounts.ensures.uses in
    let flows = rw columns at c.message_amounts-amounts.ensures.flows in
    let here : c.in_ok-flow_with.field-0 ≡ flow_of t Scatter values ticks kind =
    c.in_ok-flow_with.ensures
    ∙ same_flow t _ (flow_in t Scatter values ticks kind) _ (use_in t Scatter values ticks kind) (λ link l. flows link (omega (arith, l, c.known.ensures.platform.few_links))) (λ node l. uses node (omega (arith, l, c.known.ensures.platform.few_nodes))) in
    let more : c.push.new.self ≡ c.loop-kind.flows ++ c.in_ok-flow_with.field-0 ∷ [] = search rules in
    rw add-one (more ∙ ap (λ flow. c.loop-kind.flows ++ flow ∷ []) here ∙ ap (λ list. list ++ flow_of t Scatter values ticks kind ∷ []) c.loop-kind.invariant)

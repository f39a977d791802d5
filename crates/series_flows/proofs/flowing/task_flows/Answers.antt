use Rattle.std.proofs.Common.{rules, ◌≡◌, [], ◌∷◌, ap, ◌∙◌, arith}
use Rattle.schedule_model.specs.declared.schedule.Series.TheVariants.{Tasking}
use Rattle.tasking_program.specs.Columns.{columns_of}
use Rattle.series_flows.specs.Flows.{flow_in, use_in, flow_of}
use Rattle.series_flows.proofs.SameFlows.{same_flow}
use Rattle.series_flows.proofs.flowing.task_flows.Goals as goal

pub returns : goal.returns
returns c =
    let t = c.args.timed.now in
    let values = c.args.values.now in
    let ticks = c.args.ticks in
    let columns : c.as_slice.result.now ≡ columns_of t = c.as_slice.ensures ∙ c.in_ok-columns.ensures.value in
    let uses = rw columns at c.task_amounts-amounts.ensures.uses in
    let flows = rw columns at c.task_amounts-amounts.ensures.flows in
    let here : c.in_ok-flow_with.field-0 ≡ flow_of t Tasking values ticks 0 =
    c.in_ok-flow_with.ensures
    ∙ same_flow t _ (flow_in t Tasking values ticks 0) _ (use_in t Tasking values ticks 0) (λ link l. flows link (omega (arith, l, c.known.ensures.platform.few_links))) (λ node l. uses node (omega (arith, l, c.known.ensures.platform.few_nodes))) in
    let more : c.push.new.self ≡ c.in_ok-flow_with.field-0 ∷ [] = search rules in
    more ∙ ap (λ flow. flow ∷ []) here

use Rattle.std.proofs.Common.{◌≡◌}
use Rattle.exact_simplex.specs.Optima.{first_terms}
use Rattle.schedule_model.specs.declared.schedule.Series.TheVariants.{Scatter}
use Rattle.series_flows.specs.Flows.{flow_of}
use Rattle.series_flows.proofs.flowing.message_flows.Given as goal

abbrev pub invariant-loop-kind : goal.invariant-loop-kind
invariant-loop-kind l = l.flows ≡ first_terms (flow_of l.timed Scatter l.values l.ticks) l.kind

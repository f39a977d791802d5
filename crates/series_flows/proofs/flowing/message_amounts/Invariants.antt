use Rattle.std.proofs.Common.{◌≡◌, ℕ, ◌<◌, cond, nat_eq, drop, get_or, length}
use Rattle.ratio_core.specs.Fraction.{whole}
use Rattle.programme_rows.specs.LookUps.{value_of}
use Rattle.scatter_program.specs.declared.columns.Column.TheVariants.{Rate, Flows}
use Rattle.scatter_program.specs.Columns.{target_of}
use Rattle.scatter_program.specs.Points.{same_column}
use Rattle.series_flows.specs.Flows.{tasks_in}
use Rattle.series_flows.proofs.flowing.message_amounts.Given as goal

abbrev pub invariant-loop-k : goal.invariant-loop-k
invariant-loop-k l = record {
  nodes : length l.uses ≡ 32;
  links : length l.flows ≡ 128;
  uses : (node : ℕ) → node < 32 → get_or l.uses node 0 ≡ tasks_in l.ticks (cond (nat_eq node (target_of l.timed l.kind)) (value_of (same_column Rate) (drop l.k l.columns) (drop l.k l.values)) (whole 0));
  flows : (link : ℕ) → link < 128 → get_or l.flows link 0 ≡ tasks_in l.ticks (value_of (same_column (Flows link l.kind)) (drop l.k l.columns) (drop l.k l.values));
}

-- The flows of a solution: what each link carries and each node uses of each kind in so many ticks.
use Rattle.std.specs.Prelude.{ℕ, ◌*◌, ◌/◌, List, length, map, cond, nat_eq}
use Rattle.ratio_core.specs.Fraction.{Fraction, whole}
use Rattle.platform_file.specs.Platform.{LinkView, master_of}
use Rattle.platform_file.specs.Ticks.{TimedView}
use Rattle.schedule_model.specs.declared.schedule.Series.{Series}
use Rattle.schedule_model.specs.declared.schedule.Series.TheVariants.{Tasking, Scatter}
use Rattle.flow_routes.specs.declared.flow.Flow.{Flow}
use Rattle.exact_simplex.specs.Optima.{first_terms}
use Rattle.programme_rows.specs.LookUps.{value_of}
use Rattle.tasking_program.specs.declared.columns.Column.TheVariants as task
use Rattle.tasking_program.specs.Columns.{columns_of as task_columns}
use Rattle.tasking_program.specs.Points.{same_column as same_task_column}
use Rattle.scatter_program.specs.declared.columns.Column.TheVariants as message
use Rattle.scatter_program.specs.Columns.{target_of, columns_of as message_columns}
use Rattle.scatter_program.specs.Points.{same_column as same_message_column}

-- how many tasks a rate comes to in so many ticks, of which its denominator is a divisor
abbrev pub tasks_in : ℕ → Fraction → ℕ
tasks_in ticks value = value.num * (ticks / value.den)

-- how much of a kind a link carries per tick
abbrev pub flow_rate : TimedView → Series → List Fraction → ℕ → ℕ → Fraction
flow_rate t Tasking values kind link = value_of (same_task_column (task.Flows link)) (task_columns t) values
flow_rate t Scatter values kind link = value_of (same_message_column (message.Flows link kind)) (message_columns t) values

-- how much of a kind a node uses per tick: what it computes, or what the target of the kind gets
abbrev pub use_rate : TimedView → Series → List Fraction → ℕ → ℕ → Fraction
use_rate t Tasking values kind node = value_of (same_task_column (task.Computes node)) (task_columns t) values
use_rate t Scatter values kind node = cond (nat_eq node (target_of t kind)) (value_of (same_message_column message.Rate) (message_columns t) values) (whole 0)

-- how much of a kind a link carries in so many ticks
abbrev pub flow_in : TimedView → Series → List Fraction → ℕ → ℕ → ℕ → ℕ
flow_in t series values ticks kind link = tasks_in ticks (flow_rate t series values kind link)

-- how much of a kind a node uses in so many ticks
abbrev pub use_in : TimedView → Series → List Fraction → ℕ → ℕ → ℕ → ℕ
use_in t series values ticks kind node = tasks_in ticks (use_rate t series values kind node)

-- the ends of a link
abbrev pub ends_of : LinkView → ℕ × ℕ
ends_of link = (link.from, link.to)

-- the flow of what the links carry and the nodes use
abbrev pub flow_with : TimedView → (ℕ → ℕ) → (ℕ → ℕ) → Flow
flow_with t flow uses = record {
  nodes = length t.platform.nodes;
  master = master_of t.platform;
  links = map ends_of t.platform.links;
  amounts = first_terms flow (length t.platform.links);
  demands = first_terms uses (length t.platform.nodes);
}

-- the flow of a kind of a solution in so many ticks
abbrev pub flow_of : TimedView → Series → List Fraction → ℕ → ℕ → Flow
flow_of t series values ticks kind = flow_with t (flow_in t series values ticks kind) (use_in t series values ticks kind)

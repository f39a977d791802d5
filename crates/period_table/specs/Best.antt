-- Which tables are best. Source: the asymptotic optimality of Beaumont, Legrand and Robert, said of every number of periods.
use Rattle.std.specs.Prelude.{ℕ, ◌-◌, ◌*◌, ◌≤◌}
use Rattle.platform_file.specs.Ticks.{TimedView}
use Rattle.schedule_model.specs.declared.schedule.Series.{Series}
use Rattle.schedule_model.specs.Validity.{IsValid, completed}
use Rattle.schedule_model.specs.Throughput.{IsUpperRate}
use Rattle.period_table.specs.declared.table.Table.{Table}
use Rattle.period_table.specs.Tables.{Fits}
use Rattle.period_table.specs.TableSchedules.{table_schedule}

-- the table's rate is an upper rate, and its schedules reach it but for the depth
pub record IsBest (t : TimedView) (series : Series) (table : Table) : Type 0 where
  pub fits : Fits t series table
  pub upper : IsUpperRate t series (table.tasks * t.unit) table.period
  pub valid : (n : ℕ) → IsValid t series (table_schedule t series table n)
  pub completes : (n : ℕ) → (n - table.depth) * table.tasks ≤ completed t series (table_schedule t series table n)

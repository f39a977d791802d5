-- When a table has no listed schedule.
use Rattle.std.specs.Prelude.{⊤, ℕ, ◌<◌, length}
use Rattle.platform_file.specs.Ticks.{TimedView}
use Rattle.schedule_model.specs.declared.schedule.Series.{Series}
use Rattle.period_table.specs.declared.table.Table.{Table}
use Rattle.period_table.specs.declared.unrolling.UnrollFault.{UnrollFault}
use Rattle.period_table.specs.declared.unrolling.UnrollFault.TheVariants.{TooLong, NoMemory}
use Rattle.period_table.specs.TableSchedules.{ops_below}

-- it has more operations than are listed; memory may run out at any time
abbrev pub IsUnrollFault : TimedView → Series → Table → ℕ → UnrollFault → Type 0
IsUnrollFault t series table n TooLong = 4000000 < length (ops_below t series table n)
IsUnrollFault t series table n NoMemory = ⊤

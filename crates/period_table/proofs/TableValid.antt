-- A table that fits and keeps the ports: each of its schedules is valid, and it is best where its rate is an upper rate.
use Rattle.std.proofs.Common.{ℕ, ◌*◌}
use Rattle.std.proofs.Math.Nat.{mod_self}
use Rattle.platform_file.specs.Ticks.{TimedView, IsTimed}
use Rattle.schedule_model.specs.declared.schedule.Series.{Series}
use Rattle.schedule_model.specs.Validity.{IsValid}
use Rattle.schedule_model.specs.Throughput.{IsUpperRate}
use Rattle.period_table.specs.declared.table.Table.{Table}
use Rattle.period_table.specs.TableSchedules.{ops_below, table_schedule}
use Rattle.period_table.specs.Tables.{Fits, KeepsPorts}
use Rattle.period_table.specs.Best.{IsBest}
use Rattle.period_table.proofs.Sorting.{starts_in_order}
use Rattle.period_table.proofs.Periods.{one_port, in_time}
use Rattle.period_table.proofs.TableInRange.{in_range, own_kept}
use Rattle.period_table.proofs.TableSupplied.{supplied}
use Rattle.period_table.proofs.TableCompletes.{completes}

pub table_valid : (t : TimedView) → IsTimed t → (series : Series) (table : Table) → Fits t series table → KeepsPorts t series table → (n : ℕ) →
    IsValid t series (table_schedule t series table n)
table_valid t timed series table fits keeps n = record {
  well_formed = record {
    some_unit = timed.some_unit;
    whole_unit = mod_self t.unit;
    in_order = starts_in_order (ops_below t series table n);
    in_range = in_range t series table fits n;
    in_time = in_time t timed.some_unit series table fits.period keeps n;
    own_kept = own_kept t series table fits n;
  };
  one_port = one_port t timed.some_unit series table fits.period keeps n;
  supplied = supplied t timed.some_unit series table fits keeps n;
}

pub best : (t : TimedView) → IsTimed t → (series : Series) (table : Table) → Fits t series table → KeepsPorts t series table →
    IsUpperRate t series (table.tasks * t.unit) table.period → IsBest t series table
best t timed series table fits keeps upper = record {
  fits = fits;
  upper = upper;
  valid = table_valid t timed series table fits keeps;
  completes = completes t timed series table fits;
}

-- Tables worked out by hand: what the definitions accept, and what they refuse beside it.
use Rattle.std.proofs.Common.{◌≤◌, [], ◌∷◌, Some, arith}
use Rattle.ratio_core.specs.Fraction.{whole}
use Rattle.platform_file.specs.Ticks.{TimedView}
use Rattle.schedule_model.specs.declared.schedule.Series.TheVariants.{Tasking}
use Rattle.period_table.specs.declared.table.Table.{Table}
use Rattle.period_table.specs.TableSchedules.{table_schedule}
use Rattle.period_table.specs.Tables.{Fits}
use Rattle.period_table.specs.Best.{IsBest}

-- a master that stands alone, with two ticks a task
abbrev lone : TimedView
lone = record {
  platform = record { nodes = record { name = 109 ∷ []; time = Some (whole 2) } ∷ []; links = []; master = 0; targets = [] };
  unit = 1;
  times = Some 2 ∷ [];
  costs = [];
}

-- one task in each period of a task's ticks
abbrev busy_table : Table
busy_table = record { period = 2; tasks = 1; depth = 0; routes = record { links = []; end = 0; count = 1; kind = 0 } ∷ []; slots = record { duration = 2; pieces = [] } ∷ [] }

-- the same with an idle tick in each period
abbrev slow_table : Table
slow_table = record { period = 3; tasks = 1; depth = 0; routes = record { links = []; end = 0; count = 1; kind = 0 } ∷ []; slots = record { duration = 3; pieces = [] } ∷ [] }

-- the slow table is not best where the other one is: the first period of that exceeds its rate
not_both : IsBest lone Tasking busy_table → IsBest lone Tasking slow_table → ⊥
not_both busy slow =
    let bad : 3 ≤ 2 = slow.upper.bounds (table_schedule lone Tasking busy_table 1) (busy.valid 1) in
    absurd (omega (arith, bad))

-- a table without a slot doesn't fit
abbrev no_table : Table
no_table = record { period = 0; tasks = 0; depth = 0; routes = []; slots = [] }

not_fitting : Fits lone Tasking no_table → ⊥
not_fitting h = let bad = h.some_slot in absurd (omega (arith, bad))

-- nor does one whose period isn't the sum of its slots
abbrev short_table : Table
short_table = record { period = 1; tasks = 1; depth = 0; routes = record { links = []; end = 0; count = 1; kind = 0 } ∷ []; slots = record { duration = 2; pieces = [] } ∷ [] }

not_fitting_either : Fits lone Tasking short_table → ⊥
not_fitting_either h = let bad = h.period in absurd (omega (arith, bad))

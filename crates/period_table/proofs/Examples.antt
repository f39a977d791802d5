-- A table worked out by hand: a chain of two hops over three periods.
use Rattle.std.proofs.Common.{◌≡◌, List, [], ◌∷◌, Some, None, refl}
use Rattle.ratio_core.specs.Fraction.{whole}
use Rattle.platform_file.specs.Ticks.{TimedView}
use Rattle.schedule_model.specs.declared.schedule.Op.TheVariants.{Send, Compute}
use Rattle.schedule_model.specs.declared.schedule.Series.TheVariants.{Tasking}
use Rattle.schedule_model.specs.Validity.{completed}
use Rattle.flow_routes.specs.declared.flow.Route.{Route}
use Rattle.period_table.specs.declared.table.Table.{Table}
use Rattle.period_table.specs.Lanes.{lanes_of}
use Rattle.period_table.specs.TableSchedules.{table_schedule}

-- a chain of a master and two workers
abbrev chain : TimedView
chain = record {
  platform = record {
    nodes = record { name = 109 ∷ []; time = None } ∷ (record { name = 97 ∷ []; time = Some (whole 2) } ∷ (record { name = 98 ∷ []; time = Some (whole 2) } ∷ []));
    links = record { from = 0; to = 1; cost = whole 1 } ∷ (record { from = 1; to = 2; cost = whole 1 } ∷ []);
    master = 0;
    targets = [];
  };
  unit = 1;
  times = None ∷ (Some 2 ∷ (Some 2 ∷ []));
  costs = 1 ∷ (1 ∷ []);
}

-- a task to the first worker and a task through it to the second
abbrev chain_routes : List Route
chain_routes = record { links = 0 ∷ []; end = 1; count = 1; kind = 0 } ∷ (record { links = 0 ∷ (1 ∷ []); end = 2; count = 1; kind = 0 } ∷ [])

abbrev chain_table : Table
chain_table = record {
  period = 2;
  tasks = 2;
  depth = 2;
  routes = chain_routes;
  slots = record { duration = 1; pieces = record { lane = 0; count = 1 } ∷ (record { lane = 2; count = 1 } ∷ []) }
      ∷ (record { duration = 1; pieces = record { lane = 1; count = 1 } ∷ [] } ∷ []);
}

-- lanes are numbered route by route and hop by hop
chain_lanes : lanes_of chain_routes ≡
    record { link = 0; hop = 0; kind = 0; count = 1 }
    ∷ (record { link = 0; hop = 0; kind = 0; count = 1 } ∷ (record { link = 1; hop = 1; kind = 0; count = 1 } ∷ []))
chain_lanes = refl

-- what comes to the first worker in a period is sent on or computed in the next one
three_periods : (table_schedule chain Tasking chain_table 3).ops ≡
    Send 0 0 0 ∷ (Send 0 0 1 ∷ (Send 0 0 2 ∷ (Send 1 0 2 ∷ (Compute 1 2 ∷ (Send 0 0 3 ∷ (Send 0 0 4 ∷ (Send 1 0 4 ∷ (Compute 1 4 ∷ (Compute 2 4 ∷ (Send 0 0 5 ∷ []))))))))))
three_periods = refl

three_complete : completed chain Tasking (table_schedule chain Tasking chain_table 3) ≡ 3
three_complete = refl

no_periods : (table_schedule chain Tasking chain_table 0).ops ≡ []
no_periods = refl

-- What a plan is, and why a platform has none.
use Rattle.std.specs.Prelude.{◌≡◌, ℕ, List, ◌++◌, codes, decimal, Option, Some, None, option_and_then, option_map, Result, Ok, Err, cond}
use Rattle.platform_file.specs.Ticks.{TimedView}
use Rattle.linear_program.specs.Starts.{start_tableau}
use Rattle.linear_program.specs.declared.certificate.Optimum.{Optimum}
use Rattle.exact_simplex.specs.Answers.{answer_of}
use Rattle.exact_simplex.specs.Bland.{bland_run}
use Rattle.exact_simplex.specs.declared.fault.SolveFault.{SolveFault}
use Rattle.schedule_model.specs.declared.schedule.Series.{Series}
use Rattle.series_flows.specs.declared.fault.ProgrammeFault.{ProgrammeFault}
use Rattle.planner.specs.declared.fault.PlanFault.{PlanFault}
use Rattle.series_routes.specs.declared.numbers.Scale.{Scale}
use Rattle.series_routes.specs.declared.numbers.TableFault.{TableFault}
use Rattle.series_routes.specs.declared.numbers.TableFault.TheVariants as table
use Rattle.planner.specs.declared.planned.Plan.{Plan}
use Rattle.series_flows.specs.Programmes.{programme_of, lacks_targets}
use Rattle.series_routes.specs.Numbers.{table_fault_text, scale_of}
use Rattle.planner.specs.Making.{IsTableOf}

-- the line that names why a platform isn't planned
abbrev pub plan_fault_text : PlanFault → List ℕ
plan_fault_text PlanFault.NoTargets = codes "platform: no targets"
plan_fault_text (PlanFault.Pivot pivots row column) = codes "pivot overflow after " ++ (decimal pivots ++ (codes " pivots at cell " ++ (decimal row ++ (codes " " ++ decimal column))))
plan_fault_text (PlanFault.Spent limit) = codes "pivot limit " ++ (decimal limit ++ codes " spent")
plan_fault_text (PlanFault.Period step left right) = table_fault_text (table.Period step left right)
plan_fault_text PlanFault.NoMemory = codes "out of memory"

-- why there is no plan where there is no programme
abbrev pub programme_fault : ProgrammeFault → PlanFault
programme_fault ProgrammeFault.NoTargets = PlanFault.NoTargets
programme_fault ProgrammeFault.NoMemory = PlanFault.NoMemory

-- why there is no plan where the programme isn't solved
abbrev pub plan_fault : SolveFault → PlanFault
plan_fault (SolveFault.Overflow pivots row column) = PlanFault.Pivot pivots row column
plan_fault (SolveFault.Spent limit) = PlanFault.Spent limit
plan_fault SolveFault.NoMemory = PlanFault.NoMemory

-- why there is none where the solution has no table
abbrev pub period_fault : TableFault → PlanFault
period_fault (table.Period step left right) = PlanFault.Period step left right
period_fault table.NoMemory = PlanFault.NoMemory

-- the solution of a programme, or why there is none
abbrev pub solution_in : Result Optimum SolveFault → Result Optimum PlanFault
solution_in (Ok optimum) = Ok optimum
solution_in (Err fault) = Err (plan_fault fault)

-- the solution at the end of the run by Bland's rule on a platform's programme, with so many pivots allowed; without targets messages have
-- nowhere to go
abbrev pub solution_of : ℕ → TimedView → Series → Option (Result Optimum PlanFault)
solution_of limit t series =
    cond (lacks_targets t series) (Some (Err PlanFault.NoTargets)) (option_map solution_in (answer_of limit (bland_run limit (start_tableau (programme_of t series)))))

-- the fault of a scale
abbrev pub fault_of_scale : Result Scale TableFault → Option PlanFault
fault_of_scale (Ok scale) = None
fault_of_scale (Err fault) = Some (period_fault fault)

-- the fault of a solution: there is none, or its period exceeds the bound
abbrev pub fault_of_answer : TimedView → Series → Result Optimum PlanFault → Option PlanFault
fault_of_answer t series (Ok optimum) = fault_of_scale (scale_of t series optimum.values)
fault_of_answer t series (Err fault) = Some fault

-- why a platform has no plan, if it has none
abbrev pub fault_of : ℕ → TimedView → Series → Option PlanFault
fault_of limit t series = option_and_then (fault_of_answer t series) (solution_of limit t series)

-- a plan: the solution at the end of the run, and its table
pub record IsPlan (limit : ℕ) (t : TimedView) (series : Series) (plan : Plan) : Type 0 where
  pub solved : solution_of limit t series ≡ Some (Ok plan.optimum)
  pub made : IsTableOf t series plan.optimum.values plan.table

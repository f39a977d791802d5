-- How far a history has come.
use Rattle.std.specs.Prelude.{ℕ, ◌<◌, List, length}
use Rattle.platform_file.specs.Ticks.{TimedView}
use Rattle.period_table.specs.declared.table.Table.{Table}
use Rattle.step_core.specs.declared.wiring.Event.{Event}
use Rattle.step_core.specs.Wirings.{WiringView, program_of}
use Rattle.step_core.specs.Histories.{events_of, IsLegal}
use Rattle.step_core.specs.Paced.{period_of}
use Rattle.actor_programs.specs.Programs.{wiring_of, periods_of}

-- the history has every event of the first periods
abbrev pub HasPeriods : WiringView → List (List ℕ) → ℕ → List Event → Type 0
HasPeriods w periods n h = (actor i : ℕ) → i < length (program_of w actor) → period_of periods actor i < n → i < length (events_of actor h)

-- a legal history of a table's wiring has every event of the first periods
pub record HasRun (t : TimedView) (table : Table) (chunks n : ℕ) (h : List Event) : Type 0 where
  pub legal : IsLegal (wiring_of t table chunks) h
  pub periods : HasPeriods (wiring_of t table chunks) (periods_of t table chunks) n h

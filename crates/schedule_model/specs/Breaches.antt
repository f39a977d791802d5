-- The first rule that a schedule breaks (this project).
use Rattle.std.specs.Prelude.{◌≡◌, ℕ, ◌+◌, ◌%◌, ◌<◌, ◌≤◌, take, All}
use Rattle.std.specs.List.Sorted.{IsNonDecreasingBy}
use Rattle.platform_file.specs.Ticks.{TimedView}
use Rattle.schedule_model.specs.declared.breach.Rule.{Rule}
use Rattle.schedule_model.specs.declared.breach.Rule.TheVariants.{Unit as WholeUnit, Order, Range, Late, SendPort, ReceivePort, ComputePort, OwnType, Supply}
use Rattle.schedule_model.specs.declared.breach.Breach.{Breach}
use Rattle.schedule_model.specs.declared.schedule.Series.{Series}
use Rattle.schedule_model.specs.declared.schedule.Schedule.{Schedule}
use Rattle.schedule_model.specs.Operations.{start_of, end_of}
use Rattle.schedule_model.specs.Validity.{IsInRange, KeepsOwn, open_sends, open_receives, open_computes, IsSupplied}

-- the schedule keeps the rule
abbrev pub Keeps : TimedView → Series → Schedule → Rule → Type 0
Keeps t series s WholeUnit = (0 < s.ticks_per_unit) × (s.ticks_per_unit % t.unit ≡ 0)
Keeps t series s Order = IsNonDecreasingBy start_of s.ops
Keeps t series s Range = All (IsInRange t series) s.ops
Keeps t series s Late = All (λ op. end_of t s.ticks_per_unit op ≤ s.length) s.ops
Keeps t series s SendPort = (node tick : ℕ) → open_sends t s node tick ≤ 1
Keeps t series s ReceivePort = (node tick : ℕ) → open_receives t s node tick ≤ 1
Keeps t series s ComputePort = (node tick : ℕ) → open_computes t s node tick ≤ 1
Keeps t series s OwnType = All (KeepsOwn t series) s.ops
Keeps t series s Supply = IsSupplied t series s

-- the place of a rule in the order in which the rules are tried
abbrev pub rank_of : Rule → ℕ
rank_of WholeUnit = 0
rank_of Order = 1
rank_of Range = 2
rank_of Late = 3
rank_of SendPort = 4
rank_of ReceivePort = 5
rank_of ComputePort = 6
rank_of OwnType = 7
rank_of Supply = 8

-- the schedule of the first k operations
abbrev pub first_ops : Schedule → ℕ → Schedule
first_ops s k = record { ticks_per_unit = s.ticks_per_unit; length = s.length; ops = take k s.ops }

-- the operations before the index keep all rules, and with the operation there this rule is broken and none before it; the unit is
-- no operation's, and is tried at index 0
pub record IsFirstBreach (t : TimedView) (series : Series) (s : Schedule) (breach : Breach) : Type 0 where
  pub unit_first : breach.rule ≡ WholeUnit → breach.index ≡ 0
  pub kept_before : (rule : Rule) → 1 ≤ rank_of rule → Keeps t series (first_ops s breach.index) rule
  pub earlier_kept : (rule : Rule) → rank_of rule < rank_of breach.rule → Keeps t series (first_ops s (breach.index + 1)) rule
  pub broken : Keeps t series (first_ops s (breach.index + 1)) breach.rule → ⊥

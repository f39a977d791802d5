-- A broken rule as text (this project).
use Rattle.std.specs.Prelude.{ℕ, List, ◌++◌, codes, decimal}
use Rattle.schedule_model.specs.declared.breach.Breach.{Breach}
use Rattle.schedule_model.specs.declared.breach.Rule.{Rule}
use Rattle.schedule_model.specs.declared.breach.Rule.TheVariants as rule

-- the words for a rule
abbrev pub rule_text : Rule → List ℕ
rule_text rule.Unit = codes "unit"
rule_text rule.Order = codes "order"
rule_text rule.Range = codes "range"
rule_text rule.Late = codes "late"
rule_text rule.SendPort = codes "send port"
rule_text rule.ReceivePort = codes "receive port"
rule_text rule.ComputePort = codes "compute port"
rule_text rule.OwnType = codes "own type"
rule_text rule.Supply = codes "supply"

-- the line that names an operation and the rule that it breaks
abbrev pub breach_text : Breach → List ℕ
breach_text breach = codes "schedule: operation " ++ (decimal breach.index ++ (codes ": " ++ rule_text breach.rule))

use Rattle.std.proofs.Common.{ap₂, ◌∙◌}
use Rattle.std.proofs.lemmas.Result.{IfOk-weaker}
use Rattle.clap.specs.Words.{with_rule}
use Rattle.command_words.proofs.finding.audit_command.Goals as goal

pub returns : goal.returns
returns c =
    IfOk-weaker c.arg-3.result _ _
    (λ command adds. adds.shape c.option.ensures.local
    ∙ ap₂ with_rule (c.in_ok-arg-2.ensures.shape c.name-2.ensures.local ∙ ap₂ with_rule (c.in_ok-arg.ensures.shape c.name.ensures.local ∙ ap₂ with_rule c.bare.ensures c.name.ensures.rule) c.name-2.ensures.rule) c.option.ensures.rule)
    c.arg-3.ensures

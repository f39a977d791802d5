use Rattle.std.proofs.Common.{rules, ◌≡◌, Some, map, string_bytes}
use Rattle.command_words.specs.Words.{audit, rehearse, command_of}
use Rattle.steady_top.proofs.FewPeriods.{audit_few, some_bytes}
use Rattle.steady_top.proofs.top.answer.Goals as goal

pub audit-requires : goal.audit-requires
audit-requires g c =
    let given : command_of (map string_bytes c.args.words.now) ≡ Some (audit c.in-Ok-Audit.file.now c.in-Ok-Audit.plan.now c.in-Ok-Audit.periods) = search rules in
    audit_few (map string_bytes c.args.words.now) c.in-Ok-Audit.file.now c.in-Ok-Audit.plan.now c.in-Ok-Audit.periods given

pub rehearse-requires : goal.rehearse-requires
rehearse-requires g c =
    let given : command_of (map string_bytes c.args.words.now) ≡ Some (rehearse c.in-Ok-Rehearse.file.now c.in-Ok-Rehearse.«data».now c.in-Ok-Rehearse.chunk c.in-Ok-Rehearse.seed c.in-Ok-Rehearse.pivots) = search rules in
    some_bytes (map string_bytes c.args.words.now) c.in-Ok-Rehearse.file.now c.in-Ok-Rehearse.«data».now c.in-Ok-Rehearse.chunk c.in-Ok-Rehearse.seed c.in-Ok-Rehearse.pivots given

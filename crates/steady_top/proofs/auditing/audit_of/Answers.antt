use Rattle.std.proofs.Common.{rules, ◌≡◌, string_bytes}
use Rattle.schedule_model.specs.Validity.{IsValid, completed}
use Rattle.steady_top.specs.Audits.{audit_text}
use Rattle.steady_top.proofs.Audited.{audit_found, breach_found, is_ok_err}
use Rattle.steady_top.proofs.auditing.audit_of.Goals as goal

pub returns-in-Ok : goal.returns-in-Ok
returns-in-Ok c =
    let t = c.args.timed.now in
    let schedule = c.in_ok-series.schedule in
    let series = c.in_ok-series.series in
    let line : string_bytes c.in_ok-audit_line-in-Ok.field-0 ≡ audit_text c.args.periods schedule.length c.in-Ok.count = search rules in
    let valid : IsValid t series schedule = search rules in
    let counted : c.in-Ok.count ≡ completed t series schedule = search rules in
    audit_found c.args.periods t c.args.bytes.now series schedule c.in_ok-series.ensures c.in-Ok.count (string_bytes c.in_ok-audit_line-in-Ok.field-0) valid counted line

pub returns : goal.returns
returns c =
    let t = c.args.timed.now in
    let schedule = c.in_ok-series.schedule in
    let series = c.in_ok-series.series in
    breach_found c.args.periods t c.args.bytes.now series schedule c.in_ok-series.ensures c.in-Err.breach.index c.in-Err.breach.rule c.in-Err.ensures.breach (λ valid. is_ok_err (c.in-Err.ensures.valid.1 valid))

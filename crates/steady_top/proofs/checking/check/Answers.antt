use Rattle.std.proofs.Common.{string_bytes, sym, subst}
use Rattle.steady_top.specs.Faults.{refusal_of}
use Rattle.command_words.specs.Words.{check}
use Rattle.steady_top.specs.Answers.{IsMade, IsCauseFor}
use Rattle.steady_top.proofs.Works.{platform_fault, unchecked_is_cause, of_error, checked_is_made, both_ways}
use Rattle.steady_top.proofs.checking.check.Goals as goal

pub returns-in_err-timed : goal.returns-in_err-timed
returns-in_err-timed g c =
    let command = check c.args.name.now c.args.second.now c.args.series in
    let before = g.F.Files.state c.args.files.now in
    let after = g.F.Files.state c.read_timed.new.files in
    of_error (λ text. IsMade command before after (string_bytes text)) c.from_residual.result c.from_residual.ensures.0 c.from_residual.ensures.1
    (λ e is. subst (λ fault. IsCauseFor command before after (refusal_of fault)) (sym is) (platform_fault command before after (refusal_of c.in_err-timed.field-0.0) c.in_err-timed.ensures))

pub returns : goal.returns
returns g c =
    let before = g.F.Files.state c.args.files.now in
    let middle = g.F.Files.state c.read_timed.new.files in
    let after = g.F.Files.state c.check_over.new.files in
    let read = c.in_ok-timed.ensures in
    both_ways c.check_over.result (λ text. checked_is_made before middle after c.args.name.now c.args.second.now c.args.series c.in_ok-timed.timed read (string_bytes text))
    (λ e. unchecked_is_cause before middle after c.args.name.now c.args.second.now c.args.series c.in_ok-timed.timed read (refusal_of e)) c.check_over.ensures

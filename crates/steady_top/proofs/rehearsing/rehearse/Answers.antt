use Rattle.std.proofs.Common.{sym, subst}
use Rattle.command_words.specs.Words.{rehearse}
use Rattle.steady_top.specs.Faults.{refusal_of}
use Rattle.steady_top.specs.Answers.{IsMade, IsCauseFor}
use Rattle.steady_top.proofs.Works.{platform_fault, of_error, rehearsed_is_made, unrehearsed_is_cause, both_ways}
use Rattle.steady_top.proofs.rehearsing.rehearse.Goals as goal

pub returns-in_err-timed : goal.returns-in_err-timed
returns-in_err-timed g c =
    let command = rehearse c.args.name.now c.args.second.now c.args.size c.args.seed c.args.pivots in
    let before = g.F.Files.state c.args.files.now in
    let after = g.F.Files.state c.read_timed.new.files in
    of_error (λ text. IsMade command before after text.items) c.from_residual.result c.from_residual.ensures.0 c.from_residual.ensures.1
    (λ e is. subst (λ fault. IsCauseFor command before after (refusal_of fault)) (sym is) (platform_fault command before after (refusal_of c.in_err-timed.field-0.0) c.in_err-timed.ensures))

pub returns : goal.returns
returns g c =
    let before = g.F.Files.state c.args.files.now in
    let middle = g.F.Files.state c.read_timed.new.files in
    let after = g.F.Files.state c.rehearsal_over.new.files in
    let read = c.in_ok-timed.ensures in
    both_ways c.rehearsal_over.result (λ text. rehearsed_is_made before middle after c.args.name.now c.args.second.now c.args.size c.args.seed c.args.pivots c.in_ok-timed.timed read text.items)
    (λ e. unrehearsed_is_cause before middle after c.args.name.now c.args.second.now c.args.size c.args.seed c.args.pivots c.in_ok-timed.timed read (refusal_of e)) c.rehearsal_over.ensures

use Rattle.std.proofs.Common.{string_bytes, sym, subst}
use Rattle.command_words.specs.Words.{prices}
use Rattle.steady_top.specs.Faults.{refusal_of}
use Rattle.steady_top.specs.Answers.{IsMade, IsCauseFor}
use Rattle.steady_top.proofs.Works.{platform_fault, unpriced_is_cause, of_error, both_ways, priced_is_made}
use Rattle.steady_top.proofs.planning.prices.Goals as goal

pub returns : goal.returns
returns g c =
    let before = g.F.Files.state c.args.files.now in
    let after = g.F.Files.state c.read_timed.new.files in
    let read = c.in_ok-timed.ensures in
    both_ways c.prices_of.result (λ text. priced_is_made before after c.args.name.now c.args.series c.args.pivots c.in_ok-timed.timed (string_bytes text) read)
    (λ e. unpriced_is_cause before after c.args.name.now c.args.series c.args.pivots c.in_ok-timed.timed read (refusal_of e)) c.prices_of.ensures

pub returns-in_err-timed : goal.returns-in_err-timed
returns-in_err-timed g c =
    let command = prices c.args.name.now c.args.series c.args.pivots in
    let before = g.F.Files.state c.args.files.now in
    let after = g.F.Files.state c.read_timed.new.files in
    of_error (λ text. IsMade command before after (string_bytes text)) c.from_residual.result c.from_residual.ensures.0 c.from_residual.ensures.1
    (λ e is. subst (λ fault. IsCauseFor command before after (refusal_of fault)) (sym is) (platform_fault command before after (refusal_of c.in_err-timed.field-0.0) c.in_err-timed.ensures))

use Rattle.std.proofs.Common.{string_bytes, sym, subst, refl}
use Rattle.platform_file.specs.Reading.{most_bytes}
use Rattle.steady_top.specs.Refusals.{long_certificate}
use Rattle.steady_top.specs.Faults.{refusal_of}
use Rattle.steady_top.specs.Outcomes.{check_of_file}
use Rattle.steady_top.specs.Planned.{IsChecked, IsSecondFault}
use Rattle.steady_top.proofs.Works.{of_error, second_read, unread_is_second, long_is_refused, unproved_is_second, both_ways}
use Rattle.steady_top.proofs.checking.check_over.Goals as goal

pub returns-in_err-bytes : goal.returns-in_err-bytes
returns-in_err-bytes g c =
    let t = c.args.timed.now in
    let before = g.F.Files.state c.args.files.now in
    let after = g.F.Files.state c.read_named.new.files in
    let outcome = check_of_file t c.args.series in
    of_error (λ text. IsChecked t c.args.series before c.args.name.now after (string_bytes text)) c.from_residual.result c.from_residual.ensures.0 c.from_residual.ensures.1
    (λ e is. subst (λ fault. IsSecondFault outcome before c.args.name.now after (refusal_of fault)) (sym is)
    (unread_is_second outcome before after c.args.name.now most_bytes long_certificate (long_is_refused t c.args.series) (λ command. refl) (refusal_of c.in_err-bytes.field-0.0) c.in_err-bytes.ensures))

pub returns : goal.returns
returns g c =
    let before = g.F.Files.state c.args.files.now in
    let after = g.F.Files.state c.read_named.new.files in
    let bytes = c.in_ok-bytes.bytes.items in
    let read = second_read before after c.args.name.now most_bytes bytes c.in_ok-bytes.ensures in
    let checked = rw c.deref.ensures.value at c.check_of.ensures in
    both_ways c.check_of.result (λ text is. record { bytes = bytes; read = read; check = is })
    (λ e. unproved_is_second c.args.timed.now c.args.series before after c.args.name.now bytes read (refusal_of e)) checked

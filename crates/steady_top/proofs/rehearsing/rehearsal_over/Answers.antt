use Rattle.std.proofs.Common.{sym, subst, refl}
use Rattle.steady_top.specs.Refusals.{long_data}
use Rattle.steady_top.specs.Faults.{refusal_of}
use Rattle.steady_top.specs.Rehearsals.{most_data_bytes}
use Rattle.steady_top.specs.Outcomes.{rehearse_of_file}
use Rattle.steady_top.specs.Planned.{IsRehearsedOver, IsSecondFault}
use Rattle.steady_top.proofs.Works.{of_error, second_read, unread_is_second, long_data_refused, unrehearsed_is_second, both_ways}
use Rattle.steady_top.proofs.rehearsing.rehearsal_over.Goals as goal

pub returns-in_err-bytes : goal.returns-in_err-bytes
returns-in_err-bytes g c =
    let t = c.args.timed.now in
    let before = g.F.Files.state c.args.files.now in
    let after = g.F.Files.state c.read_named.new.files in
    let outcome = rehearse_of_file c.args.pivots c.args.size c.args.seed t in
    of_error (λ text. IsRehearsedOver t c.args.pivots c.args.size c.args.seed before c.args.name.now after text.items) c.from_residual.result c.from_residual.ensures.0 c.from_residual.ensures.1
    (λ e is. subst (λ fault. IsSecondFault outcome before c.args.name.now after (refusal_of fault)) (sym is)
    (unread_is_second outcome before after c.args.name.now most_data_bytes long_data (long_data_refused c.args.pivots c.args.size c.args.seed t) (λ command. refl) (refusal_of c.in_err-bytes.field-0.0) c.in_err-bytes.ensures))

pub returns : goal.returns
returns g c =
    let before = g.F.Files.state c.args.files.now in
    let after = g.F.Files.state c.read_named.new.files in
    let bytes = c.in_ok-bytes.bytes.items in
    let read = second_read before after c.args.name.now most_data_bytes bytes c.in_ok-bytes.ensures in
    let done = rw c.deref.ensures.value at c.rehearsal_of.ensures in
    both_ways c.rehearsal_of.result (λ text is. record { bytes = bytes; read = read; done = is })
    (λ e. unrehearsed_is_second c.args.pivots c.args.size c.args.seed c.args.timed.now before after c.args.name.now bytes read (refusal_of e)) done

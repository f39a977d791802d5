use Rattle.steady_top.specs.Faults.{refusal_of}
use Rattle.steady_top.proofs.Works.{read_may_be, unread_is_platform, read_is_next, fault_is_platform, of_error}
use Rattle.steady_top.proofs.reading.read_timed.Goals as goal

pub returns-in_err-bytes : goal.returns-in_err-bytes
returns-in_err-bytes g c =
    of_error _ c.from_residual.result c.from_residual.ensures.0 c.from_residual.ensures.1
    (λ e is. rw is (unread_is_platform (g.F.Files.state c.args.files.now) _ c.args.name.now (refusal_of c.in_err-bytes.field-0.0) c.in_err-bytes.ensures))

pub returns-in_err-platform : goal.returns-in_err-platform
returns-in_err-platform g c =
    let cause = rw c.deref.ensures.value at c.in_err-platform.ensures in
    of_error _ c.from_residual-in_err-platform.result c.from_residual-in_err-platform.ensures.0 c.from_residual-in_err-platform.ensures.1
    (λ e is. fault_is_platform (g.F.Files.state c.args.files.now) _ c.args.name.now c.in_ok-bytes.bytes.items (read_may_be _ _ c.in_ok-bytes.ensures.file) c.in_ok-bytes.ensures.within c.in_ok-bytes.ensures.one_open.opens c.in_ok-bytes.ensures.faults c.in_err-platform.field-0.0 (refusal_of e) cause is)

pub returns : goal.returns
returns g c =
    let read = rw c.deref.ensures.value at c.in_ok-platform.ensures in
    record {
      platform = record {
        bytes = c.in_ok-bytes.bytes.items;
        file = read_may_be _ _ c.in_ok-bytes.ensures.file;
        platform = c.in_ok-platform.platform;
        read = read;
        in_ticks = c.in_ok-timed.ensures.value;
      };
      short = λ next. read_is_next next c.in_ok-bytes.bytes.items c.in_ok-platform.platform c.in_ok-timed.field-0 c.in_ok-bytes.ensures.within read c.in_ok-timed.ensures.value;
      calm = c.in_ok-bytes.ensures.faults;
      held = c.in_ok-bytes.ensures.one_open.held;
      opens = c.in_ok-bytes.ensures.one_open.opens;
    }

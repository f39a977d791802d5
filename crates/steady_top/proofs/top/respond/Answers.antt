use Rattle.std.proofs.Common.{rules, arith}
use Rattle.std.proofs.lemmas.Grind.{common_steps}
use Rattle.steady_top.specs.Faults.{refusal_of}
use Rattle.steady_top.specs.Answers.{call_of}
use Rattle.steady_top.proofs.Responses.{refused_response}
use Rattle.steady_top.proofs.top.respond.Goals as goal

pub returns-in-Ok : goal.returns-in-Ok
returns-in-Ok g c = first_of (search rules, grind (arith, common_steps))

pub returns-in-Err : goal.returns-in-Err
returns-in-Err g c =
    let call = call_of c.args.words.now (g.F.Files.state c.args.files.now) (g.F.Files.state c.answer.new.files) (g.S.Sink.state c.args.out.now) (g.S.Sink.state c.refuse.new.out) in
    refused_response call (refusal_of c.in-Err.fault) c.refuse.result c.in-Err.ensures c.refuse.ensures

use Rattle.std.proofs.Common.{◌≡◌, ◌∙◌, [], drop, vec_items, refl, subst}
use Rattle.std.specs.Vec.Iter.{into_iter_items}
use Rattle.std.specs.IoError.{error_kind}
use Rattle.std.specs.declared.io.ErrorKind.TheVariants as kind
use Rattle.steady_top.specs.declared.fault.TopFault.TheVariants as top
use Rattle.steady_top.specs.Refusals.{usage, no_memory}
use Rattle.steady_top.specs.Answers.{call_of}
use Rattle.steady_top.specs.Ends.{IsEnd}
use Rattle.steady.proofs.Runs.{words_had, memory_lost, is_usage, is_memory, memory_ends, wordless_ends, ok_then, err_then}
use Rattle.steady.proofs.run.Goals as goal

pub returns-in-Ok-clause-words : goal.returns-in-Ok-clause-words
returns-in-Ok-clause-words g c =
    let before = g.F.Files.state c.args.files.now in
    let after = g.F.Files.state c.steady.new.files in
    let out = g.S.Sink.state c.args.out.now in
    let written = g.S.Sink.state c.steady.new.out in
    ok_then c.args.arguments
    (λ all is. (c.steady.result, c.code.ensures, subst (λ words. IsEnd (call_of words before after out written) c.steady.result) (c.as_slice.ensures.value ∙ is) c.steady.ensures))
    (words_had (λ all words. vec_items words ≡ drop 1 (into_iter_items all)) (λ error. error_kind error ≡ kind.OutOfMemory) c.args.arguments c.in-Ok.words c.in-Ok.ensures)

pub returns-in-Err-clause-words : goal.returns-in-Err-clause-words
returns-in-Err-clause-words g c =
    let files = g.F.Files.state c.args.files.now in
    let out = g.S.Sink.state c.args.out.now in
    let written = g.S.Sink.state c.refuse.new.out in
    ok_then c.args.arguments
    (λ all is. memory_ends (call_of (drop 1 (into_iter_items all)) files files out written) c.refuse.result c.in-Err.fault c.code-in-Err.result refl c.refuse.ensures c.code-in-Err.ensures is)
    (memory_lost (λ all words. vec_items words ≡ drop 1 (into_iter_items all)) (λ error. error_kind error ≡ kind.OutOfMemory) c.args.arguments c.in-Err.fault c.in-Err.ensures)

pub returns-in-Err-clause-no_words : goal.returns-in-Err-clause-no_words
returns-in-Err-clause-no_words g c =
    let files = g.F.Files.state c.args.files.now in
    let out = g.S.Sink.state c.args.out.now in
    let written = g.S.Sink.state c.refuse.new.out in
    err_then c.args.arguments
    (λ error given other. wordless_ends usage (call_of [] files files out written) c.refuse.result c.in-Err.fault top.Usage c.code-in-Err.result refl c.refuse.ensures c.code-in-Err.ensures refl (given other))
    (is_usage (λ all words. vec_items words ≡ drop 1 (into_iter_items all)) (λ error. error_kind error ≡ kind.OutOfMemory) c.args.arguments c.in-Err.fault c.in-Err.ensures)

pub returns-in-Err-clause-no_memory : goal.returns-in-Err-clause-no_memory
returns-in-Err-clause-no_memory g c =
    let files = g.F.Files.state c.args.files.now in
    let out = g.S.Sink.state c.args.out.now in
    let written = g.S.Sink.state c.refuse.new.out in
    err_then c.args.arguments
    (λ error given memory. wordless_ends no_memory (call_of [] files files out written) c.refuse.result c.in-Err.fault top.NoMemory c.code-in-Err.result refl c.refuse.ensures c.code-in-Err.ensures refl (given memory))
    (is_memory (λ all words. vec_items words ≡ drop 1 (into_iter_items all)) (λ error. error_kind error ≡ kind.OutOfMemory) c.args.arguments c.in-Err.fault c.in-Err.ensures)

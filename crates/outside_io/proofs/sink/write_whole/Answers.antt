use Rattle.std.proofs.lemmas.Grind.{common_steps}
use Rattle.std.proofs.Common.{rules, ◌≡◌, ℕ, ◌+◌, List, ◌++◌, take, drop, Option, Some, None, option_map, arith, refl, append_assoc}
use Rattle.std.proofs.Math.Seq.{take-add}
use Rattle.std.proofs.lemmas.List.{take_all, length-drop}
use Rattle.outside_io.proofs.sink.write_whole.Goals as goal

-- what two writes in turn append
both_appended : (before mid after : Option (List ℕ)) (bytes rest : List ℕ) (done count : ℕ) → mid ≡ option_map (λ old. old ++ take done bytes) before →
    after ≡ option_map (λ old. old ++ take count rest) mid → rest ≡ drop done bytes → after ≡ option_map (λ old. old ++ take (done + count) bytes) before
both_appended None mid after bytes rest done count e f g = rw (f, e) refl
both_appended (Some old) mid after bytes rest done count e f g = rw (f, e, g, take-add done count bytes, append_assoc) refl

pub loop-done-preserved : goal.loop-done-preserved
loop-done-preserved g c = record {
  within = search rules;
  appends = both_appended _ _ _ c.args.bytes.now _ _ _ c.loop-done.invariant.appends c.in_ok-count.ensures.appends (take_all _ _ (omega (arith, length-drop c.loop-done.done c.args.bytes.now)));
  faults = search rules;
}

pub returns : goal.returns
returns g c = first_of (search rules, grind (arith, common_steps))

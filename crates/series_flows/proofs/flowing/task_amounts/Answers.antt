use Rattle.std.proofs.Common.{rules, ◌≡◌, ℕ, ◌*◌, refl, sym, ◌∙◌, arith}
use Rattle.std.proofs.Math.Seq.{drop-length}
use Rattle.std.proofs.lemmas.List.{get_or-replicate}
use Rattle.std.proofs.lemmas.Grind.{common_steps}
use Rattle.series_flows.proofs.flowing.task_amounts.Goals as goal

nothing : (n : ℕ) → 0 * n ≡ 0
nothing n = omega arith

pub loop-k-init : goal.loop-k-init
loop-k-init c =
    let none = drop-length c.args.columns.now in
    record {
      nodes = refl;
      links = refl;
      uses = λ node l. get_or-replicate 32 node 0 0 l ∙ sym (rw none (nothing _));
      flows = λ link l. get_or-replicate 128 link 0 0 l ∙ sym (rw none (nothing _));
    }

pub loop-k-preserved : goal.loop-k-preserved
loop-k-preserved c = first_of (search rules, grind (arith, common_steps))

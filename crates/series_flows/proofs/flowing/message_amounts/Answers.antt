use Rattle.std.proofs.Common.{rules, ◌≡◌, ℕ, ◌*◌, Bool, true, false, cond, refl, sym, ◌∙◌, arith}
use Rattle.std.proofs.Math.Seq.{drop-length}
use Rattle.std.proofs.lemmas.List.{get_or-replicate}
use Rattle.std.proofs.lemmas.Grind.{common_steps}
use Rattle.ratio_core.specs.Fraction.{whole}
use Rattle.series_flows.specs.Flows.{tasks_in}
use Rattle.series_flows.proofs.flowing.message_amounts.Goals as goal

nothing : (n : ℕ) → 0 * n ≡ 0
nothing n = omega arith

either_way : (b : Bool) (ticks : ℕ) → tasks_in ticks (cond b (whole 0) (whole 0)) ≡ 0
either_way true ticks = nothing _
either_way false ticks = nothing _

pub loop-k-init : goal.loop-k-init
loop-k-init c =
    let none = drop-length c.args.columns.now in
    record {
      nodes = refl;
      links = refl;
      uses = λ node l. get_or-replicate 32 node 0 0 l ∙ sym (rw none (either_way _ c.args.ticks));
      flows = λ link l. get_or-replicate 128 link 0 0 l ∙ sym (rw none (nothing _));
    }

pub loop-k-preserved : goal.loop-k-preserved
loop-k-preserved c = first_of (search rules, grind (arith, common_steps))

pub loop-k-preserved-in-Rate : goal.loop-k-preserved-in-Rate
loop-k-preserved-in-Rate c = first_of (search rules, grind (arith, common_steps))

pub loop-k-preserved-then-own-kind : goal.loop-k-preserved-then-own-kind
loop-k-preserved-then-own-kind c = first_of (search rules, grind (arith, common_steps))

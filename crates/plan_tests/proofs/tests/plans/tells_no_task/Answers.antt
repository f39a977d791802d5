use Rattle.std.proofs.Common.{◌≡◌, length, sym, rules, [], ◌∷◌}
use Rattle.std.proofs.Math.Nat.{zero-div}
use Rattle.std.proofs.lemmas.List.Elements.{All-cons, All-nil}
use Rattle.ratio_core.specs.Fraction.{Fraction, gcd_of, reduced}
use Rattle.tasking_program.specs.Columns.{columns_of}
use Rattle.plan_tests.proofs.Idle.{idle_is_point}
use Rattle.plan_tests.proofs.tests.plans.tells_no_task.Goals as goal

pub tells_table_of_nothing-requires : goal.tells_table_of_nothing-requires
tells_table_of_nothing-requires c =
    let t = c.args.timed.now in
    let one : length (columns_of t) ≡ 1 = search rules in
    idle_is_point t (rw c.requires at c.known.ensures) (reduced 0 1 ∷ []) (sym one) (All-cons (λ (value : Fraction). value.num ≡ 0) (reduced 0 1) [] (zero-div (gcd_of 0 1)) (All-nil (λ (value : Fraction). value.num ≡ 0)))

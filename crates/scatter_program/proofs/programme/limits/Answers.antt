use Rattle.std.proofs.Common.{rules, ◌≡◌, ◌++◌, List, length, ap, ◌∙◌}
use Rattle.std.proofs.lemmas.List.{append_assoc}
use Rattle.scatter_program.specs.declared.rows.Limit.TheVariants.{Send, Receive}
use Rattle.scatter_program.specs.Rows.{rows_of, supplies_below}
use Rattle.scatter_program.proofs.programme.limits.Goals as goal

-- three lists one behind the other
in_order : {A : Type 0} (a b c : List A) {first second third : List A} → first ≡ a → second ≡ first ++ b → third ≡ second ++ c → third ≡ a ++ (b ++ c)
in_order a b c e f g = g ∙ ap (λ xs. xs ++ c) (f ∙ ap (λ xs. xs ++ b) e) ∙ append_assoc a b c

pub returns-clause-value : goal.returns-clause-value
returns-clause-value c =
    let t = c.args.timed.now in
    let first : c.push_rows.new.rows ≡ rows_of t Send = search rules in
    in_order (rows_of t Send) (rows_of t Receive) (supplies_below t (length t.platform.targets)) first c.in_ok-push_rows-2.ensures.value c.in_ok-push_supplies.ensures.value

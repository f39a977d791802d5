use Rattle.std.proofs.Common.{rules, ◌≡◌, ◌++◌, List, ap, ◌∙◌}
use Rattle.std.proofs.lemmas.List.{append_assoc}
use Rattle.tasking_program.specs.declared.rows.Limit.TheVariants.{Compute, Send, Receive, Supply}
use Rattle.tasking_program.specs.Rows.{rows_of}
use Rattle.tasking_program.proofs.programme.limits.Goals as goal

-- four lists one behind the other
in_order : {A : Type 0} (a b c d : List A) {first second third fourth : List A} → first ≡ a → second ≡ first ++ b → third ≡ second ++ c → fourth ≡ third ++ d → fourth ≡ a ++ (b ++ (c ++ d))
in_order a b c d e f g h =
    h ∙ ap (λ xs. xs ++ d) (g ∙ ap (λ xs. xs ++ c) (f ∙ ap (λ xs. xs ++ b) e)) ∙ append_assoc (a ++ b) c d ∙ append_assoc a b (c ++ d)

pub returns-clause-value : goal.returns-clause-value
returns-clause-value c =
    let t = c.args.timed.now in
    let first : c.push_rows.new.rows ≡ rows_of t Compute = search rules in
    in_order (rows_of t Compute) (rows_of t Send) (rows_of t Receive) (rows_of t Supply) first (c.in_ok-push_rows-2.ensures.value) (c.in_ok-push_rows-3.ensures.value) (c.in_ok-push_rows-4.ensures.value)

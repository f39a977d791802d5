-- The pieces of the first line, joined.
use Rattle.std.proofs.Common.{◌≡◌, ℕ, List, [], ◌∷◌, ◌++◌, codes, decimal, append_assoc}
use Rattle.text_lines.specs.Lines.{line}
use Rattle.period_table.specs.declared.table.Table.{Table}
use Rattle.actor_programs.specs.Tasks.{batches_of}
use Rattle.actor_programs.specs.Programs.{run_periods}
use Rattle.run_text.specs.Reports.{run_line}

-- pieces that are appended one after another are appended together
in_turn : (old a b c d e f g h i : List ℕ) →
    ((((old ++ (a ++ b)) ++ (c ++ d)) ++ (e ++ f)) ++ (g ++ h)) ++ i ≡ old ++ ((a ++ (b ++ (c ++ (d ++ (e ++ (f ++ (g ++ h))))))) ++ i)
in_turn old a b c d e f g h i = simp (append_assoc)

-- the first line, appended number by number
pub run_joined : (table : Table) (chunks events first second third fourth : ℕ) (old one two three four new : List ℕ) →
    first ≡ chunks → second ≡ batches_of table.tasks chunks → third ≡ run_periods table chunks → fourth ≡ events →
    one ≡ old ++ (codes "run 1 chunks " ++ decimal first) → two ≡ one ++ (codes " batches " ++ decimal second) →
    three ≡ two ++ (codes " periods " ++ decimal third) → four ≡ three ++ (codes " events " ++ decimal fourth) → new ≡ four ++ (10 ∷ []) →
    new ≡ old ++ line (run_line table chunks events)
run_joined table chunks events first second third fourth old one two three four new a b c d e f g h i =
    rw (i, h, g, f, e, a, b, c, d) (in_turn old (codes "run 1 chunks ") (decimal chunks) (codes " batches ") (decimal (batches_of table.tasks chunks))
    (codes " periods ") (decimal (run_periods table chunks)) (codes " events ") (decimal events) (10 ∷ []))

use Rattle.linear_program.proofs.Canonical.{canonical_kept, derived_kept}
use Rattle.linear_program.proofs.Starts.{start_canonical, start_derived}
use Rattle.linear_program.proofs.laws.runs_keep_tableaux.Goals as goal

pub returns-clause-start : goal.returns-clause-start
returns-clause-start c = λ p lp. (start_canonical p lp, start_derived p)

pub returns-clause-canonical : goal.returns-clause-canonical
returns-clause-canonical c = canonical_kept

pub returns-clause-derived : goal.returns-clause-derived
returns-clause-derived c = derived_kept

use Rattle.std.proofs.Common.{rules, arith, ap}
use Rattle.std.proofs.lemmas.Grind.{common_steps}
use Rattle.exact_simplex.specs.Optima.{optimum_of}
use Rattle.exact_simplex.specs.Answers.{answer_of}
use Rattle.exact_simplex.proofs.Ends.{best_not_negative, ended_run_is_optimal}
use Rattle.exact_simplex.proofs.solving.solve.Goals as goal

pub optimum-requires : goal.optimum-requires
optimum-requires g c =
    let t = g.T.Tableau.tableau c.run.new.tableau in
    let e = c.in_ok-run.ensures in
    record {
      canonical = e.canonical;
      ended = e.gainless;
      best = best_not_negative c.requires.programme t c.requires.lp (rw c.requires.start at e.derived) e.gainless;
    }

pub returns-clause-optimal : goal.returns-clause-optimal
returns-clause-optimal g c p lp start =
    let t = g.T.Tableau.tableau c.run.new.tableau in
    let ended = rw start at c.in_ok-run.ensures.ended in
    rw c.in_ok-optimum.ensures (ended_run_is_optimal p _ (optimum_of t) lp (ap (answer_of _) ended))

pub returns-in_err-run-clause-exact : goal.returns-in_err-run-clause-exact
returns-in_err-run-clause-exact g c = first_of (search rules, grind (arith, common_steps))

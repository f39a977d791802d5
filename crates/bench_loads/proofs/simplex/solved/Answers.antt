use Rattle.std.proofs.Common.{sym, ◌∙◌, ap}
use Rattle.exact_simplex.specs.Answers.{answer_of}
use Rattle.exact_simplex.specs.Bland.{bland_run}
use Rattle.bench_loads.proofs.simplex.solved.Goals as goal

pub solve-requires : goal.solve-requires
solve-requires c = record {
  programme = c.args.lp.now;
  lp = c.known.ensures;
  bounded = c.requires;
  start = c.in_ok-tableau.ensures;
}

pub returns : goal.returns
returns c no_want =
    ap (λ t. answer_of c.args.limit (bland_run c.args.limit t)) (sym c.in_ok-tableau.ensures) ∙ c.solve.ensures.exact no_want

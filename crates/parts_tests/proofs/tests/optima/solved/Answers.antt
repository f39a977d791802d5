use Rattle.parts_tests.proofs.tests.optima.solved.Goals as goal

pub solve-requires : goal.solve-requires
solve-requires c = record {
  programme = c.args.lp.now;
  lp = c.known.ensures;
  bounded = c.requires;
  start = c.in_ok-start.ensures;
}

use Rattle.std.proofs.Common.{inl, inr, arith, sym, subst}
use Rattle.std.proofs.lemmas.Bool.{cases_eq}
use Rattle.bipartite_slots.specs.Squares.{cell}
use Rattle.bipartite_slots.specs.Choices.{IsLeastAt}
use Rattle.bipartite_slots.proofs.Choices.{still_least, first_when_settled}
use Rattle.bipartite_slots.proofs.choice.arrange.Goals as goal

pub loop-row-preserved : goal.loop-row-preserved
loop-row-preserved c = record {
  complete = c.settle.ensures.complete;
  least = λ i l.
      elim (cases_eq i c.loop-row.row) [
        | inl e ↦ subst (IsLeastAt c.args.square.now.size (cell c.args.square.now) c.settle.new.holders) (sym e) c.settle.ensures.least
        | inr ne ↦
            still_least c.args.square.now.size (cell c.args.square.now) c.loop-row.holders c.settle.new.holders c.loop-row.row i (omega arith) (omega arith)
            c.loop-row.invariant.complete c.settle.ensures.complete.matching c.settle.ensures.kept (c.loop-row.invariant.least i (omega arith))
      ];
}

pub returns-clause-first : goal.returns-clause-first
returns-clause-first c =
    first_when_settled c.args.square.now.size (cell c.args.square.now) c.loop-row.holders
    (omega (arith, c.loop-row.auto.holders, c.requires.holders)) c.loop-row.invariant.complete (λ row l. c.loop-row.invariant.least row (omega arith))

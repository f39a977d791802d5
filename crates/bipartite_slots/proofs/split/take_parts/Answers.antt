use Rattle.std.proofs.Common.{◌≡◌, ℕ, ◌-◌, ◌*◌, ◌<◌, ◌≤◌, ◌++◌, [], List, length, rules, arith, sym, ap, subst}
use Rattle.std.proofs.lemmas.List.{append-nil}
use Rattle.std.proofs.lemmas.Nat.{mul-le}
use Rattle.bipartite_slots.specs.Squares.{SquareView, cell}
use Rattle.bipartite_slots.specs.Parts.{padded, AreChosen}
use Rattle.bipartite_slots.specs.Takings.{TakesPart}
use Rattle.bipartite_slots.specs.declared.weights.Edge.{Edge}
use Rattle.bipartite_slots.specs.declared.weights.Weights.{Weights}
use Rattle.bipartite_slots.specs.declared.weights.SlotPart.{SlotPart}
use Rattle.bipartite_slots.proofs.Edges.{edges_few}
use Rattle.bipartite_slots.proofs.Splitting.{IsSplitting, sums_at_start, chosen_at_start, parts_are, duration_at_most, after_part}
use Rattle.bipartite_slots.proofs.split.take_parts.Goals as goal

pub loop-left-init : goal.loop-left-init
loop-left-init c = record {
  size = c.requires.size;
  holders_length = c.requires.holders;
  seen_length = c.requires.seen;
  listed = c.requires.listed;
  sums = sums_at_start c.args.weights.now c.args.total c.args.square.now c.requires.size c.requires.cells c.requires.exist c.requires.apart c.requires.within;
  matching = c.requires.matching;
  chosen = λ rest h.
      subst (λ before. AreChosen (2 * c.args.weights.now.nodes) c.args.weights.now.edges (padded c.args.weights.now c.args.total) c.args.total (before ++ rest)) (sym c.new-parts.ensures.items)
      (chosen_at_start c.args.weights.now c.args.total c.args.square.now c.requires.size c.requires.cells c.requires.exist c.requires.apart c.requires.within rest h);
}

few_numbers : (a b n : ℕ) → a ≡ b → b ≤ n * n → n ≤ 1000 → n * n ≤ 1000 * 1000 → a < 4294967296
few_numbers a b n e h k m = omega arith

pub next_part-requires-clause-numbers : goal.next_part-requires-clause-numbers
next_part-requires-clause-numbers c =
    few_numbers _ _ c.args.weights.now.nodes (ap length c.as_slice.ensures) (edges_few c.args.weights.now.nodes c.args.weights.now.edges c.requires.exist c.requires.apart)
    c.requires.few_nodes (mul-le c.args.weights.now.nodes c.args.weights.now.nodes 1000 1000 c.requires.few_nodes c.requires.few_nodes)

-- the part speaks of the edges that were lent
part_of : (weights : Weights) (square new : SquareView) (part : SlotPart) (edges : List Edge) → edges ≡ weights.edges → TakesPart square.size edges (cell square) (cell new) part →
    TakesPart square.size weights.edges (cell square) (cell new) part
part_of weights square new part edges e t = subst (λ es. TakesPart square.size es (cell square) (cell new) part) e t

pub overflow_sub-left : goal.overflow_sub-left
overflow_sub-left c =
    duration_at_most c.args.weights.now c.args.total c.args.columns.now c.loop-left.square c.next_part.new.square c.loop-left.holders c.loop-left.holders c.loop-left.seen c.loop-left.seen
    c.loop-left.parts.items c.loop-left.left c.in_ok-part.part c.loop-left.invariant
    (part_of c.args.weights.now c.loop-left.square c.next_part.new.square c.in_ok-part.part c.as_slice.result.now c.as_slice.ensures c.in_ok-part.ensures.part)

pub loop-left-preserved : goal.loop-left-preserved
loop-left-preserved c =
    subst (λ ps. IsSplitting c.args.weights.now c.args.total c.args.columns.now c.next_part.new.square c.next_part.new.holders c.next_part.new.seen ps (c.loop-left.left - c.in_ok-part.part.duration)) (sym c.in_ok-push.ensures.items)
    (after_part c.args.weights.now c.args.total c.args.columns.now c.loop-left.square c.next_part.new.square c.loop-left.holders c.next_part.new.holders c.loop-left.seen c.next_part.new.seen
    c.loop-left.parts.items c.loop-left.left c.in_ok-part.part c.loop-left.invariant
    (part_of c.args.weights.now c.loop-left.square c.next_part.new.square c.in_ok-part.part c.as_slice.result.now c.as_slice.ensures c.in_ok-part.ensures.part)
    c.in_ok-part.ensures.size
    (omega (arith, c.next_part.auto.holders, c.loop-left.invariant.holders_length))
    (omega (arith, c.next_part.auto.seen, c.loop-left.invariant.seen_length))
    c.in_ok-part.ensures.matching)

pub returns-clause-chosen : goal.returns-clause-chosen
returns-clause-chosen c =
    subst (AreChosen (2 * c.args.weights.now.nodes) c.args.weights.now.edges (padded c.args.weights.now c.args.total) c.args.total) (append-nil c.loop-left.parts.items)
    (c.loop-left.invariant.chosen [] (omega arith))

pub returns-clause-parts : goal.returns-clause-parts
returns-clause-parts c =
    parts_are c.args.weights.now c.args.total c.args.square.now c.requires.size c.requires.cells c.requires.exist c.requires.apart c.requires.within
    c.loop-left.parts.items
    (subst (AreChosen (2 * c.args.weights.now.nodes) c.args.weights.now.edges (padded c.args.weights.now c.args.total) c.args.total) (append-nil c.loop-left.parts.items)
    (c.loop-left.invariant.chosen [] (omega arith)))

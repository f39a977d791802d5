use Rattle.std.proofs.Common.{rules, sym, subst}
use Rattle.bipartite_slots.specs.Squares.{cell}
use Rattle.bipartite_slots.specs.Searches.{IsMatching}
use Rattle.bipartite_slots.proofs.Edges.{free_matching}
use Rattle.bipartite_slots.proofs.split.split.Goals as goal

pub take_parts-requires-clause-matching : goal.take_parts-requires-clause-matching
take_parts-requires-clause-matching c =
    subst (IsMatching (cell c.args.square.now)) (sym c.deref_mut-2.ensures.value)
    (free_matching (cell c.args.square.now) c.size-2.result c.in_ok-holders.holders.items (c.in_ok-holders.ensures.items_if_clones_equal (λ y e. search rules)))

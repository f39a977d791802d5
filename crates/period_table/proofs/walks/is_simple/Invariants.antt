use Rattle.std.proofs.Common.{◌≡◌, ℕ, ◌<◌, false, drop, length, get_or, nat_eq}
use Rattle.std.specs.List.{IsDistinct, list_any}
use Rattle.period_table.specs.Tables.{nodes_on}
use Rattle.period_table.proofs.walks.is_simple.Given as goal

abbrev pub invariant-loop-k : goal.invariant-loop-k
invariant-loop-k l = record {
  size : length l.seen ≡ 32;
  marks : (node : ℕ) → node < 32 → get_or l.seen node false ≡ list_any (nat_eq node) (nodes_on l.timed (drop l.k l.links) l.end);
  simple : IsDistinct nat_eq (nodes_on l.timed (drop l.k l.links) l.end);
}

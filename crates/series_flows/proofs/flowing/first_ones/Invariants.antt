use Rattle.std.proofs.Common.{◌≡◌, slice_index}
use Rattle.exact_simplex.specs.Optima.{first_terms}
use Rattle.series_flows.proofs.flowing.first_ones.Given as goal

abbrev pub invariant-loop-k : goal.invariant-loop-k
invariant-loop-k l = l.list ≡ first_terms (slice_index l.numbers) l.k

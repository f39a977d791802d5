use Rattle.std.proofs.Common.{◌≡◌, ◌++◌, drop}
use Rattle.bench_loads.proofs.programme.push_row.Given as goal

abbrev pub invariant-loop-cell : goal.invariant-loop-cell
invariant-loop-cell l = l.listed ++ drop l.cell-index l.cells ≡ l.cells

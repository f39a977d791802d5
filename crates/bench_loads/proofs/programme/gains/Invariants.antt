use Rattle.std.proofs.Common.{◌≡◌, ℕ, ◌<◌, ◌^◌, pos, nat_abs, All, length, cond, nat_lt, slice_index_or}
use Rattle.bench_loads.proofs.programme.gains.Given as goal

abbrev pub invariant-loop-column : goal.invariant-loop-column
invariant-loop-column l = record {
  size : length l.gain ≡ l.column;
  gains : (j : ℕ) → j < l.column → slice_index_or l.gain j (pos 0) ≡ cond (nat_lt j l.workers) (pos 1) (pos 0);
  small : All (λ g. nat_abs g < 2 ^ 127) l.gain;
}

use Rattle.std.proofs.Common.{◌≡◌, ◌+◌, ◌*◌, ◌^◌, ◌<◌, ◌++◌}
use Rattle.period_table.specs.TableSchedules.{one_after_another, compute_at}
use Rattle.period_table.proofs.placing.place_computations.Given as goal

abbrev pub invariant-loop-left : goal.invariant-loop-left
invariant-loop-left l = record {
  ends : l.next + l.left * l.lasts ≡ l.fn.start + l.fn.count * l.lasts;
  short : l.fn.start + l.fn.count * l.lasts < 2 ^ 128;
  placed : l.out.items ++ one_after_another (compute_at l.node) l.lasts l.next l.left ≡ l.fn.out.items ++ one_after_another (compute_at l.node) l.lasts l.fn.start l.fn.count;
}

abbrev pub decreases-loop-left : goal.decreases-loop-left
decreases-loop-left l = l.left

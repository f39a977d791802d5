use Rattle.std.proofs.Common.{◌≡◌, ℕ, ◌/◌, ◌<◌, length, take, get_or, nat_eq, cond}
use Rattle.std.specs.List.{list_any}
use Rattle.schedule_model.specs.Operations.{cost_of}
use Rattle.period_table.proofs.cutting.rooms_in.Given as goal

abbrev pub invariant-loop-link : goal.invariant-loop-link
invariant-loop-link l = record {
  size : length l.rooms ≡ 128;
  rooms : (link : ℕ) → link < 128 → get_or l.rooms link 0 ≡ cond (list_any (nat_eq link) (take l.link-index l.part.edges)) (l.part.duration / cost_of l.timed link) 0;
}

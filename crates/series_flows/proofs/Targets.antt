-- A platform that lacks no targets has one.
use Rattle.std.proofs.Common.{◌≡◌, ◌≤◌, false, length, arith}
use Rattle.std.proofs.lemmas.Bool.Decides.{nat_tests}
use Rattle.platform_file.specs.Ticks.{TimedView}
use Rattle.schedule_model.specs.declared.schedule.Series.TheVariants.{Scatter}
use Rattle.series_flows.specs.Programmes.{lacks_targets}

pub some_target : (t : TimedView) → lacks_targets t Scatter ≡ false → 1 ≤ length t.platform.targets
some_target t some = grind (arith, nat_tests)

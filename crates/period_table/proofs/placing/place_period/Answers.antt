use Rattle.std.proofs.Common.{◌<◌, ◌≤◌, length, filter, sum_by, All, sym, subst}
use Rattle.period_table.specs.TableSchedules.{has_arrived}
use Rattle.period_table.proofs.FittingTables.{links_exist, few_computes}
use Rattle.period_table.proofs.placing.place_period.Goals as goal

pub place_slots-requires-clause-links : goal.place_slots-requires-clause-links
place_slots-requires-clause-links c =
    subst (λ lanes. All (λ lane. lane.link < length c.args.timed.now.platform.links) lanes) (sym c.requires.lanes) (links_exist c.args.timed.now c.args.series c.args.table.now c.requires.fits)

pub place_computes-requires-clause-few : goal.place_computes-requires-clause-few
place_computes-requires-clause-few c =
    subst (λ routes. sum_by (λ route. route.count) (filter (has_arrived c.args.period) routes) ≤ 4000000) (sym c.as_slice-in-Tasking.ensures)
    (few_computes c.args.timed.now c.args.series c.args.table.now c.args.period c.in-Tasking.is c.requires.few)

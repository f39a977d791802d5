use Rattle.std.proofs.Common.{◌≡◌, ◌≢◌, ℕ, ◌≤◌, min, arith, sym, ◌∙◌, subst}
use Rattle.flow_routes.specs.Walks.{IsEnough, IsLeastOn}
use Rattle.flow_routes.specs.Flows.{only}
use Rattle.flow_routes.proofs.Flows.{kept_less, some_enters}
use Rattle.flow_routes.proofs.Rounds.{some_link, walk_clear, clear_enough}
use Rattle.flow_routes.proofs.round.round.Goals as goal

at_most : (count least demand : ℕ) → count ≡ min least demand → count ≤ least
at_most count least demand e = omega (arith, e)

pub walk_back-requires-clause-kept : goal.walk_back-requires-clause-kept
walk_back-requires-clause-kept c = kept_less c.args.master c.args.links.now c.args.amounts.now (only c.args.served.node c.args.served.demand) (λ v. 0) (λ v. omega arith) c.requires.kept

pub walk_back-requires-clause-some : goal.walk_back-requires-clause-some
walk_back-requires-clause-some c = some_enters c.args.master c.args.links.now c.args.amounts.now c.args.served.node c.args.served.demand c.requires.kept c.requires.not_master c.requires.demand

pub take_along-requires : goal.take_along-requires
take_along-requires c =
    let path = c.in_ok-path.path in
    let walk = c.in_ok-path.ensures.walk in
    let apart : c.args.served.node ≢ c.in_ok-path.end = λ e. c.requires.not_master (e ∙ c.if-end-master.true) in
    let any = some_link c.args.links.now c.args.served.node path c.in_ok-path.end walk.leads apart in
    let clear = walk_clear c.args.master c.args.links.now c.args.amounts.now c.args.served.node path c.in_ok-path.end walk c.requires.lengths any in
    let least = subst (λ ks. IsLeastOn c.args.amounts.now ks c.least_on.result) c.as_slice-then-end-master.ensures c.least_on.ensures in
    subst (λ ks. IsEnough c.args.amounts.now ks c.min-count.result) (sym c.as_slice-then-end-master-2.ensures)
    (clear_enough c.args.amounts.now path c.least_on.result c.min-count.result clear least (at_most c.min-count.result c.least_on.result c.args.served.demand c.min-count.ensures))

use Rattle.std.proofs.Common.{◌≡◌, ℕ, ◌<◌, ◌-◌, List, length, drop, take, arith, sym, subst}
use Rattle.std.proofs.lemmas.List.{take_rest}
use Rattle.flow_routes.specs.Walks.{IsEnough, IsLeastOn, IsClear, taken_along}
use Rattle.flow_routes.proofs.Rounds.{clear_from, clear_enough}
use Rattle.flow_routes.proofs.round.cancel_cycle.Goals as goal

cycle_enough : (amounts path : List ℕ) (begin least : ℕ) → begin < length path → IsClear amounts path → IsLeastOn amounts (take (length path - begin) (drop begin path)) least →
    IsEnough amounts (take (length path - begin) (drop begin path)) least
cycle_enough amounts path begin least l c h =
    subst (λ ks. IsEnough amounts ks least) (sym (take_rest path begin))
    (clear_enough amounts (drop begin path) least least (clear_from amounts path begin l c) (subst (λ ks. IsLeastOn amounts ks least) (take_rest path begin) h) (omega arith))

pub take_along-requires : goal.take_along-requires
take_along-requires c = cycle_enough c.args.amounts.now c.args.path.now c.place_of-begin.result c.least_on-least.result c.place_of-begin.ensures.inside c.requires.clear c.least_on-least.ensures

pub returns-clause-cycle : goal.returns-clause-cycle
returns-clause-cycle c master node walk =
    let begin = c.place_of-begin.result in
    let path = c.args.path.now in
    let amounts = c.args.amounts.now in
    record {
      path = path;
      end = c.args.end;
      walk = walk;
      begin = begin;
      inside = c.place_of-begin.ensures.inside;
      met = c.place_of-begin.ensures.entered;
      least = c.least_on-least.result;
      is_least = subst (λ ks. IsLeastOn amounts ks c.least_on-least.result) (take_rest path begin) c.least_on-least.ensures;
      taken = subst (λ ks. c.take_along.new.amounts ≡ taken_along amounts ks c.least_on-least.result) (take_rest path begin) c.take_along.ensures.taken;
    }

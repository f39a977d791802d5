use Rattle.std.proofs.Common.{◌+◌, ◌||◌, Bool, List, ℕ, nat_eq, drop, sym, ap, ◌∙◌}
use Rattle.std.specs.List.{list_any}
use Rattle.period_table.specs.Lanes.{lanes_of}
use Rattle.actor_programs.proofs.Gathered.{used_here}
use Rattle.actor_programs.proofs.actor.is_used.Goals as goal

pub returns-then-is_on : goal.returns-then-is_on
returns-then-is_on c =
    let link = c.args.link in
    let i = c.loop-route.route-index in
    let routes = c.args.routes.now in
    let here = ap (λ (ls : List ℕ). list_any (λ other. nat_eq other link) ls) (sym c.as_slice.ensures) ∙ sym c.is_on.ensures ∙ c.if-is_on.true in
    sym (sym c.loop-route.invariant ∙ used_here link i routes c.route-item.result c.loop-route-test.true c.route-item.is
    ∙ ap (λ (b : Bool). b || list_any (λ lane. nat_eq lane.link link) (lanes_of (drop (i + 1) routes))) here)

pub loop-route-preserved : goal.loop-route-preserved
loop-route-preserved c =
    let link = c.args.link in
    let i = c.loop-route.route-index in
    let routes = c.args.routes.now in
    let here = ap (λ (ls : List ℕ). list_any (λ other. nat_eq other link) ls) (sym c.as_slice.ensures) ∙ sym c.is_on.ensures ∙ c.if-is_on.false in
    sym (used_here link i routes c.route-item.result c.loop-route-test.true c.route-item.is
    ∙ ap (λ (b : Bool). b || list_any (λ lane. nat_eq lane.link link) (lanes_of (drop (i + 1) routes))) here)
    ∙ c.loop-route.invariant

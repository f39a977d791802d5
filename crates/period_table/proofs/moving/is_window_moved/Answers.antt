use Rattle.std.proofs.Common.{◌≡◌, ℕ, ◌+◌, ◌-◌, ◌^◌, ◌<◌, ◌≤◌, refl, sym, ap, ◌∙◌, arith, inl, inr, length}
use Rattle.std.proofs.lemmas.Bool.{cases_lt}
use Rattle.period_table.specs.Lanes.{LaneAt, lanes_of, lane_at}
use Rattle.period_table.proofs.LaneWindows.{lanes_left, lane_carries, lane_after}
use Rattle.period_table.proofs.moving.is_window_moved.Goals as goal

within : (lane whole links rest all : ℕ) → whole ≡ links + rest → lane + whole ≡ all → all < 2 ^ 128 → lane + links < 2 ^ 128
within lane whole links rest all e f h = omega arith

past : (lane links n : ℕ) → lane ≤ n → n < lane + links → (lane + (n - lane) ≡ n) × (n - lane < links)
past lane links n l h = (omega arith, omega arith)

pub is_route_moved-requires-clause-few : goal.is_route_moved-requires-clause-few
is_route_moved-requires-clause-few c =
    let left = lanes_left c.args.routes.now c.loop-route.route-index c.route-item.result c.loop-route-test.true c.route-item.is in
    within _ _ _ _ _ left c.loop-route.invariant.lane c.requires.few

pub returns-then-not-is_route_moved-clause-no : goal.returns-then-not-is_route_moved-clause-no
returns-then-not-is_route_moved-clause-no c = λ all.
    let left = lanes_left c.args.routes.now c.loop-route.route-index c.route-item.result c.loop-route-test.true c.route-item.is in
    c.if-not-is_route_moved.ensures.no (λ k l from to.
    let at = past c.loop-route.lane (length c.route-item.result.links) (c.args.first + k) from to in
    all k l (inside c.loop-route.lane _ _ _ _ (c.args.first + k) left c.loop-route.invariant.lane to)
    ∙ ap (λ n. (lane_at (lanes_of c.args.routes.now) n).count) (sym at.0)
    ∙ ap (λ (lane : LaneAt). lane.count) (sym (c.loop-route.invariant.rest (c.args.first + k - c.loop-route.lane)))
    ∙ lane_carries c.args.routes.now c.loop-route.route-index c.route-item.result c.loop-route-test.true c.route-item.is (c.args.first + k - c.loop-route.lane) at.1)
  where
    inside : (lane whole links rest all n : ℕ) → whole ≡ links + rest → lane + whole ≡ all → n < lane + links → n < all
    inside lane whole links rest all n e f h = omega arith

pub overflow_add-lane : goal.overflow_add-lane
overflow_add-lane c =
    let left = lanes_left c.args.routes.now c.loop-route.route-index c.route-item.result c.loop-route-test.true c.route-item.is in
    record { fits = rw c.len.ensures (within _ _ _ _ _ left c.loop-route.invariant.lane c.requires.few) }

pub loop-route-preserved : goal.loop-route-preserved
loop-route-preserved c =
    let left = lanes_left c.args.routes.now c.loop-route.route-index c.route-item.result c.loop-route-test.true c.route-item.is in
    record {
      lane = more c.loop-route.lane c.len.result _ _ _ _ left c.len.ensures c.loop-route.invariant.lane;
      rest = λ n.
          sym (lane_after c.args.routes.now c.loop-route.route-index c.route-item.result c.loop-route-test.true c.route-item.is n)
          ∙ c.loop-route.invariant.rest (length c.route-item.result.links + n)
          ∙ ap (lane_at (lanes_of c.args.routes.now)) (grouped c.loop-route.lane c.len.result _ n c.len.ensures);
      moved = λ k l to. elim (cases_lt (c.args.first + k) c.loop-route.lane) [
        | inl before ↦ c.loop-route.invariant.moved k l before
        | inr from ↦
            let at = past c.loop-route.lane (length c.route-item.result.links) (c.args.first + k) from (rw c.len.ensures at to) in
            c.if-not-is_route_moved.ensures.yes refl k l from (rw c.len.ensures at to)
            ∙ sym (lane_carries c.args.routes.now c.loop-route.route-index c.route-item.result c.loop-route-test.true c.route-item.is (c.args.first + k - c.loop-route.lane) at.1)
            ∙ ap (λ (lane : LaneAt). lane.count) (c.loop-route.invariant.rest (c.args.first + k - c.loop-route.lane))
            ∙ ap (λ n. (lane_at (lanes_of c.args.routes.now) n).count) at.0
      ];
    }
  where
    more : (sum len links whole rest all : ℕ) → whole ≡ links + rest → len ≡ links → sum + whole ≡ all → sum + len + rest ≡ all
    more sum len links whole rest all e f h = omega arith

    grouped : (lane len links n : ℕ) → len ≡ links → lane + (links + n) ≡ lane + len + n
    grouped lane len links n e = omega arith

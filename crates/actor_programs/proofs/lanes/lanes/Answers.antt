use Rattle.std.proofs.Common.{◌≡◌, ◌++◌, ◌∙◌, ap, [], ◌∷◌, length, map, arith}
use Rattle.std.specs.List.{range_with_len}
use Rattle.step_core.specs.declared.wiring.Lane.{Lane}
use Rattle.period_table.specs.Lanes.{lanes_of}
use Rattle.actor_programs.specs.declared.places.Place.{Place}
use Rattle.actor_programs.specs.Programs.{lane_of}
use Rattle.actor_programs.proofs.Patterns.{as_many}
use Rattle.actor_programs.proofs.Gathered.{link_there, task_there, place_within, lane_more}
use Rattle.actor_programs.proofs.lanes.lanes.Goals as goal

abbrev nothing : Place
nothing = record { link = 0; hop = 0; offset = 0; count = 0 }

pub lane_of-requires-clause-link : goal.lane_of-requires-clause-link
lane_of-requires-clause-link c = link_there c.args.timed.now c.args.table.now c.args.chunks c.known.ensures c.requires.fits c.args.places.now c.requires.places c.loop-place.place-index nothing c.loop-place-test.true

pub lane_of-requires-clause-some : goal.lane_of-requires-clause-some
lane_of-requires-clause-some c = task_there c.args.timed.now c.args.table.now c.args.chunks c.known.ensures c.requires.fits c.args.places.now c.requires.places c.loop-place.place-index nothing c.loop-place-test.true

pub lane_of-requires-clause-within : goal.lane_of-requires-clause-within
lane_of-requires-clause-within c = place_within c.args.timed.now c.args.table.now c.args.chunks c.known.ensures c.requires.fits c.args.places.now c.requires.places c.loop-place.place-index nothing c.loop-place-test.true

pub loop-place-preserved : goal.loop-place-preserved
loop-place-preserved c =
    lane_more c.args.timed.now c.args.table.now c.args.chunks c.known.ensures c.requires.fits c.args.places.now c.requires.places c.loop-place.place-index nothing c.loop-place-test.true
    c.loop-place.lanes c.push.new.self c.loop-place.invariant (c.in_ok-push.ensures.ok ∙ ap (λ (lane : Lane). c.loop-place.lanes ++ lane ∷ []) c.lane_of.ensures)

pub returns : goal.returns
returns c =
    let many = as_many c.args.timed.now c.args.table.now c.requires.fits c.args.places.now c.requires.places in
    let e : c.loop-place.place-index ≡ length (lanes_of c.args.table.now.routes) = omega (arith, many, c.loop-place-test.false, c.loop-place.auto.place-index-end) in
    c.loop-place.invariant ∙ ap (λ n. map (lane_of c.args.timed.now c.args.table.now c.args.chunks) (range_with_len 0 n)) e

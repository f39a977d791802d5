-- Steps of gathering the actors.
use Rattle.std.proofs.Common.{◌≡◌, ℕ, ◌+◌, ◌*◌, ◌<◌, ◌≤◌, ◌||◌, Bool, true, false, cond, nat_eq, List, [], ◌∷◌, ◌++◌, length, map, filter, drop, get_or, max, min, sym, refl, ap, ◌∙◌, arith, append_assoc}
use Rattle.std.specs.List.{list_any, range_with_len}
use Rattle.std.proofs.lemmas.List.{map-append, get_or_default}
use Rattle.std.proofs.lemmas.List.Elements.{filter-append, All-get_or}
use Rattle.platform_file.specs.Ticks.{TimedView, IsTimed}
use Rattle.schedule_model.specs.declared.schedule.Series.TheVariants.{Tasking}
use Rattle.schedule_model.specs.Operations.{sender_of, receiver_of}
use Rattle.step_core.specs.declared.wiring.Lane.{Lane}
use Rattle.period_table.specs.Tables.{Fits}
use Rattle.period_table.proofs.FittingTables.{links_exist}
use Rattle.flow_routes.specs.declared.flow.Route.{Route}
use Rattle.period_table.specs.declared.table.Table.{Table}
use Rattle.period_table.specs.Lanes.{LaneAt, lanes_of, lanes_from, lane_at}
use Rattle.actor_programs.specs.declared.places.Place.{Place}
use Rattle.actor_programs.specs.Tasks.{all_tasks, offset_at}
use Rattle.actor_programs.specs.Runs.{events_below}
use Rattle.actor_programs.specs.Programs.{runs_of, each_numbered, lane_of}
use Rattle.actor_programs.specs.Places.{places_of, place_at}
use Rattle.actor_programs.specs.Lengths.{programs_from}
use Rattle.actor_programs.proofs.Numbers.{numbers-join}
use Rattle.actor_programs.proofs.LaneNumbers.{capacity_is}
use Rattle.actor_programs.proofs.Paced.{some_tasks}
use Rattle.actor_programs.proofs.Small.{lane_within}
use Rattle.actor_programs.proofs.Patterns.{as_many, place_for, place_is, route_at}
use Rattle.actor_programs.specs.declared.actor.Actor.{Actor}

or_joins : (a b c : Bool) → (a || (b || c)) ≡ ((a || b) || c)
or_joins true b c = refl
or_joins false b c = refl

from_used : (link kind count hop : ℕ) (links : List ℕ) (rest : List LaneAt)
    → list_any (λ lane. nat_eq lane.link link) (lanes_from kind count hop links ++ rest) ≡ (list_any (λ other. nat_eq other link) links || list_any (λ lane. nat_eq lane.link link) rest)
from_used link kind count hop [] rest = refl
from_used link kind count hop (l ∷ links) rest =
    ap (λ b. nat_eq l link || b) (from_used link kind count (hop + 1) links rest) ∙ or_joins (nat_eq l link) (list_any (λ other. nat_eq other link) links) (list_any (λ lane. nat_eq lane.link link) rest)

-- a lane goes over the link where one of a route does, or one of the routes after it
pub used_here : (link i : ℕ) (routes : List Route) (route : Route) → i < length routes → route ≡ get_or routes i route
    → list_any (λ lane. nat_eq lane.link link) (lanes_of (drop i routes))
    ≡ (list_any (λ other. nat_eq other link) route.links || list_any (λ lane. nat_eq lane.link link) (lanes_of (drop (i + 1) routes)))
used_here link i routes route l is =
    ap (λ rs. list_any (λ lane. nat_eq lane.link link) (lanes_of rs)) (route_at routes i route l is)
    ∙ from_used link route.kind route.count 0 route.links (lanes_of (drop (i + 1) routes))

-- one number more
pub number_more : {X : Type 0} (f : ℕ → X) (p : ℕ → Bool) (n : ℕ) → map f (filter p (range_with_len 0 (n + 1))) ≡ map f (filter p (range_with_len 0 n)) ++ cond (p n) (f n ∷ []) []
number_more f p n =
    let e : 0 + n ≡ n = omega arith in
    ap (λ xs. map f (filter p xs)) (numbers-join 0 n 1 ∙ ap (λ k. range_with_len 0 n ++ k ∷ []) e)
    ∙ ap (map f) (filter-append p (range_with_len 0 n) (n ∷ []))
    ∙ map-append f (filter p (range_with_len 0 n)) (filter p (n ∷ []))
    ∙ ap (λ xs. map f (filter p (range_with_len 0 n)) ++ xs) (one (p n))
  where
    one : (b : Bool) → map f (cond b (n ∷ []) []) ≡ cond b (f n ∷ []) []
    one true = refl
    one false = refl

pub gathered_more : {X : Type 0} (f : ℕ → X) (p : ℕ → Bool) (n : ℕ) (old out new : List X) → out ≡ old ++ map f (filter p (range_with_len 0 n)) → new ≡ out ++ cond (p n) (f n ∷ []) []
    → new ≡ old ++ map f (filter p (range_with_len 0 (n + 1)))
gathered_more f p n old out new e g =
    g ∙ ap (λ xs. xs ++ cond (p n) (f n ∷ []) []) e ∙ append_assoc old (map f (filter p (range_with_len 0 n))) (cond (p n) (f n ∷ []) []) ∙ ap (λ xs. old ++ xs) (sym (number_more f p n))

-- the programs of the runs are those of the actors
pub programs_same : (table : Table) (tasks chunks periods number : ℕ) (actors : List Actor)
    → programs_from tasks chunks periods number (map (runs_of table) actors) ≡ each_numbered (λ n actor. events_below tasks chunks n (runs_of table actor) periods) number actors
programs_same table tasks chunks periods number [] = refl
programs_same table tasks chunks periods number (actor ∷ actors) = ap (λ xs. events_below tasks chunks number (runs_of table actor) periods ∷ xs) (programs_same table tasks chunks periods (number + 1) actors)

-- ---- lanes

module _ (t : TimedView) (table : Table) (chunks : ℕ) (timed : IsTimed t) (fits : Fits t Tasking table) (places : List Place) (are : places ≡ places_of 0 table.routes)
    (i : ℕ) (d : Place) (l : i < length places) where
  inside : i < length (lanes_of table.routes)
  inside = omega (arith, l, as_many t table fits places are)

  here : get_or places i d ≡ place_for (0 + offset_at table.routes i) (lane_at (lanes_of table.routes) i)
  here = get_or_default places i d (record { link = 0; hop = 0; offset = 0; count = 0 }) l ∙ ap (λ ps. place_at ps i) are ∙ place_is 0 table.routes i inside

  pub link_there : (get_or places i d).link < length t.platform.links
  link_there =
      let e = ap (λ (p : Place). p.link) here in
      let there = All-get_or (λ (lane : LaneAt). lane.link < length t.platform.links) (lanes_of table.routes) i (record { link = 0; hop = 0; kind = 0; count = 0 }) inside (links_exist t Tasking table fits) in
      omega (arith, e, there)

  pub task_there : 1 ≤ table.tasks
  task_there = some_tasks t table chunks timed fits i inside

  pub place_within : (get_or places i d).offset + (get_or places i d).count ≤ table.tasks
  place_within =
      let o = ap (λ (p : Place). p.offset) here in
      let n = ap (λ (p : Place). p.count) here in
      omega (arith, o, n, lane_within table.routes i, fits.tasks)

  pub lane_more : (lanes : List Lane) (new : List Lane) → lanes ≡ map (lane_of t table chunks) (range_with_len 0 i)
      → new ≡ lanes ++ record {
        sender = sender_of t (get_or places i d).link;
        receiver = receiver_of t (get_or places i d).link;
        capacity = max 1 (min (2 * (get_or places i d).count) (length (all_tasks table.tasks chunks (get_or places i d).offset (get_or places i d).count)));
      } ∷ []
      → new ≡ map (lane_of t table chunks) (range_with_len 0 (i + 1))
  lane_more lanes new e f =
      let zero_less : 0 + offset_at table.routes i ≡ offset_at table.routes i = omega arith in
      let z : 0 + i ≡ i = omega arith in
      f
      ∙ ap (λ (p : Place). lanes ++ record {
        sender = sender_of t p.link;
        receiver = receiver_of t p.link;
        capacity = max 1 (min (2 * p.count) (length (all_tasks table.tasks chunks p.offset p.count)));
      } ∷ []) (here ∙ ap (λ x. place_for x (lane_at (lanes_of table.routes) i)) zero_less)
      ∙ ap (λ (c : ℕ). lanes ++ record {
        sender = sender_of t (lane_at (lanes_of table.routes) i).link;
        receiver = receiver_of t (lane_at (lanes_of table.routes) i).link;
        capacity = c;
      } ∷ []) (sym (capacity_is table chunks i))
      ∙ ap (λ ls. ls ++ lane_of t table chunks i ∷ []) e
      ∙ sym (ap (map (lane_of t table chunks)) (numbers-join 0 i 1 ∙ ap (λ k. range_with_len 0 i ++ k ∷ []) z)
      ∙ map-append (lane_of t table chunks) (range_with_len 0 i) (i ∷ []))

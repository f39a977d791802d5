-- What one round does.
use Rattle.std.proofs.Common.{◌≡◌, ℕ, ◌+◌, ◌<◌, ◌≤◌, ◌≢◌, List, [], ◌∷◌, length, drop, get_or, arith, sym, ◌∙◌, ap, subst}
use Rattle.std.proofs.lemmas.List.{get_or-drop, length-drop}
use Rattle.flow_routes.specs.Flows.{link_at}
use Rattle.flow_routes.specs.Walks.{LeadsBack, IsBackWalk, IsClear, IsEnough, IsLeastOn}
use Rattle.flow_routes.specs.Rounds.{IsRouteRound, IsCycleRound}
use Rattle.flow_routes.specs.declared.flow.Route.{Route}
use Rattle.flow_routes.proofs.Flows.{enough_along}

pub some_link : (links : List (ℕ × ℕ)) (node : ℕ) (path : List ℕ) (end : ℕ) → LeadsBack links node path end → node ≢ end → 0 < length path
some_link links node [] end leads ne = absurd (ne leads)
some_link links node (x ∷ xs) end leads ne = omega arith

-- a walk has different links with amount left
pub walk_clear : (master : ℕ) (links : List (ℕ × ℕ)) (amounts : List ℕ) (node : ℕ) (path : List ℕ) (end : ℕ) → IsBackWalk master links amounts node path end →
    length amounts ≡ length links → 0 < length path → IsClear amounts path
walk_clear master links amounts node path end w e any = record {
  any = any;
  inside = λ place l. at _ (w.firsts place l).inside;
  some = λ place l. (w.firsts place l).some;
  differ = λ place other l k same. w.differ place other l k (ap (λ x. (link_at links x).1) same);
}
  where
    at : (a : ℕ) → a < length links → a < length amounts
    at a h = omega (arith, e)

-- what is left of clear links from a place on is clear
pub clear_from : (amounts path : List ℕ) (begin : ℕ) → begin < length path → IsClear amounts path → IsClear amounts (drop begin path)
clear_from amounts path begin l c = record {
  any = omega (arith, length-drop begin path);
  inside = λ place k. subst (λ x. x < length amounts) (sym (get_or-drop begin path place 0)) (c.inside (begin + place) (later place k));
  some = λ place k. subst (λ x. 0 < get_or amounts x 0) (sym (get_or-drop begin path place 0)) (c.some (begin + place) (later place k));
  differ = λ place other k m e. same place other (c.differ (begin + place) (begin + other) (later place k) (later other m) (sym (get_or-drop begin path place 0) ∙ e ∙ get_or-drop begin path other 0));
}
  where
    later : (i : ℕ) → i < length (drop begin path) → begin + i < length path
    later i k = omega (arith, length-drop begin path)

    same : (i j : ℕ) → begin + i ≡ begin + j → i ≡ j
    same i j f = omega arith

pub clear_enough : (amounts path : List ℕ) (least by : ℕ) → IsClear amounts path → IsLeastOn amounts path least → by ≤ least → IsEnough amounts path by
clear_enough amounts path least by c h fits = enough_along amounts path by (λ i l. (c.inside i l, below _ (h.at_most i l))) c.differ
  where
    below : (a : ℕ) → least ≤ a → by ≤ a
    below a p = omega (arith, fits)

pub clear_some : (amounts path : List ℕ) (least : ℕ) → IsClear amounts path → IsLeastOn amounts path least → 0 < least
clear_some amounts path least c h = subst (λ x. 0 < x) h.reached (c.some h.place h.inside)

-- what a route's round takes
pub record RouteTakes (master : ℕ) (links : List (ℕ × ℕ)) (amounts : List ℕ) (demand node : ℕ) (path : List ℕ) (count : ℕ) : Type 0 where
  pub any : 0 < length path
  pub clear : IsClear amounts path
  pub some : 0 < count
  pub within : count ≤ demand
  pub enough : IsEnough amounts path count

pub route_takes : (master kind : ℕ) (links : List (ℕ × ℕ)) (amounts : List ℕ) (demand node : ℕ) (route : Route) (left : List ℕ) (r : IsRouteRound master kind links amounts demand node route left) →
    length amounts ≡ length links → node ≢ master → 0 < demand → RouteTakes master links amounts demand node r.path route.count
route_takes master kind links amounts demand node route left r lengths apart some =
    let any = some_link links node r.path master r.walk.leads apart in
    let clear = walk_clear master links amounts node r.path master r.walk lengths any in
    let positive = clear_some amounts r.path r.least clear r.is_least in
    let count = r.count in
    record {
      any = any;
      clear = clear;
      some = omega (arith, count, positive, some);
      within = omega (arith, count);
      enough = clear_enough amounts r.path r.least route.count clear r.is_least (omega (arith, count));
    }

-- what a cycle's round takes
pub record CycleTakes (links : List (ℕ × ℕ)) (amounts : List ℕ) (node : ℕ) (cycle : List ℕ) (least : ℕ) : Type 0 where
  pub any : 0 < length cycle
  pub clear : IsClear amounts cycle
  pub some : 0 < least
  pub enough : IsEnough amounts cycle least

pub cycle_takes : (master : ℕ) (links : List (ℕ × ℕ)) (amounts : List ℕ) (node : ℕ) (left : List ℕ) (r : IsCycleRound master links amounts node left) →
    length amounts ≡ length links → CycleTakes links amounts node (drop r.begin r.path) r.least
cycle_takes master links amounts node left r lengths =
    let inside = r.inside in
    let clear = walk_clear master links amounts node r.path r.end r.walk lengths (omega (arith, inside)) in
    let cycle = clear_from amounts r.path r.begin inside clear in
    record {
      any = cycle.any;
      clear = cycle;
      some = clear_some amounts (drop r.begin r.path) r.least cycle r.is_least;
      enough = clear_enough amounts (drop r.begin r.path) r.least r.least cycle r.is_least (omega arith);
    }

-- Every operation of a table is one of its platform and series.
use Rattle.std.proofs.Common.{◌≡◌, ℕ, zero, suc, ◌+◌, ◌*◌, ◌<◌, false, nat_eq, List, [], ◌∷◌, length, filter, refl, sym, ◌∙◌, arith, All}
use Rattle.std.specs.List.{IsDistinct, AllByRecursion}
use Rattle.std.proofs.lemmas.Bool.Decides.{nat_tests}
use Rattle.std.proofs.lemmas.List.Elements.{All-head, All-tail, All-cons, All-nil, All-append, All-filter, All-weaker, All-get_or}
use Rattle.std.proofs.lemmas.Option.{slice_get-get_or}
use Rattle.std.proofs.lemmas.Map.Keys.{IsDistinct-head, IsDistinct-tail}
use Rattle.platform_file.specs.Ticks.{TimedView}
use Rattle.schedule_model.specs.declared.schedule.Op.{Op}
use Rattle.schedule_model.specs.declared.schedule.Op.TheVariants.{Send, Compute}
use Rattle.schedule_model.specs.declared.schedule.Series.{Series}
use Rattle.schedule_model.specs.declared.schedule.Series.TheVariants.{Tasking, Scatter}
use Rattle.schedule_model.specs.Operations.{sender_of}
use Rattle.schedule_model.specs.Validity.{IsInRange, KeepsOwn}
use Rattle.period_table.specs.declared.table.Table.{Table}
use Rattle.flow_routes.specs.declared.flow.Route.{Route}
use Rattle.period_table.specs.Lanes.{LaneAt, lanes_of, lanes_from}
use Rattle.period_table.specs.TableSchedules.{Placed, send_over, sends_of_slots, period_computes, period_ops, ops_below, table_schedule, has_arrived}
use Rattle.period_table.specs.Tables.{Fits, IsRoute, EndsWell, IsWalk, IsSlot, IsPiece, nodes_on}
use Rattle.period_table.proofs.Runs.{slots_all, routes_all}
use Rattle.period_table.proofs.Periods.{all_in_order}

-- the end of a walk is on it
end_is_on : (t : TimedView) (P : ℕ → Type 0) (links : List ℕ) (end : ℕ) → AllByRecursion P (nodes_on t links end) → P end
end_is_on t P [] end h = h.0
end_is_on t P (link ∷ links) end h = end_is_on t P links end h.1

module _ (t : TimedView) (series : Series) where
  -- the operation is in range, and no target sends messages of its own
  abbrev pub IsGood : Op → Type 0
  IsGood op = IsInRange t series op × KeepsOwn t series op

  -- a lane whose sends are
  abbrev pub IsLane : LaneAt → Type 0
  IsLane lane = (s : ℕ) → IsGood (Send lane.link lane.kind s)

-- a lane's link exists and doesn't leave the end of its route
record IsHop (t : TimedView) (kind end : ℕ) (lane : LaneAt) : Type 0 where
  exists : lane.link < length t.platform.links
  not_from_end : nat_eq (sender_of t lane.link) end ≡ false
  of_kind : lane.kind ≡ kind

hops : (t : TimedView) (kind count hop end : ℕ) (links : List ℕ) → IsWalk t links end → IsDistinct nat_eq (nodes_on t links end) →
    All (IsHop t kind end) (lanes_from kind count hop links)
hops t kind count hop end [] walk simple = All-nil (IsHop t kind end)
hops t kind count hop end (link ∷ links) walk simple =
    All-cons (IsHop t kind end) (record { link = link; hop = hop; kind = kind; count = count }) (lanes_from kind count (hop + 1) links)
    (record {
      exists = walk.0;
      not_from_end = end_is_on t (λ y. nat_eq (sender_of t link) y ≡ false) links end (IsDistinct-head nat_eq (sender_of t link) (nodes_on t links end) simple);
      of_kind = refl;
    })
    (hops t kind count (hop + 1) end links walk.3 (IsDistinct-tail nat_eq (sender_of t link) (nodes_on t links end) simple))

hop_in_range : (t : TimedView) (series : Series) (route : Route) → EndsWell t series route → (lane : LaneAt) → IsHop t route.kind route.end lane → IsLane t series lane
hop_in_range t Tasking route ending lane hop s = ((hop.exists, hop.of_kind ∙ ending.0), tt)
hop_in_range t Scatter route ending lane hop s = (
  (hop.exists, rw hop.of_kind ending.0),
  rw (hop.of_kind, slice_get-get_or t.platform.targets route.kind 0 ending.0) (λ e. differ _ _ hop.not_from_end (e ∙ sym ending.1)),
)
  where
    differ : (a b : ℕ) → nat_eq a b ≡ false → a ≡ b → ⊥
    differ a b e f = grind (arith, nat_tests)

pub lanes_in_range : (t : TimedView) (series : Series) (routes : List Route) → All (IsRoute t series) routes → All (IsLane t series) (lanes_of routes)
lanes_in_range t series [] each = All-nil (IsLane t series)
lanes_in_range t series (route ∷ routes) each =
    let r = All-head (IsRoute t series) route routes each in
    All-append (IsLane t series) (lanes_from route.kind route.count 0 route.links) (lanes_of routes)
    (All-weaker (IsHop t route.kind route.end) (IsLane t series) (hop_in_range t series route r.ending) (lanes_from route.kind route.count 0 route.links)
    (hops t route.kind route.count 0 route.end route.links r.walk r.simple))
    (lanes_in_range t series routes (All-tail (IsRoute t series) route routes each))

module _ (t : TimedView) (series : Series) (table : Table) (fits : Fits t series table) where
  abbrev In : Placed → Type 0
  In q = IsGood t series q.op

  sends_in_range : (p : ℕ) → All In (sends_of_slots t (lanes_of table.routes) p (p * table.period) table.slots)
  sends_in_range p =
      slots_all t (lanes_of table.routes) In p (p * table.period) table.slots
      (All-weaker (IsSlot (lanes_of table.routes)) (λ slot. All (λ piece. (s : ℕ) → In (send_over (lanes_of table.routes) piece.lane s)) slot.pieces)
      (λ slot is. All-weaker (IsPiece (lanes_of table.routes)) (λ piece. (s : ℕ) → In (send_over (lanes_of table.routes) piece.lane s))
      (λ piece p. All-get_or (IsLane t series) (lanes_of table.routes) piece.lane (record { link = 0; hop = 0; kind = 0; count = 0 }) p.lane
      (lanes_in_range t series table.routes fits.routes)) slot.pieces is.pieces)
      table.slots fits.slots)

  computes_in_range : (p : ℕ) → All In (period_computes t series table p)
  computes_in_range p = of_series series fits.routes
    where
      of_series : (kind : Series) → All (IsRoute t kind) table.routes → All (λ q. IsGood t kind q.op) (period_computes t kind table p)
      of_series Tasking each =
          routes_all t [] (λ q. IsGood t Tasking q.op) (p * table.period) [] (filter (has_arrived p) table.routes)
          (All-filter (has_arrived p) (λ route. (s : ℕ) → IsGood t Tasking (Compute route.end s)) table.routes
          (All-weaker (IsRoute t Tasking) (λ route. (s : ℕ) → IsGood t Tasking (Compute route.end s)) (λ route r s. (r.ending.1, tt)) table.routes each))
      of_series Scatter each = All-nil (λ q. IsGood t Scatter q.op)

  all_in_range : (n : ℕ) → All In (ops_below t series table n)
  all_in_range zero = All-nil In
  all_in_range (suc n) =
      All-append In (ops_below t series table n) (period_ops t series table n) (all_in_range n)
      (All-append In (sends_of_slots t (lanes_of table.routes) n (n * table.period) table.slots) (period_computes t series table n) (sends_in_range n) (computes_in_range n))

  pub in_range : (n : ℕ) → All (IsInRange t series) (table_schedule t series table n).ops
  in_range n = all_in_order (IsInRange t series) (ops_below t series table n) (All-weaker In (λ q. IsInRange t series q.op) (λ q good. good.0) (ops_below t series table n) (all_in_range n))

  pub own_kept : (n : ℕ) → All (KeepsOwn t series) (table_schedule t series table n).ops
  own_kept n = all_in_order (KeepsOwn t series) (ops_below t series table n) (All-weaker In (λ q. KeepsOwn t series q.op) (λ q good. good.1) (ops_below t series table n) (all_in_range n))

-- How many operations of a kind a whole period has.
use Rattle.std.proofs.Common.{◌≡◌, ℕ, ◌+◌, ◌*◌, ◌<◌, Bool, true, false, ◌&&◌, cond, nat_eq, nat_le, List, [], length, filter, refl, sym, ◌∙◌, ap, arith, inl, inr, All, count_by, sum_by}
use Rattle.std.proofs.lemmas.Bool.Decides.{nat_tests}
use Rattle.std.proofs.lemmas.List.Elements.{All-nil, All-weaker}
use Rattle.std.proofs.lemmas.List.Sums.{sum_by-append}
use Rattle.platform_file.specs.Ticks.{TimedView}
use Rattle.platform_file.specs.Platform.{is_master}
use Rattle.schedule_model.specs.declared.schedule.Op.{Op}
use Rattle.schedule_model.specs.declared.schedule.Op.TheVariants.{Send, Compute}
use Rattle.schedule_model.specs.declared.schedule.Series.{Series}
use Rattle.schedule_model.specs.declared.schedule.Series.TheVariants.{Tasking, Scatter}
use Rattle.period_table.specs.declared.table.Table.{Table}
use Rattle.flow_routes.specs.declared.flow.Route.{Route}
use Rattle.period_table.specs.Lanes.{LaneAt, lanes_of, lane_at}
use Rattle.period_table.specs.TableSchedules.{sends_of_slots, period_computes, period_ops, has_arrived}
use Rattle.period_table.specs.Tables.{IsRoute, IsSlot, moved_over, first_node}
use Rattle.period_table.proofs.Chains.{count_none, true_or_false}
use Rattle.period_table.proofs.Runs.{slots_all, routes_all, sum_filter}
use Rattle.period_table.proofs.Counts.{slots_count, routes_count, moved_is_carried, sum_same, cond_and}
use Rattle.period_table.proofs.Conservation.{now, BeginsElsewhere}

module _ (t : TimedView) (series : Series) (table : Table) (slots : All (IsSlot (lanes_of table.routes)) table.slots)
    (moved : (lane : ℕ) → lane < length (lanes_of table.routes) → moved_over lane table.slots ≡ (lane_at (lanes_of table.routes) lane).count) where
  -- sends that pass a test, by their lanes
  pub send_total : (f : Op → Bool) (pass : LaneAt → Bool) → ((lane : LaneAt) (s : ℕ) → f (Send lane.link lane.kind s) ≡ pass lane) →
      ((at s : ℕ) → f (Compute at s) ≡ false) → (p : ℕ) → count_by (λ q. f q.op) (period_ops t series table p) ≡ sum_by (now pass p) (lanes_of table.routes)
  send_total f pass sends none p =
      both _ _ _ _
      (sum_by-append (λ q. cond (f q.op) 1 0) (sends_of_slots t (lanes_of table.routes) p (p * table.period) table.slots) (period_computes t series table p))
      (slots_count t (lanes_of table.routes) (λ q. f q.op) (λ lane. pass (lane_at (lanes_of table.routes) lane)) (λ lane s. sends (lane_at (lanes_of table.routes) lane) s)
      p (p * table.period) table.slots
      ∙ moved_is_carried (λ lane. nat_le lane.hop p && pass lane) (lanes_of table.routes) table.slots slots moved)
      (count_none (λ q. f q.op) (period_computes t series table p) (of_series series))
    where
      of_series : (kind : Series) → All (λ q. f q.op ≡ false) (period_computes t kind table p)
      of_series Tasking = routes_all t [] (λ q. f q.op ≡ false) (p * table.period) [] (filter (has_arrived p) table.routes) (λ k d h s. none _ s)
      of_series Scatter = All-nil (λ q. f q.op ≡ false)

      both : (a b c v : ℕ) → a ≡ b + c → b ≡ v → c ≡ 0 → a ≡ v
      both a b c v e g h = omega arith

-- computations that pass a test, by their routes
pub compute_total : (t : TimedView) (table : Table) (f : Op → Bool) (pass : ℕ → Bool) → ((link kind s : ℕ) → f (Send link kind s) ≡ false) →
    ((at s : ℕ) → f (Compute at s) ≡ pass at) → (p : ℕ) →
    count_by (λ q. f q.op) (period_ops t Tasking table p) ≡ sum_by (λ route. cond (nat_le (length route.links) p && pass route.end) route.count 0) table.routes
compute_total t table f pass none computes p =
    both _ _ _ _
    (sum_by-append (λ q. cond (f q.op) 1 0) (sends_of_slots t (lanes_of table.routes) p (p * table.period) table.slots) (period_computes t Tasking table p))
    (count_none (λ q. f q.op) (sends_of_slots t (lanes_of table.routes) p (p * table.period) table.slots)
    (slots_all t (lanes_of table.routes) (λ q. f q.op ≡ false) p (p * table.period) table.slots (λ k d h l e i s. none _ _ s)))
    (routes_count t (lanes_of table.routes) (λ q. f q.op) pass computes (p * table.period) [] (filter (has_arrived p) table.routes)
    ∙ sum_filter (λ route. cond (pass route.end) route.count 0) (has_arrived p) table.routes
    ∙ sum_same (λ route. cond (has_arrived p route) (cond (pass route.end) route.count 0) 0)
    (λ route. cond (nat_le (length route.links) p && pass route.end) route.count 0) table.routes
    (λ route. cond_and (has_arrived p route) (pass route.end) route.count))
  where
    both : (a b c v : ℕ) → a ≡ b + c → b ≡ 0 → c ≡ v → a ≡ v
    both a b c v e g h = omega arith

-- routes begin at masters
pub begins_elsewhere : (t : TimedView) (series : Series) (routes : List Route) → All (IsRoute t series) routes → (node : ℕ) → is_master t.platform node ≡ false →
    (counts : ℕ → Bool) → All (BeginsElsewhere t node counts) routes
begins_elsewhere t series routes each node away counts =
    All-weaker (IsRoute t series) (BeginsElsewhere t node counts) (λ route r. record { walk = r.walk; elsewhere = elsewhere route r }) routes each
  where
    and_false : (b : Bool) → (b && false) ≡ false
    and_false true = refl
    and_false false = refl

    differ : (first : ℕ) → is_master t.platform first ≡ true → nat_eq first node ≡ false
    differ first master = elim (true_or_false (nat_eq first node)) [
      | inl same ↦ absurd (clash (sym master ∙ ap (is_master t.platform) (same_number first node same) ∙ away))
      | inr other ↦ other
    ]
      where
        clash : true ≡ false → ⊥
        clash e = cc

        same_number : (a b : ℕ) → nat_eq a b ≡ true → a ≡ b
        same_number a b e = grind (arith, nat_tests)

    elsewhere : (route : Route) → IsRoute t series route → (counts route.kind && nat_eq (first_node t route.links route.end) node) ≡ false
    elsewhere route r = rw (differ (first_node t route.links route.end) r.from_master) (and_false (counts route.kind))

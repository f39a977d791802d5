-- A solution has one table, and a platform one plan.
use Rattle.std.proofs.Common.{◌≡◌, ℕ, zero, suc, ◌*◌, List, ◌++◌, length, Option, Some, Result, Ok, sym, ap, ap₂, ◌∙◌, subst, subst₂}
use Rattle.ratio_core.specs.Fraction.{Fraction}
use Rattle.platform_file.specs.Ticks.{TimedView}
use Rattle.schedule_model.specs.declared.schedule.Series.{Series}
use Rattle.linear_program.specs.declared.certificate.Optimum.{Optimum}
use Rattle.flow_routes.specs.declared.flow.Flow.{Flow}
use Rattle.flow_routes.specs.declared.flow.Route.{Route}
use Rattle.bipartite_slots.specs.Parts.{padded, AreParts}
use Rattle.bipartite_slots.specs.declared.weights.SlotPart.{SlotPart}
use Rattle.period_table.specs.declared.table.Table.{Table}
use Rattle.series_flows.specs.Programmes.{kinds_of}
use Rattle.series_flows.specs.Flows.{flow_of}
use Rattle.series_routes.specs.declared.numbers.Scale.{Scale}
use Rattle.series_routes.specs.declared.numbers.TableFault.{TableFault}
use Rattle.series_routes.specs.Loads.{weights_of}
use Rattle.series_routes.specs.Routings.{AreRoutesBelow, IsRoutedIn}
use Rattle.planner.specs.declared.fault.PlanFault.{PlanFault}
use Rattle.planner.specs.declared.planned.Plan.{Plan}
use Rattle.planner.specs.Making.{table_with, AreFirstParts, IsTableOf}
use Rattle.planner.specs.Plans.{IsPlan}
use Rattle.planner.proofs.OneRoutes.{routes_are_one}
use Rattle.planner.proofs.OneParts.{parts_are_one}

-- ---- a solution has one scale, its flows have the same routes, kind after kind, and these the same parts

scale_same : (r : Result Scale TableFault) (a b : Scale) → r ≡ Ok a → r ≡ Ok b → a ≡ b
scale_same r a b e f = cc

routes_below_one : (flow : ℕ → Flow) (n : ℕ) (routes others : List Route) → AreRoutesBelow flow n routes → AreRoutesBelow flow n others → routes ≡ others
routes_below_one flow zero routes others none also = none ∙ sym also
routes_below_one flow (suc n) routes others ruled also =
    let same_before : ruled.before ≡ also.before = routes_below_one flow n ruled.before also.before ruled.earlier also.earlier in
    let same_own : ruled.own ≡ also.own = routes_are_one (flow n) n ruled.own also.own ruled.here.chosen also.here.chosen in
    ruled.parts ∙ ap₂ (λ (before own : List Route). before ++ own) same_before same_own ∙ sym also.parts

module _ (t : TimedView) (series : Series) (values : List Fraction) where
  routed_one : (scale also_scale : Scale) (routes others : List Route) → IsRoutedIn t series values scale routes → IsRoutedIn t series values also_scale others → scale ≡ also_scale → routes ≡ others
  routed_one scale also_scale routes others routed also same =
      routes_below_one (flow_of t series values scale.ticks) (kinds_of t series) routes others routed.routed
      (subst (λ (s : Scale). AreRoutesBelow (flow_of t series values s.ticks) (kinds_of t series) others) (sym same) also.routed)

  first_parts_one : (scale also_scale : Scale) (routes also_routes : List Route) (parts others : List SlotPart) → scale ≡ also_scale → routes ≡ also_routes →
      AreParts (weights_of t routes) scale.ticks parts → AreParts (weights_of t also_routes) also_scale.ticks others →
      AreFirstParts t scale.ticks routes parts → AreFirstParts t also_scale.ticks also_routes others → parts ≡ others
  first_parts_one scale also_scale routes also_routes parts others same_scale same_routes are also_are first also =
      parts_are_one (2 * length t.platform.nodes) (weights_of t routes).edges (padded (weights_of t routes) scale.ticks) scale.ticks parts others
      are.lasting also_are.lasting are.whole (also_are.whole ∙ ap (λ (s : Scale). s.ticks) (sym same_scale)) first
      (subst₂ (λ (s : Scale) (r : List Route). AreFirstParts t s.ticks r others) (sym same_scale) (sym same_routes) also)

  table_is_one : (table other : Table) → IsTableOf t series values table → IsTableOf t series values other → table ≡ other
  table_is_one table other made also =
      let same_scale : made.scale ≡ also.scale = scale_same _ made.scale also.scale made.routed.scaled also.routed.scaled in
      let same_routes : made.routes ≡ also.routes = routed_one made.scale also.scale made.routes also.routes made.routed also.routed same_scale in
      let same_parts : made.parts ≡ also.parts =
      first_parts_one made.scale also.scale made.routes also.routes made.parts also.parts same_scale same_routes made.parted also.parted made.first_parts also.first_parts in
      made.same ∙ ap (λ (parts : List SlotPart). table_with t made.scale made.routes parts) same_parts
      ∙ ap₂ (λ (scale : Scale) (routes : List Route). table_with t scale routes also.parts) same_scale same_routes ∙ sym also.same

-- ---- the run ends in one solution

optimum_same : (o : Option (Result Optimum PlanFault)) (a b : Optimum) → o ≡ Some (Ok a) → o ≡ Some (Ok b) → a ≡ b
optimum_same o a b e f = cc

abbrev plan_of : Table → Optimum → Plan
plan_of table optimum = record { table = table; optimum = optimum }

pub plan_is_one : (limit : ℕ) (t : TimedView) (series : Series) (plan other : Plan) → IsPlan limit t series plan → IsPlan limit t series other → plan ≡ other
plan_is_one limit t series plan other is also =
    let same : plan.optimum ≡ other.optimum = optimum_same _ plan.optimum other.optimum is.solved also.solved in
    let made : IsTableOf t series plan.optimum.values other.table = subst (λ (o : Optimum). IsTableOf t series o.values other.table) (sym same) also.made in
    ap₂ plan_of (table_is_one t series plan.optimum.values plan.table other.table is.made made) same

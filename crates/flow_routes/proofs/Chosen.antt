-- The routes of all nodes, one after another.
use Rattle.std.proofs.Common.{rules, ◌≡◌, ℕ, zero, suc, ◌+◌, ◌-◌, ◌*◌, ◌<◌, ◌≤◌, cond, nat_eq, nat_lt, count_by, All, List, ◌++◌, append_assoc, length, length-append, get_or, arith, refl, sym, ◌∙◌, ap, subst, inl, inr}
use Rattle.std.specs.Prelude.{slice_index}
use Rattle.std.proofs.lemmas.Bool.{cases_eq, cases_order, eq-eqb, ne_eqb, lt-ltb, le-ltb}
use Rattle.std.proofs.lemmas.List.Elements.{All-append}
use Rattle.std.proofs.lemmas.List.Sums.{sum_by-append, count_by-le-length}
use Rattle.flow_routes.specs.Flows.{IsKept, IsFlow, only}
use Rattle.flow_routes.specs.Routes.{IsSimpleRoute, carried, brought, AreRoutes}
use Rattle.flow_routes.specs.Rounds.{IsNodeServed, AreChosenFrom, AreChosen}
use Rattle.flow_routes.specs.declared.flow.Flow.{Flow}
use Rattle.flow_routes.specs.declared.flow.Route.{Route}
use Rattle.flow_routes.proofs.Laws.{open_links, opens_at_most}
use Rattle.flow_routes.proofs.Outcomes.{node_outcome}

-- the demands of the nodes from a node on
abbrev pub remaining : List ℕ → ℕ → ℕ → ℕ
remaining demands node v = cond (nat_lt v node) 0 (slice_index demands v)

remaining_before : (demands : List ℕ) (node v : ℕ) → v < node → remaining demands node v ≡ 0
remaining_before demands node v l = ap (λ b. cond {A = ℕ} b 0 (slice_index demands v)) (lt-ltb v node l)

remaining_from : (demands : List ℕ) (node v : ℕ) → node ≤ v → remaining demands node v ≡ slice_index demands v
remaining_from demands node v l = ap (λ b. cond {A = ℕ} b 0 (slice_index demands v)) (le-ltb v node l)

-- a served node's demand is what is taken from them
pub remaining_served : (demands : List ℕ) (node v : ℕ) → remaining demands (suc node) v + cond (nat_eq node v) (slice_index demands node) 0 ≡ remaining demands node v
remaining_served demands node v =
    elim (cases_order v node) [
      | inl same ↦
          let own : cond {A = ℕ} (nat_eq node v) (slice_index demands node) 0 ≡ slice_index demands node = ap (λ b. cond {A = ℕ} b (slice_index demands node) 0) (eq-eqb node v (sym same)) in
          let value : slice_index demands v ≡ slice_index demands node = ap (slice_index demands) same in
          omega (arith, own, value, remaining_before demands (suc node) v (omega arith), remaining_from demands node v (omega arith))
      | inr (inl less) ↦
          let none : cond {A = ℕ} (nat_eq node v) (slice_index demands node) 0 ≡ 0 = ap (λ b. cond {A = ℕ} b (slice_index demands node) 0) (ne_eqb node v (λ e. absurd (omega arith))) in
          omega (arith, none, remaining_before demands (suc node) v (omega arith), remaining_before demands node v less)
      | inr (inr more) ↦
          let none : cond {A = ℕ} (nat_eq node v) (slice_index demands node) 0 ≡ 0 = ap (λ b. cond {A = ℕ} b (slice_index demands node) 0) (ne_eqb node v (λ e. absurd (omega arith))) in
          omega (arith, none, remaining_from demands (suc node) v (omega arith), remaining_from demands node v (omega arith))
    ]

pub only_remaining : (demands : List ℕ) (node v : ℕ) → only node (slice_index demands node) v ≤ remaining demands node v
only_remaining demands node v = omega (arith, remaining_served demands node v)

-- what the routes of the nodes from a node on come to
pub record FromNode (f : Flow) (kind left node : ℕ) (amounts : List ℕ) (routes : List Route) : Type 0 where
  pub simple : All (IsSimpleRoute f.master kind f.links) routes
  pub before : (v : ℕ) → v < node → brought v routes ≡ 0
  pub met : (v : ℕ) → node ≤ v → v < node + left → brought v routes ≡ slice_index f.demands v
  pub within : (link : ℕ) → carried link routes ≤ get_or amounts link 0
  pub few : length routes ≤ left + open_links amounts

carried_both : (link : ℕ) (own rest : List Route) → carried link (own ++ rest) ≡ carried link own + carried link rest
carried_both link own rest = sum_by-append (λ r. count_by (nat_eq link) r.links * r.count) own rest

brought_both : (v : ℕ) (own rest : List Route) → brought v (own ++ rest) ≡ brought v own + brought v rest
brought_both v own rest = sum_by-append (λ r. cond {A = ℕ} (nat_eq r.end v) r.count 0) own rest

pub from_node : (left : ℕ) (f : Flow) (kind node : ℕ) (amounts : List ℕ) (routes : List Route) → length amounts ≡ length f.links → AreChosenFrom left f kind node amounts routes → FromNode f kind left node amounts routes
from_node zero f kind node amounts routes lengths nothing =
    rw nothing
    record {
      simple = search rules;
      before = λ v l. refl;
      met = λ v l m. absurd (omega arith);
      within = λ link. omega arith;
      few = omega arith;
    }
from_node (suc left) f kind node amounts routes lengths step =
    let demand = slice_index f.demands node in
    let own = node_outcome f.master kind f.links node demand amounts step.own step.after lengths step.here in
    let rest = from_node left f kind (suc node) step.after step.rest (own.size ∙ lengths) step.more in
    rw step.parts
    record {
      simple = All-append (IsSimpleRoute f.master kind f.links) step.own step.rest own.simple rest.simple;
      before = λ v l.
          let none : cond {A = ℕ} (nat_eq node v) demand 0 ≡ 0 = ap (λ b. cond {A = ℕ} b demand 0) (ne_eqb node v (λ e. absurd (omega arith))) in
          omega (arith, brought_both v step.own step.rest, own.met v, none, rest.before v (omega arith));
      met = λ v l m.
          elim (cases_eq node v) [
            | inl same ↦
                let all : cond {A = ℕ} (nat_eq node v) demand 0 ≡ demand = ap (λ b. cond {A = ℕ} b demand 0) (eq-eqb node v same) in
                let value : demand ≡ slice_index f.demands v = ap (slice_index f.demands) same in
                omega (arith, brought_both v step.own step.rest, own.met v, all, value, rest.before v (omega arith))
            | inr apart ↦
                let none : cond {A = ℕ} (nat_eq node v) demand 0 ≡ 0 = ap (λ b. cond {A = ℕ} b demand 0) (ne_eqb node v apart) in
                omega (arith, brought_both v step.own step.rest, own.met v, none, rest.met v (omega arith) (omega arith))
          ];
      within = λ link. omega (arith, carried_both link step.own step.rest, own.within link, rest.within link);
      few = let a = own.few in let b = rest.few in omega (arith, length-append step.own step.rest, a, b, opens_at_most demand);
    }

-- the chosen routes are routes of the flow
pub chosen_are_routes : (f : Flow) (kind : ℕ) (routes : List Route) → IsFlow f → AreChosen f kind routes → AreRoutes f kind routes
chosen_are_routes f kind routes flow chosen =
    let all = from_node f.nodes f kind 0 f.amounts routes flow.amounts chosen in
    record {
      simple = all.simple;
      met = λ node l. all.met node (omega arith) (omega arith);
      within = λ link l. all.within link;
      few = let a = all.few in let b = flow.amounts in omega (arith, a, b, count_by-le-length (λ x. nat_lt 0 x) f.amounts);
    }

-- what further nodes would choose comes behind what is chosen so far
abbrev pub GoesOn : Flow → ℕ → ℕ → List ℕ → List Route → Type 0
GoesOn f kind node amounts routes = (rest : List Route) → AreChosenFrom (f.nodes - node) f kind node amounts rest → AreChosen f kind (routes ++ rest)

pub goes_on : (f : Flow) (kind node : ℕ) (amounts : List ℕ) (routes own : List Route) (after : List ℕ) → node < f.nodes → GoesOn f kind node amounts routes →
    IsNodeServed f.master kind f.links node (slice_index f.demands node) amounts own after → GoesOn f kind (suc node) after (routes ++ own)
goes_on f kind node amounts routes own after within so_far here rest chosen =
    let one_less : f.nodes - node ≡ suc (f.nodes - suc node) = omega arith in
    rw (append_assoc routes own rest)
    (so_far (own ++ rest)
    (subst (λ n. AreChosenFrom n f kind node amounts (own ++ rest)) (sym one_less) (record { own = own; rest = rest; parts = refl; after = after; here = here; more = chosen })))

pub kept_on : (f : Flow) (kind node : ℕ) (amounts : List ℕ) (own : List Route) (after : List ℕ) → length amounts ≡ length f.links → IsKept f.master f.links amounts (remaining f.demands node) →
    IsNodeServed f.master kind f.links node (slice_index f.demands node) amounts own after → IsKept f.master f.links after (remaining f.demands (suc node))
kept_on f kind node amounts own after lengths kept here =
    (node_outcome f.master kind f.links node (slice_index f.demands node) amounts own after lengths here).kept (remaining f.demands node) (remaining f.demands (suc node)) kept (λ v ne. remaining_served f.demands node v)

-- The first pass over a whole plan, and what it finds.
use Rattle.std.proofs.Common.{◌≡◌, ◌≢◌, ℕ, suc, ◌+◌, ◌*◌, ◌<◌, ◌≤◌, ◌^◌, List, [], ◌∷◌, ◌++◌, length, codes, decimal, refl, sym, ap, ◌∙◌, subst, arith, inl, inr}
use Rattle.std.proofs.lemmas.List.{append_assoc, append-nil}
use Rattle.ratio_core.specs.Fraction.{reduced}
use Rattle.platform_file.specs.Ticks.{TimedView}
use Rattle.schedule_model.specs.declared.schedule.Series.{Series}
use Rattle.schedule_model.specs.declared.schedule.Series.TheVariants.{Tasking, Scatter}
use Rattle.flow_routes.specs.declared.flow.Route.{Route}
use Rattle.period_table.specs.declared.table.Table.{Table}
use Rattle.period_table.specs.declared.table.Slot.{Slot}
use Rattle.period_table.specs.Lanes.{lanes_of}
use Rattle.period_table.specs.Tables.{HasTasks, longest}
use Rattle.text_lines.specs.Lines.{line}
use Rattle.plan_text.specs.Texts.{header_text, ratio_text, routes_text, slots_text}
use Rattle.plan_text.specs.Reading.{HasNoNext, IsNext, IsRouteLine, IsSlotLine, IsEndLine, IsFaultBehind, HeadView, AreRead, IsReadThrough, IsFaultAt, table_of, Agrees, IsDisagreement, IsPlanOf}
use Rattle.plan_text.specs.Reading.Place.{at_header, at_row, behind_end}
use Rattle.plan_text.proofs.Steps.{more, and_more, first_fault, step_end, stuck_row, stuck_behind}
use Rattle.plan_text.proofs.Places.{IsKnownRow, text_before, read_text, read_known, lines_within}

module _ (t : TimedView) (bytes behind_head behind_routes left : List ℕ) (head : HeadView) (routes : List Route) (slots : List Slot)
    (of_head : AreRead 6 t at_header bytes (at_row head [] []) behind_head) (of_routes : AreRead (length routes) t (at_row head [] []) behind_head (at_row head routes []) behind_routes)
    (of_slots : AreRead (length slots) t (at_row head routes []) behind_routes (at_row head routes slots) left) where
  rows_read : AreRead (length slots + (length routes + 6)) t at_header bytes (at_row head routes slots) left
  rows_read =
      and_more t (length slots) (length routes + 6) at_header bytes (at_row head routes []) behind_routes (at_row head routes slots) left
      (and_more t (length routes) 6 at_header bytes (at_row head [] []) behind_head (at_row head routes []) behind_routes of_head of_routes) of_slots

  counted : suc (length slots + (length routes + 5)) ≡ length slots + (length routes + 6)
  counted = omega arith

  -- there are fewer lines than bytes
  pub few_lines : length bytes < 2 ^ 64 → 9 + length routes + length slots < 2 ^ 64
  few_lines short =
      let within = lines_within t (length slots + (length routes + 5)) bytes (at_row head routes slots) left (subst (λ n. AreRead n t at_header bytes (at_row head routes slots) left) (sym counted) rows_read) in
      omega (arith, within, short)

  no_route_left : HasNoNext (IsRouteLine t head.series (length routes)) behind_routes → slots ≡ [] → HasNoNext (IsRouteLine t head.series (length routes)) left
  no_route_left none e =
      let stays : AreRead 0 t (at_row head routes []) behind_routes (at_row head routes slots) left = subst (λ n. AreRead n t (at_row head routes []) behind_routes (at_row head routes slots) left) (ap length e) of_slots in
      subst (HasNoNext (IsRouteLine t head.series (length routes))) (sym stays.1) none

  -- the line behind the slots is none of the three
  pub row_fault : HasNoNext (IsRouteLine t head.series (length routes)) behind_routes → (suc (length slots) < 2 ^ 32 → HasNoNext (IsSlotLine (lanes_of routes)) left) → (slots ≢ [] → HasNoNext IsEndLine left) →
      IsFaultAt t bytes (7 + length routes + length slots)
  row_fault no_route no_slot no_end =
      subst (IsFaultAt t bytes) number (inl (first_fault t (length slots + (length routes + 6)) bytes (at_row head routes slots) left rows_read (stuck_row t left head routes slots (no_route_left no_route) no_slot no_end) (λ over. over)))
    where
      number : suc (length slots + (length routes + 6)) ≡ 7 + length routes + length slots
      number = omega arith

  module _ (rest : List ℕ) (some : slots ≢ []) (at_end : IsNext IsEndLine left tt rest) where
    end_read : AreRead (suc (length slots + (length routes + 6))) t at_header bytes (behind_end head routes slots) rest
    end_read = more t (length slots + (length routes + 6)) at_header bytes (at_row head routes slots) left (behind_end head routes slots) rest rows_read (step_end t left rest head routes slots some at_end)

    -- something stands behind the end
    pub behind_fault : rest ≢ [] → IsFaultAt t bytes (8 + length routes + length slots)
    behind_fault more_text =
        subst (IsFaultAt t bytes) number (inl (first_fault t (suc (length slots + (length routes + 6))) bytes (behind_end head routes slots) rest end_read (stuck_behind t rest head routes slots) more_text))
      where
        number : suc (suc (length slots + (length routes + 6))) ≡ 8 + length routes + length slots
        number = omega arith

    pub through : rest ≡ [] → IsReadThrough t bytes head routes slots
    through e = record { lines = suc (length slots + (length routes + 6)); read = subst (AreRead (suc (length slots + (length routes + 6))) t at_header bytes (behind_end head routes slots)) e end_read }

  -- reading stops behind the slots
  pub stops_behind : (number end : ℕ) → end ≡ 7 + length routes + length slots → HasNoNext (IsRouteLine t head.series (length routes)) behind_routes →
      (suc (length slots) < 2 ^ 32 → HasNoNext (IsSlotLine (lanes_of routes)) left) → IsFaultBehind slots end left number → IsFaultAt t bytes number
  stops_behind number end is no_route no_slot (inl found) = subst (IsFaultAt t bytes) (sym (found.0 ∙ is)) (row_fault no_route no_slot found.1)
  stops_behind number end is no_route no_slot (inr found) =
      let rest = found.2 in
      subst (IsFaultAt t bytes) (sym (found.0 ∙ one_more end (length routes) (length slots) is)) (behind_fault rest.0 found.1 rest.1 rest.2)
    where
      one_more : (e r s : ℕ) → e ≡ 7 + r + s → e + 1 ≡ 8 + r + s
      one_more e r s is = omega (arith, is)

-- what is known of a text that is read to its end
pub through_known : (t : TimedView) (bytes : List ℕ) (head : HeadView) (routes : List Route) (slots : List Slot) → IsReadThrough t bytes head routes slots → IsKnownRow t head routes slots × (slots ≢ [])
through_known t bytes head routes slots through = read_known t through.lines bytes (behind_end head routes slots) [] through.read

pub some_slots : (slots : List Slot) → slots ≢ [] → 1 ≤ length slots
some_slots [] some = absurd (some refl)
some_slots (slot ∷ slots) some = omega arith

-- texts one behind the other, however they are grouped
nested : (a b c d e f g h i : List ℕ) → (((((((a ++ b) ++ c) ++ d) ++ e) ++ f) ++ g) ++ h) ++ i ≡ a ++ (b ++ (c ++ (d ++ (e ++ (f ++ (g ++ (h ++ i)))))))
nested a b c d e f g h i =
    append_assoc ((((((a ++ b) ++ c) ++ d) ++ e) ++ f) ++ g) h i
    ∙ append_assoc (((((a ++ b) ++ c) ++ d) ++ e) ++ f) g (h ++ i)
    ∙ append_assoc ((((a ++ b) ++ c) ++ d) ++ e) f (g ++ (h ++ i))
    ∙ append_assoc (((a ++ b) ++ c) ++ d) e (f ++ (g ++ (h ++ i)))
    ∙ append_assoc ((a ++ b) ++ c) d (e ++ (f ++ (g ++ (h ++ i))))
    ∙ append_assoc (a ++ b) c (d ++ (e ++ (f ++ (g ++ (h ++ i)))))
    ∙ append_assoc a b (c ++ (d ++ (e ++ (f ++ (g ++ (h ++ i))))))

-- a text whose numbers agree is the plan of its table
pub is_plan_of : (t : TimedView) (bytes : List ℕ) (head : HeadView) (routes : List Route) (slots : List Slot) → IsReadThrough t bytes head routes slots → Agrees t head (table_of head routes slots) →
    IsPlanOf t bytes head.series (table_of head routes slots)
is_plan_of t bytes head routes slots through agrees =
    let known = (through_known t bytes head routes slots through).0 in
    let some = (through_known t bytes head routes slots through).1 in
    let rate = reduced (head.tasks * t.unit) head.period in
    record {
      fits = record {
        routes = known.routes_are;
        tasks = agrees.tasks;
        few_tasks = known.tasks;
        depth = agrees.depth;
        some_slot = some_slots slots some;
        few_slots = known.few;
        slots = known.slots_are;
        period = agrees.period.0;
        short_period = agrees.period.1;
        moved = agrees.lanes;
        rate_num = subst (λ rate. rate.num ≤ 2 ^ 127) agrees.rate known.num;
        rate_den = subst (λ rate. rate.den ≤ 2 ^ 127) agrees.rate known.den;
      };
      lanes32 = known.lanes32;
      is_text =
          read_text t through.lines bytes (behind_end head routes slots) [] through.read
          ∙ append-nil (text_before t (behind_end head routes slots))
          ∙ nested (line (header_text head.series)) (line (codes "unit " ++ decimal t.unit)) (line (codes "period " ++ decimal head.period)) (line (codes "tasks " ++ decimal head.tasks)) (line (codes "depth " ++ decimal head.depth))
          (line (codes "rate " ++ ratio_text head.rate)) (routes_text t 0 routes) (slots_text slots) (line (codes "end"))
          ∙ ap (λ rate. line (header_text head.series) ++ (line (codes "unit " ++ decimal t.unit) ++ (line (codes "period " ++ decimal head.period) ++ (line (codes "tasks " ++ decimal head.tasks)
          ++ (line (codes "depth " ++ decimal head.depth) ++ (line (codes "rate " ++ ratio_text rate) ++ (routes_text t 0 routes ++ (slots_text slots ++ line (codes "end"))))))))) agrees.rate;
    }

-- a comparison that fails is the fault of the text
pub second_fault : (t : TimedView) (bytes : List ℕ) (head : HeadView) (routes : List Route) (slots : List Slot) (number : ℕ) → IsReadThrough t bytes head routes slots → IsDisagreement t head (table_of head routes slots) number → IsFaultAt t bytes number
second_fault t bytes head routes slots number through disagrees = inr (record { head = head; routes = routes; slots = slots; through = through; disagrees = disagrees })

-- the table that is made of what was read, of which the depth is looked up in the routes
module _ (t : TimedView) (bytes : List ℕ) (head : HeadView) (routes : List Route) (slots : List Slot) (read : IsReadThrough t bytes head routes slots) (period tasks depth : ℕ) (same_period : period ≡ head.period)
    (same_tasks : tasks ≡ head.tasks) where
  abbrev made : ℕ → ℕ → ℕ → Table
  made p k d = record { period = p; tasks = k; depth = d; routes = routes; slots = slots }

  -- no comparison of tasks looks at the depth
  deep_tasks : (series : Series) (p k d e : ℕ) → HasTasks t series (made p k d) → HasTasks t series (made p k e)
  deep_tasks Tasking p k d e tasks = tasks
  deep_tasks Scatter p k d e tasks = tasks

  deep_fault : (p k d e number : ℕ) → IsDisagreement t head (made p k d) number → IsDisagreement t head (made p k e) number
  deep_fault p k d e number (inl w) = inl w
  deep_fault p k d e number (inr (a, inl w)) = inr (a, inl (w.0, λ tasks. w.1 (deep_tasks head.series p k e d tasks)))
  deep_fault p k d e number (inr (a, inr (b, c))) = inr (a, inr (deep_tasks head.series p k d e b, c))

  pub made_fault : (number : ℕ) → IsDisagreement t head (made period tasks depth) number → IsFaultAt t bytes number
  made_fault number disagrees =
      second_fault t bytes head routes slots number read
      (deep_fault head.period head.tasks depth head.depth number
      (subst (λ k. IsDisagreement t head (made head.period k depth) number) same_tasks (subst (λ p. IsDisagreement t head (made p tasks depth) number) same_period disagrees)))

  pub made_plan : (series : Series) → series ≡ head.series → depth ≡ longest routes → Agrees t head (made period tasks depth) → IsPlanOf t bytes series (made period tasks depth)
  made_plan series same_series deep agrees =
      let moved : Agrees t head (made head.period head.tasks depth) = subst (λ k. Agrees t head (made head.period k depth)) same_tasks (subst (λ p. Agrees t head (made p tasks depth)) same_period agrees) in
      let plan : IsPlanOf t bytes head.series (made head.period head.tasks head.depth) =
      is_plan_of t bytes head routes slots read (record { period = moved.period; tasks = deep_tasks head.series head.period head.tasks depth head.depth moved.tasks; depth = moved.depth; rate = moved.rate; lanes = moved.lanes }) in
      subst (λ s. IsPlanOf t bytes s (made period tasks depth)) (sym same_series)
      (subst (λ d. IsPlanOf t bytes head.series (made period tasks d)) (sym (deep ∙ sym agrees.depth))
      (subst (λ p. IsPlanOf t bytes head.series (made p tasks head.depth)) (sym same_period) (subst (λ k. IsPlanOf t bytes head.series (made head.period k head.depth)) (sym same_tasks) plan)))

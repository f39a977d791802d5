-- Steps of the first pass over a plan, and where it stops.
use Rattle.std.proofs.Common.{◌≡◌, ◌≢◌, ℕ, zero, suc, ◌+◌, ◌<◌, ◌^◌, List, [], ◌∷◌, ◌++◌, length, codes, refl, sym, ap, ◌∙◌, subst, arith, inl, inr}
use Rattle.std.proofs.lemmas.List.{length-append}
use Rattle.text_lines.proofs.FirstLines.{part_shorter}
use Rattle.ratio_core.specs.Fraction.{Fraction}
use Rattle.platform_file.specs.Ticks.{TimedView}
use Rattle.schedule_model.specs.declared.schedule.Series.{Series}
use Rattle.flow_routes.specs.declared.flow.Route.{Route}
use Rattle.period_table.specs.declared.table.Slot.{Slot}
use Rattle.period_table.specs.Lanes.{lanes_of}
use Rattle.plan_text.specs.Reading.{IsNext, HasNoNext, IsHeaderLine, IsNumberLine, IsUnitLine, IsRateLine, IsRouteLine, IsSlotLine, IsEndLine, HeadView, Place, IsStep, IsStuck, AreRead, IsOver, IsFirstFault}
use Rattle.plan_text.specs.Reading.Place.{at_header, at_unit, at_period, at_tasks, at_depth, at_rate, at_row, behind_end}

module _ (t : TimedView) (bytes left : List ℕ) where
  pub step_header : (series : Series) → IsNext (IsHeaderLine t) bytes series left → IsStep t at_header bytes (at_unit series) left
  step_header series next = record { text = next.text; split = next.split; leads = (series, next.meaning, refl) }

  pub step_unit : (series : Series) (unit : ℕ) → IsNext (IsUnitLine t) bytes unit left → IsStep t (at_unit series) bytes (at_period series) left
  step_unit series unit next = record { text = next.text; split = next.split; leads = (unit, next.meaning, refl) }

  pub step_period : (series : Series) (period : ℕ) → IsNext (IsNumberLine (codes "period ")) bytes period left → IsStep t (at_period series) bytes (at_tasks series period) left
  step_period series period next = record { text = next.text; split = next.split; leads = (period, next.meaning, refl) }

  pub step_tasks : (series : Series) (period tasks : ℕ) → IsNext (IsNumberLine (codes "tasks ")) bytes tasks left → IsStep t (at_tasks series period) bytes (at_depth series period tasks) left
  step_tasks series period tasks next = record { text = next.text; split = next.split; leads = (tasks, next.meaning, refl) }

  pub step_depth : (series : Series) (period tasks depth : ℕ) → IsNext (IsNumberLine (codes "depth ")) bytes depth left →
      IsStep t (at_depth series period tasks) bytes (at_rate series period tasks depth) left
  step_depth series period tasks depth next = record { text = next.text; split = next.split; leads = (depth, next.meaning, refl) }

  pub step_rate : (series : Series) (period tasks depth : ℕ) (rate : Fraction) → IsNext IsRateLine bytes rate left →
      IsStep t (at_rate series period tasks depth) bytes (at_row (record { series = series; period = period; tasks = tasks; depth = depth; rate = rate }) [] []) left
  step_rate series period tasks depth rate next = record { text = next.text; split = next.split; leads = (rate, next.meaning, refl) }

  pub step_route : (head : HeadView) (routes : List Route) (route : Route) → IsNext (IsRouteLine t head.series (length routes)) bytes route left →
      IsStep t (at_row head routes []) bytes (at_row head (routes ++ route ∷ []) []) left
  step_route head routes route next = record { text = next.text; split = next.split; leads = inl (refl, (route, next.meaning, refl)) }

  pub step_slot : (head : HeadView) (routes : List Route) (slots : List Slot) (slot : Slot) → suc (length slots) < 2 ^ 32 → IsNext (IsSlotLine (lanes_of routes)) bytes slot left →
      IsStep t (at_row head routes slots) bytes (at_row head routes (slots ++ slot ∷ [])) left
  step_slot head routes slots slot few next = record { text = next.text; split = next.split; leads = inr (inl (few, (slot, next.meaning, refl))) }

  pub step_end : (head : HeadView) (routes : List Route) (slots : List Slot) → slots ≢ [] → IsNext IsEndLine bytes tt left → IsStep t (at_row head routes slots) bytes (behind_end head routes slots) left
  step_end head routes slots some next = record { text = next.text; split = next.split; leads = inr (inr (some, next.meaning, refl)) }

module _ (t : TimedView) (bytes : List ℕ) where
  pub stuck_header : HasNoNext (IsHeaderLine t) bytes → IsStuck t at_header bytes
  stuck_header none next left step = none step.leads.0 left (record { text = step.text; split = step.split; meaning = step.leads.1 })

  pub stuck_unit : (series : Series) → HasNoNext (IsUnitLine t) bytes → IsStuck t (at_unit series) bytes
  stuck_unit series none next left step = none step.leads.0 left (record { text = step.text; split = step.split; meaning = step.leads.1 })

  pub stuck_period : (series : Series) → HasNoNext (IsNumberLine (codes "period ")) bytes → IsStuck t (at_period series) bytes
  stuck_period series none next left step = none step.leads.0 left (record { text = step.text; split = step.split; meaning = step.leads.1 })

  pub stuck_tasks : (series : Series) (period : ℕ) → HasNoNext (IsNumberLine (codes "tasks ")) bytes → IsStuck t (at_tasks series period) bytes
  stuck_tasks series period none next left step = none step.leads.0 left (record { text = step.text; split = step.split; meaning = step.leads.1 })

  pub stuck_depth : (series : Series) (period tasks : ℕ) → HasNoNext (IsNumberLine (codes "depth ")) bytes → IsStuck t (at_depth series period tasks) bytes
  stuck_depth series period tasks none next left step = none step.leads.0 left (record { text = step.text; split = step.split; meaning = step.leads.1 })

  pub stuck_rate : (series : Series) (period tasks depth : ℕ) → HasNoNext IsRateLine bytes → IsStuck t (at_rate series period tasks depth) bytes
  stuck_rate series period tasks depth none next left step = none step.leads.0 left (record { text = step.text; split = step.split; meaning = step.leads.1 })

  pub stuck_row : (head : HeadView) (routes : List Route) (slots : List Slot) → (slots ≡ [] → HasNoNext (IsRouteLine t head.series (length routes)) bytes) →
      (suc (length slots) < 2 ^ 32 → HasNoNext (IsSlotLine (lanes_of routes)) bytes) → (slots ≢ [] → HasNoNext IsEndLine bytes) → IsStuck t (at_row head routes slots) bytes
  stuck_row head routes slots no_route no_slot no_end next left step =
      elim step.leads [
        | inl w ↦ no_route w.0 w.1.0 left (record { text = step.text; split = step.split; meaning = w.1.1 })
        | inr (inl w) ↦ no_slot w.0 w.1.0 left (record { text = step.text; split = step.split; meaning = w.1.1 })
        | inr (inr w) ↦ no_end w.0 tt left (record { text = step.text; split = step.split; meaning = w.1 })
      ]

  pub stuck_behind : (head : HeadView) (routes : List Route) (slots : List Slot) → IsStuck t (behind_end head routes slots) bytes
  stuck_behind head routes slots next left step = step.leads

module _ (t : TimedView) where
  -- one more line
  pub more : (lines : ℕ) (from : Place) (bytes : List ℕ) (place : Place) (rest : List ℕ) (next : Place) (left : List ℕ) → AreRead lines t from bytes place rest → IsStep t place rest next left →
      AreRead (suc lines) t from bytes next left
  more lines from bytes place rest next left read step = record { last = place; rest = rest; read = read; step = step }

  none_more : (n : ℕ) → n ≡ 0 + n
  none_more n = omega arith

  one_more : (m n : ℕ) → suc (m + n) ≡ suc m + n
  one_more m n = omega arith

  -- some lines and some more
  pub and_more : (more before : ℕ) (from : Place) (bytes : List ℕ) (mid : Place) (rest : List ℕ) (place : Place) (left : List ℕ) → AreRead before t from bytes mid rest → AreRead more t mid rest place left →
      AreRead (more + before) t from bytes place left
  and_more zero before from bytes mid rest place left first second = subst (λ n. AreRead n t from bytes place left) (none_more before) (subst (λ bs. AreRead before t from bytes place bs) (sym second.1) (subst (λ p. AreRead before t from bytes p rest) (sym second.0) first))
  and_more (suc lines) before from bytes mid rest place left first second =
      subst (λ n. AreRead n t from bytes place left) (one_more lines before)
      (more (lines + before) from bytes second.last second.rest place left (and_more lines before from bytes mid rest second.last second.rest first second.read) second.step)

  pub first_fault : (lines : ℕ) (bytes : List ℕ) (place : Place) (left : List ℕ) → AreRead lines t at_header bytes place left → IsStuck t place left → (IsOver place left → ⊥) → IsFirstFault t bytes (suc lines)
  first_fault lines bytes place left read stuck not_over = record { lines = lines; place = place; left = left; read = read; stuck = stuck; not_over = not_over; is = refl }

-- what stands behind the next line is shorter
pub next_shorter : {A : Type 0} (means : List ℕ → A → Type 0) (bytes left : List ℕ) (value : A) → IsNext means bytes value left → length left < length bytes
next_shorter means bytes left value next = part_shorter 10 bytes (next.text, left) next.split

one_longer : {A : Type 0} (xs : List A) (x : A) (ys : List A) → ys ≡ xs ++ x ∷ [] → suc (length xs) ≡ length ys
one_longer xs x ys e = omega (arith, ap length e ∙ length-append xs (x ∷ []))

-- one more route
pub push_route : (t : TimedView) (head : HeadView) (from : Place) (bytes rest left : List ℕ) (routes : List Route) (route : Route) (pushed : List Route) → pushed ≡ routes ++ route ∷ [] →
    AreRead (length routes) t from bytes (at_row head routes []) rest → IsNext (IsRouteLine t head.series (length routes)) rest route left → AreRead (length pushed) t from bytes (at_row head pushed []) left
push_route t head from bytes rest left routes route pushed e read next =
    subst (λ n. AreRead n t from bytes (at_row head pushed []) left) (one_longer routes route pushed e)
    (subst (λ rs. AreRead (suc (length routes)) t from bytes (at_row head rs []) left) (sym e)
    (more t (length routes) from bytes (at_row head routes []) rest (at_row head (routes ++ route ∷ []) []) left read (step_route t rest left head routes route next)))

-- one more slot
pub push_slot : (t : TimedView) (head : HeadView) (routes : List Route) (from : Place) (bytes rest left : List ℕ) (slots : List Slot) (slot : Slot) (pushed : List Slot) → pushed ≡ slots ++ slot ∷ [] → suc (length slots) < 2 ^ 32 →
    AreRead (length slots) t from bytes (at_row head routes slots) rest → IsNext (IsSlotLine (lanes_of routes)) rest slot left → AreRead (length pushed) t from bytes (at_row head routes pushed) left
push_slot t head routes from bytes rest left slots slot pushed e few read next =
    subst (λ n. AreRead n t from bytes (at_row head routes pushed) left) (one_longer slots slot pushed e)
    (subst (λ ss. AreRead (suc (length slots)) t from bytes (at_row head routes ss) left) (sym e)
    (more t (length slots) from bytes (at_row head routes slots) rest (at_row head routes (slots ++ slot ∷ [])) left read (step_slot t rest left head routes slots slot few next)))

pub pushed_few : (slots : List Slot) (slot : Slot) (pushed : List Slot) → pushed ≡ slots ++ slot ∷ [] → suc (length slots) < 2 ^ 32 → length pushed < 2 ^ 32
pushed_few slots slot pushed e few = omega (arith, one_longer slots slot pushed e, few)

-- the lines before the routes
module _ (t : TimedView) (bytes rest left : List ℕ) where
  pub after_header : (series : Series) → IsNext (IsHeaderLine t) bytes series left → AreRead 1 t at_header bytes (at_unit series) left
  after_header series next = more t 0 at_header bytes at_header bytes (at_unit series) left (refl, refl) (step_header t bytes left series next)

  pub after_unit : (series : Series) (unit : ℕ) → AreRead 1 t at_header bytes (at_unit series) rest → IsNext (IsUnitLine t) rest unit left → AreRead 2 t at_header bytes (at_period series) left
  after_unit series unit read next = more t 1 at_header bytes (at_unit series) rest (at_period series) left read (step_unit t rest left series unit next)

  pub after_period : (series : Series) (period : ℕ) → AreRead 2 t at_header bytes (at_period series) rest → IsNext (IsNumberLine (codes "period ")) rest period left →
      AreRead 3 t at_header bytes (at_tasks series period) left
  after_period series period read next = more t 2 at_header bytes (at_period series) rest (at_tasks series period) left read (step_period t rest left series period next)

  pub after_tasks : (series : Series) (period tasks : ℕ) → AreRead 3 t at_header bytes (at_tasks series period) rest → IsNext (IsNumberLine (codes "tasks ")) rest tasks left →
      AreRead 4 t at_header bytes (at_depth series period tasks) left
  after_tasks series period tasks read next = more t 3 at_header bytes (at_tasks series period) rest (at_depth series period tasks) left read (step_tasks t rest left series period tasks next)

  pub after_depth : (series : Series) (period tasks depth : ℕ) → AreRead 4 t at_header bytes (at_depth series period tasks) rest → IsNext (IsNumberLine (codes "depth ")) rest depth left →
      AreRead 5 t at_header bytes (at_rate series period tasks depth) left
  after_depth series period tasks depth read next =
      more t 4 at_header bytes (at_depth series period tasks) rest (at_rate series period tasks depth) left read (step_depth t rest left series period tasks depth next)

  pub after_rate : (series : Series) (period tasks depth : ℕ) (rate : Fraction) → AreRead 5 t at_header bytes (at_rate series period tasks depth) rest → IsNext IsRateLine rest rate left →
      AreRead 6 t at_header bytes (at_row (record { series = series; period = period; tasks = tasks; depth = depth; rate = rate }) [] []) left
  after_rate series period tasks depth rate read next =
      more t 5 at_header bytes (at_rate series period tasks depth) rest _ left read (step_rate t rest left series period tasks depth rate next)

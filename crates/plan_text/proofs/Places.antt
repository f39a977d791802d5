-- What has been read up to a place of a plan, and what is known there.
use Rattle.std.proofs.Common.{◌≡◌, ◌≢◌, ℕ, zero, suc, ◌+◌, ◌<◌, ◌≤◌, ◌^◌, All, List, [], ◌∷◌, ◌++◌, length, codes, decimal, sym, ap, ◌∙◌, subst, arith, inl, inr}
use Rattle.std.proofs.lemmas.List.{append_assoc, append-nil, length-append}
use Rattle.std.proofs.lemmas.List.Elements.{All-nil, All-cons, All-append}
use Rattle.platform_file.specs.Ticks.{TimedView}
use Rattle.schedule_model.specs.declared.schedule.Series.{Series}
use Rattle.schedule_model.specs.declared.schedule.Series.TheVariants.{Tasking, Scatter}
use Rattle.flow_routes.specs.declared.flow.Route.{Route}
use Rattle.period_table.specs.declared.table.Slot.{Slot}
use Rattle.period_table.specs.Lanes.{lanes_of}
use Rattle.period_table.specs.Tables.{IsRoute, IsSlot}
use Rattle.text_lines.specs.Lines.{line}
use Rattle.text_lines.proofs.FirstLines.{IsSplit, line_split, part_shorter}
use Rattle.plan_text.specs.Texts.{header_text, ratio_text, route_text, routes_text, slot_text, slots_text}
use Rattle.plan_text.specs.Reading.{IsHeaderLine, HasLanes32, HeadView, Place, LeadsTo, IsStep, AreRead}
use Rattle.plan_text.specs.Reading.Place.{at_header, at_unit, at_period, at_tasks, at_depth, at_rate, at_row, behind_end}

abbrev to_period : TimedView → Series → List ℕ
to_period t series = line (header_text series) ++ line (codes "unit " ++ decimal t.unit)

abbrev to_tasks : TimedView → Series → ℕ → List ℕ
to_tasks t series period = to_period t series ++ line (codes "period " ++ decimal period)

abbrev to_depth : TimedView → Series → ℕ → ℕ → List ℕ
to_depth t series period tasks = to_tasks t series period ++ line (codes "tasks " ++ decimal tasks)

abbrev to_rate : TimedView → Series → ℕ → ℕ → ℕ → List ℕ
to_rate t series period tasks depth = to_depth t series period tasks ++ line (codes "depth " ++ decimal depth)

abbrev to_rows : TimedView → HeadView → List ℕ
to_rows t head = to_rate t head.series head.period head.tasks head.depth ++ line (codes "rate " ++ ratio_text head.rate)

abbrev to_end : TimedView → HeadView → List Route → List Slot → List ℕ
to_end t head routes slots = (to_rows t head ++ routes_text t 0 routes) ++ slots_text slots

-- the text before a place
abbrev pub text_before : TimedView → Place → List ℕ
text_before t at_header = []
text_before t (at_unit series) = line (header_text series)
text_before t (at_period series) = to_period t series
text_before t (at_tasks series period) = to_tasks t series period
text_before t (at_depth series period tasks) = to_depth t series period tasks
text_before t (at_rate series period tasks depth) = to_rate t series period tasks depth
text_before t (at_row head routes slots) = to_end t head routes slots
text_before t (behind_end head routes slots) = to_end t head routes slots ++ line (codes "end")

-- the lines of routes with one more
pub routes_push : (t : TimedView) (number : ℕ) (routes : List Route) (route : Route) → routes_text t number (routes ++ route ∷ []) ≡ routes_text t number routes ++ route_text t (number + length routes) route
routes_push t number [] route = append-nil (route_text t number route) ∙ ap (λ n. route_text t n route) (none_more number)
  where
    none_more : (n : ℕ) → n ≡ n + 0
    none_more n = omega arith
routes_push t number (first ∷ routes) route =
    ap (λ text. route_text t number first ++ text) (routes_push t (number + 1) routes route)
    ∙ ap (λ n. route_text t number first ++ (routes_text t (number + 1) routes ++ route_text t n route)) (further number (length routes))
    ∙ sym (append_assoc (route_text t number first) (routes_text t (number + 1) routes) (route_text t (number + suc (length routes)) route))
  where
    further : (k n : ℕ) → k + 1 + n ≡ k + suc n
    further k n = omega arith

pub slots_push : (slots : List Slot) (slot : Slot) → slots_text (slots ++ slot ∷ []) ≡ slots_text slots ++ slot_text slot
slots_push [] slot = append-nil (slot_text slot)
slots_push (first ∷ slots) slot = ap (λ text. slot_text first ++ text) (slots_push slots slot) ∙ sym (append_assoc (slot_text first) (slots_text slots) (slot_text slot))

module _ (t : TimedView) where
  -- a line is what comes to the text
  grows : (place next : Place) (text : List ℕ) → LeadsTo t place text next → text_before t next ≡ text_before t place ++ line text
  grows at_header next text leads = ap (text_before t) leads.2 ∙ of leads.0 leads.1
    where
      of : (series : Series) → IsHeaderLine t text series → line (header_text series) ≡ line text
      of Tasking is = ap line (sym is)
      of Scatter is = ap line (sym is.0)
  grows (at_unit series) next text leads =
      ap (text_before t) leads.2 ∙ ap (λ xs. line (header_text series) ++ line xs) (ap (λ n. codes "unit " ++ decimal n) (sym leads.1.0) ∙ sym leads.1.1.is_line)
  grows (at_period series) next text leads = ap (text_before t) leads.2 ∙ ap (λ xs. to_period t series ++ line xs) (sym leads.1.is_line)
  grows (at_tasks series period) next text leads = ap (text_before t) leads.2 ∙ ap (λ xs. to_tasks t series period ++ line xs) (sym leads.1.is_line)
  grows (at_depth series period tasks) next text leads = ap (text_before t) leads.2 ∙ ap (λ xs. to_depth t series period tasks ++ line xs) (sym leads.1.is_line)
  grows (at_rate series period tasks depth) next text leads =
      ap (text_before t) leads.2
      ∙ append-nil ((to_rate t series period tasks depth ++ line (codes "rate " ++ ratio_text leads.0)) ++ [])
      ∙ append-nil (to_rate t series period tasks depth ++ line (codes "rate " ++ ratio_text leads.0))
      ∙ ap (λ xs. to_rate t series period tasks depth ++ line xs) (ap (λ xs. codes "rate " ++ xs) (sym leads.1.numbers.is_text) ∙ sym leads.1.is_line)
  grows (at_row head routes slots) next text (inl w) =
      ap (text_before t) w.1.2
      ∙ append-nil (to_rows t head ++ routes_text t 0 (routes ++ w.1.0 ∷ []))
      ∙ ap (λ xs. to_rows t head ++ xs) (routes_push t 0 routes w.1.0)
      ∙ ap (λ n. to_rows t head ++ (routes_text t 0 routes ++ route_text t n w.1.0)) (from_none (length routes))
      ∙ sym (append_assoc (to_rows t head) (routes_text t 0 routes) (route_text t (length routes) w.1.0))
      ∙ ap (λ xs. (to_rows t head ++ routes_text t 0 routes) ++ line xs) (sym w.1.1.is_line)
      ∙ ap (λ xs. xs ++ line text) (sym (append-nil (to_rows t head ++ routes_text t 0 routes)) ∙ ap (λ ss. to_end t head routes ss) (sym w.0))
    where
      from_none : (n : ℕ) → 0 + n ≡ n
      from_none n = omega arith
  grows (at_row head routes slots) next text (inr (inl w)) =
      ap (text_before t) w.1.2
      ∙ ap (λ xs. (to_rows t head ++ routes_text t 0 routes) ++ xs) (slots_push slots w.1.0)
      ∙ sym (append_assoc (to_rows t head ++ routes_text t 0 routes) (slots_text slots) (slot_text w.1.0))
      ∙ ap (λ xs. to_end t head routes slots ++ line xs) (sym w.1.1.is_line)
  grows (at_row head routes slots) next text (inr (inr w)) = ap (text_before t) w.2 ∙ ap (λ xs. to_end t head routes slots ++ line xs) (sym w.1)
  grows (behind_end head routes slots) next text leads = absurd leads

  -- a step's bytes are its line and what is left
  pub step_bytes : (place next : Place) (bytes left : List ℕ) (step : IsStep t place bytes next left) → bytes ≡ line step.text ++ left
  step_bytes place next bytes left step = (subst (IsSplit bytes) step.split (line_split bytes)).0

  -- what was read is the text before the place
  pub read_text : (lines : ℕ) (bytes : List ℕ) (place : Place) (left : List ℕ) → AreRead lines t at_header bytes place left → bytes ≡ text_before t place ++ left
  read_text zero bytes place left read = sym read.1 ∙ ap (λ p. text_before t p ++ left) (sym read.0)
  read_text (suc lines) bytes place left read =
      read_text lines bytes read.last read.rest read.read
      ∙ ap (λ xs. text_before t read.last ++ xs) (step_bytes read.last place read.rest left read.step)
      ∙ sym (append_assoc (text_before t read.last) (line read.step.text) left)
      ∙ ap (λ xs. xs ++ left) (sym (grows read.last place read.step.text read.step.leads))

  pub step_shorter : (place next : Place) (bytes left : List ℕ) → IsStep t place bytes next left → length left < length bytes
  step_shorter place next bytes left step = part_shorter 10 bytes (step.text, left) step.split

  -- a header line has fifteen bytes, and every other line one
  pub lines_within : (lines : ℕ) (bytes : List ℕ) (place : Place) (left : List ℕ) → AreRead (suc lines) t at_header bytes place left → suc lines + 14 + length left ≤ length bytes
  lines_within zero bytes place left read = of (subst (λ p. LeadsTo t p read.step.text place) read.read.0 read.step.leads) (step_bytes read.last place read.rest left read.step) read.read.1
    where
      counted : (series : Series) → IsHeaderLine t read.step.text series → length read.step.text ≡ 14
      counted Tasking is = ap length is
      counted Scatter is = ap length is.0

      of : LeadsTo t at_header read.step.text place → read.rest ≡ line read.step.text ++ left → read.rest ≡ bytes → 1 + 14 + length left ≤ length bytes
      of leads split same =
          let size : length bytes ≡ length (line read.step.text) + length left = ap length (sym same ∙ split) ∙ length-append (line read.step.text) left in
          let there : length (line read.step.text) ≡ length read.step.text + 1 = length-append read.step.text (10 ∷ []) in
          omega (arith, size, there, counted leads.0 leads.1)
  lines_within (suc lines) bytes place left read =
      let before = lines_within lines bytes read.last read.rest read.read in
      let less = step_shorter read.last place read.rest left read.step in
      omega (arith, before, less)

-- what is known of the head and the rows that were read
pub record IsKnownRow (t : TimedView) (head : HeadView) (routes : List Route) (slots : List Slot) : Type 0 where
  pub tasks : head.tasks ≤ 2 ^ 107
  pub num : head.rate.num ≤ 2 ^ 127
  pub den : head.rate.den ≤ 2 ^ 127
  pub routes_are : All (IsRoute t head.series) routes
  pub slots_are : All (IsSlot (lanes_of routes)) slots
  pub lanes32 : All HasLanes32 slots
  pub few : length slots < 2 ^ 32

-- what is known at a place
abbrev pub Known : TimedView → Place → Type 0
Known t at_header = Unit {0}
Known t (at_unit series) = Unit {0}
Known t (at_period series) = Unit {0}
Known t (at_tasks series period) = Unit {0}
Known t (at_depth series period tasks) = tasks ≤ 2 ^ 107
Known t (at_rate series period tasks depth) = tasks ≤ 2 ^ 107
Known t (at_row head routes slots) = IsKnownRow t head routes slots
Known t (behind_end head routes slots) = IsKnownRow t head routes slots × (slots ≢ [])

push_all : {A : Type 0} (P : A → Type 0) (xs : List A) (x : A) → All P xs → P x → All P (xs ++ x ∷ [])
push_all P xs x all here = All-append P xs (x ∷ []) all (All-cons P x [] here (All-nil P))

module _ (t : TimedView) where
  stays_known : (place next : Place) (text : List ℕ) → LeadsTo t place text next → Known t place → Known t next
  stays_known at_header next text leads known = subst (Known t) (sym leads.2) tt
  stays_known (at_unit series) next text leads known = subst (Known t) (sym leads.2) tt
  stays_known (at_period series) next text leads known = subst (Known t) (sym leads.2) tt
  stays_known (at_tasks series period) next text leads known = subst (Known t) (sym leads.2) leads.1.bounded
  stays_known (at_depth series period tasks) next text leads known = subst (Known t) (sym leads.2) known
  stays_known (at_rate series period tasks depth) next text leads known =
      subst (Known t) (sym leads.2) (record {
        tasks = known;
        num = leads.1.numbers.first_bounded;
        den = leads.1.numbers.second_bounded;
        routes_are = All-nil (IsRoute t series);
        slots_are = All-nil (IsSlot (lanes_of []));
        lanes32 = All-nil HasLanes32;
        few = omega arith;
      })
  stays_known (at_row head routes slots) next text (inl w) known =
      subst (Known t) (sym w.1.2) (record {
        tasks = known.tasks;
        num = known.num;
        den = known.den;
        routes_are = push_all (IsRoute t head.series) routes w.1.0 known.routes_are w.1.1.is_route;
        slots_are = All-nil (IsSlot (lanes_of (routes ++ w.1.0 ∷ [])));
        lanes32 = All-nil HasLanes32;
        few = omega arith;
      })
  stays_known (at_row head routes slots) next text (inr (inl w)) known =
      subst (Known t) (sym w.1.2) (record {
        tasks = known.tasks;
        num = known.num;
        den = known.den;
        routes_are = known.routes_are;
        slots_are = push_all (IsSlot (lanes_of routes)) slots w.1.0 known.slots_are w.1.1.is_slot;
        lanes32 = push_all HasLanes32 slots w.1.0 known.lanes32 w.1.1.lanes32;
        few = let size : length (slots ++ w.1.0 ∷ []) ≡ length slots + 1 = length-append slots (w.1.0 ∷ []) in omega (arith, size, w.0);
      })
  stays_known (at_row head routes slots) next text (inr (inr w)) known = subst (Known t) (sym w.2) (known, w.0)
  stays_known (behind_end head routes slots) next text leads known = absurd leads

  pub read_known : (lines : ℕ) (bytes : List ℕ) (place : Place) (left : List ℕ) → AreRead lines t at_header bytes place left → Known t place
  read_known zero bytes place left read = subst (Known t) (sym read.0) tt
  read_known (suc lines) bytes place left read = stays_known read.last place read.step.text read.step.leads (read_known lines bytes read.last read.rest read.read)

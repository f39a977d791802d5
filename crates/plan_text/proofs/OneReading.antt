-- A text is read in one way.
use Rattle.std.proofs.Common.{◌≡◌, ℕ, zero, suc, ◌+◌, ◌<◌, ◌≤◌, ◌^◌, List, [], ◌∷◌, ◌++◌, length, get_or, codes, refl, sym, ap, ◌∙◌, subst, arith, inl, inr}
use Rattle.std.proofs.lemmas.Bool.{cases_order, cases_lt}
use Rattle.std.proofs.lemmas.List.{length-append}
use Rattle.std.proofs.lemmas.Option.{same_Some}
use Rattle.platform_file.specs.Ticks.{TimedView, IsTimed}
use Rattle.schedule_model.specs.declared.schedule.Series.{Series}
use Rattle.schedule_model.specs.declared.schedule.Series.TheVariants.{Tasking, Scatter}
use Rattle.flow_routes.specs.declared.flow.Route.{Route}
use Rattle.period_table.specs.declared.table.Slot.{Slot}
use Rattle.period_table.specs.Lanes.{lanes_of}
use Rattle.text_lines.specs.Lines.{first_line}
use Rattle.plan_text.specs.Texts.{header_text}
use Rattle.plan_text.specs.Reading.{IsHeaderLine, HeadView, Place, LeadsTo, IsStep, IsStuck, AreRead, IsOver}
use Rattle.plan_text.specs.Reading.Place.{at_header, at_unit, at_period, at_tasks, at_depth, at_rate, at_row, behind_end}
use Rattle.plan_text.proofs.LineReads.{number_unique, rate_unique}
use Rattle.plan_text.proofs.RowReads.{route_unique, slot_unique}
use Rattle.plan_text.proofs.Places.{lines_within}

-- a route's line begins with an r, a slot's with an s and the end's with an e
abbrev first_byte : List ℕ → ℕ
first_byte [] = 0
first_byte (b ∷ bytes) = b

route_no_slot : {x y : List ℕ} → codes "route " ++ x ≡ codes "slot " ++ y → ⊥
route_no_slot e = let bad : 114 ≡ 115 = ap first_byte e in omega (arith, bad)

route_no_end : {x : List ℕ} → codes "route " ++ x ≡ codes "end" → ⊥
route_no_end e = let bad : 114 ≡ 101 = ap first_byte e in omega (arith, bad)

slot_no_end : {x : List ℕ} → codes "slot " ++ x ≡ codes "end" → ⊥
slot_no_end e = let bad : 115 ≡ 101 = ap first_byte e in omega (arith, bad)

no_tasking : header_text Tasking ≡ header_text Scatter → ⊥
no_tasking e = let bad : 116 ≡ 115 = ap (λ bytes. get_or bytes 7 0) e in omega (arith, bad)

header_unique : (t : TimedView) (text : List ℕ) (first second : Series) → IsHeaderLine t text first → IsHeaderLine t text second → first ≡ second
header_unique t text Tasking Tasking is other = refl
header_unique t text Scatter Scatter is other = refl
header_unique t text Tasking Scatter is other = absurd (no_tasking (sym is ∙ other.0))
header_unique t text Scatter Tasking is other = absurd (no_tasking (sym other ∙ is.0))

-- so few routes that their numbers are printed whole
abbrev IsSmall : Place → Type 0
IsSmall (at_row head routes slots) = length routes < 10 ^ 64
IsSmall place = Unit {0}

module _ (t : TimedView) (timed : IsTimed t) where
  leads_unique : (place next other : Place) (text : List ℕ) → IsSmall place → LeadsTo t place text next → LeadsTo t place text other → next ≡ other
  leads_unique at_header next other text small first second = first.2 ∙ ap at_unit (header_unique t text first.0 second.0 first.1 second.1) ∙ sym second.2
  leads_unique (at_unit series) next other text small first second = first.2 ∙ sym second.2
  leads_unique (at_period series) next other text small first second =
      first.2 ∙ ap (at_tasks series) (number_unique (codes "period ") text first.0 second.0 first.1 second.1) ∙ sym second.2
  leads_unique (at_tasks series period) next other text small first second =
      first.2 ∙ ap (at_depth series period) (number_unique (codes "tasks ") text first.0 second.0 first.1 second.1) ∙ sym second.2
  leads_unique (at_depth series period tasks) next other text small first second =
      first.2 ∙ ap (at_rate series period tasks) (number_unique (codes "depth ") text first.0 second.0 first.1 second.1) ∙ sym second.2
  leads_unique (at_rate series period tasks depth) next other text small first second =
      first.2 ∙ ap (λ rate. at_row (record { series = series; period = period; tasks = tasks; depth = depth; rate = rate }) [] []) (rate_unique text first.0 second.0 first.1 second.1) ∙ sym second.2
  leads_unique (at_row head routes slots) next other text small (inl w) (inl v) =
      w.1.2 ∙ ap (λ route. at_row head (routes ++ route ∷ []) []) (route_unique t timed head.series (length routes) small text w.1.0 v.1.0 w.1.1 v.1.1) ∙ sym v.1.2
  leads_unique (at_row head routes slots) next other text small (inl w) (inr (inl v)) = absurd (route_no_slot (sym w.1.1.is_line ∙ v.1.1.is_line))
  leads_unique (at_row head routes slots) next other text small (inl w) (inr (inr v)) = absurd (route_no_end (sym w.1.1.is_line ∙ v.1))
  leads_unique (at_row head routes slots) next other text small (inr (inl w)) (inl v) = absurd (route_no_slot (sym v.1.1.is_line ∙ w.1.1.is_line))
  leads_unique (at_row head routes slots) next other text small (inr (inl w)) (inr (inl v)) =
      w.1.2 ∙ ap (λ slot. at_row head routes (slots ++ slot ∷ [])) (slot_unique (lanes_of routes) text w.1.0 v.1.0 w.1.1 v.1.1) ∙ sym v.1.2
  leads_unique (at_row head routes slots) next other text small (inr (inl w)) (inr (inr v)) = absurd (slot_no_end (sym w.1.1.is_line ∙ v.1))
  leads_unique (at_row head routes slots) next other text small (inr (inr w)) (inl v) = absurd (route_no_end (sym v.1.1.is_line ∙ w.1))
  leads_unique (at_row head routes slots) next other text small (inr (inr w)) (inr (inl v)) = absurd (slot_no_end (sym v.1.1.is_line ∙ w.1))
  leads_unique (at_row head routes slots) next other text small (inr (inr w)) (inr (inr v)) = w.2 ∙ sym v.2
  leads_unique (behind_end head routes slots) next other text small first second = absurd first

  -- no more routes were read than lines
  abbrev HasFew : Place → ℕ → Type 0
  HasFew (at_row head routes slots) lines = length routes ≤ lines
  HasFew place lines = Unit {0}

  row_counted : (place next : Place) (text : List ℕ) (lines : ℕ) → LeadsTo t place text next → HasFew place lines → HasFew next (suc lines)
  row_counted at_header next text lines leads few = subst (λ p. HasFew p (suc lines)) (sym leads.2) tt
  row_counted (at_unit series) next text lines leads few = subst (λ p. HasFew p (suc lines)) (sym leads.2) tt
  row_counted (at_period series) next text lines leads few = subst (λ p. HasFew p (suc lines)) (sym leads.2) tt
  row_counted (at_tasks series period) next text lines leads few = subst (λ p. HasFew p (suc lines)) (sym leads.2) tt
  row_counted (at_depth series period tasks) next text lines leads few = subst (λ p. HasFew p (suc lines)) (sym leads.2) tt
  row_counted (at_rate series period tasks depth) next text lines leads few = subst (λ p. HasFew p (suc lines)) (sym leads.2) (omega arith)
  row_counted (at_row head routes slots) next text lines (inl w) few =
      subst (λ p. HasFew p (suc lines)) (sym w.1.2) (let size : length (routes ++ w.1.0 ∷ []) ≡ length routes + 1 = length-append routes (w.1.0 ∷ []) in omega (arith, size, few))
  row_counted (at_row head routes slots) next text lines (inr (inl w)) few = subst (λ p. HasFew p (suc lines)) (sym w.1.2) (omega (arith, few))
  row_counted (at_row head routes slots) next text lines (inr (inr w)) few = subst (λ p. HasFew p (suc lines)) (sym w.2) tt
  row_counted (behind_end head routes slots) next text lines leads few = absurd leads

  rows_counted : (lines : ℕ) (bytes : List ℕ) (place : Place) (left : List ℕ) → AreRead lines t at_header bytes place left → HasFew place lines
  rows_counted zero bytes place left read = subst (λ p. HasFew p 0) (sym read.0) tt
  rows_counted (suc lines) bytes place left read = row_counted read.last place read.step.text lines read.step.leads (rows_counted lines bytes read.last read.rest read.read)

  read_small : (lines : ℕ) (bytes : List ℕ) (place : Place) (left : List ℕ) → length bytes < 10 ^ 64 → AreRead lines t at_header bytes place left → IsSmall place
  read_small lines bytes place left short read = of place (rows_counted lines bytes place left read) (within lines read)
    where
      within : (lines : ℕ) → AreRead lines t at_header bytes place left → lines ≤ length bytes
      within zero read = omega arith
      within (suc lines) read = omega (arith, lines_within t lines bytes place left read)

      of : (place : Place) → HasFew place lines → lines ≤ length bytes → IsSmall place
      of at_header few all = tt
      of (at_unit series) few all = tt
      of (at_period series) few all = tt
      of (at_tasks series period) few all = tt
      of (at_depth series period tasks) few all = tt
      of (at_rate series period tasks depth) few all = tt
      of (at_row head routes slots) few all = omega (arith, few, all, short)
      of (behind_end head routes slots) few all = tt

  -- so many lines lead to one place
  pub read_unique : (lines : ℕ) (bytes : List ℕ) (place other : Place) (left rest : List ℕ) → length bytes < 10 ^ 64 → AreRead lines t at_header bytes place left → AreRead lines t at_header bytes other rest →
      (place ≡ other) × (left ≡ rest)
  read_unique zero bytes place other left rest short first second = (first.0 ∙ sym second.0, first.1 ∙ sym second.1)
  read_unique (suc lines) bytes place other left rest short first second =
      let same = read_unique lines bytes first.last second.last first.rest second.rest short first.read second.read in
      let both : (first.step.text, left) ≡ (second.step.text, rest) = same_Some _ _ (sym first.step.split ∙ ap first_line same.1 ∙ second.step.split) in
      let leads : LeadsTo t first.last first.step.text other =
      subst (λ p. LeadsTo t p first.step.text other) (sym same.0) (subst (λ text. LeadsTo t second.last text other) (sym (ap (λ (p : List ℕ × List ℕ). p.0) both)) second.step.leads) in (
        leads_unique first.last place other first.step.text (read_small lines bytes first.last first.rest short first.read) first.step.leads leads,
        ap (λ (p : List ℕ × List ℕ). p.1) both,
      )

  -- what comes before a later place leads on
  pub record LeadsOn (lines : ℕ) (bytes : List ℕ) : Type 0 where
    pub place : Place
    pub left : List ℕ
    pub read : AreRead lines t at_header bytes place left
    pub next : Place
    pub rest : List ℕ
    pub step : IsStep t place left next rest

  pub leads_on : (fewer lines : ℕ) (bytes : List ℕ) (place : Place) (left : List ℕ) → fewer < lines → AreRead lines t at_header bytes place left → LeadsOn fewer bytes
  leads_on fewer zero bytes place left below read = absurd (omega (arith, below))
  leads_on fewer (suc lines) bytes place left below read =
      elim (cases_lt fewer lines) [
        | inl before ↦ leads_on fewer lines bytes read.last read.rest before read.read
        | inr last ↦
            let same : lines ≡ fewer = omega (arith, below, last) in
            subst (λ n. LeadsOn n bytes) same (record { place = read.last; left = read.rest; read = read.read; next = place; rest = left; step = read.step })
      ]

  -- nothing is read that comes behind the end
  none_behind : (place next : Place) (left rest : List ℕ) (head : HeadView) (routes : List Route) (slots : List Slot) → place ≡ behind_end head routes slots → IsStep t place left next rest → ⊥
  none_behind place next left rest head routes slots e step = subst (λ p. LeadsTo t p step.text next) e step.leads

  -- two readings up to the end are one
  pub same_end : (m n : ℕ) (bytes : List ℕ) (head other : HeadView) (routes others : List Route) (slots rows : List Slot) (left rest : List ℕ) → length bytes < 10 ^ 64 →
      AreRead m t at_header bytes (behind_end head routes slots) left → AreRead n t at_header bytes (behind_end other others rows) rest → behind_end head routes slots ≡ behind_end other others rows
  same_end m n bytes head other routes others slots rows left rest short first second =
      elim (cases_order m n) [
        | inl same ↦ (read_unique n bytes (behind_end head routes slots) (behind_end other others rows) left rest short (subst (λ k. AreRead k t at_header bytes (behind_end head routes slots) left) same first) second).0
        | inr (inl below) ↦
            let on = leads_on m n bytes (behind_end other others rows) rest below second in
            absurd (none_behind on.place on.next on.left on.rest head routes slots (read_unique m bytes on.place (behind_end head routes slots) on.left left short on.read first).0 on.step)
        | inr (inr above) ↦
            let on = leads_on n m bytes (behind_end head routes slots) left above first in
            absurd (none_behind on.place on.next on.left on.rest other others rows (read_unique n bytes on.place (behind_end other others rows) on.left rest short on.read second).0 on.step)
      ]

  -- where a text is read to its end, reading stops nowhere before
  pub not_stuck : (n : ℕ) (bytes : List ℕ) (head : HeadView) (routes : List Route) (slots : List Slot) → length bytes < 10 ^ 64 → AreRead n t at_header bytes (behind_end head routes slots) [] →
      (lines : ℕ) (place : Place) (left : List ℕ) → AreRead lines t at_header bytes place left → IsStuck t place left → (IsOver place left → ⊥) → ⊥
  not_stuck n bytes head routes slots short through lines place left read stuck not_over =
      elim (cases_order lines n) [
        | inl same ↦
            let at_end = read_unique n bytes place (behind_end head routes slots) left [] short (subst (λ k. AreRead k t at_header bytes place left) same read) through in
            not_over (subst (λ p. IsOver p left) (sym at_end.0) at_end.1)
        | inr (inl below) ↦
            let on = leads_on lines n bytes (behind_end head routes slots) [] below through in
            let here = read_unique lines bytes place on.place left on.left short read on.read in
            stuck on.next on.rest (subst (λ p. IsStep t p left on.next on.rest) (sym here.0) (subst (λ bs. IsStep t on.place bs on.next on.rest) (sym here.1) on.step))
        | inr (inr above) ↦
            let on = leads_on n lines bytes place left above read in
            none_behind on.place on.next on.left on.rest head routes slots (read_unique n bytes on.place (behind_end head routes slots) on.left [] short on.read through).0 on.step
      ]

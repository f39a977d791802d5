-- What Bland's rule chooses, and the run step by step.
use Rattle.std.proofs.Common.{◌≡◌, ◌≢◌, ℕ, zero, suc, ◌+◌, ◌*◌, ◌<◌, ◌≤◌, ℤ, pos, negsuc, nat_abs, ◌*ℤ◌, ◌≤ℤ◌, ◌<ℤ◌, Bool, true, false, cond, nat_lt, Option, Some, None, arith, refl, ◌∙◌, ap, inl, inr, ◌⊎◌, IsSome}
use Rattle.std.proofs.Math.Nat.{mul-le-mul_right, le_of_mul-le-mul_right}
use Rattle.std.specs.Ordering.{nat_cmp}
use Rattle.std.proofs.lemmas.Int.{ints}
use Rattle.std.proofs.lemmas.Bool.{cases_eq, cases_order, lt-ltb, le-ltb, eq-eqb, ne_eqb, ltb-true, ltb-false}
use Rattle.linear_program.proofs.Searches.{first_passes, none_passes}
use Rattle.exact_simplex.proofs.Points.{size_of, no_ray}
use Rattle.linear_program.proofs.Canonical.{canonical_kept, derived_kept}
use Rattle.linear_program.proofs.Pivots.{pivoted_is}
use Rattle.linear_program.specs.Tableaux.{TableauView, objective_column, side_column, IsCanonical, IsDerived, HasLeastRatio}
use Rattle.linear_program.specs.Pivots.{Pivoted, pivoted}
use Rattle.exact_simplex.specs.Optima.{HasEnded}
use Rattle.linear_program.specs.Programmes.{LpView, IsLp}
use Rattle.linear_program.specs.Duality.{IsBounded}
use Rattle.linear_program.specs.Starts.{start_tableau}
use Rattle.exact_simplex.specs.Bland.{is_negative, positive_part, entering_column, before_by, leaves_before, first_to_leave, leaving_below, leaving_row, step_by_pivot, step_by_row, step_by_column, Run, spent_unless_ended, run_on, run_from, bland_run, IsLeaving, IsEntering}
use Rattle.exact_simplex.specs.Answers.{tableau_after}
use Rattle.linear_program.proofs.Starts.{start_canonical, start_derived}

negative_is : (z : ℤ) → is_negative z ≡ true → z <ℤ pos 0
negative_is (pos n) h = cc
negative_is (negsuc n) h = omega (arith, ints)

not_negative_is : (z : ℤ) → is_negative z ≡ false → pos 0 ≤ℤ z
not_negative_is (pos n) h = omega (arith, ints)
not_negative_is (negsuc n) h = cc

pub entering_is : (t : TableauView) (column : ℕ) → entering_column t ≡ Some column → IsEntering t column
entering_is t column h =
    let found = first_passes (objective_column t) (λ j. is_negative (t.cell t.constraints j)) column h in
    record {
      within = found.0;
      negative = negative_is _ found.1;
      first = λ j l. not_negative_is _ (found.2 j l);
    }

pub ended_is : (t : TableauView) → entering_column t ≡ None → HasEnded t
ended_is t h j l = not_negative_is _ (none_passes (objective_column t) (λ j. is_negative (t.cell t.constraints j)) h j l)

-- the least of fractions p / q with q above 0, and of the least b among equals
record IsBest (p q b : ℕ → ℕ) (n r : ℕ) : Type 0 where
  within : r < n
  positive : 0 < q r
  least : (i : ℕ) → i < n → 0 < q i → p r * q i ≤ p i * q r
  first : (i : ℕ) → i < n → 0 < q i → p r * q i ≡ p i * q r → b r ≤ b i

through : (pi qi pk qk ph qh : ℕ) → 0 < qk → pi * qk ≤ pk * qi → pk * qh ≤ ph * qk → pi * qh ≤ ph * qi
through pi qi pk qk ph qh some first second =
    let one : pi * qk * qh ≤ pk * qi * qh = mul-le-mul_right qh first in
    let other : pk * qh * qi ≤ ph * qk * qi = mul-le-mul_right qi second in
    le_of_mul-le-mul_right (let l : pi * qh * qk ≤ ph * qi * qk = omega arith in l) some

tied : (pi qi pk qk ph qh : ℕ) → 0 < qh → 0 < qi → pi * qk ≤ pk * qi → pk * qh ≤ ph * qk → pi * qh ≡ ph * qi → (pk * qi ≤ pi * qk) × (ph * qk ≤ pk * qh)
tied pi qi pk qk ph qh some_h some_i first second same =
    let scaled : pi * qh * qk ≡ ph * qi * qk = ap (λ x. x * qk) same in
    let one : pi * qk * qh ≤ pk * qi * qh = mul-le-mul_right qh first in
    let other : pk * qh * qi ≤ ph * qk * qi = mul-le-mul_right qi second in (
      le_of_mul-le-mul_right (let l : pk * qi * qh ≤ pi * qk * qh = omega arith in l) some_h,
      le_of_mul-le-mul_right (let l : ph * qk * qi ≤ pk * qh * qi = omega arith in l) some_i,
    )

before_true : (x y : ℕ) (tie : Bool) → before_by (nat_cmp x y) tie ≡ true → (x < y) ⊎ ((x ≡ y) × (tie ≡ true))
before_true x y tie h =
    elim (cases_order x y) [
      | inl e ↦ inr (e, rw (le-ltb x y (omega arith), eq-eqb x y e) at h)
      | inr (inl l) ↦ inl l
      | inr (inr g) ↦ let bad : false ≡ true = rw (le-ltb x y (omega arith), ne_eqb x y (λ e. absurd (omega arith))) at h in cc
    ]

before_false : (x y : ℕ) (tie : Bool) → before_by (nat_cmp x y) tie ≡ false → (y < x) ⊎ ((x ≡ y) × (tie ≡ false))
before_false x y tie h =
    elim (cases_order x y) [
      | inl e ↦ inr (e, rw (le-ltb x y (omega arith), eq-eqb x y e) at h)
      | inr (inl l) ↦ let bad : true ≡ false = rw (lt-ltb x y l) at h in cc
      | inr (inr g) ↦ inl g
    ]

-- the next row takes over
taken_over : (p q b : ℕ → ℕ) (i k : ℕ) → IsBest p q b i k → 0 < q i → (p i * q k < p k * q i) ⊎ ((p i * q k ≡ p k * q i) × (b i < b k)) → IsBest p q b (suc i) i
taken_over p q b i k best some before =
    let some_k : 0 < q k = best.positive in
    let at_most : p i * q k ≤ p k * q i = elim before [ inl l ↦ omega arith | inr e ↦ let f = e.0 in omega arith ] in
    record {
      within = omega arith;
      positive = some;
      least = λ h l some_h.
          elim (cases_eq h i) [
            | inl same ↦ rw same (omega arith)
            | inr other ↦ through (p i) (q i) (p k) (q k) (p h) (q h) some_k at_most (best.least h (omega arith) some_h)
          ];
      first = λ h l some_h same.
          elim (cases_eq h i) [
            | inl e ↦ rw e (omega arith)
            | inr other ↦
                let h_before : h < i = omega arith in
                let k_least : p k * q h ≤ p h * q k = best.least h h_before some_h in
                let ties = tied (p i) (q i) (p k) (q k) (p h) (q h) some_h some at_most k_least same in
                let back : p k * q i ≤ p i * q k = ties.0 in
                let equal_h : p k * q h ≡ p h * q k = let m : p h * q k ≤ p k * q h = ties.1 in omega arith in
                let k_first : b k ≤ b h = best.first h h_before some_h equal_h in
                elim before [ inl less ↦ absurd (omega arith) | inr e ↦ let g : b i < b k = e.1 in omega arith ]
          ];
    }

-- the next row does not
stayed_on : (p q b : ℕ → ℕ) (i k : ℕ) → IsBest p q b i k → 0 < q i → (p k * q i < p i * q k) ⊎ ((p i * q k ≡ p k * q i) × (b k ≤ b i)) → IsBest p q b (suc i) k
stayed_on p q b i k best some after =
    let k_within : k < i = best.within in
    record {
      within = omega arith;
      positive = best.positive;
      least = λ h l some_h.
          elim (cases_eq h i) [
            | inl same ↦ rw same (elim after [ inl less ↦ omega arith | inr e ↦ let f = e.0 in omega arith ])
            | inr other ↦ best.least h (omega arith) some_h
          ];
      first = λ h l some_h same.
          elim (cases_eq h i) [
            | inl e ↦ rw e (elim after [ inl less ↦ absurd (let s : p k * q i ≡ p i * q k = rw e at same in omega arith) | inr f ↦ f.1 ])
            | inr other ↦ best.first h (omega arith) some_h same
          ];
    }

skipped : (p q b : ℕ → ℕ) (i k : ℕ) → IsBest p q b i k → q i ≡ 0 → IsBest p q b (suc i) k
skipped p q b i k best none =
    let k_within : k < i = best.within in
    record {
      within = omega arith;
      positive = best.positive;
      least = λ h l some_h.
          elim (cases_eq h i) [
            | inl same ↦ absurd (let s : 0 < q i = rw same at some_h in omega arith)
            | inr other ↦ best.least h (omega arith) some_h
          ];
      first = λ h l some_h same.
          elim (cases_eq h i) [
            | inl e ↦ absurd (let s : 0 < q i = rw e at some_h in omega arith)
            | inr other ↦ best.first h (omega arith) some_h same
          ];
    }

alone_is_best : (p q b : ℕ → ℕ) (i : ℕ) → ((h : ℕ) → h < i → q h ≡ 0) → 0 < q i → IsBest p q b (suc i) i
alone_is_best p q b i none some = record {
  within = omega arith;
  positive = some;
  least = λ h l some_h.
      elim (cases_eq h i) [
        | inl same ↦ rw same (omega arith)
        | inr other ↦ absurd (let z = none h (omega arith) in omega arith)
      ];
  first = λ h l some_h same.
      elim (cases_eq h i) [
        | inl e ↦ rw e (omega arith)
        | inr other ↦ absurd (let z = none h (omega arith) in omega arith)
      ];
}

-- the sides and the cells of a column as numbers from 0 on
abbrev side_size : TableauView → ℕ → ℕ
side_size t i = nat_abs (t.cell i (side_column t))

abbrev cell_size : TableauView → ℕ → ℕ → ℕ
cell_size t column i = positive_part (t.cell i column)

some_leaves : (t : TableauView) (column n : ℕ) (o : Option ℕ) → first_to_leave t column n o ≡ None → ⊥
some_leaves t column n None h = cc
some_leaves t column n (Some k) h = elim (leaves_before t column n k) as (λ c. cond c (Some n) (Some k) ≡ None → ⊥) [ true ↦ λ h. cc | false ↦ λ h. cc ] h

none_leaves_more : (t : TableauView) (column n i : ℕ) (o : Option ℕ) (b : Bool) → nat_lt 0 (cell_size t column n) ≡ b → cond b (first_to_leave t column n o) o ≡ None → i < suc n →
    (o ≡ None → i < n → cell_size t column i ≡ 0) → cell_size t column i ≡ 0
none_leaves_more t column n i o true f h l before = absurd (some_leaves t column n o h)
none_leaves_more t column n i o false f h l before =
    elim (cases_eq i n) [
      | inl same ↦ rw same (omega (arith, ltb-false _ _ f))
      | inr other ↦ before h (omega arith)
    ]

none_leaves : (t : TableauView) (column n : ℕ) → leaving_below t column n ≡ None → (i : ℕ) → i < n → cell_size t column i ≡ 0
none_leaves t column zero h i l = absurd (omega arith)
none_leaves t column (suc n) h i l =
    none_leaves_more t column n i (leaving_below t column n) (nat_lt 0 (cell_size t column n)) refl h l (λ e m. none_leaves t column n e i m)

abbrev LeavesBest : TableauView → ℕ → ℕ → ℕ → Type 0
LeavesBest t column n r = IsBest (side_size t) (cell_size t column) t.basic n r

leaving_is_more : (t : TableauView) (column n r : ℕ) (o : Option ℕ) (b : Bool) → nat_lt 0 (cell_size t column n) ≡ b → cond b (first_to_leave t column n o) o ≡ Some r →
    ((k : ℕ) → o ≡ Some k → LeavesBest t column n k) → (o ≡ None → (i : ℕ) → i < n → cell_size t column i ≡ 0) → LeavesBest t column (suc n) r
leaving_is_more t column n r None true f h before none =
    let same : n ≡ r = cc in
    rw (← same) (alone_is_best (side_size t) (cell_size t column) t.basic n (none refl) (ltb-true _ _ f))
leaving_is_more t column n r (Some k) true f h before none =
    let best = before k refl in
    elim (leaves_before t column n k) as (λ c. leaves_before t column n k ≡ c → cond c (Some n) (Some k) ≡ Some r → LeavesBest t column (suc n) r) [
      | true ↦ λ g h.
          let same : n ≡ r = cc in
          rw (← same)
          (taken_over (side_size t) (cell_size t column) t.basic n k best (ltb-true _ _ f)
          (elim (before_true _ _ _ g) [ inl l ↦ inl l | inr d ↦ inr (d.0, ltb-true _ _ d.1) ]))
      | false ↦ λ g h.
          let same : k ≡ r = cc in
          rw (← same)
          (stayed_on (side_size t) (cell_size t column) t.basic n k best (ltb-true _ _ f)
          (elim (before_false _ _ _ g) [ inl l ↦ inl l | inr d ↦ inr (d.0, ltb-false _ _ d.1) ]))
    ] refl h
leaving_is_more t column n r None false f h before none = cc
leaving_is_more t column n r (Some k) false f h before none =
    let same : k ≡ r = cc in
    rw (← same) (skipped (side_size t) (cell_size t column) t.basic n k (before k refl) (omega (arith, ltb-false _ _ f)))

leaving_is_best : (t : TableauView) (column n r : ℕ) → leaving_below t column n ≡ Some r → LeavesBest t column n r
leaving_is_best t column zero r h = cc
leaving_is_best t column (suc n) r h =
    leaving_is_more t column n r (leaving_below t column n) (nat_lt 0 (cell_size t column n)) refl h (λ k e. leaving_is_best t column n k e) (λ e. none_leaves t column n e)

positive_size : (z : ℤ) → 0 < positive_part z → (pos 0 <ℤ z) × (pos (positive_part z) ≡ z)
positive_size (pos n) h = (omega (arith, ints), refl)
positive_size (negsuc n) h = absurd (omega arith)

positive_part_is : (z : ℤ) → pos 0 <ℤ z → (0 < positive_part z) × (pos (positive_part z) ≡ z)
positive_part_is (pos n) h = (omega (arith, ints), refl)
positive_part_is (negsuc n) h = absurd (omega (arith, ints))

no_positive_part : (z : ℤ) → positive_part z ≡ 0 → z ≤ℤ pos 0
no_positive_part (pos n) h = omega (arith, ints)
no_positive_part (negsuc n) h = omega (arith, ints)

pub leaving_is : (t : TableauView) (column row : ℕ) → IsCanonical t → leaving_row t column ≡ Some row → IsLeaving t column row
leaving_is t column row canonical h =
    let best = leaving_is_best t column t.constraints row h in
    let own = positive_size (t.cell row column) best.positive in
    let own_side : pos (side_size t row) ≡ t.cell row (side_column t) = size_of _ (canonical.sides row best.within) in
    let products : (i : ℕ) → i < t.constraints → pos 0 <ℤ t.cell i column →
    (pos (side_size t row * cell_size t column i) ≡ t.cell row (side_column t) *ℤ t.cell i column) × (pos (side_size t i * cell_size t column row) ≡ t.cell i (side_column t) *ℤ t.cell row column) =
    λ i l positive.
    let part = positive_part_is (t.cell i column) positive in
    let side : pos (side_size t i) ≡ t.cell i (side_column t) = size_of _ (canonical.sides i l) in (
      ap (λ z. z *ℤ pos (cell_size t column i)) own_side ∙ ap (λ z. t.cell row (side_column t) *ℤ z) part.1,
      ap (λ z. z *ℤ pos (cell_size t column row)) side ∙ ap (λ z. t.cell i (side_column t) *ℤ z) own.1,
    ) in
    record {
      within = best.within;
      positive = own.0;
      least = λ i l positive.
          let both = products i l positive in
          let least = best.least i l (positive_part_is (t.cell i column) positive).0 in
          omega (arith, ints, both.0, both.1, least);
      first = λ i l positive same.
          let both = products i l positive in
          best.first i l (positive_part_is (t.cell i column) positive).0 (omega (arith, ints, both.0, both.1, same));
    }

pub least_ratio : (t : TableauView) (column row : ℕ) → IsLeaving t column row → HasLeastRatio t column row
least_ratio t column row leaves = record { within = leaves.within; positive = leaves.positive; least = leaves.least }

-- in a bounded programme an entering column has a leaving row
pub some_row_leaves : (p : LpView) (t : TableauView) (column : ℕ) → IsBounded p → IsCanonical t → IsDerived (start_tableau p) t → IsEntering t column → leaving_row t column ≡ None → ⊥
some_row_leaves p t column bounded canonical derived enters h =
    no_ray p t column bounded canonical derived enters.within enters.negative (λ i l. no_positive_part _ (none_leaves t column t.constraints h i l))

-- the run, step by step
pub run_ended : (left made : ℕ) (t : TableauView) → entering_column t ≡ None → run_from left made t ≡ Run.ended t
unfolding run_from
run_ended zero made t h = rw h refl
run_ended (suc left) made t h = rw h refl

pub run_spent : (made column : ℕ) (t : TableauView) → entering_column t ≡ Some column → run_from zero made t ≡ Run.spent t
unfolding run_from
run_spent made column t h = rw h refl

pub run_overflow : (left made column row i j : ℕ) (t : TableauView) → entering_column t ≡ Some column → leaving_row t column ≡ Some row → pivoted t row column ≡ Pivoted.overflow i j →
    run_from (suc left) made t ≡ Run.overflow made i j t
unfolding run_from
run_overflow left made column row i j t h k e = rw (h, k, e) refl

pub run_next : (left made column row : ℕ) (t u : TableauView) → entering_column t ≡ Some column → leaving_row t column ≡ Some row → pivoted t row column ≡ Pivoted.tableau u →
    run_from (suc left) made t ≡ run_from left (made + 1) u
unfolding run_from
run_next left made column row t u h k e = rw (h, k, e) refl

pub is_negative_when : (z : ℤ) → z <ℤ pos 0 → is_negative z ≡ true
is_negative_when (pos n) h = absurd (omega (arith, ints))
is_negative_when (negsuc n) h = refl

pub leaving_some : (p : LpView) (t : TableauView) (column : ℕ) → IsBounded p → IsCanonical t → IsDerived (start_tableau p) t → entering_column t ≡ Some column → IsSome (leaving_row t column)
leaving_some p t column bounded canonical derived h =
    elim (leaving_row t column) as (λ o. leaving_row t column ≡ o → IsSome o) [
      | Some row ↦ λ e. refl
      | None ↦ λ e. absurd (some_row_leaves p t column bounded canonical derived (entering_is t column h) e)
    ] refl

pub leaving_within : (t : TableauView) (column n row : ℕ) → leaving_below t column n ≡ Some row → (row < n) × (pos 0 <ℤ t.cell row column)
leaving_within t column n row h =
    let best = leaving_is_best t column n row h in
    (best.within, (positive_size (t.cell row column) best.positive).0)

-- a pivot of the run keeps what every tableau of a run keeps
pub step_kept : (p : LpView) (t u : TableauView) (column row : ℕ) → IsCanonical t → IsDerived (start_tableau p) t →
    entering_column t ≡ Some column → leaving_row t column ≡ Some row → pivoted t row column ≡ Pivoted.tableau u → IsCanonical u × IsDerived (start_tableau p) u
step_kept p t u column row canonical derived h k e =
    let enters = entering_is t column h in
    let leaves = leaving_is t column row canonical k in
    let l : row < t.constraints = leaves.within in
    let step = pivoted_is t u row column leaves.positive e in (
      canonical_kept t u row column canonical step enters.within (least_ratio t column row leaves),
      derived_kept (start_tableau p) t u row column derived step (omega arith),
    )

-- no run of a bounded programme comes to a column without a row
run_found : (p : LpView) (left made : ℕ) (t u : TableauView) → IsBounded p → IsCanonical t → IsDerived (start_tableau p) t → run_from left made t ≢ Run.unlimited u
unfolding run_from
run_found p zero made t u bounded canonical derived h =
    elim (entering_column t) as (λ o. spent_unless_ended t o ≡ Run.unlimited u → ⊥) [
      | Some column ↦ λ h. cc
      | None ↦ λ h. cc
    ] h
run_found p (suc left) made t u bounded canonical derived h =
    elim (entering_column t) as (λ o. entering_column t ≡ o → run_on t made (λ v. run_from left (made + 1) v) (step_by_column t o) ≡ Run.unlimited u → ⊥) [
      | None ↦ λ e h. cc
      | Some column ↦ λ e h.
          elim (leaving_row t column) as (λ o. leaving_row t column ≡ o → run_on t made (λ v. run_from left (made + 1) v) (step_by_row t column o) ≡ Run.unlimited u → ⊥) [
            | None ↦ λ k h. some_row_leaves p t column bounded canonical derived (entering_is t column e) k
            | Some row ↦ λ k h.
                elim (pivoted t row column) as (λ q. pivoted t row column ≡ q → run_on t made (λ v. run_from left (made + 1) v) (step_by_pivot q) ≡ Run.unlimited u → ⊥) [
                  | Pivoted.tableau v ↦ λ f h.
                      let kept = step_kept p t v column row canonical derived e k f in
                      run_found p left (made + 1) v u bounded kept.0 kept.1 h
                  | Pivoted.overflow i j ↦ λ f h. cc
                ] refl h
          ] refl h
    ] refl h

pub bounded_run : (p : LpView) → IsLp p → IsBounded p → (limit : ℕ) (t : TableauView) → bland_run limit (start_tableau p) ≢ Run.unlimited t
bounded_run p lp bounded limit t = run_found p limit 0 (start_tableau p) t bounded (start_canonical p lp) (start_derived p)

-- one step more
pub after_step : (n column row : ℕ) (s t u : TableauView) → tableau_after n s ≡ Some t → entering_column t ≡ Some column → leaving_row t column ≡ Some row → pivoted t row column ≡ Pivoted.tableau u → tableau_after (suc n) s ≡ Some u
after_step n column row s t u after enters leaves pivots = rw (after, enters, leaves, pivots) refl

-- The links that carry something are those that do so in some flow.
use Rattle.std.proofs.Common.{◌≡◌, ℕ, zero, suc, ◌*◌, ◌/◌, ◌<◌, ◌≤◌, Bool, true, false, not, ◌||◌, cond, nat_eq, List, [], ◌∷◌, ◌++◌, length, All, slice_index, refl, sym, ap, ◌∙◌, arith, inl, inr}
use Prim.Native.Nat.{◌∣◌}
use Rattle.std.specs.List.{list_any}
use Rattle.std.proofs.Math.Nat.{mul-div_cancel', one-dvd}
use Rattle.std.proofs.lemmas.Bool.Decides.{nat_tests}
use Rattle.std.proofs.lemmas.List.Elements.{All-head, All-tail}
use Rattle.ratio_core.specs.Fraction.{Fraction, whole}
use Rattle.platform_file.specs.Ticks.{TimedView}
use Rattle.schedule_model.specs.declared.schedule.Series.{Series}
use Rattle.schedule_model.specs.declared.schedule.Series.TheVariants.{Tasking, Scatter}
use Rattle.exact_simplex.specs.Optima.{first_terms}
use Rattle.flow_routes.specs.declared.flow.Flow.{Flow}
use Rattle.programme_rows.specs.Listings.{each_where}
use Rattle.programme_rows.specs.LookUps.{value_of}
use Rattle.tasking_program.specs.declared.columns.Column.TheVariants as task
use Rattle.tasking_program.specs.Columns.{columns_of as task_columns}
use Rattle.tasking_program.specs.Points.{same_column as same_task_column}
use Rattle.scatter_program.specs.declared.columns.Column.TheVariants as message
use Rattle.scatter_program.specs.Columns.{columns_of as message_columns}
use Rattle.scatter_program.specs.Points.{same_column as same_message_column}
use Rattle.series_flows.specs.Programmes.{kinds_of}
use Rattle.series_flows.specs.Flows.{tasks_in, flow_rate, flow_in, flow_of}
use Rattle.series_flows.specs.Amounts.{over_kinds}
use Rattle.series_flows.proofs.Terms.{true_or_false, term_there}
use Rattle.series_routes.specs.Numbers.{some_below, is_in_use, goes_over}

-- what holds of all values and of 0 holds of what is looked up
looked_up : {A : Type 0} (P : Fraction → Type 0) (is : A → Bool) (columns : List A) (values : List Fraction) → All P values → P (whole 0) → P (value_of is columns values)
looked_up P is [] values all none = none
looked_up P is (column ∷ columns) [] all none = none
looked_up P is (column ∷ columns) (value ∷ values) all none = either (is column) (All-head P value values all) (looked_up P is columns values (All-tail P value values all) none)
  where
    either : (b : Bool) → P value → P (value_of is columns values) → P (cond b value (value_of is columns values))
    either true here rest = here
    either false here rest = rest

-- a test of the items of a list and of its numbers
any_append : {A : Type 0} (test : A → Bool) (xs : List A) (x : A) → list_any test (xs ++ x ∷ []) ≡ (list_any test xs || test x)
any_append test [] x = last (test x)
  where
    last : (b : Bool) → (b || false) ≡ (false || b)
    last true = refl
    last false = refl
any_append test (y ∷ xs) x = ap (λ b. test y || b) (any_append test xs x) ∙ together (test y) (list_any test xs) (test x)
  where
    together : (a b c : Bool) → (a || (b || c)) ≡ ((a || b) || c)
    together true b c = refl
    together false b c = refl

any_term : {A : Type 0} (test : A → Bool) (f : ℕ → A) (n : ℕ) → list_any test (first_terms f n) ≡ some_below n (λ k. test (f k))
any_term test f zero = refl
any_term test f (suc n) = any_append test (first_terms f n) (f n) ∙ ap (λ b. b || test (f n)) (any_term test f n)

same_below : (n : ℕ) (p q : ℕ → Bool) → ((k : ℕ) → k < n → p k ≡ q k) → some_below n p ≡ some_below n q
same_below zero p q h = refl
same_below (suc n) p q h = rw (same_below n p q (λ k l. h k (omega arith)), h n (omega arith)) refl

pub same_each : {A : Type 0} (p q : ℕ → Bool) (f : ℕ → A) (n : ℕ) → ((k : ℕ) → k < n → p k ≡ q k) → each_where p f n ≡ each_where q f n
same_each p q f zero h = refl
same_each p q f (suc n) h = rw (same_each p q f n (λ k l. h k (omega arith)), h n (omega arith)) refl

-- in as many ticks as make a rate whole, its tasks are none only where it is 0
none_together : (ticks : ℕ) (value : Fraction) → 1 ≤ ticks → value.den ∣ ticks → nat_eq (tasks_in ticks value) 0 ≡ nat_eq value.num 0
none_together ticks value some divides =
    by_num value.num (ticks / value.den) (positive (ticks / value.den) (mul-div_cancel' value.den divides))
  where
    positive : (k : ℕ) → value.den * k ≡ ticks → 1 ≤ k
    positive zero e = absurd (omega (arith, e, some))
    positive (suc k) e = omega arith

    by_num : (n k : ℕ) → 1 ≤ k → nat_eq (n * k) 0 ≡ nat_eq n 0
    by_num zero k l = let none : 0 * k ≡ 0 = omega arith in rw none refl
    by_num (suc n) zero l = absurd (omega (arith, l))
    by_num (suc n) (suc k) l = let a : nat_eq (suc n * suc k) 0 ≡ false = grind (arith, nat_tests) in let b : nat_eq (suc n) 0 ≡ false = grind (arith, nat_tests) in a ∙ sym b

module _ (t : TimedView) (series : Series) (values : List Fraction) (ticks : ℕ) (some : 1 ≤ ticks) (whole_ones : All (λ (value : Fraction). value.den ∣ ticks) values) where
  -- a rate of the links is whole in the ticks
  rate_whole : (series : Series) (kind link : ℕ) → (flow_rate t series values kind link).den ∣ ticks
  rate_whole Tasking kind link = looked_up (λ (value : Fraction). value.den ∣ ticks) (same_task_column (task.Flows link)) (task_columns t) values whole_ones (one-dvd ticks)
  rate_whole Scatter kind link = looked_up (λ (value : Fraction). value.den ∣ ticks) (same_message_column (message.Flows link kind)) (message_columns t) values whole_ones (one-dvd ticks)

  abbrev flows : List Flow
  flows = first_terms (flow_of t series values ticks) (kinds_of t series)

  pub same_use : (link : ℕ) → link < length t.platform.links → goes_over flows link ≡ is_in_use t series values link
  same_use link l =
      any_term (λ flow. not (nat_eq (slice_index flow.amounts link) 0)) (flow_of t series values ticks) (kinds_of t series)
      ∙ same_below (kinds_of t series) _ _
      (λ kind below. ap (λ n. not (nat_eq n 0)) (term_there (flow_in t series values ticks kind) 0 (length t.platform.links) link l) ∙ ap not (none_together ticks (flow_rate t series values kind link) some (rate_whole series kind link)))

  -- what a link carries, it carries of some kind
  pub in_use : (link : ℕ) → 1 ≤ over_kinds (kinds_of t series) (flow_in t series values ticks) link → is_in_use t series values link ≡ true
  in_use link carries = among (kinds_of t series) carries
    where
      among : (n : ℕ) → 1 ≤ over_kinds n (flow_in t series values ticks) link → some_below n (λ kind. not (nat_eq (flow_rate t series values kind link).num 0)) ≡ true
      among zero more = absurd (omega (arith, more))
      among (suc n) more =
          elim (true_or_false (nat_eq (flow_rate t series values n link).num 0)) [
            | inl none ↦
                let nothing : nat_eq (flow_in t series values ticks n link) 0 ≡ true = none_together ticks (flow_rate t series values n link) some (rate_whole series n link) ∙ none in
                let zero_here : flow_in t series values ticks n link ≡ 0 = grind (arith, nat_tests) in
                let before = among n (omega (arith, more, zero_here)) in
                rw before refl
            | inr some_here ↦ rw some_here (last (some_below n (λ kind. not (nat_eq (flow_rate t series values kind link).num 0))))
          ]
        where
          last : (b : Bool) → (b || true) ≡ true
          last true = refl
          last false = refl

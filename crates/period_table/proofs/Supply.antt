-- What is sent or computed in a period has come by the end of the period before.
use Rattle.std.proofs.Common.{◌≡◌, ℕ, zero, suc, ◌+◌, ◌*◌, ◌<◌, ◌≤◌, Bool, true, false, ◌&&◌, cond, nat_le, refl, ◌∙◌, ap, arith, inl, inr, All, count_by}
use Rattle.std.proofs.lemmas.Bool.Decides.{nat_tests}
use Rattle.std.proofs.lemmas.Bool.{cases_lt}
use Rattle.std.proofs.lemmas.List.Sums.{sum_by-append, sum_by-le-sum_by}
use Rattle.std.proofs.Math.Nat.{mul-le-mul_right}
use Rattle.platform_file.specs.Ticks.{TimedView}
use Rattle.schedule_model.specs.declared.schedule.Op.{Op}
use Rattle.schedule_model.specs.declared.schedule.Series.{Series}
use Rattle.schedule_model.specs.Operations.{start_of, end_of, has_started, has_ended}
use Rattle.period_table.specs.declared.table.Table.{Table}
use Rattle.period_table.specs.TableSchedules.{Placed, period_ops, ops_below}
use Rattle.period_table.proofs.Chains.{count_none, count_same}

-- a sum over the first periods
abbrev pub sum_below : ℕ → (ℕ → ℕ) → ℕ
sum_below zero f = 0
sum_below (suc n) f = sum_below n f + f n

sum_below_le : (n : ℕ) (f g : ℕ → ℕ) → ((p : ℕ) → f p ≤ g p) → sum_below n f ≤ sum_below n g
sum_below_le zero f g h = omega arith
sum_below_le (suc n) f g h = let a = sum_below_le n f g h in let b = h n in omega (arith, a, b)

sum_below_same : (n : ℕ) (f g : ℕ → ℕ) → ((p : ℕ) → p < n → f p ≡ g p) → sum_below n f ≡ sum_below n g
sum_below_same zero f g h = refl
sum_below_same (suc n) f g h = rw (sum_below_same n f g (λ p l. h p (omega arith)), h n (omega arith)) refl

pub sum_below_plus : (n : ℕ) (f g : ℕ → ℕ) → sum_below n f + sum_below n g ≡ sum_below n (λ p. f p + g p)
sum_below_plus zero f g = refl
sum_below_plus (suc n) f g = four _ _ _ _ _ (sum_below_plus n f g)
  where
    four : (a b v w c : ℕ) → a + b ≡ c → (a + v) + (b + w) ≡ c + (v + w)
    four a b v w c e = omega arith

-- what starts in a period is no more than what came in the period before, so at every tick no more has started than has come
pub supplied_below : (P tick : ℕ) (started received all_started all_received : ℕ → ℕ) → ((p : ℕ) → started p ≤ all_started p) →
    ((p : ℕ) → tick < p * P → started p ≡ 0) → ((p : ℕ) → suc p * P ≤ tick → received p ≡ all_received p) → all_started 0 ≡ 0 →
    ((p : ℕ) → all_started (suc p) ≤ all_received p) → (n : ℕ) → sum_below n started ≤ sum_below n received
supplied_below P tick started received all_started all_received some later over none next zero = omega arith
supplied_below P tick started received all_started all_received some later over none next (suc n) =
    elim (cases_lt tick (n * P)) [
      | inl early ↦ rw (later n early) (more _ _ _ (supplied_below P tick started received all_started all_received some later over none next n))
      | inr late ↦
          let all_over : sum_below n received ≡ sum_below n all_received = sum_below_same n received all_received (λ p l. over p (ended p l late)) in
          let starts : sum_below (suc n) started ≤ sum_below (suc n) all_started = sum_below_le (suc n) started all_started some in
          between _ _ _ _ _ starts (shifted n) all_over
    ]
  where
    more : (a b c : ℕ) → a ≤ b → a + 0 ≤ b + c
    more a b c h = omega arith

    ended : (p : ℕ) → p < n → n * P ≤ tick → suc p * P ≤ tick
    ended p l h = let m : suc p * P ≤ n * P = mul-le-mul_right P (omega arith) in omega arith

    between : (a b c d e : ℕ) → a ≤ b → b ≤ c → d ≡ c → a ≤ d + e
    between a b c d e f g h = omega arith

    shifted : (m : ℕ) → sum_below (suc m) all_started ≤ sum_below m all_received
    shifted zero = rw none (omega arith)
    shifted (suc m) = let a = shifted m in let b = next m in omega (arith, a, b)

-- ---- over the operations of the periods

module _ (t : TimedView) (series : Series) (table : Table) where
  pub count_below : (f : Placed → Bool) (n : ℕ) → count_by f (ops_below t series table n) ≡ sum_below n (λ p. count_by f (period_ops t series table p))
  count_below f zero = refl
  count_below f (suc n) =
      sum_by-append (λ q. cond (f q) 1 0) (ops_below t series table n) (period_ops t series table n)
      ∙ ap (λ m. m + count_by f (period_ops t series table n)) (count_below f n)

  -- the operations that pass a test start and end in their period
  abbrev pub InPeriod : (Op → Bool) → ℕ → Type 0
  InPeriod uses p =
      All (λ q. uses q.op ≡ true → (p * table.period ≤ start_of q.op) × (end_of t t.unit q.op ≤ suc p * table.period)) (period_ops t series table p)

  module _ (uses : Op → Bool) (within : (p : ℕ) → InPeriod uses p) (tick : ℕ) where
    pub none_started : (p : ℕ) → tick < p * table.period → count_by (λ q. uses q.op && has_started tick q.op) (period_ops t series table p) ≡ 0
    none_started p h =
        count_none (λ q. uses q.op && has_started tick q.op) (period_ops t series table p)
        (λ k d l. not_yet (uses _) _ _ (within p k d l))
      where
        not_yet : (b : Bool) (s e : ℕ) → (b ≡ true → (p * table.period ≤ s) × (e ≤ suc p * table.period)) → (b && nat_le s tick) ≡ false
        not_yet true s e w = let k = w refl in late s k.0
          where
            late : (s : ℕ) → p * table.period ≤ s → nat_le s tick ≡ false
            late s l = grind (arith, nat_tests)
        not_yet false s e w = refl

    pub all_ended : (p : ℕ) → suc p * table.period ≤ tick →
        count_by (λ q. uses q.op && has_ended t t.unit tick q.op) (period_ops t series table p) ≡ count_by (λ q. uses q.op) (period_ops t series table p)
    all_ended p h =
        count_same (λ q. uses q.op && has_ended t t.unit tick q.op) (λ q. uses q.op) (period_ops t series table p)
        (λ k d l. over (uses _) _ _ (within p k d l))
      where
        over : (b : Bool) (s e : ℕ) → (b ≡ true → (p * table.period ≤ s) × (e ≤ suc p * table.period)) → (b && nat_le e tick) ≡ b
        over true s e w = let k = w refl in early e k.1
          where
            early : (e : ℕ) → e ≤ suc p * table.period → nat_le e tick ≡ true
            early e l = grind (arith, nat_tests)
        over false s e w = refl

    pub some_started : (p : ℕ) → count_by (λ q. uses q.op && has_started tick q.op) (period_ops t series table p) ≤ count_by (λ q. uses q.op) (period_ops t series table p)
    some_started p =
        sum_by-le-sum_by (λ q. cond (uses q.op && has_started tick q.op) 1 0) (λ q. cond (uses q.op) 1 0) (period_ops t series table p)
        (λ q. fewer (uses q.op) (has_started tick q.op))
      where
        fewer : (a b : Bool) → cond {A = ℕ} (a && b) 1 0 ≤ cond a 1 0
        fewer true true = omega arith
        fewer true false = omega arith
        fewer false b = omega arith

-- Vectors that are 0 but at the basic columns and one column more.
use Rattle.std.proofs.Common.{◌≡◌, ◌≢◌, ℕ, zero, suc, ◌<◌, ◌≤◌, ℤ, pos, ◌+ℤ◌, ◌*ℤ◌, ◌≤ℤ◌, ◌<ℤ◌, cond, nat_eq, arith, refl, sym, ◌∙◌, ap, inl, inr}
use Rattle.std.proofs.Math.IntN.{*ℤ-zero, *ℤ_comm}
use Rattle.std.proofs.lemmas.Int.{ints}
use Rattle.std.proofs.lemmas.Bool.{cases_eq, eq-eqb, ne_eqb}
use Rattle.linear_program.proofs.Integers.{times_sum, times_product, positive_times}
use Rattle.linear_program.proofs.Sums.{sum_added, same_sum, single_sum}
use Rattle.linear_program.specs.Sums.{sum_below}
use Rattle.linear_program.specs.Tableaux.{TableauView, objective_column, width, Solves, IsCanonical}

-- the number at one column, and 0 elsewhere
abbrev pub at_column : ℕ → ℤ → ℕ → ℤ
at_column c z j = cond (nat_eq j c) z (pos 0)

pub at_same : (c : ℕ) (z : ℤ) → at_column c z c ≡ z
at_same c z = rw (eq-eqb c c refl) refl

pub at_other : (c : ℕ) (z : ℤ) (j : ℕ) → j ≢ c → at_column c z j ≡ pos 0
at_other c z j apart = rw (ne_eqb j c apart) refl

-- the vector w with the numbers of f added at the columns of b
abbrev pub spread : ℕ → (ℕ → ℕ) → (ℕ → ℤ) → (ℕ → ℤ) → ℕ → ℤ
spread zero b f w j = w j
spread (suc m) b f w j = spread m b f w j +ℤ at_column (b m) (f m) j

pub at_sum : (n c : ℕ) (z : ℤ) (a : ℕ → ℤ) → c < n → sum_below n (λ j. a j *ℤ at_column c z j) ≡ a c *ℤ z
at_sum n c z a within =
    single_sum n c (λ j. a j *ℤ at_column c z j) within (λ j l apart. rw (at_other c z j apart) (*ℤ-zero (a j)))
    ∙ ap (λ y. a c *ℤ y) (at_same c z)

pub spread_sum : (n m : ℕ) (a : ℕ → ℤ) (b : ℕ → ℕ) (f w : ℕ → ℤ) → ((i : ℕ) → i < m → b i < n) →
    sum_below n (λ j. a j *ℤ spread m b f w j) ≡ sum_below n (λ j. a j *ℤ w j) +ℤ sum_below m (λ i. a (b i) *ℤ f i)
spread_sum n zero a b f w h = omega (arith, ints)
spread_sum n (suc m) a b f w h =
    let apart = same_sum n (λ j. a j *ℤ (spread m b f w j +ℤ at_column (b m) (f m) j)) (λ j. a j *ℤ spread m b f w j +ℤ a j *ℤ at_column (b m) (f m) j)
    (λ j _. times_sum (a j) (spread m b f w j) (at_column (b m) (f m) j)) in
    let added = sum_added n (λ j. a j *ℤ spread m b f w j) (λ j. a j *ℤ at_column (b m) (f m) j) in
    let before = spread_sum n m a b f w (λ i l. h i (omega arith)) in
    let here = at_sum n (b m) (f m) a (h m (omega arith)) in
    omega (arith, ints, apart, added, before, here)

pub spread_not_negative : (m : ℕ) (b : ℕ → ℕ) (f w : ℕ → ℤ) (j : ℕ) → ((i : ℕ) → i < m → b i ≡ j → pos 0 ≤ℤ f i) → pos 0 ≤ℤ w j → pos 0 ≤ℤ spread m b f w j
spread_not_negative zero b f w j h k = k
spread_not_negative (suc m) b f w j h k =
    let before = spread_not_negative m b f w j (λ i l e. h i (omega arith) e) k in
    elim (cases_eq j (b m)) [
      | inl same ↦ rw (eq-eqb j (b m) same) (omega (arith, ints, before, h m (omega arith) (sym same)))
      | inr other ↦ rw (at_other (b m) (f m) j other) (omega (arith, ints, before))
    ]

pub spread_beside : (m : ℕ) (b : ℕ → ℕ) (f w : ℕ → ℤ) (j : ℕ) → ((i : ℕ) → i < m → j ≢ b i) → spread m b f w j ≡ w j
spread_beside zero b f w j h = refl
spread_beside (suc m) b f w j h =
    rw (at_other (b m) (f m) j (h m (omega arith))) (omega (arith, ints, spread_beside m b f w j (λ i l. h i (omega arith))))

pub spread_there : (m k : ℕ) (b : ℕ → ℕ) (f w : ℕ → ℤ) → k < m → ((i : ℕ) → i < m → i ≢ k → b k ≢ b i) → spread m b f w (b k) ≡ w (b k) +ℤ f k
spread_there zero k b f w l h = absurd (omega arith)
spread_there (suc m) k b f w l h =
    elim (cases_eq m k) [
      | inl same ↦
          let before = spread_beside m b f w (b k) (λ i less. h i (omega arith) (let other : i ≢ k = omega arith in other)) in
          rw (same, at_same (b k) (f k)) (ap (λ z. z +ℤ f k) (rw same at before))
      | inr other ↦
          let before = spread_there m k b f w (omega arith) (λ i less apart. h i (omega arith) apart) in
          rw (at_other (b m) (f m) (b k) (h m (omega arith) other)) (omega (arith, ints, before))
    ]

-- products of a sequence, whole and without one factor
abbrev pub product_below : ℕ → (ℕ → ℤ) → ℤ
product_below zero g = pos 1
product_below (suc n) g = product_below n g *ℤ g n

abbrev pub without : (ℕ → ℤ) → ℕ → ℕ → ℤ
without g k i = cond (nat_eq i k) (pos 1) (g i)

pub product_positive : (n : ℕ) (g : ℕ → ℤ) → ((i : ℕ) → i < n → pos 0 <ℤ g i) → pos 0 <ℤ product_below n g
product_positive zero g h = omega (arith, ints)
product_positive (suc n) g h = positive_times _ _ (product_positive n g (λ i l. h i (omega arith))) (h n (omega arith))

pub without_positive : (n k : ℕ) (g : ℕ → ℤ) → ((i : ℕ) → i < n → pos 0 <ℤ g i) → pos 0 <ℤ product_below n (without g k)
without_positive n k g h =
    product_positive n (without g k) (λ i l.
    elim (cases_eq i k) [
      | inl same ↦ rw (eq-eqb i k same) (omega (arith, ints))
      | inr other ↦ rw (ne_eqb i k other) (h i l)
    ])

same_product : (n k : ℕ) (g : ℕ → ℤ) → ((i : ℕ) → i < n → i ≢ k) → product_below n (without g k) ≡ product_below n g
same_product zero k g h = refl
same_product (suc n) k g h = rw (ne_eqb n k (h n (omega arith))) (ap (λ z. z *ℤ g n) (same_product n k g (λ i l. h i (omega arith))))

pub product_out : (n k : ℕ) (g : ℕ → ℤ) → k < n → g k *ℤ product_below n (without g k) ≡ product_below n g
product_out zero k g l = absurd (omega arith)
product_out (suc n) k g l =
    elim (cases_eq n k) [
      | inl same ↦
          let before : product_below n (without g k) ≡ product_below n g = same_product n k g (λ i less. let other : i ≢ k = omega arith in other) in
          rw (eq-eqb n k same, before) (ap (λ z. g k *ℤ z) (let e : product_below n g *ℤ pos 1 ≡ product_below n g = times_one _ in e) ∙ *ℤ_comm (g k) (product_below n g) ∙ ap (λ i. product_below n g *ℤ g i) (sym same))
      | inr other ↦
          rw (ne_eqb n k other)
          (sym (times_product (g k) (product_below n (without g k)) (g n)) ∙ ap (λ z. z *ℤ g n) (product_out n k g (omega arith)))
    ]
  where
    times_one : (a : ℤ) → a *ℤ pos 1 ≡ a
    times_one a = omega (arith, ints)

-- a vector that is balanced in each row by its number at the row's basic column solves the tableau
pub balanced_solves : (t : TableauView) (c : ℕ) (z : ℤ) (f : ℕ → ℤ) → IsCanonical t → c < width t →
    ((k : ℕ) → k ≤ t.constraints → t.cell k c *ℤ z +ℤ t.cell k (t.basic k) *ℤ f k ≡ pos 0) →
    Solves t (spread (suc t.constraints) t.basic f (at_column c z))
balanced_solves t c z f canonical within balanced k inside =
    let last : t.basic t.constraints ≡ objective_column t = canonical.last_basic in
    let basics_within : (i : ℕ) → i < suc t.constraints → t.basic i < width t =
    λ i l. elim (cases_eq i t.constraints) [
      | inl same ↦ rw (same, last) (omega arith)
      | inr other ↦ let less : t.basic i < objective_column t = canonical.basic_within i (omega arith) in omega arith
    ] in
    let whole = spread_sum (width t) (suc t.constraints) (t.cell k) t.basic f (at_column c z) basics_within in
    let here = at_sum (width t) c z (t.cell k) within in
    let own = single_sum (suc t.constraints) k (λ i. t.cell k (t.basic i) *ℤ f i) (omega arith)
    (λ i l apart. rw (canonical.alone i k (omega arith) inside (λ e. apart (sym e))) (zero_times (f i))) in
    let none = balanced k inside in
    whole ∙ omega (arith, ints, here, own, none)
  where
    zero_times : (a : ℤ) → pos 0 *ℤ a ≡ pos 0
    zero_times a = *ℤ_comm (pos 0) a ∙ *ℤ-zero a

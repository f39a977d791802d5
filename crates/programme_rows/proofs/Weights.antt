-- What counts of operations weigh in a row, operation by operation, and what amounts come to there.
use Rattle.std.proofs.Common.{◌≡◌, ℕ, ◌+◌, ◌*◌, ◌<◌, Bool, true, false, ◌&&◌, cond, nat_eq, List, [], ◌∷◌, length, map, slice_index_or, All, count_by, sum_by, ℤ, pos, ◌+ℤ◌, ◌-ℤ◌, ◌*ℤ◌, ◌≤ℤ◌, refl, sym, ap, ◌∙◌, arith}
use Rattle.std.proofs.Math.IntN.{*ℤ-zero, zero-*ℤ, *ℤ_comm}
use Rattle.std.proofs.lemmas.Int.{ints}
use Rattle.std.proofs.lemmas.Bool.{eq-eqb, ne_eqb}
use Rattle.std.proofs.lemmas.List.{get_or-map}
use Rattle.std.proofs.lemmas.List.Sums.{sum_by-cons}
use Rattle.std.proofs.lemmas.List.Elements.{All-head, All-tail}
use Rattle.linear_program.specs.Sums.{sum_below}
use Rattle.linear_program.specs.Programmes.{RowView, row_value, gain_value}
use Rattle.linear_program.proofs.Integers.{times_sum, times_product}
use Rattle.linear_program.proofs.Sums.{same_sum, sum_added, zero_sum, single_sum}
use Rattle.programme_rows.specs.Cells.{where_true, cells_of}
use Rattle.programme_rows.proofs.Listings.{sum_over, sum_by_index}
use Rattle.programme_rows.proofs.Cells.{cell_there}

-- a sum of numbers times counts, as a sum over the operations
pub counted : {A : Type 0} (n : ℕ) (h : ℕ → ℤ) (is : ℕ → A → Bool) (own : A → ℤ) (ops : List A) →
    All (λ op. sum_below n (λ i. h i *ℤ pos (cond (is i op) 1 0)) ≡ own op) ops →
    sum_below n (λ i. h i *ℤ pos (count_by (is i) ops)) ≡ sum_over own ops
counted n h is own [] each = zero_sum n (λ i. h i *ℤ pos 0) (λ i l. *ℤ-zero (h i))
counted n h is own (op ∷ ops) each =
    let here = All-head (λ op. sum_below n (λ i. h i *ℤ pos (cond (is i op) 1 0)) ≡ own op) op ops each in
    let rest = counted n h is own ops (All-tail (λ op. sum_below n (λ i. h i *ℤ pos (cond (is i op) 1 0)) ≡ own op) op ops each) in
    let split = same_sum n (λ i. h i *ℤ pos (count_by (is i) (op ∷ ops))) (λ i. h i *ℤ pos (cond (is i op) 1 0) +ℤ h i *ℤ pos (count_by (is i) ops)) (λ i l. apart (h i) _ _ _ (sum_by-cons (λ o. cond (is i o) 1 0) op ops)) in
    split ∙ sym (sum_added n (λ i. h i *ℤ pos (cond (is i op) 1 0)) (λ i. h i *ℤ pos (count_by (is i) ops))) ∙ both here rest
  where
    apart : (h : ℤ) (a b c : ℕ) → a ≡ b + c → h *ℤ pos a ≡ h *ℤ pos b +ℤ h *ℤ pos c
    apart h a b c e = ap (λ n. h *ℤ pos n) e ∙ ap (λ z. h *ℤ z) (joined b c) ∙ times_sum h (pos b) (pos c)
      where
        joined : (b c : ℕ) → pos (b + c) ≡ pos b +ℤ pos c
        joined b c = omega (arith, ints)

    both : {a b c d : ℤ} → a ≡ b → c ≡ d → a +ℤ c ≡ b +ℤ d
    both e k = rw (e, k) refl

-- one number of a sequence, picked by its place
pub picked : (n k : ℕ) (h : ℕ → ℤ) → k < n → sum_below n (λ i. h i *ℤ pos (cond (nat_eq k i) 1 0)) ≡ h k
picked n k h l =
    single_sum n k (λ i. h i *ℤ pos (cond (nat_eq k i) 1 0)) l (λ i m apart. rw (ne_eqb k i (λ e. apart (sym e))) (*ℤ-zero (h i)))
    ∙ ap (λ b. h k *ℤ pos (cond b 1 0)) (eq-eqb k k refl) ∙ times_one (h k)
  where
    times_one : (z : ℤ) → z *ℤ pos 1 ≡ z
    times_one z = omega (arith, ints)

-- none is picked
pub none_picked : (n : ℕ) (h : ℕ → ℤ) → sum_below n (λ i. h i *ℤ pos 0) ≡ pos 0
none_picked n h = zero_sum n (λ i. h i *ℤ pos 0) (λ i l. *ℤ-zero (h i))

-- a number where a test holds, times another
pub where_times : (b : Bool) (z n : ℤ) → where_true b (z *ℤ n) ≡ where_true b z *ℤ n
where_times true z n = refl
where_times false z n = sym (zero-*ℤ n)

-- nothing stays nothing
pub where_nothing : (b : Bool) → where_true b (pos 0) ≡ pos 0
where_nothing true = refl
where_nothing false = refl

-- sums of lesser numbers, scaled
pub sums_bounded : {A : Type 0} (k : ℕ) (f : A → ℤ) (g : A → ℕ) (ops : List A) → ((op : A) → (pos k *ℤ f op) ≤ℤ pos (g op)) → (pos k *ℤ sum_over f ops) ≤ℤ pos (sum_by g ops)
sums_bounded k f g [] h = omega (arith, ints, *ℤ-zero (pos k))
sums_bounded k f g (op ∷ ops) h =
    let here = h op in
    let rest = sums_bounded k f g ops h in
    omega (arith, ints, here, rest, times_sum (pos k) (f op) (sum_over f ops), sum_by-cons g op ops)

-- what an operation weighs in a port's row is what it lasts there
pub one_use : (a b : Bool) (c k : ℕ) → (pos k *ℤ where_true a (where_true b (pos c))) ≤ℤ pos (cond b (c * k) 0)
one_use true true c k = omega (arith, ints)
one_use true false c k = omega (arith, ints, *ℤ-zero (pos k))
one_use false true c k = omega (arith, ints, *ℤ-zero (pos k))
one_use false false c k = omega (arith, ints, *ℤ-zero (pos k))

-- what it weighs elsewhere is nothing
pub no_use : (a : Bool) (k : ℕ) → (pos k *ℤ where_true a (pos 0)) ≤ℤ pos 0
no_use true k = omega (arith, ints, *ℤ-zero (pos k))
no_use false k = omega (arith, ints, *ℤ-zero (pos k))

-- what an amount comes to in a row, for a column that is there and where the row names it
pub one_rate : (a b : Bool) (c n : ℕ) → where_true a (where_true b (pos c) *ℤ pos n) ≡ pos (cond (a && b) (c * n) 0)
one_rate true true c n = omega (arith, ints)
one_rate true false c n = zero-*ℤ (pos n)
one_rate false b c n = refl

-- where the row names none
pub no_rate : (a : Bool) (n : ℕ) → where_true a (pos 0 *ℤ pos n) ≡ pos 0
no_rate true n = zero-*ℤ (pos n)
no_rate false n = refl

-- what a flow comes to between two supplies
pub one_flow : (a out in_ : Bool) (n : ℕ) → where_true a ((where_true out (pos 1) -ℤ where_true in_ (pos 1)) *ℤ pos n) ≡ pos (cond (a && out) n 0) -ℤ pos (cond (a && in_) n 0)
one_flow true true true n = omega (arith, ints, zero-*ℤ (pos n))
one_flow true true false n = omega (arith, ints)
one_flow true false true n = omega (arith, ints)
one_flow true false false n = omega (arith, ints, zero-*ℤ (pos n))
one_flow false out in_ n = omega (arith, ints)

-- a row's value by its columns, where amounts go by what the columns stand for
pub row_by_columns : {A : Type 0} (cell : A → ℤ) (amount : A → ℕ) (base : A) (columns : List A) (side : ℤ) →
    row_value (length columns) (record { cells = cells_of (λ j. cell (slice_index_or columns j base)) (length columns); rhs = side }) (λ j. amount (slice_index_or columns j base))
    ≡ sum_over (λ column. cell column *ℤ pos (amount column)) columns
row_by_columns {A = A} cell amount base columns side =
    same_sum (length columns) _ (λ j. each (slice_index_or columns j base))
    (λ j l. ap (λ z. z *ℤ pos (amount (slice_index_or columns j base))) (cell_there (λ i. cell (slice_index_or columns i base)) (length columns) j l))
    ∙ sum_by_index each base columns
  where
    each : A → ℤ
    each column = cell column *ℤ pos (amount column)

-- what such amounts gain, by columns
pub gain_by_columns : {A : Type 0} (gain : A → ℤ) (amount : A → ℕ) (base : A) (columns : List A) (rows : List RowView) →
    gain_value (record { columns = length columns; rows = rows; gain = map gain columns }) (λ j. amount (slice_index_or columns j base))
    ≡ sum_over (λ column. gain column *ℤ pos (amount column)) columns
gain_by_columns {A = A} gain amount base columns rows =
    same_sum (length columns) _ (λ j. each (slice_index_or columns j base))
    (λ j l. ap (λ z. z *ℤ pos (amount (slice_index_or columns j base))) (get_or-map gain columns j base (pos 0) l))
    ∙ sum_by_index each base columns
  where
    each : A → ℤ
    each column = gain column *ℤ pos (amount column)

-- a number times so many counts
pub regrouped : (z : ℤ) (n k : ℕ) → z *ℤ pos (n * k) ≡ pos k *ℤ (z *ℤ pos n)
regrouped z n k = ap (λ m. z *ℤ m) (apart n k) ∙ sym (times_product z (pos n) (pos k)) ∙ *ℤ_comm (z *ℤ pos n) (pos k)
  where
    apart : (n k : ℕ) → pos (n * k) ≡ pos n *ℤ pos k
    apart n k = refl

-- counts in other ticks weigh so many times as much
pub counts_scaled : {A : Type 0} (f : A → ℤ) (count : A → ℕ) (k : ℕ) (columns : List A) →
    sum_over (λ column. f column *ℤ pos (count column * k)) columns ≡ pos k *ℤ sum_over (λ column. f column *ℤ pos (count column)) columns
counts_scaled f count k [] = sym (*ℤ-zero (pos k))
counts_scaled f count k (column ∷ columns) =
    both (regrouped (f column) (count column) k) (counts_scaled f count k columns) ∙ sym (times_sum (pos k) (f column *ℤ pos (count column)) (sum_over (λ c. f c *ℤ pos (count c)) columns))
  where
    both : {a b c d : ℤ} → a ≡ b → c ≡ d → a +ℤ c ≡ b +ℤ d
    both e k = rw (e, k) refl

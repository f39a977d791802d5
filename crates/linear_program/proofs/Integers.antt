-- Laws of whole numbers.
use Rattle.std.proofs.Common.{◌≡◌, zero, suc, ℤ, pos, negsuc, ◌+ℤ◌, ◌-ℤ◌, ◌*ℤ◌, ◌≤ℤ◌, ◌<ℤ◌, arith, refl, sym, ◌∙◌, ap}
use Rattle.std.proofs.Math.IntN.{suc_ℤ-*ℤ, pred_ℤ-*ℤ, zero-*ℤ, *ℤ-zero, *ℤ_comm}
use Rattle.std.proofs.lemmas.Int.{ints, by_lt_z}

-- a factor is spread over a sum
pub times_sum : (a b c : ℤ) → a *ℤ (b +ℤ c) ≡ a *ℤ b +ℤ a *ℤ c
times_sum (pos zero) b c = rw (zero-*ℤ (b +ℤ c), zero-*ℤ b, zero-*ℤ c) refl
times_sum (pos (suc n)) b c =
    omega (arith, ints, suc_ℤ-*ℤ (pos n) (b +ℤ c), suc_ℤ-*ℤ (pos n) b, suc_ℤ-*ℤ (pos n) c, times_sum (pos n) b c)
times_sum (negsuc zero) b c =
    omega (arith, ints, pred_ℤ-*ℤ (pos zero) (b +ℤ c), pred_ℤ-*ℤ (pos zero) b, pred_ℤ-*ℤ (pos zero) c, zero-*ℤ (b +ℤ c), zero-*ℤ b, zero-*ℤ c)
times_sum (negsuc (suc n)) b c =
    omega (arith, ints, pred_ℤ-*ℤ (negsuc n) (b +ℤ c), pred_ℤ-*ℤ (negsuc n) b, pred_ℤ-*ℤ (negsuc n) c, times_sum (negsuc n) b c)

pub sum_times : (a b c : ℤ) → (a +ℤ b) *ℤ c ≡ a *ℤ c +ℤ b *ℤ c
sum_times a b c = *ℤ_comm (a +ℤ b) c ∙ times_sum c a b ∙ ap (λ x. x +ℤ c *ℤ b) (*ℤ_comm c a) ∙ ap (λ x. a *ℤ c +ℤ x) (*ℤ_comm c b)

pub difference_times : (a b c : ℤ) → (a -ℤ b) *ℤ c ≡ a *ℤ c -ℤ b *ℤ c
difference_times a b c =
    let whole : (a -ℤ b) +ℤ b ≡ a = omega (arith, ints) in
    let scaled : ((a -ℤ b) +ℤ b) *ℤ c ≡ a *ℤ c = ap (λ t. t *ℤ c) whole in
    omega (arith, ints, scaled, sum_times (a -ℤ b) b c)

-- factors group in any way
pub times_product : (a b c : ℤ) → (a *ℤ b) *ℤ c ≡ a *ℤ (b *ℤ c)
times_product (pos zero) b c = rw (zero-*ℤ b, zero-*ℤ c, zero-*ℤ (b *ℤ c)) refl
times_product (pos (suc n)) b c = ap (λ x. x *ℤ c) (suc_ℤ-*ℤ (pos n) b) ∙ sum_times (pos n *ℤ b) b c ∙ ap (λ x. x +ℤ b *ℤ c) (times_product (pos n) b c) ∙ sym (suc_ℤ-*ℤ (pos n) (b *ℤ c))
times_product (negsuc zero) b c =
    let nothing : (pos zero *ℤ b) *ℤ c ≡ pos zero *ℤ (b *ℤ c) = rw (zero-*ℤ b, zero-*ℤ c, zero-*ℤ (b *ℤ c)) refl in
    ap (λ x. x *ℤ c) (pred_ℤ-*ℤ (pos zero) b) ∙ difference_times (pos zero *ℤ b) b c ∙ ap (λ x. x -ℤ b *ℤ c) nothing ∙ sym (pred_ℤ-*ℤ (pos zero) (b *ℤ c))
times_product (negsuc (suc n)) b c = ap (λ x. x *ℤ c) (pred_ℤ-*ℤ (negsuc n) b) ∙ difference_times (negsuc n *ℤ b) b c ∙ ap (λ x. x -ℤ b *ℤ c) (times_product (negsuc n) b c) ∙ sym (pred_ℤ-*ℤ (negsuc n) (b *ℤ c))

-- products of numbers above 0, and of numbers that are at least 0
pub positive_times : (a b : ℤ) → pos 0 <ℤ a → pos 0 <ℤ b → pos 0 <ℤ (a *ℤ b)
positive_times (pos zero) b h k = absurd (omega (arith, ints))
positive_times (pos (suc m)) (pos zero) h k = absurd (omega (arith, ints))
positive_times (pos (suc m)) (pos (suc n)) h k = omega (arith, ints)
positive_times (pos (suc m)) (negsuc n) h k = absurd (omega (arith, ints))
positive_times (negsuc m) b h k = absurd (omega (arith, ints))

pub not_negative_times : (a b : ℤ) → pos 0 ≤ℤ a → pos 0 ≤ℤ b → pos 0 ≤ℤ (a *ℤ b)
not_negative_times (pos m) (pos n) h k = omega (arith, ints)
not_negative_times (pos m) (negsuc n) h k = absurd (omega (arith, ints))
not_negative_times (negsuc m) b h k = absurd (omega (arith, ints))

-- the product by a difference
pub times_difference : (a b c : ℤ) → a *ℤ (b -ℤ c) ≡ a *ℤ b -ℤ a *ℤ c
times_difference a b c = *ℤ_comm a (b -ℤ c) ∙ difference_times b c a ∙ ap (λ x. x -ℤ c *ℤ a) (*ℤ_comm b a) ∙ ap (λ x. a *ℤ b -ℤ x) (*ℤ_comm c a)

-- a factor that is at least 0 keeps an order
pub times_keeps_order : (a b c : ℤ) → pos 0 ≤ℤ a → b ≤ℤ c → (a *ℤ b) ≤ℤ (a *ℤ c)
times_keeps_order a b c h k =
    let d : pos 0 ≤ℤ (c -ℤ b) = omega (arith, ints) in
    omega (arith, ints, not_negative_times a (c -ℤ b) h d, times_difference a c b)

-- a factor above 0 is cancelled
pub cancel_at_most : (a b c : ℤ) → pos 0 <ℤ a → (a *ℤ b) ≤ℤ (a *ℤ c) → b ≤ℤ c
cancel_at_most a b c h k =
    by_lt_z c b
    (λ l. let d : pos 0 <ℤ (b -ℤ c) = omega (arith, ints) in absurd (omega (arith, ints, positive_times a (b -ℤ c) h d, times_difference a b c)))
    (λ l. l)

pub cancel_less : (a b c : ℤ) → pos 0 <ℤ a → (a *ℤ b) <ℤ (a *ℤ c) → b <ℤ c
cancel_less a b c h k =
    let na : pos 0 ≤ℤ a = omega (arith, ints) in
    by_lt_z b c (λ l. l) (λ l. absurd (omega (arith, ints, times_keeps_order a c b na l)))

pub cancel_same : (a b c : ℤ) → pos 0 <ℤ a → a *ℤ b ≡ a *ℤ c → b ≡ c
cancel_same a b c h k =
    let one : (a *ℤ b) ≤ℤ (a *ℤ c) = omega (arith, ints) in
    let other : (a *ℤ c) ≤ℤ (a *ℤ b) = omega (arith, ints) in
    let low : b ≤ℤ c = cancel_at_most a b c h one in
    let high : c ≤ℤ b = cancel_at_most a c b h other in
    omega (arith, ints)

pub cancel_none : (a b : ℤ) → pos 0 <ℤ a → a *ℤ b ≡ pos 0 → b ≡ pos 0
cancel_none a b h k = cancel_same a b (pos 0) h (k ∙ sym (*ℤ-zero a))

pub cancel_not_negative : (a b : ℤ) → pos 0 <ℤ a → pos 0 ≤ℤ (a *ℤ b) → pos 0 ≤ℤ b
cancel_not_negative a b h k = cancel_at_most a (pos 0) b h (rw *ℤ-zero k)

pub cancel_positive : (a b : ℤ) → pos 0 <ℤ a → pos 0 <ℤ (a *ℤ b) → pos 0 <ℤ b
cancel_positive a b h k = cancel_less a (pos 0) b h (rw *ℤ-zero k)

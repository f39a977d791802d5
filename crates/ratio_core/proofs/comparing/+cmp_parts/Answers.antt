use Rattle.std.proofs.Common.{◌≡◌, ℕ, ◌+◌, ◌*◌, ◌<◌, ◌≤◌, ◌/◌, ◌%◌, arith, sym, ◌∙◌, ap}
use Rattle.ratio_core.proofs.CrossProducts.{same_cmp, wholes_decide, rests_decide, zero_rest_decides}
use Rattle.ratio_core.proofs.comparing.+cmp_parts.Goals as goal
use Rattle.ratio_core.proofs.comparing.+cmp_parts.Goals.{then-left_rest-eq0-via-then-left_rest-eq0, then-left_rest-eq0-via-else-left_rest-eq0+then-right_rest-eq0}

parts : (a b : ℕ) → 1 ≤ b → b * (a / b) + a % b ≡ a
parts a b some = omega arith

small : (a b : ℕ) → 1 ≤ b → a % b < b
small a b some = omega arith

pub returns-then-left-right : goal.returns-then-left-right
returns-then-left-right t c =
    let a = c.args.a in
    let b = c.args.b in
    let k = c.args.c in
    let d = c.args.d in
    let some_b = c.requires.left in
    let some_d = c.requires.right in
    c.cmp.ensures
    ∙ same_cmp (a / b) (k / d) (a * d) (k * b)
    (λ l. wholes_decide a b k d (a / b) (k / d) (a % b) (k % d) some_b some_d (parts a b some_b) (parts k d some_d) (small a b some_b) (small k d some_d) l)
    (λ e. absurd (c.if-left-right.true e))
    (λ l. wholes_decide k d a b (k / d) (a / b) (k % d) (a % b) some_d some_b (parts k d some_d) (parts a b some_b) (small k d some_d) (small a b some_b) l)

pub returns-then-left_rest-eq0 : goal.returns-then-left_rest-eq0
returns-then-left_rest-eq0 t c =
    let a = c.args.a in
    let b = c.args.b in
    let k = c.args.c in
    let d = c.args.d in
    let some_b = c.requires.left in
    let some_d = c.requires.right in
    let none : (a % b) * (k % d) ≡ 0 =
    elim c.then-left_rest-eq0.branch [
      | then-left_rest-eq0-via-then-left_rest-eq0 w ↦ let e : a % b ≡ 0 = w.if-left_rest-eq0.true in let f = ap (λ x. x * (k % d)) e in omega arith
      | then-left_rest-eq0-via-else-left_rest-eq0+then-right_rest-eq0 w ↦ let e : k % d ≡ 0 = w.if-right_rest-eq0.true in let f = ap (λ x. (a % b) * x) e in omega arith
    ] in
    let same : a / b ≡ k / d = c.if-left-right.false in
    c.cmp-then-left_rest-eq0.ensures
    ∙ zero_rest_decides b d (a % b) (k % d) some_b some_d none
    ∙ sym (rests_decide a b k d (a / b) (a % b) (k % d) (parts a b some_b) (rw same (parts k d some_d)))

pub returns : goal.returns
returns t c =
    let a = c.args.a in
    let b = c.args.b in
    let k = c.args.c in
    let d = c.args.d in
    let some_b = c.requires.left in
    let some_d = c.requires.right in
    let same : a / b ≡ k / d = c.if-left-right.false in
    c.cmp_parts.ensures
    ∙ sym (rests_decide a b k d (a / b) (a % b) (k % d) (parts a b some_b) (rw same (parts k d some_d)))

-- What a round's loss makes of the amounts.
use Rattle.std.proofs.Common.{◌≡◌, ℕ, zero, suc, ◌+◌, ◌-◌, ◌*◌, ◌<◌, ◌≤◌, cond, nat_eq, nat_lt, count_by, List, [], ◌∷◌, length, get_or, set, arith, refl, ◌∙◌, ap, inl, inr}
use Rattle.std.proofs.Math.Nat.{mul-le-mul_right}
use Rattle.std.proofs.lemmas.Bool.{cases_eq, eq-eqb, ne_eqb, lt-ltb}
use Rattle.std.proofs.lemmas.List.{length-set, get_or-set_same, get_or-set_other}
use Rattle.std.proofs.lemmas.List.Sums.{sum_by-cons}
use Rattle.flow_routes.specs.Walks.{taken_along, IsEnough, IsClear}

pub taken_length : (amounts ks : List ℕ) (by : ℕ) → length (taken_along amounts ks by) ≡ length amounts
taken_length amounts [] by = refl
taken_length amounts (k ∷ ks) by = taken_length (set amounts k (get_or amounts k 0 - by)) ks by ∙ length-set amounts k (get_or amounts k 0 - by)

-- how often a link stands on a walk
abbrev pub times : ℕ → List ℕ → ℕ
times link ks = count_by (nat_eq link) ks

times_cons : (link k : ℕ) (ks : List ℕ) → times link (k ∷ ks) ≡ cond (nat_eq link k) 1 0 + times link ks
times_cons link k ks = sum_by-cons (λ x. cond {A = ℕ} (nat_eq link x) 1 0) k ks

-- a link loses the number as often as it stands on the walk
pub taken_at : (amounts ks : List ℕ) (by link : ℕ) → IsEnough amounts ks by → get_or (taken_along amounts ks by) link 0 + times link ks * by ≡ get_or amounts link 0
taken_at amounts [] by link enough = omega arith
taken_at amounts (k ∷ ks) by link (inside, some, rest) =
    let before = taken_at (set amounts k (get_or amounts k 0 - by)) ks by link rest in
    elim (cases_eq link k) [
      | inl same ↦
          let here : get_or (set amounts k (get_or amounts k 0 - by)) link 0 ≡ get_or amounts k 0 - by = ap (λ i. get_or (set amounts k (get_or amounts k 0 - by)) i 0) same ∙ get_or-set_same amounts k (get_or amounts k 0 - by) 0 inside in
          let old : get_or amounts link 0 ≡ get_or amounts k 0 = ap (λ i. get_or amounts i 0) same in
          let count : times link (k ∷ ks) ≡ suc (times link ks) = times_cons link k ks ∙ rw (eq-eqb link k same) (omega arith) in
          let product : times link (k ∷ ks) * by ≡ by + times link ks * by = ap (λ n. n * by) count ∙ (let e : suc (times link ks) * by ≡ by + times link ks * by = omega arith in e) in
          omega (arith, before, here, old, product, some)
      | inr apart ↦
          let here : get_or (set amounts k (get_or amounts k 0 - by)) link 0 ≡ get_or amounts link 0 = get_or-set_other amounts k link (get_or amounts k 0 - by) 0 apart in
          let count : times link (k ∷ ks) ≡ times link ks = times_cons link k ks ∙ rw (ne_eqb link k apart) (omega arith) in
          let product : times link (k ∷ ks) * by ≡ times link ks * by = ap (λ n. n * by) count in
          omega (arith, before, here, product)
    ]

-- a link on a walk stands on it at least once
pub times_some : (ks : List ℕ) (place : ℕ) → place < length ks → 1 ≤ times (get_or ks place 0) ks
times_some [] place l = absurd (omega arith)
times_some (k ∷ ks) zero l = omega (arith, times_cons k k ks, ap (λ b. cond {A = ℕ} b 1 0) (eq-eqb k k refl))
times_some (k ∷ ks) (suc place) l = omega (arith, times_cons (get_or ks place 0) k ks, times_some ks place (omega arith))

-- how many links have amount left
abbrev pub open_links : List ℕ → ℕ
open_links amounts = count_by (λ a. nat_lt 0 a) amounts

-- 1 for an amount above 0
abbrev pub opens : ℕ → ℕ
opens zero = 0
opens (suc a) = 1

opens_is : (a : ℕ) → cond (nat_lt 0 a) 1 0 ≡ opens a
opens_is zero = refl
opens_is (suc a) = ap (λ b. cond {A = ℕ} b 1 0) (lt-ltb 0 (suc a) (omega arith))

open_cons : (a : ℕ) (amounts : List ℕ) → open_links (a ∷ amounts) ≡ opens a + open_links amounts
open_cons a amounts = sum_by-cons (λ x. cond {A = ℕ} (nat_lt 0 x) 1 0) a amounts ∙ ap (λ n. n + open_links amounts) (opens_is a)

pub opens_less : (a b : ℕ) → a ≤ b → opens a ≤ opens b
opens_less zero b l = omega arith
opens_less (suc a) zero l = absurd (omega arith)
opens_less (suc a) (suc b) l = omega arith

pub opens_some : (b : ℕ) → 0 < b → opens b ≡ 1
opens_some zero l = absurd (omega arith)
opens_some (suc b) l = refl

pub open_less : (new old : List ℕ) → length new ≡ length old → ((i : ℕ) → get_or new i 0 ≤ get_or old i 0) → open_links new ≤ open_links old
open_less [] [] e h = omega arith
open_less [] (b ∷ old) e h = absurd (omega arith)
open_less (a ∷ new) [] e h = absurd (omega arith)
open_less (a ∷ new) (b ∷ old) e h = omega (arith, open_cons a new, open_cons b old, opens_less a b (h 0), open_less new old (omega arith) (λ i. h (suc i)))

pub open_fewer : (new old : List ℕ) (k : ℕ) → length new ≡ length old → ((i : ℕ) → get_or new i 0 ≤ get_or old i 0) → 0 < get_or old k 0 → get_or new k 0 ≡ 0 → k < length old → open_links new < open_links old
open_fewer [] [] k e h some none l = absurd (omega arith)
open_fewer [] (b ∷ old) k e h some none l = absurd (omega arith)
open_fewer (a ∷ new) [] k e h some none l = absurd (omega arith)
open_fewer (a ∷ new) (b ∷ old) zero e h some none l =
    let here : opens a ≡ 0 = ap opens none in
    let there : opens b ≡ 1 = opens_some b some in
    omega (arith, open_cons a new, open_cons b old, here, there, open_less new old (omega arith) (λ i. h (suc i)))
open_fewer (a ∷ new) (b ∷ old) (suc k) e h some none l =
    omega (arith, open_cons a new, open_cons b old, opens_less a b (h 0), open_fewer new old k (omega arith) (λ i. h (suc i)) some none (omega arith))

-- the amounts never grow
pub taken_less : (amounts ks : List ℕ) (by : ℕ) → IsEnough amounts ks by → (i : ℕ) → get_or (taken_along amounts ks by) i 0 ≤ get_or amounts i 0
taken_less amounts ks by enough i = omega (arith, taken_at amounts ks by i enough)

-- a link of which the walk takes all has nothing left
pub taken_all : (amounts ks : List ℕ) (by place : ℕ) → IsEnough amounts ks by → place < length ks → get_or amounts (get_or ks place 0) 0 ≡ by → get_or (taken_along amounts ks by) (get_or ks place 0) 0 ≡ 0
taken_all amounts ks by place enough l all =
    let once : by ≤ times (get_or ks place 0) ks * by = let h : 1 * by ≤ times (get_or ks place 0) ks * by = mul-le-mul_right by (times_some ks place l) in omega (arith, h) in
    omega (arith, taken_at amounts ks by (get_or ks place 0) enough, once, all)

-- so fewer links have amount left after it
pub taken_fewer : (amounts ks : List ℕ) (by place : ℕ) → IsClear amounts ks → IsEnough amounts ks by → place < length ks → get_or amounts (get_or ks place 0) 0 ≡ by → open_links (taken_along amounts ks by) < open_links amounts
taken_fewer amounts ks by place clear enough l all =
    open_fewer (taken_along amounts ks by) amounts (get_or ks place 0) (taken_length amounts ks by) (taken_less amounts ks by enough) (clear.some place l) (taken_all amounts ks by place enough l all) (clear.inside place l)

pub opens_at_most : (a : ℕ) → opens a ≤ 1
opens_at_most zero = omega arith
opens_at_most (suc a) = omega arith

-- From when on a port is free, told from the operations that have used it.
use Rattle.std.proofs.Common.{◌≡◌, ℕ, ◌+◌, ◌<◌, ◌≤◌, Bool, true, false, ◌&&◌, cond, nat_lt, nat_le, List, [], ◌∷◌, ◌++◌, get_or, All, count_by, refl, sym, ap, ◌∙◌, arith, inl, inr}
use Rattle.std.proofs.lemmas.Bool.{cases_lt, lt-ltb, le-ltb, le-leb, lt-leb}
use Rattle.std.proofs.lemmas.List.Elements.{All-head, All-tail}
use Rattle.std.proofs.lemmas.List.Sums.{sum_by-cons, sum_by_push}

-- a count of one more
pub count_push : {A : Type 0} (p : A → Bool) (xs : List A) (x : A) → count_by p (xs ++ x ∷ []) ≡ count_by p xs + cond (p x) 1 0
count_push p xs x = sum_by_push (λ o. cond (p o) 1 0) xs x

pub count_push_no : {A : Type 0} (p : A → Bool) (xs : List A) (x : A) → p x ≡ false → count_by p (xs ++ x ∷ []) ≡ count_by p xs
count_push_no p xs x doesnt = count_push p xs x ∙ ap (λ b. count_by p xs + cond {A = ℕ} b 1 0) doesnt ∙ plus_none (count_by p xs)
  where
    plus_none : (n : ℕ) → n + 0 ≡ n
    plus_none n = omega arith

pub count_push_yes : {A : Type 0} (p : A → Bool) (xs : List A) (x : A) → p x ≡ true → count_by p (xs ++ x ∷ []) ≡ count_by p xs + 1
count_push_yes p xs x does = count_push p xs x ∙ ap (λ b. count_by p xs + cond {A = ℕ} b 1 0) does

-- tests that agree on the items count alike
pub count_alike : {A : Type 0} (p q : A → Bool) (xs : List A) → All (λ x. p x ≡ q x) xs → count_by p xs ≡ count_by q xs
count_alike p q [] same = refl
count_alike p q (x ∷ xs) same =
    sum_by-cons (λ o. cond (p o) 1 0) x xs
    ∙ rw (All-head (λ o. p o ≡ q o) x xs same, count_alike p q xs (All-tail (λ o. p o ≡ q o) x xs same)) refl
    ∙ sym (sum_by-cons (λ o. cond (q o) 1 0) x xs)

-- a test that no item passes counts none
pub count_none : {A : Type 0} (p : A → Bool) (xs : List A) → All (λ x. p x ≡ false) xs → count_by p xs ≡ 0
count_none p [] none = refl
count_none p (x ∷ xs) none =
    sum_by-cons (λ o. cond (p o) 1 0) x xs ∙ rw (All-head (λ o. p o ≡ false) x xs none, count_none p xs (All-tail (λ o. p o ≡ false) x xs none)) refl

module _ {Op : Type 0} (uses : Op → Bool) (start ends : Op → ℕ) where
  -- the operation uses the port and isn't over at the tick
  abbrev pub unfinished : ℕ → Op → Bool
  unfinished tick op = uses op && nat_lt tick (ends op)

  -- the operation holds the port at the tick
  abbrev pub holds : ℕ → Op → Bool
  holds tick op = uses op && (nat_le (start op) tick && nat_lt tick (ends op))

  -- the port is free from this tick on, and not before
  pub record IsFreeFrom (ops : List Op) (free : ℕ) : Type 0 where
    pub over : (tick : ℕ) → free ≤ tick → count_by (unfinished tick) ops ≡ 0
    pub held : (tick : ℕ) → tick < free → 1 ≤ count_by (unfinished tick) ops

  pub never_used : IsFreeFrom [] 0
  never_used = record { over = λ tick h. refl; held = λ tick h. absurd (omega arith) }

  pub used : (ops : List Op) (op : Op) (free : ℕ) → uses op ≡ true → free ≤ ends op → IsFreeFrom ops free → IsFreeFrom (ops ++ op ∷ []) (ends op)
  used ops op free does h f = record {
    over = λ tick over. count_push_no (unfinished tick) ops op (rw (does, le-ltb tick (ends op) over) refl) ∙ f.over tick (omega arith);
    held = λ tick before. more _ _ (count_push_yes (unfinished tick) ops op (rw (does, lt-ltb tick (ends op) before) refl));
  }
    where
      more : (a b : ℕ) → a ≡ b + 1 → 1 ≤ a
      more a b e = omega arith

  pub unused : (ops : List Op) (op : Op) (free : ℕ) → uses op ≡ false → IsFreeFrom ops free → IsFreeFrom (ops ++ op ∷ []) free
  unused ops op free doesnt f = record {
    over = λ tick over. count_push_no (unfinished tick) ops op (rw doesnt refl) ∙ f.over tick over;
    held = λ tick before. rw (count_push_no (unfinished tick) ops op (rw doesnt refl)) (f.held tick before);
  }

  -- of operations that have started, the ones that aren't over hold the port
  pub open_ones : (tick : ℕ) (ops : List Op) → All (λ o. start o ≤ tick) ops → count_by (holds tick) ops ≡ count_by (unfinished tick) ops
  open_ones tick ops begun = count_alike (holds tick) (unfinished tick) ops (λ k d h. ap (λ b. uses (get_or ops k d) && (b && nat_lt tick (ends (get_or ops k d)))) (le-leb (start (get_or ops k d)) tick (begun k d h)))

  module _ (ops : List Op) (op : Op) (begun : All (λ o. start o ≤ start op) ops) where
    later : (tick : ℕ) → start op ≤ tick → All (λ o. start o ≤ tick) ops
    later tick h k d l = let first = begun k d l in omega (arith, first)

    -- an operation fits onto a port that it doesn't use, and onto one that is free
    pub fits_unused : uses op ≡ false → ((tick : ℕ) → count_by (holds tick) ops ≤ 1) → (tick : ℕ) → count_by (holds tick) (ops ++ op ∷ []) ≤ 1
    fits_unused doesnt single tick = rw (count_push_no (holds tick) ops op (rw doesnt refl)) (single tick)

    pub fits_free : (free : ℕ) → free ≤ start op → IsFreeFrom ops free → ((tick : ℕ) → count_by (holds tick) ops ≤ 1) → (tick : ℕ) → count_by (holds tick) (ops ++ op ∷ []) ≤ 1
    fits_free free h f single tick =
        elim (cases_lt tick (start op)) [
          | inl before ↦ rw (count_push_no (holds tick) ops op (not_yet (uses op) _ (lt-leb (start op) tick before))) (single tick)
          | inr after ↦ one_at_most _ _ (holds tick op) (count_push (holds tick) ops op) (open_ones tick ops (later tick after) ∙ f.over tick (omega arith))
        ]
      where
        not_yet : (a b : Bool) {c : Bool} → c ≡ false → (a && (c && b)) ≡ false
        not_yet true b e = rw e refl
        not_yet false b e = refl

        one_at_most : (a c : ℕ) (b : Bool) → a ≡ c + cond b 1 0 → c ≡ 0 → a ≤ 1
        one_at_most a c true e f = omega (arith, e)
        one_at_most a c false e f = omega (arith, e)

    -- it doesn't fit onto one that isn't
    pub fits_not : (free : ℕ) → uses op ≡ true → start op < free → start op < ends op → IsFreeFrom ops free → ((tick : ℕ) → count_by (holds tick) (ops ++ op ∷ []) ≤ 1) → ⊥
    fits_not free does busy lasts f single =
        two _ _ (single (start op))
        (count_push_yes (holds (start op)) ops op (rw (does, le-leb (start op) (start op) (omega arith), lt-ltb (start op) (ends op) lasts) refl))
        (rw (open_ones (start op) ops begun) (f.held (start op) busy))
      where
        two : (a c : ℕ) → a ≤ 1 → a ≡ c + 1 → 1 ≤ c → ⊥
        two a c h e f = omega arith

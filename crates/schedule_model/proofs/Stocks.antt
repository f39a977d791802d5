-- Whether a node has received what it begins with, told from counts.
use Rattle.std.proofs.Common.{◌≡◌, ℕ, ◌+◌, ◌<◌, ◌≤◌, Bool, true, false, ◌&&◌, cond, nat_lt, nat_le, List, [], ◌∷◌, ◌++◌, get_or, All, count_by, refl, ◌∙◌, arith, ◌⊎◌, inl, inr}
use Rattle.std.proofs.lemmas.Bool.{cases_lt, lt-ltb, le-ltb, le-leb, lt-leb}
use Rattle.std.proofs.lemmas.Bool.Decides.{nat_tests}
use Rattle.std.proofs.lemmas.List.Elements.{All-head, All-tail}
use Rattle.std.proofs.lemmas.List.Sums.{sum_by-cons, sum_by-append, sum_by-le-sum_by}
use Rattle.schedule_model.proofs.PortUse.{count_push, count_push_no, count_push_yes, count_alike, unfinished, IsFreeFrom}

-- a test that passes no more counts no more
pub count_fewer : {A : Type 0} (p q : A → Bool) (xs : List A) → ((x : A) → p x ≡ true → q x ≡ true) → count_by p xs ≤ count_by q xs
count_fewer p q xs h = sum_by-le-sum_by (λ x. cond (p x) 1 0) (λ x. cond (q x) 1 0) xs (λ x. each (p x) (q x) (h x))
  where
    each : (a b : Bool) → (a ≡ true → b ≡ true) → cond a 1 0 ≤ cond {A = ℕ} b 1 0
    each false b h = omega arith
    each true b h = rw (h refl) (omega arith)

module _ {Op : Type 0} (takes brings : Op → Bool) (start ends : Op → ℕ) where
  -- the operation takes a task and has begun by the tick
  abbrev pub begun_by : ℕ → Op → Bool
  begun_by tick op = takes op && nat_le (start op) tick

  -- the operation brings a task and is over by the tick
  abbrev pub come_by : ℕ → Op → Bool
  come_by tick op = brings op && nat_le (ends op) tick

  -- at no tick more has been taken than has come
  abbrev pub IsStocked : List Op → Type 0
  IsStocked ops = (tick : ℕ) → count_by (begun_by tick) ops ≤ count_by (come_by tick) ops

  -- what is on its way at a tick, where the last arrival is told
  abbrev pub on_the_way : ℕ → ℕ → ℕ
  on_the_way free tick = cond (nat_lt tick free) 1 0

  all_begun : (tick : ℕ) (ops : List Op) → All (λ o. start o ≤ tick) ops → count_by (begun_by tick) ops ≡ count_by takes ops
  all_begun tick ops begun = count_alike (begun_by tick) takes ops (λ k d h. whole (takes (get_or ops k d)) (le-leb (start (get_or ops k d)) tick (begun k d h)))
    where
      whole : (a : Bool) {b : Bool} → b ≡ true → (a && b) ≡ a
      whole true e = e
      whole false e = refl

  -- what is brought has come or isn't over
  come_or_not : (tick : ℕ) (ops : List Op) → count_by brings ops ≡ count_by (come_by tick) ops + count_by (unfinished brings start ends tick) ops
  come_or_not tick [] = refl
  come_or_not tick (op ∷ ops) =
      sums _ _ _ _ _ _ _ _ _ (sum_by-cons (λ o. cond (brings o) 1 0) op ops) (sum_by-cons (λ o. cond (come_by tick o) 1 0) op ops)
      (sum_by-cons (λ o. cond (unfinished brings start ends tick o) 1 0) op ops) (one_way (brings op) tick (ends op)) (come_or_not tick ops)
    where
      sums : (a b c x y z p q r : ℕ) → a ≡ x + p → b ≡ y + q → c ≡ z + r → x ≡ y + z → p ≡ q + r → a ≡ b + c
      sums a b c x y z p q r e f g h k = omega arith

      one_way : (b : Bool) (tick end : ℕ) → cond b 1 0 ≡ cond (b && nat_le end tick) 1 0 + cond {A = ℕ} (b && nat_lt tick end) 1 0
      one_way false tick end = refl
      one_way true tick end = elim (cases_lt tick end) [
        | inl before ↦ rw (lt-leb end tick before, lt-ltb tick end before) refl
        | inr after ↦ rw (le-leb end tick after, le-ltb tick end after) refl
      ]

  come_grows : (ops : List Op) (early late : ℕ) → early ≤ late → count_by (come_by early) ops ≤ count_by (come_by late) ops
  come_grows ops early late h = count_fewer (come_by early) (come_by late) ops (λ op. each (brings op) (ends op))
    where
      each : (b : Bool) (end : ℕ) → (b && nat_le end early) ≡ true → (b && nat_le end late) ≡ true
      each false end e = e
      each true end e = grind (arith, nat_tests)

  module _ (ops : List Op) (op : Op) (free : ℕ) (begun : All (λ o. start o ≤ start op) ops) where
    later : (tick : ℕ) → start op ≤ tick → All (λ o. start o ≤ tick) ops
    later tick h k d l = let first = begun k d l in omega (arith, first)

    more_come : (tick : ℕ) → count_by (come_by tick) ops ≤ count_by (come_by tick) (ops ++ op ∷ [])
    more_come tick = no_less _ _ _ (count_push (come_by tick) ops op)
      where
        no_less : (a b c : ℕ) → a ≡ b + c → b ≤ a
        no_less a b c e = omega arith

    -- an operation that takes nothing changes nothing
    pub takes_none : takes op ≡ false → IsStocked ops → IsStocked (ops ++ op ∷ [])
    takes_none doesnt stocked tick =
        let less = stocked tick in
        let more = more_come tick in
        rw (count_push_no (begun_by tick) ops op (rw doesnt refl)) (omega (arith, less, more))

    -- one that takes what has come leaves no want
    pub takes_one : IsFreeFrom brings start ends ops free → count_by (unfinished brings start ends (start op)) ops ≤ 1 →
        count_by takes ops + on_the_way free (start op) < count_by brings ops → IsStocked ops → IsStocked (ops ++ op ∷ [])
    takes_one f single enough stocked tick =
        let more = more_come tick in
        elim (cases_lt tick (start op)) [
          | inl before ↦
              let less = stocked tick in
              rw (count_push_no (begun_by tick) ops op (not_yet (takes op) (lt-leb (start op) tick before))) (omega (arith, less, more))
          | inr after ↦
              let come = come_grows ops (start op) tick after in
              supply _ _ _ _ _ _ _ _ _ (count_push (begun_by tick) ops op) (at_most_one (begun_by tick op)) (all_begun tick ops (later tick after)) enough
              (come_or_not (start op) ops) (way (cases_lt (start op) free)) come more
        ]
      where
        not_yet : (a : Bool) {c : Bool} → c ≡ false → (a && c) ≡ false
        not_yet true e = e
        not_yet false e = refl

        at_most_one : (b : Bool) → cond b 1 0 ≤ 1
        at_most_one true = omega arith
        at_most_one false = omega arith

        way : ((start op < free) ⊎ (free ≤ start op)) → count_by (unfinished brings start ends (start op)) ops ≤ on_the_way free (start op)
        way (inl busy) = rw (lt-ltb (start op) free busy) single
        way (inr over) = rw (le-ltb (start op) free over, f.over (start op) over) (omega arith)

        supply : (a b one taken brought way come held all : ℕ) → a ≡ b + one → one ≤ 1 → b ≡ taken → taken + way < brought → brought ≡ come + held → held ≤ way →
            come ≤ all → {whole : ℕ} → all ≤ whole → a ≤ whole
        supply a b one taken brought way come held all e f g h i j k l = omega arith

    -- one that takes what hasn't come leaves a want
    pub takes_too_much : takes op ≡ true → start op < ends op → IsFreeFrom brings start ends ops free →
        (count_by takes ops + on_the_way free (start op) < count_by brings ops → ⊥) → IsStocked (ops ++ op ∷ []) → ⊥
    takes_too_much does lasts f lacking stocked =
        lacking (supply _ _ _ _ _ _ _
        (count_push_yes (begun_by (start op)) ops op (rw (does, le-leb (start op) (start op) (omega arith)) refl)) (all_begun (start op) ops begun)
        (count_push_no (come_by (start op)) ops op (not_over (brings op) (lt-leb (ends op) (start op) lasts))) (stocked (start op)) (come_or_not (start op) ops)
        (way (cases_lt (start op) free)))
      where
        not_over : (a : Bool) {c : Bool} → c ≡ false → (a && c) ≡ false
        not_over true e = e
        not_over false e = refl

        way : ((start op < free) ⊎ (free ≤ start op)) → on_the_way free (start op) ≤ count_by (unfinished brings start ends (start op)) ops
        way (inl busy) = rw (lt-ltb (start op) free busy) (f.held (start op) busy)
        way (inr over) = rw (le-ltb (start op) free over) (omega arith)

        supply : (a taken come come' brought held way : ℕ) {b : ℕ} → a ≡ b + 1 → b ≡ taken → come' ≡ come → a ≤ come' → brought ≡ come + held → way ≤ held → taken + way < brought
        supply a taken come come' brought held way e f g h i j = omega arith

  -- the front of a stocked list is stocked, where what follows starts no earlier
  pub front_stocked : (xs ys : List Op) (from : ℕ) → All (λ o. start o ≤ from) xs → All (λ o. from < ends o) ys → IsStocked (xs ++ ys) → IsStocked xs
  front_stocked xs ys from begun after stocked tick =
      elim (cases_lt from tick) [
        | inr early ↦ at tick early
        | inl late ↦
            let here = at from (omega arith) in
            let come = come_grows xs from tick (omega arith) in
            let same = all_begun tick xs (λ k d l. let first = begun k d l in omega (arith, first)) in
            let same_here = all_begun from xs begun in
            omega (arith, here, come, same, same_here)
      ]
    where
      not_over : (a : Bool) {c : Bool} → c ≡ false → (a && c) ≡ false
      not_over true e = e
      not_over false e = refl

      none_come : (tick : ℕ) → tick ≤ from → (ys : List Op) → All (λ o. from < ends o) ys → count_by (come_by tick) ys ≡ 0
      none_come tick h [] after = refl
      none_come tick h (op ∷ ys) after =
          let ends_later = All-head (λ o. from < ends o) op ys after in
          sum_by-cons (λ o. cond (come_by tick o) 1 0) op ys
          ∙ rw (not_over (brings op) (lt-leb (ends op) tick (omega (arith, ends_later))), none_come tick h ys (All-tail (λ o. from < ends o) op ys after)) refl

      fewer : (a b x y p q : ℕ) → a ≡ x + p → b ≡ y + q → q ≡ 0 → a ≤ b → x ≤ y
      fewer a b x y p q e f g h = omega arith

      at : (tick : ℕ) → tick ≤ from → count_by (begun_by tick) xs ≤ count_by (come_by tick) xs
      at tick h =
          fewer _ _ _ _ _ _ (sum_by-append (λ o. cond (begun_by tick o) 1 0) xs ys) (sum_by-append (λ o. cond (come_by tick o) 1 0) xs ys) (none_come tick h ys after) (stocked tick)

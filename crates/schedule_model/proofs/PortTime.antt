-- The port lemma: operations that use one port follow each other, so that their durations fit into the schedule's length.
use Rattle.std.proofs.Common.{◌≡◌, ℕ, suc, ◌+◌, ◌≤◌, Bool, true, false, ◌&&◌, cond, nat_lt, nat_le, List, [], ◌∷◌, refl, ap, arith, ◌⊎◌, inl, inr, All, count_by, sum_by}
use Rattle.std.specs.List.Sorted.{IsNonDecreasingBy}
use Rattle.std.proofs.lemmas.Bool.Decides.{nat_tests}
use Rattle.std.proofs.lemmas.List.Elements.{All-head, All-tail}
use Rattle.std.proofs.lemmas.List.Sums.{sum_by-cons}

module _ {Op : Type 0} (uses : Op → Bool) (start : Op → ℕ) (lasts : Op → ℕ) where
  -- the operation holds the port at the tick
  abbrev pub holds : ℕ → Op → Bool
  holds tick op = uses op && (nat_le (start op) tick && nat_lt tick (start op + lasts op))

  -- the ticks of the operations that use the port
  abbrev pub port_time : List Op → ℕ
  port_time ops = sum_by (λ op. cond (uses op) (lasts op) 0) ops

  -- each operation that uses the port starts at a tick or later
  abbrev pub StartFrom : ℕ → List Op → Type 0
  StartFrom tick [] = Unit {0}
  StartFrom tick (op ∷ ops) = (uses op ≡ true → tick ≤ start op) × StartFrom tick ops

  abbrev pub AllStartFrom : ℕ → List Op → Type 0
  AllStartFrom tick [] = Unit {0}
  AllStartFrom tick (op ∷ ops) = (tick ≤ start op) × AllStartFrom tick ops

  abbrev pub InOrder : List Op → Type 0
  InOrder [] = Unit {0}
  InOrder (op ∷ ops) = AllStartFrom (start op) ops × InOrder ops

  all_from : (tick : ℕ) (ops : List Op) → All (λ op. tick ≤ start op) ops → AllStartFrom tick ops
  all_from tick [] h = tt
  all_from tick (op ∷ ops) h = (All-head (λ o. tick ≤ start o) op ops h, all_from tick ops (All-tail (λ o. tick ≤ start o) op ops h))

  -- starts that don't fall along the list
  pub in_order : (ops : List Op) → IsNonDecreasingBy start ops → InOrder ops
  in_order [] h = tt
  in_order (op ∷ ops) h = (
    all_from (start op) ops (λ k d l. h 0 (suc k) d (omega arith) (omega arith)),
    in_order ops (λ i j d l m. h (suc i) (suc j) d (omega arith) (omega arith)),
  )

  pub from_zero : (ops : List Op) → StartFrom 0 ops
  from_zero [] = tt
  from_zero (op ∷ ops) = (λ _. omega arith, from_zero ops)

  count_cons : (tick : ℕ) (op : Op) (ops : List Op) → count_by (holds tick) (op ∷ ops) ≡ cond (holds tick op) 1 0 + count_by (holds tick) ops
  count_cons tick op ops = sum_by-cons (λ o. cond (holds tick o) 1 0) op ops

  -- what starts later starts after the end of an operation that uses the port
  after_end : (op : Op) → uses op ≡ true → (ops : List Op) → AllStartFrom (start op) ops → All (λ o. 1 ≤ lasts o) ops →
      ((tick : ℕ) → cond (holds tick op) 1 0 + count_by (holds tick) ops ≤ 1) → StartFrom (start op + lasts op) ops
  after_end op u [] from some single = tt
  after_end op u (next ∷ rest) from some single = (
    λ v. apart op next rest u v from.0 (All-head (λ o. 1 ≤ lasts o) next rest some) (single (start next)) (count_cons (start next) next rest),
    after_end op u rest from.1 (All-tail (λ o. 1 ≤ lasts o) next rest some) (λ tick. fewer _ _ _ _ (count_cons tick next rest) (single tick)),
  )
    where
      fewer : (a b c n : ℕ) → b ≡ n + c → a + b ≤ 1 → a + c ≤ 1
      fewer a b c n e h = omega arith

      apart : (op next : Op) (rest : List Op) → uses op ≡ true → uses next ≡ true → start op ≤ start next → 1 ≤ lasts next →
          cond (holds (start next) op) 1 0 + count_by (holds (start next)) (next ∷ rest) ≤ 1 →
          count_by (holds (start next)) (next ∷ rest) ≡ cond (holds (start next) next) 1 0 + count_by (holds (start next)) rest →
          start op + lasts op ≤ start next
      apart op next rest u v later some single split =
          let here : holds (start next) next ≡ true = rw v (grind (arith, nat_tests)) in
          elim (held_or_over op next u later) [
            | inl held ↦ absurd (two _ _ _ _ single split (ap (λ b. cond {A = ℕ} b 1 0) held) (ap (λ b. cond {A = ℕ} b 1 0) here))
            | inr over ↦ over
          ]
        where
          held_or_over : (op next : Op) → uses op ≡ true → start op ≤ start next → (holds (start next) op ≡ true) ⊎ (start op + lasts op ≤ start next)
          held_or_over op next u later = rw u (grind (arith, nat_tests))

          two : (v w b n : ℕ) → v + b ≤ 1 → b ≡ w + n → v ≡ 1 → w ≡ 1 → ⊥
          two v w b n h e f g = omega arith

  -- the operations of a port take no more ticks than there are up to the end of the last
  pub port_time_fits : (last from : ℕ) (ops : List Op) → from ≤ last → StartFrom from ops → InOrder ops → All (λ o. 1 ≤ lasts o) ops →
      All (λ o. start o + lasts o ≤ last) ops → ((tick : ℕ) → count_by (holds tick) ops ≤ 1) → port_time ops + from ≤ last
  port_time_fits last from [] h start order some in_time single = omega arith
  port_time_fits last from (op ∷ ops) h starts order some in_time single =
      let cons = sum_by-cons (λ o. cond (uses o) (lasts o) 0) op ops in
      let rest = (λ (tick : ℕ). fewer _ _ _ (count_cons tick op ops) (single tick)) in
      elim (used_or_not (uses op)) [
        | inl used ↦
            let ends = All-head (λ o. start o + lasts o ≤ last) op ops in_time in
            let later = after_end op used ops order.0 (All-tail (λ o. 1 ≤ lasts o) op ops some) (λ tick. same _ _ (count_cons tick op ops) (single tick)) in
            let shorter = port_time_fits last (start op + lasts op) ops ends later order.1 (All-tail (λ o. 1 ≤ lasts o) op ops some) (All-tail (λ o. start o + lasts o ≤ last) op ops in_time) rest in
            with_op _ _ _ _ _ _ _ cons (ap (λ b. cond b (lasts op) 0) used) (starts.0 used) shorter
        | inr unused ↦
            without_op _ _ _ _ _ cons (ap (λ b. cond b (lasts op) 0) unused)
            (port_time_fits last from ops h starts.1 order.1 (All-tail (λ o. 1 ≤ lasts o) op ops some) (All-tail (λ o. start o + lasts o ≤ last) op ops in_time) rest)
      ]
    where
      used_or_not : (b : Bool) → (b ≡ true) ⊎ (b ≡ false)
      used_or_not true = inl refl
      used_or_not false = inr refl

      fewer : (b c n : ℕ) → b ≡ n + c → b ≤ 1 → c ≤ 1
      fewer b c n e h = omega arith

      same : (b c : ℕ) → b ≡ c → b ≤ 1 → c ≤ 1
      same b c e h = omega arith

      with_op : (total v rest first long from last : ℕ) → total ≡ v + rest → v ≡ long → from ≤ first → rest + (first + long) ≤ last → total + from ≤ last
      with_op total v rest first long from last e f g h = omega arith

      without_op : (total v rest from last : ℕ) → total ≡ v + rest → v ≡ 0 → rest + from ≤ last → total + from ≤ last
      without_op total v rest from last e f h = omega arith

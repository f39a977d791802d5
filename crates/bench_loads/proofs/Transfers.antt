-- The transfers of a chain, in which each node sends to the next.
use Rattle.std.proofs.Common.{◌≡◌, ℕ, suc, ◌+◌, ◌<◌, ◌≤◌, cond, nat_eq, List, [], ◌∷◌, ◌++◌, length, length-append, get_or, arith, refl, sym, ◌∙◌, ap, inl, inr}
use Rattle.std.proofs.lemmas.Bool.{cases_eq, cases_lt, eq-eqb, ne_eqb}
use Rattle.std.proofs.lemmas.List.{get_or_push, get_or_append_left}
use Rattle.std.proofs.lemmas.List.Elements.{All-from_get_or}
use Rattle.std.proofs.lemmas.List.Sums.{sum_by_push}
use Rattle.std.proofs.lemmas.Option.{get_or_from_slice_get, slice_get_within}
use Rattle.bipartite_slots.specs.Parts.{leaving, entering, Exist, AreApart, AreWithin}
use Rattle.bipartite_slots.specs.declared.weights.Edge.{Edge}

-- n transfers, the k-th from node k to the next, each of at most 20000 ticks
pub record AreInChain (n : ℕ) (edges : List Edge) : Type 0 where
  pub size : length edges ≡ n
  pub places : (k : ℕ) (d : Edge) → k < n → ((get_or edges k d).from ≡ k) × ((get_or edges k d).to ≡ suc k)
  pub leaves : (v : ℕ) → v < n → leaving edges v ≤ 20000
  pub no_more : (v : ℕ) → n ≤ v → leaving edges v ≡ 0
  pub enters : (v : ℕ) → entering edges v ≤ 20000
  pub none_yet : (v : ℕ) → n < v → entering edges v ≡ 0

pub empty_chain : AreInChain 0 []
empty_chain = record {
  size = refl;
  places = λ k d l. absurd (omega arith);
  leaves = λ v l. absurd (omega arith);
  no_more = λ v l. refl;
  enters = λ v. omega arith;
  none_yet = λ v l. refl;
}

leaving_pushed : (edges : List Edge) (e : Edge) (v : ℕ) → leaving (edges ++ e ∷ []) v ≡ leaving edges v + cond (nat_eq e.from v) e.weight 0
leaving_pushed edges e v = sum_by_push (λ x. cond {A = ℕ} (nat_eq x.from v) x.weight 0) edges e

entering_pushed : (edges : List Edge) (e : Edge) (v : ℕ) → entering (edges ++ e ∷ []) v ≡ entering edges v + cond (nat_eq e.to v) e.weight 0
entering_pushed edges e v = sum_by_push (λ x. cond {A = ℕ} (nat_eq x.to v) x.weight 0) edges e

pub longer_chain : (n : ℕ) (edges : List Edge) (w : ℕ) → AreInChain n edges → w ≤ 20000 → AreInChain (suc n) (edges ++ record { from = n; to = suc n; weight = w } ∷ [])
longer_chain n edges w chain few =
    let e : Edge = record { from = n; to = suc n; weight = w } in
    let own : (v : ℕ) → n ≡ v → cond {A = ℕ} (nat_eq n v) w 0 ≡ w = λ v same. ap (λ b. cond {A = ℕ} b w 0) (eq-eqb n v same) in
    let no_own : (v : ℕ) → (n ≡ v → ⊥) → cond {A = ℕ} (nat_eq n v) w 0 ≡ 0 = λ v apart. ap (λ b. cond {A = ℕ} b w 0) (ne_eqb n v apart) in
    let next : (v : ℕ) → suc n ≡ v → cond {A = ℕ} (nat_eq (suc n) v) w 0 ≡ w = λ v same. ap (λ b. cond {A = ℕ} b w 0) (eq-eqb (suc n) v same) in
    let no_next : (v : ℕ) → (suc n ≡ v → ⊥) → cond {A = ℕ} (nat_eq (suc n) v) w 0 ≡ 0 = λ v apart. ap (λ b. cond {A = ℕ} b w 0) (ne_eqb (suc n) v apart) in
    let size = chain.size in
    record {
      size = omega (arith, length-append edges (e ∷ []), size);
      places = λ k d l.
          elim (cases_eq k n) [
            | inl same ↦
                let here : get_or (edges ++ e ∷ []) k d ≡ e = get_or_push edges e d k (size ∙ sym same) in
                (ap (λ x. x.from) here ∙ sym same, ap (λ x. x.to) here ∙ ap suc (sym same))
            | inr before ↦
                let there : get_or (edges ++ e ∷ []) k d ≡ get_or edges k d = get_or_append_left edges (e ∷ []) d k (omega (arith, size)) in
                let old = chain.places k d (omega arith) in
                (ap (λ x. x.from) there ∙ old.0, ap (λ x. x.to) there ∙ old.1)
          ];
      leaves = λ v l.
          elim (cases_eq n v) [
            | inl same ↦ omega (arith, leaving_pushed edges e v, own v same, chain.no_more v (omega arith), few)
            | inr apart ↦ omega (arith, leaving_pushed edges e v, no_own v apart, chain.leaves v (omega arith))
          ];
      no_more = λ v l. omega (arith, leaving_pushed edges e v, no_own v (λ same. absurd (omega arith)), chain.no_more v (omega arith));
      enters = λ v.
          elim (cases_eq (suc n) v) [
            | inl same ↦ omega (arith, entering_pushed edges e v, next v same, chain.none_yet v (omega arith), few)
            | inr apart ↦ omega (arith, entering_pushed edges e v, no_next v apart, chain.enters v)
          ];
      none_yet = λ v l. omega (arith, entering_pushed edges e v, no_next v (λ same. absurd (omega arith)), chain.none_yet v (omega arith));
    }

pub chain_exists : (n : ℕ) (edges : List Edge) → AreInChain n edges → Exist (record { nodes = suc n; edges = edges })
chain_exists n edges chain =
    let none : Edge = record { from = 0; to = 0; weight = 0 } in
    let size = chain.size in
    All-from_get_or (λ (e : Edge). (e.from < suc n) × (e.to < suc n)) edges none
    (λ k l. let at = chain.places k none (omega (arith, size)) in (omega (arith, at.0, size, l), omega (arith, at.1, size, l)))

pub chain_within : (n : ℕ) (edges : List Edge) → AreInChain n edges → AreWithin (record { nodes = suc n; edges = edges }) 20000
chain_within n edges chain = record {
  leave = λ v l.
      elim (cases_lt v n) [
        | inl less ↦ chain.leaves v less
        | inr more ↦ let none = chain.no_more v more in omega (arith, none)
      ];
  enter = λ v l. chain.enters v;
}

pub chain_apart : (n : ℕ) (edges : List Edge) → AreInChain n edges → AreApart edges
chain_apart n edges chain first second one other is_one is_other same_from same_to =
    let size = chain.size in
    let first_within = slice_get_within edges first one is_one in
    let second_within = slice_get_within edges second other is_other in
    let first_at : one.from ≡ first = sym (ap (λ x. x.from) (get_or_from_slice_get edges first one one is_one)) ∙ (chain.places first one (omega (arith, first_within, size))).0 in
    let second_at : other.from ≡ second = sym (ap (λ x. x.from) (get_or_from_slice_get edges second other other is_other)) ∙ (chain.places second other (omega (arith, second_within, size))).0 in
    sym first_at ∙ same_from ∙ second_at

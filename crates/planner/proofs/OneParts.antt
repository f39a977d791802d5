-- The ruled parts are one list.
use Rattle.std.proofs.Common.{◌≡◌, ℕ, zero, suc, ◌-◌, ◌<◌, ◌≤◌, List, [], ◌∷◌, All, sum_by, slice_index, arith, refl, sym, ap, ap₂, ◌∙◌, subst, subst₂, inl, inr, ext_get_or}
use Rattle.std.proofs.lemmas.Bool.{cases_lt, cases_order}
use Rattle.std.proofs.lemmas.List.Elements.{All-head, All-tail}
use Rattle.std.proofs.lemmas.List.Sums.{sum_by-cons}
use Rattle.bipartite_slots.specs.Matchings.{IsFirstMatching}
use Rattle.bipartite_slots.specs.Parts.{lowered, IsLeastCell, edges_from, AreChosen}
use Rattle.bipartite_slots.specs.declared.weights.Edge.{Edge}
use Rattle.bipartite_slots.specs.declared.weights.SlotPart.{SlotPart}

-- ---- the first perfect matching over some cells is one: at the first row at which two differ, one comes before the other

module _ (size : ℕ) (cells : ℕ → ℕ → ℕ) (columns others : List ℕ) (first : IsFirstMatching size cells columns) (also : IsFirstMatching size cells others) where
  agree_at : (row : ℕ) → row < size → ((earlier : ℕ) → earlier < row → slice_index columns earlier ≡ slice_index others earlier) → slice_index columns row ≡ slice_index others row
  agree_at row inside before =
      elim (cases_order (slice_index columns row) (slice_index others row)) [
        | inl same ↦ same
        | inr (inl less) ↦ absurd (also.first columns first.perfect (row, inside, before, less))
        | inr (inr more) ↦ absurd (first.first others also.perfect (row, inside, λ earlier l. sym (before earlier l), more))
      ]

  agree_below : (bound : ℕ) → bound ≤ size → (row : ℕ) → row < bound → slice_index columns row ≡ slice_index others row
  agree_below zero inside row l = absurd (omega arith)
  agree_below (suc bound) inside row l =
      elim (cases_lt row bound) [
        | inl less ↦ agree_below bound (omega arith) row less
        | inr more ↦ agree_at row (omega arith) (λ earlier k. agree_below bound (omega arith) earlier (omega arith))
      ]

  first_is_one : columns ≡ others
  first_is_one = ext_get_or 0 columns others (first.perfect.one_a_row ∙ sym also.perfect.one_a_row) (λ row l. agree_below size (omega arith) row (omega (arith, l, first.perfect.one_a_row)))

-- ---- so is its least cell, and what the parts take one after another

least_is_one : (size : ℕ) (cells : ℕ → ℕ → ℕ) (columns : List ℕ) (a b : ℕ) → IsLeastCell size cells columns a → IsLeastCell size cells columns b → a ≡ b
least_is_one size cells columns a b least also = omega (arith, least.at_most also.at also.inside, also.reached, also.at_most least.at least.inside, least.reached)

abbrev part_of : ℕ → List ℕ → SlotPart
part_of duration edges = record { duration = duration; edges = edges }

-- parts that last some time each and take no time together are none
none_left : (part : SlotPart) (parts : List SlotPart) (left : ℕ) → All (λ (p : SlotPart). 1 ≤ p.duration) (part ∷ parts) → sum_by (λ (p : SlotPart). p.duration) (part ∷ parts) ≡ left → 0 ≡ left → ⊥
none_left part parts left lasting whole none =
    let some = All-head (λ (p : SlotPart). 1 ≤ p.duration) part parts lasting in omega (arith, sum_by-cons (λ (p : SlotPart). p.duration) part parts, whole, none, some)

less_left : (part : SlotPart) (parts : List SlotPart) (left : ℕ) → sum_by (λ (p : SlotPart). p.duration) (part ∷ parts) ≡ left → sum_by (λ (p : SlotPart). p.duration) parts ≡ left - part.duration
less_left part parts left whole = omega (arith, sum_by-cons (λ (p : SlotPart). p.duration) part parts, whole)

pub parts_are_one : (size : ℕ) (edges : List Edge) (cells : ℕ → ℕ → ℕ) (left : ℕ) (parts others : List SlotPart) →
    All (λ (p : SlotPart). 1 ≤ p.duration) parts → All (λ (p : SlotPart). 1 ≤ p.duration) others → sum_by (λ (p : SlotPart). p.duration) parts ≡ left → sum_by (λ (p : SlotPart). p.duration) others ≡ left →
    AreChosen size edges cells left parts → AreChosen size edges cells left others → parts ≡ others
parts_are_one size edges cells left [] [] lasting also_lasting whole also_whole chosen also = refl
parts_are_one size edges cells left [] (other ∷ others) lasting also_lasting whole also_whole chosen also = absurd (none_left other others left also_lasting also_whole whole)
parts_are_one size edges cells left (part ∷ parts) [] lasting also_lasting whole also_whole chosen also = absurd (none_left part parts left lasting whole also_whole)
parts_are_one size edges cells left (part ∷ parts) (other ∷ others) lasting also_lasting whole also_whole chosen also =
    let same_columns : chosen.0 ≡ also.0 = first_is_one size cells chosen.0 also.0 chosen.1 also.1 in
    let same_duration : part.duration ≡ other.duration = least_is_one size cells chosen.0 part.duration other.duration chosen.2 (subst (λ c. IsLeastCell size cells c other.duration) (sym same_columns) also.2) in
    let same_edges : part.edges ≡ other.edges = chosen.3 ∙ ap (edges_from 0 edges) same_columns ∙ sym also.3 in
    let same_part : part ≡ other = ap₂ part_of same_duration same_edges in
    let rest : AreChosen size edges (lowered cells chosen.0 part.duration) (left - part.duration) others = subst₂ (λ c d. AreChosen size edges (lowered cells c d) (left - d) others) (sym same_columns) (sym same_duration) also.4 in
    let same_rest : parts ≡ others = parts_are_one size edges (lowered cells chosen.0 part.duration) (left - part.duration) parts others
    (All-tail (λ (p : SlotPart). 1 ≤ p.duration) part parts lasting) (All-tail (λ (p : SlotPart). 1 ≤ p.duration) other others also_lasting)
    (less_left part parts left whole) (less_left other others left also_whole ∙ ap (λ d. left - d) (sym same_duration)) chosen.4 rest in
    ap₂ (λ p ps. p ∷ ps) same_part same_rest

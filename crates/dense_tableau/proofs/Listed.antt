-- Rows that are combined in listed columns alone.
use Rattle.std.proofs.Common.{◌≡◌, ◌≢◌, ℕ, ◌+◌, ◌<◌, ◌≤◌, ◌^◌, ℤ, pos, nat_abs, ◌-ℤ◌, ◌*ℤ◌, List, length, take, slice_index, slice_set, arith, sym, ◌∙◌, ap, inl, inr}
use Rattle.std.proofs.lemmas.Bool.{cases_eq}
use Rattle.std.proofs.lemmas.List.{get_or-set_same, get_or-set_other, get_or-take, length-take-le}
use Rattle.dense_tableau.specs.Flat.{entry, AreColumns}

-- a cell is its combination with the one below it, or 0 in the pivot's column
pub record IsCombined (own pivot old below : ℤ) (column j : ℕ) (new : ℤ) : Type 0 where
  pub cell : j ≢ column → new ≡ own *ℤ old -ℤ pivot *ℤ below
  pub zero : j ≡ column → new ≡ pos 0
  pub small : nat_abs new < 2 ^ 127

-- the first numbers of a list are ascending columns below a bound, among them all in which the row isn't 0
pub record AreListed (row : List ℤ) (columns : List ℕ) (count bound : ℕ) : Type 0 where
  pub few : count ≤ bound
  pub below : (k : ℕ) → k < count → slice_index columns k < bound
  pub rising : (k m : ℕ) → k < m → m < count → slice_index columns k < slice_index columns m
  pub all : (j : ℕ) → j < bound → ((k : ℕ) → k < count → slice_index columns k ≢ j) → entry row j ≡ pos 0

-- a column in which it is 0 is passed
pub passed : (row : List ℤ) (columns : List ℕ) (count j : ℕ) → entry row j ≡ pos 0 → AreListed row columns count j → AreListed row columns count (j + 1)
passed row columns count j none a = record {
  few = let h = a.few in omega arith;
  below = λ k l. let h = a.below k l in omega arith;
  rising = a.rising;
  all = λ i l other. elim (cases_eq i j) [
    | inl same ↦ rw same none
    | inr apart ↦ a.all i (omega arith) other
  ];
}

-- another one is listed
pub noted : (row : List ℤ) (columns : List ℕ) (count j : ℕ) → count < length columns → AreListed row columns count j → AreListed row (slice_set columns count j) (count + 1) (j + 1)
noted row columns count j room a = record {
  few = let h = a.few in omega arith;
  below = λ k l. elim (cases_eq k count) [
    | inl same ↦ let e : slice_index (slice_set columns count j) k ≡ j = ap (slice_index (slice_set columns count j)) same ∙ here in omega (arith, e)
    | inr apart ↦ let e = beside k apart in let h = a.below k (omega arith) in omega (arith, e, h)
  ];
  rising = λ k m less l. elim (cases_eq m count) [
    | inl same ↦
        let last : slice_index (slice_set columns count j) m ≡ j = ap (slice_index (slice_set columns count j)) same ∙ here in
        let e = beside k (let apart : k ≢ count = omega arith in apart) in
        let h = a.below k (omega arith) in
        omega (arith, last, e, h)
    | inr apart ↦
        let e = beside k (let other : k ≢ count = omega arith in other) in
        let f = beside m apart in
        let h = a.rising k m less (omega arith) in
        omega (arith, e, f, h)
  ];
  all = λ i l other. elim (cases_eq i j) [
    | inl same ↦ absurd (other count (omega arith) (here ∙ sym same))
    | inr apart ↦ a.all i (omega arith) (λ k lower is. other k (omega arith) (beside k (let less : k ≢ count = omega arith in less) ∙ is))
  ];
}
  where
    here : slice_index (slice_set columns count j) count ≡ j
    here = get_or-set_same columns count j 0 room

    beside : (k : ℕ) → k ≢ count → slice_index (slice_set columns count j) k ≡ slice_index columns k
    beside k apart = get_or-set_other columns count k j 0 apart

-- at the end they are the columns of the row
pub all_listed : (row : List ℤ) (columns : List ℕ) (count : ℕ) → count ≤ length columns → AreListed row columns count (length row) → AreColumns row (take count columns)
all_listed row columns count room a = record {
  inside = λ k l. let e = front k (omega (arith, size, l)) in let h = a.below k (omega (arith, size, l)) in omega (arith, e, h);
  rising = λ k m less l.
      let e = front k (omega (arith, size, l, less)) in
      let f = front m (omega (arith, size, l)) in
      let h = a.rising k m less (omega (arith, size, l)) in
      omega (arith, e, f, h);
  all = λ j l other. a.all j l (λ k lower is. other k (omega (arith, size, lower)) (front k lower ∙ is));
}
  where
    size : length (take count columns) ≡ count
    size = length-take-le count columns room

    front : (k : ℕ) → k < count → slice_index (take count columns) k ≡ slice_index columns k
    front k l = get_or-take count columns k 0 l

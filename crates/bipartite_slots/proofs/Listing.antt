-- Going over the listed columns of a row is as good as going over all columns.
use Rattle.std.proofs.Common.{◌≡◌, ℕ, zero, suc, ◌+◌, ◌-◌, ◌<◌, ◌≤◌, inl, inr, Option, Some, List, [], ◌∷◌, ◌++◌, length, get_or, All, Contains, arith, sym, ◌∙◌, subst}
use Rattle.std.proofs.lemmas.Bool.{cases_lt}
use Rattle.std.proofs.lemmas.Grind.{get_or_default_zero}
use Rattle.std.proofs.lemmas.List.{length_push, get_or_append_left, get_or_push}
use Rattle.std.proofs.lemmas.List.Elements.{All-push, Contains-push, Contains-append_left}
use Rattle.std.specs.List.Sorted.{IsStrictlyIncreasing}
use Rattle.bipartite_slots.specs.Searches.{holder}
use Rattle.bipartite_slots.specs.Choices.{Excludes, IsComplete}
use Rattle.bipartite_slots.specs.Columns.{row_of, HasPositives, AreListed}

-- the columns listed once those below a number have been looked at
pub record ListsBelow (cells : ℕ → ℕ) (below : ℕ) (items : List ℕ) : Type 0 where
  pub inside : All (λ column. column < below) items
  pub ascending : IsStrictlyIncreasing items
  pub listed : (column : ℕ) → column < below → 0 < cells column → Contains items column

pub lists_none : (cells : ℕ → ℕ) → ListsBelow cells 0 []
lists_none cells = record {
  inside = λ k d h. absurd (omega arith);
  ascending = λ k h. absurd (omega arith);
  listed = λ column h p. absurd (omega arith);
}

module _ (cells : ℕ → ℕ) (below : ℕ) (items : List ℕ) (lists : ListsBelow cells below items) where
  wider : All (λ column. column < below + 1) items
  wider k d h = let b = lists.inside k d h in omega (arith, b)

  pub lists_push : ListsBelow cells (below + 1) (items ++ below ∷ [])
  lists_push = record {
    inside = All-push (λ column. column < below + 1) items below wider (omega arith);
    ascending = ascending;
    listed = listed;
  }
    where
      ascending : IsStrictlyIncreasing (items ++ below ∷ [])
      ascending k h =
          let n = length_push items below in
          let here = get_or_append_left items (below ∷ []) 0 k (omega (arith, n)) in
          elim (cases_lt (k + 1) (length items)) [
            | inl l ↦
                let next = get_or_append_left items (below ∷ []) 0 (k + 1) l in
                let up = lists.ascending k l in
                omega (arith, here, next, up)
            | inr l ↦
                let next = get_or_push items below 0 (k + 1) (omega (arith, n)) in
                let up = lists.inside k 0 (omega (arith, n)) in
                omega (arith, here, next, up)
          ]

      listed : (column : ℕ) → column < below + 1 → 0 < cells column → Contains (items ++ below ∷ []) column
      listed column h p =
          elim (cases_lt column below) [
            | inl l ↦ Contains-append_left items (below ∷ []) column (lists.listed column l p)
            | inr l ↦
                let e : below ≡ column = omega arith in
                subst (λ n. Contains (items ++ below ∷ []) n) e (Contains-push items below)
          ]

  pub lists_skip : cells below ≡ 0 → ListsBelow cells (below + 1) items
  lists_skip empty = record {
    inside = wider;
    ascending = lists.ascending;
    listed = listed;
  }
    where
      listed : (column : ℕ) → column < below + 1 → 0 < cells column → Contains items column
      listed column h p =
          elim (cases_lt column below) [
            | inl l ↦ lists.listed column l p
            | inr l ↦
                let e : below ≡ column = omega arith in
                let none : cells column ≡ 0 = subst (λ n. cells n ≡ 0) e empty in
                absurd (omega arith)
          ]

-- where all columns have been looked at, the row's positive cells are listed
pub has_positives : (size : ℕ) (cells : ℕ → ℕ) (items : List ℕ) → ((column : ℕ) → 0 < cells column → column < size) → ListsBelow cells size items → HasPositives size cells items
has_positives size cells items exist lists = record {
  inside = lists.inside;
  ascending = lists.ascending;
  listed = λ column p. lists.listed column (exist column p) p;
}

-- the rows listed so far
abbrev pub ListsRows : ℕ → (ℕ → ℕ → ℕ) → List (List ℕ) → Type 0
ListsRows size cells rows = (row : ℕ) → row < length rows → HasPositives size (cells row) (row_of rows row)

pub lists_rows_push : (size : ℕ) (cells : ℕ → ℕ → ℕ) (rows : List (List ℕ)) (new : List ℕ) → ListsRows size cells rows → HasPositives size (cells (length rows)) new →
    ListsRows size cells (rows ++ new ∷ [])
lists_rows_push size cells rows new lists has row h =
    elim (cases_lt row (length rows)) [
      | inl l ↦ subst (HasPositives size (cells row)) (sym (get_or_append_left rows (new ∷ []) [] row l)) (lists row l)
      | inr l ↦
          let e : length rows ≡ row = omega (arith, length_push rows new) in
          subst (HasPositives size (cells row)) (sym (get_or_push rows new [] row e)) (subst (λ n. HasPositives size (cells n) new) e has)
    ]

-- where cells fall, the lists still serve
pub listed_after : (rows : List (List ℕ)) (size size' : ℕ) (cells cells' : ℕ → ℕ → ℕ) → size ≡ size' → ((row column : ℕ) → cells' row column ≤ cells row column) →
    AreListed rows size cells → AreListed rows size' cells'
listed_after rows size size' cells cells' e less listed = subst (λ n. AreListed rows n cells') e (record {
  as_many = listed.as_many;
  each = λ row h. record {
    inside = (listed.each row h).inside;
    ascending = (listed.each row h).ascending;
    listed = λ column p. (listed.each row h).listed column (more _ _ p (less row column));
  };
})
  where
    more : (a b : ℕ) → 0 < a → a ≤ b → 0 < b
    more a b p q = omega arith

module _ (rows : List (List ℕ)) (size : ℕ) (cells : ℕ → ℕ → ℕ) (listed : AreListed rows size cells) (row : ℕ) (items : List ℕ) (are : items ≡ row_of rows row) (below : row < size) where
  -- a listed column exists
  pub item_inside : (k : ℕ) → k < length items → get_or items k 0 < size
  item_inside = subst (λ xs. (k : ℕ) → k < length xs → get_or xs k 0 < size) (sym are) (λ k h. (listed.each row below).inside k 0 h)

  -- a positive cell stands in a listed column
  pub item_of : (column : ℕ) → 0 < cells row column → (k : ℕ) × (k < length items) × (get_or items k 0 ≡ column)
  item_of = subst (λ xs. (column : ℕ) → 0 < cells row column → (k : ℕ) × (k < length xs) × (get_or xs k 0 ≡ column)) (sym are)
      (λ column p. let found = (listed.each row below).listed column p in (found.0, found.1, sym (get_or_default_zero (row_of rows row) found.0 column found.1) ∙ found.2))

  rises : (xs : List ℕ) → IsStrictlyIncreasing xs → (k gap : ℕ) → k + gap < length xs → get_or xs k 0 + gap ≤ get_or xs (k + gap) 0
  rises xs up k zero h = let e : k + 0 ≡ k = omega arith in rw e (omega arith)
  rises xs up k (suc gap) h =
      let e : k + suc gap ≡ k + gap + 1 = omega arith in
      let before = rises xs up k gap (omega arith) in
      let step = up (k + gap) (omega arith) in
      rw e (omega (arith, before, step))

  -- the listed columns ascend: one that is less than another stands before it
  pub item_before : (k j : ℕ) → k < length items → j < length items → get_or items k 0 < get_or items j 0 → k < j
  item_before k j h l less =
      elim (cases_lt k j) [
        | inl before ↦ before
        | inr past ↦
            let up : IsStrictlyIncreasing items = subst IsStrictlyIncreasing (sym are) (listed.each row below).ascending in
            let e : j + (k - j) ≡ k = omega arith in
            let more : get_or items j 0 + (k - j) ≤ get_or items k 0 = subst (λ n. get_or items j 0 + (k - j) ≤ get_or items n 0) e (rises items up j (k - j) (omega arith)) in
            absurd (over _ _ _ more less)
      ]
    where
      over : (a b c : ℕ) → a + b ≤ c → c < a → ⊥
      over a b c p q = omega arith

module _ (rows : List (List ℕ)) (size : ℕ) (cells : ℕ → ℕ → ℕ) (listed : AreListed rows size cells) (row : ℕ) (items : List ℕ) (are : items ≡ row_of rows row)
    (holders : List (Option ℕ)) (inside : row < size) where
  -- where all listed columns before one are excluded, all columns below it are
  pub excluded_below : (index : ℕ) → index < length items → ((k : ℕ) → k < index → Excludes size cells holders row (get_or items k 0)) →
      (column : ℕ) → column < get_or items index 0 → Excludes size cells holders row column
  excluded_below index h before column less columns perfect agrees e =
      let positive : 0 < cells row column = subst (λ n. 0 < cells row n) e (perfect.positive row inside) in
      let found = item_of rows size cells listed row items are inside column positive in
      let earlier = item_before rows size cells listed row items are inside found.0 index found.1 h (subst (λ n. n < get_or items index 0) (sym found.2) less) in
      before found.0 earlier columns perfect agrees (e ∙ sym found.2)

  -- a column whose cell is 0 is excluded
  pub zero_excluded : (column : ℕ) → cells row column ≡ 0 → Excludes size cells holders row column
  zero_excluded column empty columns perfect agrees e =
      let positive : 0 < cells row column = subst (λ n. 0 < cells row n) e (perfect.positive row inside) in
      absurd (omega arith)

  -- the row's own column is listed
  pub own_listed : IsComplete size cells holders → (k : ℕ) × (k < length items) × (holder holders (get_or items k 0) ≡ Some row)
  own_listed complete =
      let own = complete.full row inside in
      let found = item_of rows size cells listed row items are inside own.0 (complete.matching.positive row own.0 own.1) in
      (found.0, found.1, subst (λ n. holder holders n ≡ Some row) (sym found.2) own.1)

-- The first perfect matching is found row by row.
use Rattle.std.proofs.Common.{◌≡◌, ℕ, zero, suc, ◌+◌, ◌<◌, ◌≤◌, ◌≢◌, ◌⊎◌, inl, inr, Bool, true, false, Option, Some, None, List, [], ◌∷◌, ◌++◌, length, get_or, set, arith, refl, sym, ◌∙◌, ap, subst}
use Rattle.std.proofs.lemmas.Bool.{cases_eq, cases_lt, false≢true}
use Rattle.std.proofs.lemmas.List.{get_or-set_same, get_or-set_other, get_or_append_left, get_or_push, length_push, length-set}
use Rattle.std.proofs.lemmas.Option.{none-some, same_Some}
use Rattle.bipartite_slots.specs.Searches.{holder, is_seen, IsMatching, IsPlaced, IsUnplaced, Places, HeldInside, Searched}
use Rattle.bipartite_slots.specs.Choices.{IsComplete, Agrees, Excludes, IsLeastAt, KeepsEarlier, IsFirst}
use Rattle.bipartite_slots.proofs.Growing.{matching_put, put_out, holder_here, holder_elsewhere, held_inside}
use Rattle.bipartite_slots.proofs.Blocked.{never_blocked}
use Rattle.bipartite_slots.proofs.Marks.{marks, marked, marks_full}

-- the matching without the column of one row
module _ (cells : ℕ → ℕ → ℕ) (holders : List (Option ℕ)) (row own : ℕ) where
  pub freed_elsewhere : (other : ℕ) → other ≢ own → holder (set holders own None) other ≡ holder holders other
  freed_elsewhere other ne = get_or-set_other holders own other None None ne

  pub freed_here : own < length holders → holder (set holders own None) own ≡ None
  freed_here l = get_or-set_same holders own None None l

  pub freed_held : own < length holders → (i j : ℕ) → holder (set holders own None) j ≡ Some i → (j ≢ own) × (holder holders j ≡ Some i)
  freed_held l i j e = go (cases_eq j own)
    where
      go : (j ≡ own) ⊎ (j ≢ own) → (j ≢ own) × (holder holders j ≡ Some i)
      go (inl a) = absurd (none-some i (sym (ap (holder (set holders own None)) a ∙ freed_here l) ∙ e))
      go (inr a) = (a, sym (freed_elsewhere j a) ∙ e)

  pub freed_matching : own < length holders → IsMatching cells holders → IsMatching cells (set holders own None)
  freed_matching l m = record {
    once = λ i j k e f. m.once i j k (freed_held l i j e).1 (freed_held l i k f).1;
    positive = λ i j e. m.positive i j (freed_held l i j e).1;
  }

  pub freed_unplaced : own < length holders → IsMatching cells holders → holder holders own ≡ Some row → IsUnplaced (set holders own None) row
  freed_unplaced l m e j f = let h = freed_held l row j f in h.0 (m.once row j own h.1 e)

-- the row has found another column, and each other row has one
pub complete_again : (size : ℕ) (cells : ℕ → ℕ → ℕ) (holders new : List (Option ℕ)) (row own : ℕ) (seen : List Bool) → IsComplete size cells holders →
    holder holders own ≡ Some row → Places cells (set holders own None) new seen row → IsComplete size cells new
complete_again size cells holders new row own seen complete e p = record {
  matching = p.matching;
  full = λ i l. full i (complete.full i l) (cases_eq i row);
}
  where
    full : (i : ℕ) → IsPlaced holders i → (i ≡ row) ⊎ (i ≢ row) → IsPlaced new i
    full i (j, f) (inl a) = subst (IsPlaced new) (sym a) p.placed
    full i (j, f) (inr a) = p.kept i (j, freed_elsewhere cells holders row own j (λ b. a (same_Some i row (sym f ∙ ap (holder holders) b ∙ e))) ∙ f)

-- a column that an earlier row holds is not for this row
pub excluded_earlier : (size : ℕ) (cells : ℕ → ℕ → ℕ) (holders : List (Option ℕ)) (row column earlier : ℕ) → row < size → IsMatching cells holders →
    earlier < row → holder holders column ≡ Some earlier → Excludes size cells holders row column
excluded_earlier size cells holders row column earlier l m k e columns perfect agrees f =
    let there : get_or columns earlier 0 ≡ column = m.once earlier (get_or columns earlier 0) column (agrees earlier k) e in
    apart (perfect.differ row earlier l (omega arith) (f ∙ sym there))
  where
    apart : row ≡ earlier → ⊥
    apart e = omega arith

-- a matching that keeps the columns of earlier rows agrees with no other matchings
pub agrees_before : (cells : ℕ → ℕ → ℕ) (old new : List (Option ℕ)) (row : ℕ) (columns : List ℕ) → IsMatching cells new →
    ((earlier : ℕ) → earlier < row → IsPlaced old earlier) → KeepsEarlier old new row → Agrees columns new row → Agrees columns old row
agrees_before cells old new row columns m placed keeps agrees earlier l =
    let p = placed earlier l in
    let same : p.0 ≡ get_or columns earlier 0 = m.once earlier p.0 (get_or columns earlier 0) (keeps earlier p.0 l p.1) (agrees earlier l) in
    ap (holder old) (sym same) ∙ p.1

pub keeps_fewer : (old new : List (Option ℕ)) (row i : ℕ) → i < row → KeepsEarlier old new row → KeepsEarlier old new i
keeps_fewer old new row i l keeps earlier column h e = keeps earlier column (omega arith) e

-- what was settled stays settled
pub still_least : (size : ℕ) (cells : ℕ → ℕ → ℕ) (old new : List (Option ℕ)) (row i : ℕ) → i < row → row < size → IsComplete size cells old → IsMatching cells new →
    KeepsEarlier old new row → IsLeastAt size cells old i → IsLeastAt size cells new i
still_least size cells old new row i l k complete m keeps least columns perfect agrees column e =
    let p = complete.full i (omega arith) in
    let same : p.0 ≡ column = m.once i p.0 column (keeps i p.0 l p.1) e in
    subst (λ c. c ≤ get_or columns i 0) same
    (least columns perfect (agrees_before cells old new i columns m (λ earlier h. complete.full earlier (omega arith)) (keeps_fewer old new row i l keeps) agrees) p.0 p.1)

-- the columns of the rows, as a list
columns_up_to : (size k : ℕ) (cells : ℕ → ℕ → ℕ) (holders : List (Option ℕ)) → k ≤ size → IsComplete size cells holders →
    (columns : List ℕ) × (length columns ≡ k) × ((row : ℕ) → row < k → holder holders (get_or columns row 0) ≡ Some row)
columns_up_to size zero cells holders l complete = ([], refl, λ row h. absurd (omega arith))
columns_up_to size (suc k) cells holders l complete =
    let before = columns_up_to size k cells holders (omega arith) complete in
    let here = complete.full k (omega arith) in (
      before.0 ++ here.0 ∷ [],
      longer _ _ _ (length_push before.0 here.0) before.1,
      λ row h. at row h before.0 here.0 before.1 before.2 here.1 (cases_eq row k),
    )
  where
    longer : (a b c : ℕ) → a ≡ b + 1 → b ≡ c → a ≡ suc c
    longer a b c e f = omega arith

    at : (row : ℕ) → row < suc k → (columns : List ℕ) (column : ℕ) → length columns ≡ k → ((row : ℕ) → row < k → holder holders (get_or columns row 0) ≡ Some row) →
        holder holders column ≡ Some k → (row ≡ k) ⊎ (row ≢ k) → holder holders (get_or (columns ++ column ∷ []) row 0) ≡ Some row
    at row h columns column e before here (inl a) =
        ap (holder holders) (get_or_push columns column 0 row (e ∙ sym a)) ∙ here ∙ ap Some (sym a)
    at row h columns column e before here (inr a) =
        ap (holder holders) (get_or_append_left columns (column ∷ []) 0 row (omega arith)) ∙ before row (omega arith)

-- rows that are all settled are the first perfect matching
pub first_when_settled : (size : ℕ) (cells : ℕ → ℕ → ℕ) (holders : List (Option ℕ)) → length holders ≡ size → IsComplete size cells holders →
    ((row : ℕ) → row < size → IsLeastAt size cells holders row) → IsFirst size cells holders
first_when_settled size cells holders as_many complete least =
    let all = columns_up_to size size cells holders (omega arith) complete in
    first all.0 all.1 all.2
  where
    first : (columns : List ℕ) → length columns ≡ size → ((row : ℕ) → row < size → holder holders (get_or columns row 0) ≡ Some row) → IsFirst size cells holders
    first columns e held = record {
      columns = columns;
      first = record {
        perfect = record {
          one_a_row = e;
          inside = λ row l. subst (λ n. get_or columns row 0 < n) as_many (held_inside holders row (get_or columns row 0) (held row l));
          positive = λ row l. complete.matching.positive row (get_or columns row 0) (held row l);
          differ = λ row other l k f. same_Some row other (sym (held row l) ∙ ap (holder holders) f ∙ held other k);
        };
        first = λ other perfect (row, l, same, less).
            over _ _ less (least row l other perfect (λ earlier k. ap (holder holders) (same earlier k) ∙ held earlier (omega arith)) (get_or columns row 0) (held row l));
      };
      held = held;
    }
      where
        over : (a b : ℕ) → a < b → b ≤ a → ⊥
        over a b p q = omega arith

-- one more row has a column
pub complete_more : (row : ℕ) (cells : ℕ → ℕ → ℕ) (holders : List (Option ℕ)) → IsMatching cells holders → ((i : ℕ) → i < row → IsPlaced holders i) →
    IsPlaced holders row → IsComplete (row + 1) cells holders
complete_more row cells holders m before here = record {
  matching = m;
  full = λ i l. full i l (cases_eq i row);
}
  where
    full : (i : ℕ) → i < row + 1 → (i ≡ row) ⊎ (i ≢ row) → IsPlaced holders i
    full i l (inl e) = subst (IsPlaced holders) (sym e) here
    full i l (inr ne) = before i (omega arith)

-- the first column that is not excluded is the least
pub least_found : (size : ℕ) (cells : ℕ → ℕ → ℕ) (old new : List (Option ℕ)) (row column : ℕ) → IsMatching cells new →
    ((earlier : ℕ) → earlier < row → IsPlaced old earlier) → KeepsEarlier old new row → holder new column ≡ Some row →
    ((j : ℕ) → j < column → Excludes size cells old row j) → IsLeastAt size cells new row
least_found size cells old new row column m placed keeps here excludes columns perfect agrees other e =
    elim (cases_lt (get_or columns row 0) column) [
      | inl l ↦ absurd (excludes (get_or columns row 0) l columns perfect (agrees_before cells old new row columns m placed keeps agrees) refl)
      | inr l ↦ subst (λ c. c ≤ get_or columns row 0) (m.once row column other here e) l
    ]

-- the search with the earlier rows held fails only where no perfect matching begins so
module _ (size : ℕ) (cells : ℕ → ℕ → ℕ) (holders : List (Option ℕ)) (row own column : ℕ) (seen after : List Bool) where
  -- the columns that were seen first are those of the earlier rows
  pub record IsTrial : Type 0 where
    pub rows_inside : (i j : ℕ) → 0 < cells i j → i < size
    pub columns_inside : (i j : ℕ) → 0 < cells i j → j < size
    pub row_inside : row < size
    pub holders_length : length holders ≡ size
    pub seen_length : length seen ≡ size
    pub complete : IsComplete size cells holders
    pub own_held : holder holders own ≡ Some row
    pub fresh : is_seen seen column ≡ false
    pub positive : 0 < cells row column
    pub held : (j : ℕ) → is_seen seen j ≡ true → (earlier : ℕ) × (earlier < row) × (holder holders j ≡ Some earlier)
    pub other_column : column ≢ own

  pub excluded : IsTrial → Searched cells (set holders own None) seen after → is_seen after column ≡ true → Excludes size cells holders row column
  excluded t s blocked columns perfect agrees e =
      let l = held_inside holders row own t.own_held in
      let m = freed_matching cells holders row own l t.complete.matching in
      let free = freed_unplaced cells holders row own l t.complete.matching t.own_held in
      let h = s.held column t.fresh blocked in
      let k : column < length (set holders own None) = held_inside (set holders own None) h.row column h.holds in
      let k' : column < length seen = inside k in
      never_blocked size 1 cells (marks 1 columns) (set (set holders own None) column (Some row)) (set seen column true) after h.row
      (marks_full size cells columns t.columns_inside perfect)
      (λ i j h p. within i j h p)
      t.rows_inside
      (matching_put cells (set holders own None) row column m free k t.positive)
      (put_out cells (set holders own None) row column m free k h.row h.holds)
      (t.rows_inside h.row column (m.positive h.row column h.holds))
      (record { grown = λ j f. grown j f (cases_eq j column); held = λ j f g. held j f g (cases_eq j column) k' })
      h.inside
      (λ i j n f p. out i j n f (marked 1 columns i j p) k k' (cases_eq j column))
    where
      inside : column < length (set holders own None) → column < length seen
      inside k = omega (arith, length-set holders own None, t.holders_length, t.seen_length)

      within : (i j : ℕ) → i < size → 0 < marks 1 columns i j → 0 < cells i j
      within i j h p = subst (λ j. 0 < cells i j) (marked 1 columns i j p) (perfect.positive i h)

      grown : (j : ℕ) → is_seen (set seen column true) j ≡ true → (j ≡ column) ⊎ (j ≢ column) → is_seen after j ≡ true
      grown j f (inl a) = ap (is_seen after) a ∙ blocked
      grown j f (inr a) = s.grown j (sym (get_or-set_other seen column j true false a) ∙ f)

      held : (j : ℕ) → is_seen (set seen column true) j ≡ false → is_seen after j ≡ true → (j ≡ column) ⊎ (j ≢ column) → column < length seen →
          HeldInside cells (set (set holders own None) column (Some row)) after j
      held j f g (inl a) k = absurd (false≢true (sym f ∙ ap (is_seen (set seen column true)) a ∙ get_or-set_same seen column true false k))
      held j f g (inr a) k =
          let h = s.held j (sym (get_or-set_other seen column j true false a) ∙ f) g in
          record { row = h.row; holds = holder_elsewhere cells (set holders own None) row column j a ∙ h.holds; inside = h.inside }

      out : (i j : ℕ) → i < size → is_seen (set seen column true) j ≡ true → get_or columns i 0 ≡ j → column < length (set holders own None) → column < length seen →
          (j ≡ column) ⊎ (j ≢ column) →
          (held : ℕ) × (is_seen (set seen column true) held ≡ true) × (holder (set (set holders own None) column (Some row)) held ≡ Some i)
      out i j n f g k k' (inl a) =
          let mine : i ≡ row = perfect.differ i row n t.row_inside (g ∙ a ∙ sym e) in (
            column,
            get_or-set_same seen column true false k',
            holder_here cells (set holders own None) row column k ∙ ap Some (sym mine),
          )
      out i j n f g k k' (inr a) =
          let h = t.held j (sym (get_or-set_other seen column j true false a) ∙ f) in
          let there : get_or columns h.0 0 ≡ j = t.complete.matching.once h.0 (get_or columns h.0 0) j (agrees h.0 h.1) h.2 in
          let mine : i ≡ h.0 = perfect.differ i h.0 n (below h.0 h.1) (g ∙ sym there) in (
            j,
            f,
            holder_elsewhere cells (set holders own None) row column j a
                ∙ freed_elsewhere cells holders row own j (λ b. other_row h.0 h.1 (same_Some h.0 row (sym h.2 ∙ ap (holder holders) b ∙ t.own_held)))
                ∙ h.2
                ∙ ap Some (sym mine),
          )
        where
          below : (x : ℕ) → x < row → x < size
          below x h = omega (arith, t.row_inside)

          other_row : (x : ℕ) → x < row → x ≡ row → ⊥
          other_row x h q = omega arith

-- what was least stays least where positive cells have gone
pub least_with_fewer : (size : ℕ) (cells fewer : ℕ → ℕ → ℕ) (holders : List (Option ℕ)) (row : ℕ) → ((i j : ℕ) → 0 < fewer i j → 0 < cells i j) →
    IsLeastAt size cells holders row → IsLeastAt size fewer holders row
least_with_fewer size cells fewer holders row more least columns perfect =
    least columns (record { one_a_row = perfect.one_a_row; inside = perfect.inside; positive = λ i l. more i (get_or columns i 0) (perfect.positive i l); differ = perfect.differ })

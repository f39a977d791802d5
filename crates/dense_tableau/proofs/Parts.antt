-- Rows that are changed in two parts of the list, before the pivot's row and behind it.
use Rattle.std.proofs.Common.{◌≡◌, ◌≢◌, ℕ, ◌+◌, ◌-◌, ◌*◌, ◌<◌, ℤ, None, List, ◌++◌, length, arith, sym, ◌∙◌, ap, inl, inr}
use Rattle.std.proofs.lemmas.Bool.{cases_order}
use Rattle.linear_program.specs.Pivots.{changed_row, row_overflow}
use Rattle.dense_tableau.specs.Flat.{entry, cell_of}
use Rattle.dense_tableau.proofs.Flat.{front_cell, middle_cell, behind_cell, behind_length}

-- a list of m rows in three parts: the rows before row r, that row and those behind it
pub record InParts (w r m : ℕ) (cells front row behind : List ℤ) : Type 0 where
  pub whole : length cells ≡ m * w
  pub less : r < m
  pub parts : cells ≡ front ++ (row ++ behind)
  pub size : length front ≡ r * w
  pub wide : length row ≡ w

-- what two cuts of the list make
pub in_parts : (w r m : ℕ) (cells front rest row behind : List ℤ) → length cells ≡ m * w → r < m → cells ≡ front ++ rest → length front ≡ r * w → rest ≡ row ++ behind → length row ≡ w → InParts w r m cells front row behind
in_parts w r m cells front rest row behind whole less first size second wide = record {
  whole = whole;
  less = less;
  parts = first ∙ ap (λ l. front ++ l) second;
  size = size;
  wide = wide;
}

-- the parts' rows are the list's
row_is : (w r m : ℕ) (cells front row behind : List ℤ) → InParts w r m cells front row behind → entry row ≡ cell_of w cells r
row_is w r m cells front row behind p = λ d j. sym (ap (λ l. cell_of w l r j) p.parts ∙ middle_cell w r front row behind j p.size p.wide) d

front_is : (w r m : ℕ) (cells front row behind : List ℤ) → InParts w r m cells front row behind → (i : ℕ) → i < r → cell_of (length row) front i ≡ cell_of w cells i
front_is w r m cells front row behind p i l = λ d j. (ap (λ n. cell_of n front i j) p.wide ∙ sym (ap (λ k. cell_of w k i j) p.parts ∙ front_cell w r front row behind i j p.size l)) d

behind_is : (w r m : ℕ) (cells front row behind : List ℤ) → InParts w r m cells front row behind → (i : ℕ) → cell_of (length row) behind i ≡ cell_of w cells (r + 1 + i)
behind_is w r m cells front row behind p i = λ d j. (ap (λ n. cell_of n behind i j) p.wide ∙ sym (ap (λ k. cell_of w k (r + 1 + i) j) p.parts ∙ behind_cell w r front row behind i j p.size p.wide)) d

pub behind_whole : (w r m : ℕ) (cells front row behind : List ℤ) → InParts w r m cells front row behind → length behind ≡ (m - r - 1) * length row
behind_whole w r m cells front row behind p =
    behind_length w r m front row behind cells p.parts p.whole p.size p.wide p.less ∙ ap (λ n. (m - r - 1) * n) (sym p.wide)

-- where no row of the list overflows, none of a part does
same_overflow : (w n column : ℕ) (f g row whole : ℕ → ℤ) → n ≡ w → f ≡ g → row ≡ whole → row_overflow w g whole column ≡ None → row_overflow n f row column ≡ None
same_overflow w n column f g row whole wide pivot same none =
    ap (λ k. row_overflow k f row column) wide ∙ ap (λ p. row_overflow w p row column) pivot ∙ ap (λ q. row_overflow w g q column) same ∙ none

pub front_fits : (w r m column : ℕ) (cells front row behind : List ℤ) → InParts w r m cells front row behind →
    ((i : ℕ) → i < m → i ≢ r → row_overflow w (cell_of w cells r) (cell_of w cells i) column ≡ None) →
    (i : ℕ) → i < r → row_overflow (length row) (entry row) (cell_of (length row) front i) column ≡ None
front_fits w r m column cells front row behind p fits i l =
    let less = p.less in
    same_overflow w (length row) column (entry row) (cell_of w cells r) (cell_of (length row) front i) (cell_of w cells i) p.wide (row_is w r m cells front row behind p)
    (front_is w r m cells front row behind p i l) (fits i (omega arith) (λ e. absurd (omega arith)))

pub behind_fits : (w r m column : ℕ) (cells front row behind : List ℤ) → InParts w r m cells front row behind →
    ((i : ℕ) → i < m → i ≢ r → row_overflow w (cell_of w cells r) (cell_of w cells i) column ≡ None) →
    (i : ℕ) → i < m - r - 1 → row_overflow (length row) (entry row) (cell_of (length row) behind i) column ≡ None
behind_fits w r m column cells front row behind p fits i l =
    same_overflow w (length row) column (entry row) (cell_of w cells r) (cell_of (length row) behind i) (cell_of w cells (r + 1 + i)) p.wide (row_is w r m cells front row behind p)
    (behind_is w r m cells front row behind p i) (fits (r + 1 + i) (omega arith) (λ e. absurd (omega arith)))

-- where the rows of both parts are changed, those of the list are
same_change : (w n column j : ℕ) (f g row whole : ℕ → ℤ) → n ≡ w → f ≡ g → row ≡ whole → changed_row n f row column j ≡ changed_row w g whole column j
same_change w n column j f g row whole wide pivot same =
    ap (λ k. changed_row k f row column j) wide ∙ ap (λ p. changed_row w p row column j) pivot ∙ ap (λ q. changed_row w g q column j) same

pub both_changed : (w r m column : ℕ) (cells front row behind front_new behind_new : List ℤ) → InParts w r m cells front row behind → length front_new ≡ length front →
    ((i j : ℕ) → i < r → cell_of (length row) front_new i j ≡ changed_row (length row) (entry row) (cell_of (length row) front i) column j) →
    ((i j : ℕ) → i < m - r - 1 → cell_of (length row) behind_new i j ≡ changed_row (length row) (entry row) (cell_of (length row) behind i) column j) →
    (i j : ℕ) → i < m → i ≢ r → cell_of w (front_new ++ (row ++ behind_new)) i j ≡ changed_row w (cell_of w cells r) (cell_of w cells i) column j
both_changed w r m column cells front row behind front_new behind_new p kept front_changed behind_changed i j within apart =
    let size_new : length front_new ≡ r * w = kept ∙ p.size in
    let pivot = row_is w r m cells front row behind p in
    elim (cases_order i r) [
      | inl same ↦ absurd (apart same)
      | inr (inl less) ↦
          front_cell w r front_new row behind_new i j size_new less
          ∙ ap (λ n. cell_of n front_new i j) (sym p.wide) ∙ front_changed i j less
          ∙ same_change w (length row) column j (entry row) (cell_of w cells r) (cell_of (length row) front i) (cell_of w cells i) p.wide pivot (front_is w r m cells front row behind p i less)
      | inr (inr more) ↦
          let k = i - r - 1 in
          let place : r + 1 + k ≡ i = omega (arith, more) in
          ap (λ n. cell_of w (front_new ++ (row ++ behind_new)) n j) (sym place)
          ∙ behind_cell w r front_new row behind_new k j size_new p.wide
          ∙ ap (λ n. cell_of n behind_new k j) (sym p.wide) ∙ behind_changed k j (omega (arith, within, more))
          ∙ same_change w (length row) column j (entry row) (cell_of w cells r) (cell_of (length row) behind k) (cell_of w cells i) p.wide pivot (behind_is w r m cells front row behind p k ∙ ap (cell_of w cells) place)
    ]

-- Cells of a tableau whose rows stand in one list.
use Rattle.std.proofs.Common.{◌≡◌, ◌≢◌, ℕ, ◌+◌, ◌-◌, ◌*◌, ◌<◌, ◌≤◌, ℤ, pos, List, ◌++◌, length, length-append, take, drop, cond, nat_eq, slice_index_or, slice_set, arith, refl, sym, ◌∙◌, ap, inl, inr}
use Rattle.std.proofs.Math.Nat.{mul-le-mul_right}
use Rattle.std.proofs.lemmas.Bool.{cases_lt, cases_eq, cases_order, lt-ltb, le-ltb, eq-eqb, ne_eqb}
use Rattle.std.proofs.lemmas.List.{get_or-set_same, get_or-set_other, get_or_past, get_or-take, get_or-drop, get_or_append_left, get_or-append_right, length-take-le, length-drop}
use Rattle.dense_tableau.specs.Flat.{entry, cell_of}

-- beyond the last column all cells are 0
pub cell_beyond : (w : ℕ) (cells : List ℤ) (i j : ℕ) → w ≤ j → cell_of w cells i j ≡ pos 0
cell_beyond w cells i j past = rw (le-ltb j w past) refl

-- the part of the list in which a row stands
pub line_is : (w : ℕ) (cells : List ℤ) (i k j : ℕ) → k ≡ w → i * w + w ≤ length cells → entry (take k (drop (i * w) cells)) j ≡ cell_of w cells i j
line_is w cells i k j same whole =
    elim (cases_lt j w) [
      | inl within ↦ get_or-take k (drop (i * w) cells) j (pos 0) (rw same within) ∙ get_or-drop (i * w) cells j (pos 0) ∙ sym (rw (lt-ltb j w within) refl)
      | inr past ↦
          let rest : length (drop (i * w) cells) ≡ length cells - i * w = length-drop (i * w) cells in
          let size : length (take k (drop (i * w) cells)) ≡ k = length-take-le k (drop (i * w) cells) (omega (arith, rest, same)) in
          get_or_past (take k (drop (i * w) cells)) j (pos 0) (omega (arith, size, same)) ∙ sym (cell_beyond w cells i j past)
    ]

-- so the part lent for a row is the row
pub lent : (w : ℕ) (cells : List ℤ) (i k : ℕ) → k ≡ w → i * w + w ≤ length cells → (length (take k (drop (i * w) cells)) ≡ w) × (entry (take k (drop (i * w) cells)) ≡ cell_of w cells i)
lent w cells i k same whole = (
  (let rest : length (drop (i * w) cells) ≡ length cells - i * w = length-drop (i * w) cells in
      length-take-le k (drop (i * w) cells) (omega (arith, rest, same)) ∙ same),
  λ d j. line_is w cells i k j same whole d,
)

-- the list with one row written
abbrev pub written : List ℤ → ℕ → ℕ → List ℤ → List ℤ
written cells start k line = take start cells ++ (line ++ drop k (drop start cells))

-- a written row
pub written_there : (w : ℕ) (cells : List ℤ) (i k : ℕ) (line : List ℤ) (j : ℕ) → length line ≡ w → i * w + w ≤ length cells → j < w → cell_of w (written cells (i * w) k line) i j ≡ entry line j
written_there w cells i k line j size whole within =
    let front : length (take (i * w) cells) ≡ i * w = length-take-le (i * w) cells (omega arith) in
    rw (lt-ltb j w within)
    (get_or-append_right (take (i * w) cells) (line ++ drop k (drop (i * w) cells)) (i * w) (i * w + j) (pos 0) front (omega arith)
    ∙ ap (λ n. entry (line ++ drop k (drop (i * w) cells)) n) (let e : i * w + j - i * w ≡ j = omega arith in e)
    ∙ get_or_append_left line (drop k (drop (i * w) cells)) (pos 0) j (omega (arith, size)))

-- beside a written row
pub written_beside : (w : ℕ) (cells : List ℤ) (o k : ℕ) (line : List ℤ) (i j : ℕ) → k ≡ w → length line ≡ w → o * w + w ≤ length cells → i ≢ o → cell_of w (written cells (o * w) k line) i j ≡ cell_of w cells i j
written_beside w cells o k line i j same size whole apart =
    let front : length (take (o * w) cells) ≡ o * w = length-take-le (o * w) cells (omega arith) in
    elim (cases_lt j w) [
      | inr past ↦ rw (le-ltb j w past) refl
      | inl within ↦
          rw (lt-ltb j w within)
          (elim (cases_order i o) [
            | inl e ↦ absurd (apart e)
            | inr (inl l) ↦
                let below : (i + 1) * w ≤ o * w = mul-le-mul_right w (let m : i + 1 ≤ o = omega arith in m) in
                get_or_append_left (take (o * w) cells) (line ++ drop k (drop (o * w) cells)) (pos 0) (i * w + j) (omega (arith, front, below))
                ∙ get_or-take (o * w) cells (i * w + j) (pos 0) (omega (arith, below))
            | inr (inr g) ↦
                let above : (o + 1) * w ≤ i * w = mul-le-mul_right w (let m : o + 1 ≤ i = omega arith in m) in
                let past_front : o * w ≤ i * w + j = omega (arith, above) in
                let past_line : w ≤ i * w + j - o * w = omega (arith, above) in
                get_or-append_right (take (o * w) cells) (line ++ drop k (drop (o * w) cells)) (o * w) (i * w + j) (pos 0) front past_front
                ∙ get_or-append_right line (drop k (drop (o * w) cells)) w (i * w + j - o * w) (pos 0) size past_line
                ∙ get_or-drop k (drop (o * w) cells) (i * w + j - o * w - w) (pos 0)
                ∙ get_or-drop (o * w) cells (k + (i * w + j - o * w - w)) (pos 0)
                ∙ ap (entry cells) (let e : o * w + (k + (i * w + j - o * w - w)) ≡ i * w + j = omega (arith, same, above) in e)
          ])
    ]

-- a row of the list ends within it
pub row_within : (m w i : ℕ) → i < m → i * w + w ≤ m * w
row_within m w i l = let h : (i + 1) * w ≤ m * w = mul-le-mul_right w (let k : i + 1 ≤ m = omega arith in k) in omega arith

-- beyond the last row all cells are 0
pub no_row : (w m : ℕ) (cells : List ℤ) (i j : ℕ) → length cells ≡ m * w → m ≤ i → cell_of w cells i j ≡ pos 0
no_row w m cells i j whole past =
    elim (cases_lt j w) [
      | inl within ↦
          let h : m * w ≤ i * w = mul-le-mul_right w past in
          rw (lt-ltb j w within) (get_or_past cells (i * w + j) (pos 0) (omega (arith, whole)))
      | inr beyond ↦ cell_beyond w cells i j beyond
    ]

-- a basic column that is set
pub basic_set : (basics : List ℕ) (row column i : ℕ) → row < length basics → cond (nat_eq i row) column (slice_index_or basics i 0) ≡ slice_index_or (slice_set basics row column) i 0
basic_set basics row column i within =
    elim (cases_eq i row) [
      | inl same ↦ rw (eq-eqb i row same, same) (sym (get_or-set_same basics row column 0 within))
      | inr apart ↦ rw (ne_eqb i row apart) (sym (get_or-set_other basics row i column 0 apart))
    ]

-- the rows before a row, the row itself and those behind it, where the list is in three parts
pub front_cell : (w r : ℕ) (front row behind : List ℤ) (i j : ℕ) → length front ≡ r * w → i < r → cell_of w (front ++ (row ++ behind)) i j ≡ cell_of w front i j
front_cell w r front row behind i j size less =
    elim (cases_lt j w) [
      | inl within ↦
          let h = row_within r w i less in
          rw (lt-ltb j w within) (get_or_append_left front (row ++ behind) (pos 0) (i * w + j) (omega (arith, size, h)))
      | inr past ↦ cell_beyond w (front ++ (row ++ behind)) i j past ∙ sym (cell_beyond w front i j past)
    ]

pub middle_cell : (w r : ℕ) (front row behind : List ℤ) (j : ℕ) → length front ≡ r * w → length row ≡ w → cell_of w (front ++ (row ++ behind)) r j ≡ entry row j
middle_cell w r front row behind j size wide =
    elim (cases_lt j w) [
      | inl within ↦
          rw (lt-ltb j w within)
          (get_or-append_right front (row ++ behind) (r * w) (r * w + j) (pos 0) size (omega arith)
          ∙ ap (entry (row ++ behind)) (let e : r * w + j - r * w ≡ j = omega arith in e)
          ∙ get_or_append_left row behind (pos 0) j (omega (arith, wide)))
      | inr past ↦ cell_beyond w (front ++ (row ++ behind)) r j past ∙ sym (get_or_past row j (pos 0) (omega (arith, wide)))
    ]

pub behind_cell : (w r : ℕ) (front row behind : List ℤ) (i j : ℕ) → length front ≡ r * w → length row ≡ w → cell_of w (front ++ (row ++ behind)) (r + 1 + i) j ≡ cell_of w behind i j
behind_cell w r front row behind i j size wide =
    elim (cases_lt j w) [
      | inl within ↦
          let place : (r + 1 + i) * w + j ≡ r * w + (w + (i * w + j)) = omega arith in
          rw (lt-ltb j w within)
          (get_or-append_right front (row ++ behind) (r * w) ((r + 1 + i) * w + j) (pos 0) size (omega (arith, place))
          ∙ ap (entry (row ++ behind)) (let e : (r + 1 + i) * w + j - r * w ≡ w + (i * w + j) = omega (arith, place) in e)
          ∙ get_or-append_right row behind w (w + (i * w + j)) (pos 0) wide (omega arith)
          ∙ ap (entry behind) (let e : w + (i * w + j) - w ≡ i * w + j = omega arith in e))
      | inr past ↦ cell_beyond w (front ++ (row ++ behind)) (r + 1 + i) j past ∙ sym (cell_beyond w behind i j past)
    ]

-- how many numbers stand behind a row
pub behind_length : (w r m : ℕ) (front row behind cells : List ℤ) → cells ≡ front ++ (row ++ behind) → length cells ≡ m * w → length front ≡ r * w → length row ≡ w → r < m → length behind ≡ (m - r - 1) * w
behind_length w r m front row behind cells parts whole size wide less =
    let sum : length cells ≡ length front + (length row + length behind) = ap length parts ∙ length-append front (row ++ behind) ∙ ap (λ n. length front + n) (length-append row behind) in
    let rows : m * w ≡ (r + 1 + (m - r - 1)) * w = ap (λ n. n * w) (let e : m ≡ r + 1 + (m - r - 1) = omega arith in e) in
    omega (arith, sum, whole, size, wide, rows)

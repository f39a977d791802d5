-- The cells of a row by their columns.
use Rattle.std.proofs.Common.{◌≡◌, ◌≢◌, ℕ, zero, suc, ◌+◌, ◌<◌, ◌^◌, Bool, true, false, not, cond, nat_eq, nat_lt, nat_abs, List, [], ◌∷◌, ◌++◌, length, map, All, ℤ, pos, negsuc, refl, sym, ap, ◌∙◌, arith, inl, inr}
use Rattle.std.specs.List.Sorted.{IsStrictlyIncreasing}
use Rattle.std.proofs.lemmas.Bool.{cases_eq, cases_lt, eq-eqb, ne_eqb, lt-ltb, le-ltb}
use Rattle.std.proofs.lemmas.List.{append-nil, length-append, map_push, get_or_append_left, get_or-append-add}
use Rattle.std.proofs.lemmas.List.Elements.{All-head, All-tail, All-nil, All-cons, All-push}
use Rattle.linear_program.specs.Programmes.{cell_at}
use Rattle.programme_rows.specs.Cells.{cells_of, AreCells}
use Rattle.programme_rows.proofs.Listings.{each_all}

-- the cell of a column that stands behind the others
cell_push : (cells : List (ℕ × ℤ)) (k : ℕ) (z : ℤ) → All (λ c. c.0 < k) cells → cell_at (cells ++ (k, z) ∷ []) k ≡ z
cell_push [] k z front = rw (eq-eqb k k refl) refl
cell_push (c ∷ cells) k z front =
    let before : c.0 < k = All-head (λ c. c.0 < k) c cells front in
    rw (ne_eqb c.0 k (λ e. omega (arith, before, e))) (cell_push cells k z (All-tail (λ c. c.0 < k) c cells front))

push_other : (cells : List (ℕ × ℤ)) (k : ℕ) (z : ℤ) (j : ℕ) → nat_eq k j ≡ false → cell_at (cells ++ (k, z) ∷ []) j ≡ cell_at cells j
push_other [] k z j other = rw other refl
push_other (c ∷ cells) k z j other = ap (λ w. cond (nat_eq c.0 j) c.1 w) (push_other cells k z j other)

module _ (f : ℕ → ℤ) where
  -- the column has a cell
  abbrev pub filled : ℕ → Bool
  filled j = not (nat_eq (nat_abs (f j)) 0)

  some : ℕ → not false ≡ false → ⊥
  some n e = absurd cc

  empty_is_zero : (z : ℤ) → not (nat_eq (nat_abs z) 0) ≡ false → z ≡ pos 0
  empty_is_zero (pos zero) e = refl
  empty_is_zero (pos (suc n)) e = absurd (some n (rw (ne_eqb (suc n) 0 (λ p. omega (arith, p))) at e))
  empty_is_zero (negsuc n) e = absurd (some n (rw (ne_eqb (suc n) 0 (λ p. omega (arith, p))) at e))

  pub cells_exist : (n : ℕ) → All (λ c. c.0 < n) (cells_of f n)
  cells_exist n = each_all (λ c. c.0 < n) filled (λ j. (j, f j)) n (λ i l e. l)

  -- beyond the columns there is no cell, and below them it is the function's
  pub cell_of_cells : (n j : ℕ) → cell_at (cells_of f n) j ≡ cond (nat_lt j n) (f j) (pos 0)
  cell_of_cells zero j = rw (le-ltb j 0 (omega arith)) refl
  cell_of_cells (suc n) j = one_more n j (filled n) refl (cell_of_cells n j)
    where
      same_side : (n j : ℕ) → j ≢ n → nat_lt j n ≡ nat_lt j (suc n)
      same_side n j other =
          elim (cases_lt j n) [
            | inl less ↦ rw (lt-ltb j n less, lt-ltb j (suc n) (omega (arith, less))) refl
            | inr more ↦ rw (le-ltb j n more, le-ltb j (suc n) (omega (arith, more, other))) refl
          ]

      beside : (n j : ℕ) (b : Bool) → j ≢ n → cell_at (cells_of f n ++ cond b ((n, f n) ∷ []) []) j ≡ cell_at (cells_of f n) j
      beside n j true other = push_other (cells_of f n) n (f n) j (ne_eqb n j (λ e. other (sym e)))
      beside n j false other = rw append-nil refl

      at_last : (n : ℕ) (b : Bool) → filled n ≡ b → cell_at (cells_of f n) n ≡ pos 0 → cell_at (cells_of f n ++ cond b ((n, f n) ∷ []) []) n ≡ f n
      at_last n true e none = cell_push (cells_of f n) n (f n) (cells_exist n)
      at_last n false e none = rw append-nil (none ∙ sym (empty_is_zero (f n) e))

      one_more : (n j : ℕ) (b : Bool) → filled n ≡ b → cell_at (cells_of f n) j ≡ cond (nat_lt j n) (f j) (pos 0) →
          cell_at (cells_of f n ++ cond b ((n, f n) ∷ []) []) j ≡ cond (nat_lt j (suc n)) (f j) (pos 0)
      one_more n j b e before =
          elim (cases_eq j n) [
            | inl same ↦
                let none : cell_at (cells_of f n) n ≡ pos 0 = rw (same, le-ltb n n (omega arith)) at before in
                rw (same, lt-ltb n (suc n) (omega arith)) (at_last n b e none)
            | inr other ↦ beside n j b other ∙ before ∙ ap (λ b. cond b (f j) (pos 0)) (same_side n j other)
          ]

-- the cell of a column that exists
pub cell_there : (f : ℕ → ℤ) (n j : ℕ) → j < n → cell_at (cells_of f n) j ≡ f j
cell_there f n j l = cell_of_cells f n j ∙ rw (lt-ltb j n l) refl

-- a number behind lesser ones that ascend
ascending_push : (n : ℕ) (xs : List ℕ) → IsStrictlyIncreasing xs → All (λ x. x < n) xs → IsStrictlyIncreasing (xs ++ n ∷ [])
ascending_push n xs ascend below k l =
    elim (cases_lt (k + 1) (length xs)) [
      | inl inside ↦ rw (get_or_append_left xs (n ∷ []) 0 k (omega (arith, inside)), get_or_append_left xs (n ∷ []) 0 (k + 1) inside) (ascend k inside)
      | inr past ↦
          let last : k + 1 ≡ length xs + 0 = omega (arith, past, l, length-append xs (n ∷ [])) in
          rw (get_or_append_left xs (n ∷ []) 0 k (omega (arith, last)), last, get_or-append-add xs (n ∷ []) 0 0) (below k 0 (omega (arith, last)))
    ]

-- cells with one more, where it isn't 0
pub cell_more : (n : ℕ) (z : ℤ) (b : Bool) (old : List (ℕ × ℤ)) → (b ≡ true → z ≢ pos 0) → nat_abs z < 2 ^ 127 → AreCells n old → AreCells (n + 1) (old ++ cond b ((n, z) ∷ []) [])
cell_more n z b old some small cells = grown b some
  where
    further : All (λ c. c.0 < n + 1) old
    further k d l = let first = cells.exist k d l in omega (arith, first)

    numbers : (xs : List (ℕ × ℤ)) → All (λ c. c.0 < n) xs → All (λ x. x < n) (map (λ c. c.0) xs)
    numbers [] h = All-nil (λ x. x < n)
    numbers (x ∷ xs) h = All-cons (λ x. x < n) x.0 (map (λ c. c.0) xs) (All-head (λ c. c.0 < n) x xs h) (numbers xs (All-tail (λ c. c.0 < n) x xs h))

    grown : (b : Bool) → (b ≡ true → z ≢ pos 0) → AreCells (n + 1) (old ++ cond b ((n, z) ∷ []) [])
    grown true some = record {
      exist = All-push (λ c. c.0 < n + 1) old (n, z) further (omega arith);
      ascend = rw (map_push (λ c. c.0) old (n, z)) (ascending_push n (map (λ c. c.0) old) cells.ascend (numbers old cells.exist));
      no_zero = All-push (λ c. c.1 ≢ pos 0) old (n, z) cells.no_zero (some refl);
      small = All-push (λ c. nat_abs c.1 < 2 ^ 127) old (n, z) cells.small small;
    }
    grown false some = rw append-nil (record { exist = further; ascend = cells.ascend; no_zero = cells.no_zero; small = cells.small })

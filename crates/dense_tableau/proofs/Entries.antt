-- The numbers of a row.
use Rattle.std.proofs.Common.{◌≡◌, ◌≢◌, ℕ, ◌<◌, ◌≤◌, ℤ, pos, List, [], ◌∷◌, All, length, slice_set, arith, refl}
use Rattle.std.proofs.lemmas.List.{get_or-set_same, get_or-set_other, get_or_past}
use Rattle.std.proofs.lemmas.Bool.{ne_eqb}
use Rattle.std.proofs.lemmas.List.Elements.{All-head, All-tail}
use Rattle.linear_program.specs.Programmes.{cell_at}
use Rattle.dense_tableau.specs.Flat.{entry}

pub entry_set : (row : List ℤ) (j : ℕ) (z : ℤ) → j < length row → entry (slice_set row j z) j ≡ z
entry_set row j z within = get_or-set_same row j z (pos 0) within

pub entry_beside : (row : List ℤ) (j k : ℕ) (z : ℤ) → k ≢ j → entry (slice_set row j z) k ≡ entry row k
entry_beside row j k z apart = get_or-set_other row j k z (pos 0) apart

-- beyond its end a row is 0
pub beyond_row : (row : List ℤ) (j : ℕ) → length row ≤ j → entry row j ≡ pos 0
beyond_row row j past = get_or_past row j (pos 0) past

-- cells of columns below n are 0 from n on
pub cell_at_beyond : (cells : List (ℕ × ℤ)) (n j : ℕ) → All (λ c. c.0 < n) cells → n ≤ j → cell_at cells j ≡ pos 0
cell_at_beyond [] n j exist past = refl
cell_at_beyond (c ∷ cells) n j exist past =
    let here : c.0 < n = All-head (λ c. c.0 < n) c cells exist in
    rw (ne_eqb c.0 j (λ e. absurd (omega arith))) (cell_at_beyond cells n j (All-tail (λ c. c.0 < n) c cells exist) past)

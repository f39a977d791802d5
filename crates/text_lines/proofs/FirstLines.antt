-- Texts that are parted at a byte, and their first lines.
use Rattle.std.proofs.Common.{◌≡◌, ◌≢◌, ℕ, zero, suc, ◌+◌, ◌<◌, Bool, true, false, nat_eq, cond, All, List, [], ◌∷◌, ◌++◌, length, take, drop, slice_index, Option, Some, None, option_map, refl, sym, ap, ◌∙◌, subst, arith}
use Rattle.std.proofs.lemmas.Bool.{eqb-true, eq-eqb, ne_eqb}
use Rattle.std.proofs.lemmas.List.Elements.{All-head, All-tail, All-cons, All-nil}
use Rattle.std.proofs.lemmas.List.{append_assoc, length-append}
use Rattle.text_lines.specs.Lines.{line, IsOneLine, parted, first_line}

-- what stands before such a byte is parted from what stands behind it
pub part_first : (by : ℕ) (text rest : List ℕ) → All (λ b. b ≢ by) text → parted by (text ++ by ∷ rest) ≡ Some (text, rest)
part_first by [] rest none = rw (eq-eqb by by refl) refl
part_first by (b ∷ text) rest none =
    rw (ne_eqb b by (All-head (λ b. b ≢ by) b text none), part_first by text rest (All-tail (λ b. b ≢ by) b text none)) refl

-- the text is the part before the byte, the byte, and the part behind it; it has no such byte where it isn't parted
abbrev pub IsParted : ℕ → List ℕ → Option (List ℕ × List ℕ) → Type 0
IsParted by text None = All (λ b. b ≢ by) text
IsParted by text (Some parts) = (text ≡ parts.0 ++ by ∷ parts.1) × All (λ b. b ≢ by) parts.0

abbrev parted_from : ℕ → List ℕ → Bool → Option (List ℕ × List ℕ) → Option (List ℕ × List ℕ)
parted_from b bytes ends found = cond ends (Some ([], bytes)) (option_map (λ parts. (b ∷ parts.0, parts.1)) found)

split_from : (by b : ℕ) (bytes : List ℕ) (ends : Bool) (found : Option (List ℕ × List ℕ)) → nat_eq b by ≡ ends → IsParted by bytes found → IsParted by (b ∷ bytes) (parted_from b bytes ends found)
split_from by b bytes true found is inner = (ap (λ c. c ∷ bytes) (eqb-true b by is), All-nil (λ b. b ≢ by))
split_from by b bytes false None is inner = All-cons (λ b. b ≢ by) b bytes (λ e. let bad : true ≡ false = sym (eq-eqb b by e) ∙ is in cc) inner
split_from by b bytes false (Some parts) is inner = (ap (λ xs. b ∷ xs) inner.0, All-cons (λ b. b ≢ by) b parts.0 (λ e. let bad : true ≡ false = sym (eq-eqb b by e) ∙ is in cc) inner.1)

pub part_split : (by : ℕ) (text : List ℕ) → IsParted by text (parted by text)
part_split by [] = All-nil (λ b. b ≢ by)
part_split by (b ∷ bytes) = split_from by b bytes (nat_eq b by) (parted by bytes) refl (part_split by bytes)

-- the parts by the place of the byte
pub part_at : (by : ℕ) (text : List ℕ) (at : ℕ) → at < length text → slice_index text at ≡ by → ((k : ℕ) → k < at → slice_index text k ≢ by) →
    parted by text ≡ Some (take at text, drop (suc at) text)
part_at by [] at l ends before = absurd (omega (arith, l))
part_at by (b ∷ bytes) zero l ends before = rw (eq-eqb b by ends) refl
part_at by (b ∷ bytes) (suc at) l ends before =
    rw (ne_eqb b by (before 0 (omega arith)), part_at by bytes at (omega (arith, l)) ends (λ k m. before (suc k) (omega (arith, m)))) refl

pub no_part : (by : ℕ) (text : List ℕ) → ((k : ℕ) → k < length text → slice_index text k ≢ by) → parted by text ≡ None
no_part by [] none = refl
no_part by (b ∷ bytes) none =
    rw (ne_eqb b by (none 0 (omega arith)), no_part by bytes (λ k m. none (suc k) (omega (arith, m)))) refl

-- a line is the first of what it begins
pub line_first : (text rest : List ℕ) → IsOneLine text → first_line (line text ++ rest) ≡ Some (text, rest)
line_first text rest one = ap first_line (append_assoc text (10 ∷ []) rest) ∙ part_first 10 text rest one

-- the text is its first line and what stands behind it
abbrev pub IsSplit : List ℕ → Option (List ℕ × List ℕ) → Type 0
IsSplit bytes None = Unit {0}
IsSplit bytes (Some parts) = (bytes ≡ line parts.0 ++ parts.1) × IsOneLine parts.0

pub line_split : (bytes : List ℕ) → IsSplit bytes (first_line bytes)
line_split bytes = of (parted 10 bytes) (part_split 10 bytes)
  where
    of : (found : Option (List ℕ × List ℕ)) → IsParted 10 bytes found → IsSplit bytes found
    of None all = tt
    of (Some parts) both = (both.0 ∙ sym (append_assoc parts.0 (10 ∷ []) parts.1), both.1)

-- what stands behind the first such byte is shorter than the text
pub part_shorter : (by : ℕ) (text : List ℕ) (parts : List ℕ × List ℕ) → parted by text ≡ Some parts → length parts.1 < length text
part_shorter by text parts e =
    let both : IsParted by text (Some parts) = subst (IsParted by text) e (part_split by text) in
    let size : length text ≡ length parts.0 + suc (length parts.1) = ap length both.0 ∙ length-append parts.0 (by ∷ parts.1) in
    omega (arith, size)

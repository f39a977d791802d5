-- Texts of lines that each end with a line feed.
use Rattle.std.specs.Prelude.{◌≢◌, ℕ, List, [], ◌∷◌, ◌++◌, length, take, drop, All, Option, Some, None, option_map, nat_eq, cond, bytes_eq}
use Rattle.std.specs.List.{slice_split}

-- a line ends with a line feed
abbrev pub line : List ℕ → List ℕ
line text = text ++ (10 ∷ [])

-- the text stands on one line
abbrev pub IsOneLine : List ℕ → Type 0
IsOneLine text = All (λ b. b ≢ 10) text

-- what stands before the first byte of a value, and what stands behind it; none where no such byte comes
abbrev pub parted : ℕ → List ℕ → Option (List ℕ × List ℕ)
parted by [] = None
parted by (b ∷ bytes) = cond (nat_eq b by) (Some ([], bytes)) (option_map (λ parts. (b ∷ parts.0, parts.1)) (parted by bytes))

-- the first line, and what stands behind it; none where no line feed ends it
abbrev pub first_line : List ℕ → Option (List ℕ × List ℕ)
first_line bytes = parted 10 bytes

-- the words of a line, separated by one space each
abbrev pub words_of : List ℕ → List (List ℕ)
words_of text = slice_split (λ b. nat_eq b 32) text

-- what stands behind a word
abbrev pub behind : List ℕ → List ℕ → Option (List ℕ)
behind word text = cond (bytes_eq (take (length word) text) word) (Some (drop (length word) text)) None

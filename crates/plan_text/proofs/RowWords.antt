-- The words of a plan's lines.
use Rattle.std.proofs.Common.{◌≡◌, ◌≢◌, ℕ, ◌<◌, ◌^◌, ◌⊎◌, Bool, true, false, ◌&&◌, All, List, [], ◌∷◌, ◌++◌, length, map, codes, decimal, refl, sym, ap, ◌∙◌, subst, arith, inl, inr, Some}
use Rattle.std.specs.List.{join_with_byte, list_all}
use Rattle.std.specs.Str.Parse.{digits_value}
use Rattle.std.proofs.lemmas.Fmt.{decimal_is_IsNumeral_wide}
use Rattle.std.proofs.lemmas.List.{append-nil}
use Rattle.std.proofs.lemmas.List.Elements.{All-nil, All-cons, All-append, All-head, All-tail}
use Rattle.platform_file.specs.Platform.{is_name, is_name_byte}
use Rattle.platform_file.specs.Ticks.{TimedView, IsTimed}
use Rattle.flow_routes.specs.declared.flow.Route.{Route}
use Rattle.period_table.specs.Tables.{nodes_on}
use Rattle.period_table.specs.declared.table.Slot.{Slot}
use Rattle.period_table.specs.declared.table.Piece.{Piece}
use Rattle.text_lines.specs.Lines.{IsOneLine, parted, words_of}
use Rattle.text_lines.proofs.FirstLines.{part_first}
use Rattle.text_lines.proofs.Words.{lacks_by, decimal_lacks, words_back}
use Rattle.plan_text.specs.Texts.{name_of, no_node, names_text, route_line, piece_text, pieces_text, slot_line}

-- numbers that are printed alike are one
pub decimal_unique : (m n : ℕ) → m < 10 ^ 64 → n < 10 ^ 64 → decimal m ≡ decimal n → m ≡ n
decimal_unique m n small few e = sym (decimal_is_IsNumeral_wide m small).1 ∙ ap (digits_value 10) e ∙ (decimal_is_IsNumeral_wide n few).1

-- a space and a line feed
abbrev pub Parts : ℕ → Type 0
Parts by = (by ≡ 32) ⊎ (by ≡ 10)

no_name_byte : (by : ℕ) → Parts by → is_name_byte by ≡ false
no_name_byte by (inl e) = rw e refl
no_name_byte by (inr e) = rw e refl

no_digit : (by : ℕ) → Parts by → (by < 48) ⊎ (57 < by)
no_digit by (inl e) = inl (omega (arith, e))
no_digit by (inr e) = inl (omega (arith, e))

-- names have neither
pub name_lacks : (by : ℕ) → Parts by → (name : List ℕ) → is_name name ≡ true → All (λ b. b ≢ by) name
name_lacks by parts name e = bytes name (second _ _ (second _ _ e))
  where
    second : (x y : Bool) → (x && y) ≡ true → y ≡ true
    second true y e = e
    second false y e = let bad : false ≡ true = e in cc

    first : (x y : Bool) → (x && y) ≡ true → x ≡ true
    first true y e = refl
    first false y e = e

    bytes : (name : List ℕ) → list_all is_name_byte name ≡ true → All (λ b. b ≢ by) name
    bytes [] e = All-nil (λ b. b ≢ by)
    bytes (b ∷ name) e =
        All-cons (λ b. b ≢ by) b name (λ same. let bad : true ≡ false = sym (first (is_name_byte b) _ e) ∙ ap is_name_byte same ∙ no_name_byte by parts in cc) (bytes name (second (is_name_byte b) _ e))

pub number_lacks : (by : ℕ) → Parts by → (n : ℕ) → n < 10 ^ 64 → All (λ b. b ≢ by) (decimal n)
number_lacks by parts n small = decimal_lacks by n small (no_digit by parts)

-- a piece's numbers within their bounds
abbrev pub IsSmallPiece : Piece → Type 0
IsSmallPiece piece = (piece.lane < 10 ^ 64) × (piece.count < 10 ^ 64)

colon_lacks : (by : ℕ) → Parts by → All (λ b. b ≢ by) (codes ":")
colon_lacks by (inl e) = rw e (lacks_by 32 (codes ":") refl)
colon_lacks by (inr e) = rw e (lacks_by 10 (codes ":") refl)

pub piece_lacks : (by : ℕ) → Parts by → (piece : Piece) → IsSmallPiece piece → All (λ b. b ≢ by) (piece_text piece)
piece_lacks by parts piece small =
    All-append (λ b. b ≢ by) (decimal piece.lane) _ (number_lacks by parts piece.lane small.0) (All-append (λ b. b ≢ by) (codes ":") (decimal piece.count) (colon_lacks by parts) (number_lacks by parts piece.count small.1))

-- names after a text are words behind it
behind_names : (t : TimedView) (text : List ℕ) (nodes : List ℕ) → text ++ names_text t nodes ≡ join_with_byte 32 (text ∷ map (name_of t) nodes)
behind_names t text [] = append-nil text
behind_names t text (node ∷ nodes) = ap (λ rest. text ++ 32 ∷ rest) (behind_names t (name_of t node) nodes)

behind_pieces : (text : List ℕ) (pieces : List Piece) → text ++ pieces_text pieces ≡ join_with_byte 32 (text ∷ map piece_text pieces)
behind_pieces text [] = append-nil text
behind_pieces text (piece ∷ pieces) = ap (λ rest. text ++ 32 ∷ rest) (behind_pieces (piece_text piece) pieces)

-- the words of a route's line
abbrev pub route_words : TimedView → ℕ → Route → List (List ℕ)
route_words t number route = codes "route" ∷ (decimal number ∷ (decimal route.count ∷ map (name_of t) (nodes_on t route.links route.end)))

-- the words of a slot's line
abbrev pub slot_words : Slot → List (List ℕ)
slot_words slot = codes "slot" ∷ (decimal slot.duration ∷ map piece_text slot.pieces)

pub route_joined : (t : TimedView) (number : ℕ) (route : Route) → route_line t number route ≡ join_with_byte 32 (route_words t number route)
route_joined t number route = ap (λ rest. codes "route " ++ (decimal number ++ (codes " " ++ rest))) (behind_names t (decimal route.count) (nodes_on t route.links route.end))

pub slot_joined : (slot : Slot) → slot_line slot ≡ join_with_byte 32 (slot_words slot)
slot_joined slot = ap (λ rest. codes "slot " ++ rest) (behind_pieces (decimal slot.duration) slot.pieces)

-- words without such bytes, joined by spaces
abbrev pub Lack : ℕ → List (List ℕ) → Type 0
Lack by words = All (λ word. All (λ b. b ≢ by) word) words

pub lack-cons : (by : ℕ) (word : List ℕ) (words : List (List ℕ)) → All (λ b. b ≢ by) word → Lack by words → Lack by (word ∷ words)
lack-cons by word words h k = All-cons (λ word. All (λ b. b ≢ by) word) word words h k

joined_line : (words : List (List ℕ)) → Lack 10 words → IsOneLine (join_with_byte 32 words)
joined_line [] lack = All-nil (λ b. b ≢ 10)
joined_line (word ∷ []) lack = All-head (λ word. All (λ b. b ≢ 10) word) word [] lack
joined_line (word ∷ next ∷ words) lack =
    All-append (λ b. b ≢ 10) word (32 ∷ join_with_byte 32 (next ∷ words)) (All-head (λ word. All (λ b. b ≢ 10) word) word (next ∷ words) lack)
    (All-cons (λ b. b ≢ 10) 32 (join_with_byte 32 (next ∷ words)) (λ e. omega (arith, e)) (joined_line (next ∷ words) (All-tail (λ word. All (λ b. b ≢ 10) word) word (next ∷ words) lack)))

module _ (t : TimedView) (timed : IsTimed t) where
  names_lack : (by : ℕ) → Parts by → (nodes : List ℕ) → All (λ node. node < length t.platform.nodes) nodes → Lack by (map (name_of t) nodes)
  names_lack by parts [] there = All-nil (λ word. All (λ b. b ≢ by) word)
  names_lack by parts (node ∷ nodes) there =
      lack-cons by (name_of t node) (map (name_of t) nodes)
      (name_lacks by parts (name_of t node) (timed.platform.nodes node no_node (All-head (λ node. node < length t.platform.nodes) node nodes there)).named)
      (names_lack by parts nodes (All-tail (λ node. node < length t.platform.nodes) node nodes there))

  route_lacks : (by : ℕ) → Parts by → (number : ℕ) (route : Route) → number < 10 ^ 64 → route.count < 10 ^ 64 → All (λ node. node < length t.platform.nodes) (nodes_on t route.links route.end) →
      All (λ b. b ≢ by) (codes "route") → Lack by (route_words t number route)
  route_lacks by parts number route small few there word =
      lack-cons by (codes "route") (decimal number ∷ (decimal route.count ∷ map (name_of t) (nodes_on t route.links route.end))) word
      (lack-cons by (decimal number) (decimal route.count ∷ map (name_of t) (nodes_on t route.links route.end)) (number_lacks by parts number small)
      (lack-cons by (decimal route.count) (map (name_of t) (nodes_on t route.links route.end)) (number_lacks by parts route.count few) (names_lack by parts (nodes_on t route.links route.end) there)))

  pub route_words_of : (number : ℕ) (route : Route) → number < 10 ^ 64 → route.count < 10 ^ 64 → All (λ node. node < length t.platform.nodes) (nodes_on t route.links route.end) →
      words_of (route_line t number route) ≡ route_words t number route
  route_words_of number route small few there =
      ap words_of (route_joined t number route) ∙ words_back (codes "route") _ (route_lacks 32 (inl refl) number route small few there (lacks_by 32 (codes "route") refl))

  pub route_one_line : (number : ℕ) (route : Route) → number < 10 ^ 64 → route.count < 10 ^ 64 → All (λ node. node < length t.platform.nodes) (nodes_on t route.links route.end) →
      IsOneLine (route_line t number route)
  route_one_line number route small few there =
      subst IsOneLine (sym (route_joined t number route)) (joined_line (route_words t number route) (route_lacks 10 (inr refl) number route small few there (lacks_by 10 (codes "route") refl)))

pieces_lack : (by : ℕ) → Parts by → (pieces : List Piece) → All IsSmallPiece pieces → Lack by (map piece_text pieces)
pieces_lack by parts [] small = All-nil (λ word. All (λ b. b ≢ by) word)
pieces_lack by parts (piece ∷ pieces) small =
    lack-cons by (piece_text piece) (map piece_text pieces) (piece_lacks by parts piece (All-head IsSmallPiece piece pieces small)) (pieces_lack by parts pieces (All-tail IsSmallPiece piece pieces small))

slot_lacks : (by : ℕ) → Parts by → (slot : Slot) → slot.duration < 10 ^ 64 → All IsSmallPiece slot.pieces → All (λ b. b ≢ by) (codes "slot") → Lack by (slot_words slot)
slot_lacks by parts slot small pieces word =
    lack-cons by (codes "slot") (decimal slot.duration ∷ map piece_text slot.pieces) word (lack-cons by (decimal slot.duration) (map piece_text slot.pieces) (number_lacks by parts slot.duration small) (pieces_lack by parts slot.pieces pieces))

pub slot_words_of : (slot : Slot) → slot.duration < 10 ^ 64 → All IsSmallPiece slot.pieces → words_of (slot_line slot) ≡ slot_words slot
slot_words_of slot small pieces =
    ap words_of (slot_joined slot) ∙ words_back (codes "slot") _ (slot_lacks 32 (inl refl) slot small pieces (lacks_by 32 (codes "slot") refl))

pub slot_one_line : (slot : Slot) → slot.duration < 10 ^ 64 → All IsSmallPiece slot.pieces → IsOneLine (slot_line slot)
slot_one_line slot small pieces =
    subst IsOneLine (sym (slot_joined slot)) (joined_line (slot_words slot) (slot_lacks 10 (inr refl) slot small pieces (lacks_by 10 (codes "slot") refl)))

-- a piece's word tells the piece
pub piece_parts : (piece : Piece) → piece.lane < 10 ^ 64 → parted 58 (piece_text piece) ≡ Some (decimal piece.lane, decimal piece.count)
piece_parts piece small = part_first 58 (decimal piece.lane) (decimal piece.count) (decimal_lacks 58 piece.lane small (inr (omega arith)))

-- Lists of different items that are read one after another.
use Rattle.std.proofs.Common.{◌≡◌, ℕ, ◌+◌, ◌<◌, Bool, true, false, ◌||◌, List, [], ◌∷◌, ◌++◌, map, length, drop, get_or, Result, Ok, Some, None, All, cond, bytes_eq, refl, ◌∙◌, arith}
use Rattle.std.proofs.lemmas.List.{drop_more}
use Rattle.std.proofs.lemmas.List.Elements.{All-append, All-cons, All-nil}
use Rattle.std.specs.List.{IsDistinct, AllByRecursion, list_any, position_from}
use Rattle.platform_file.specs.declared.fault.PlatformFault.{PlatformFault}
use Rattle.platform_file.specs.Platform.{NodeView, same_name}
use Rattle.platform_file.specs.Reading.{each_of, node_named}

pub none_differ : {A : Type 0} (e : A → A → Bool) → IsDistinct e []
unfolding IsDistinct
none_differ e = tt

no_left : (a b : Bool) → (a || b) ≡ false → a ≡ false
no_left false b h = refl
no_left true b h = h

no_right : (a b : Bool) → (a || b) ≡ false → b ≡ false
no_right false b h = h
no_right true b h = let bad : true ≡ false = h in cc

still_apart : {A : Type 0} (e : A → A → Bool) (first : A) (xs : List A) (x : A) →
    AllByRecursion (λ y. e first y ≡ false) xs → e first x ≡ false → AllByRecursion (λ y. e first y ≡ false) (xs ++ x ∷ [])
still_apart e first [] x h new = (new, tt)
still_apart e first (y ∷ xs) x h new = (h.0, still_apart e first xs x h.1 new)

one_more_differs : {A : Type 0} (e : A → A → Bool) (xs : List A) (x : A) → IsDistinct e xs → list_any (λ y. e y x) xs ≡ false → IsDistinct e (xs ++ x ∷ [])
unfolding IsDistinct
one_more_differs e [] x h new = (tt, tt)
one_more_differs e (y ∷ xs) x h new = (
  still_apart e y xs x h.0 (no_left (e y x) _ new),
  one_more_differs e xs x h.1 (no_right (e y x) _ new),
)

-- no node has the name
unnamed_from : (nodes : List NodeView) (name : List ℕ) (number : ℕ) → position_from (λ node. bytes_eq node.name name) number nodes ≡ None →
    list_any (λ other. bytes_eq other.name name) nodes ≡ false
unnamed_from [] name number none = refl
unnamed_from (node ∷ nodes) name number none =
    elim (bytes_eq node.name name) as (λ b. cond b (Some number) (position_from (λ node. bytes_eq node.name name) (number + 1) nodes) ≡ None →
    (b || list_any (λ other. bytes_eq other.name name) nodes) ≡ false) [
      | true ↦ λ h. cc
      | false ↦ λ h. unnamed_from nodes name (number + 1) h
    ] none

pub unnamed : (nodes : List NodeView) (node : NodeView) → node_named nodes node.name ≡ None → list_any (λ other. same_name other node) nodes ≡ false
unnamed nodes node none = unnamed_from nodes node.name 0 none

-- the first i items have been read: the rest remains to be read, and what was read is what it should be
abbrev pub IsReadUpTo : {A B V : Type 0} → (List B → A → Result B PlatformFault) → (V → A) → List V → (B → Type 0) → (B → B → Bool) → ℕ → List B → Type 0
IsReadUpTo read shown items P e i told =
    (length told ≡ i) × (each_of read [] (map shown items) ≡ each_of read told (map shown (drop i items))) × All P told × IsDistinct e told

pub one_more : {A B V : Type 0} (read : List B → A → Result B PlatformFault) (shown : V → A) (items : List V) (P : B → Type 0) (e : B → B → Bool) (i : ℕ) (told : List B) (d : V) (one : B) →
    i < length items → read told (shown (get_or items i d)) ≡ Ok one → P one → list_any (λ other. e other one) told ≡ false →
    IsReadUpTo read shown items P e i told → IsReadUpTo read shown items P e (i + 1) (told ++ one ∷ [])
one_more read shown items P e i told d one h found is new sofar = (
  omega (arith, length_grows told one, sofar.0),
  sofar.1 ∙ rw (drop_more items i d h, found) refl,
  All-append P told (one ∷ []) sofar.2 (All-cons P one [] is (All-nil P)),
  one_more_differs e told one sofar.3 new,
)
  where
    length_grows : {B : Type 0} (told : List B) (one : B) → length (told ++ one ∷ []) ≡ length told + 1
    length_grows [] one = refl
    length_grows (x ∷ told) one = omega (arith, length_grows told one)

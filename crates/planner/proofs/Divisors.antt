-- The common factor of a table's numbers divides each of them.
use Rattle.std.proofs.Common.{◌≡◌, ℕ, zero, suc, ◌*◌, ◌≤◌, List, [], ◌∷◌, ◌++◌, map, flat_map, All, arith}
use Prim.Native.Nat.{◌∣◌}
use Rattle.std.proofs.Math.Nat.{eq-zero_of_zero-dvd}
use Rattle.std.proofs.lemmas.Nat.Gcd.{dvd_trans, dvd_refl}
use Rattle.std.proofs.lemmas.List.Elements.{All-head, All-tail, All-cons, All-nil}
use Rattle.ratio_core.specs.Fraction.{gcd_of}
use Rattle.ratio_core.proofs.GcdLemmas.{gcd_divides}
use Rattle.platform_file.specs.Ticks.{TimedView}
use Rattle.flow_routes.specs.declared.flow.Route.{Route}
use Rattle.bipartite_slots.specs.declared.weights.SlotPart.{SlotPart}
use Rattle.programme_rows.proofs.Listings.{front, back}
use Rattle.series_routes.proofs.Multiples.{each_mapped}
use Rattle.planner.specs.Scales.{factor_with, part_numbers, common_factor}

factor_divides : (common : ℕ) (numbers : List ℕ) → (factor_with common numbers ∣ common) × All (λ n. factor_with common numbers ∣ n) numbers
factor_divides common [] = (dvd_refl common, All-nil (λ n. common ∣ n))
factor_divides common (number ∷ numbers) =
    let rest = factor_divides (gcd_of common number) numbers in
    let both = gcd_divides common number in
    (dvd_trans _ rest.0 both.0, All-cons (λ n. factor_with (gcd_of common number) numbers ∣ n) number numbers (dvd_trans _ rest.0 both.1) rest.1)

each_listed : {A B : Type 0} (P : B → Type 0) (f : A → List B) (xs : List A) → All P (flat_map f xs) → All (λ x. All P (f x)) xs
each_listed P f [] all = All-nil (λ x. All P (f x))
each_listed P f (x ∷ xs) all = All-cons (λ y. All P (f y)) x xs (front P (f x) (flat_map f xs) all) (each_listed P f xs (back P (f x) (flat_map f xs) all))

-- what has a positive multiple is positive
pub some_divisor : (g n : ℕ) → 1 ≤ n → g ∣ n → 1 ≤ g
some_divisor zero n some divides = let none : n ≡ 0 = eq-zero_of_zero-dvd divides in absurd (omega arith)
some_divisor (suc g) n some divides = omega arith

module _ (t : TimedView) (times ticks : ℕ) (routes : List Route) (parts : List SlotPart) where
  abbrev factor : ℕ
  factor = common_factor t times ticks routes parts

  pub of_period : factor ∣ ticks * times
  of_period = (factor_divides (ticks * times) (map (λ (route : Route). route.count * times) routes ++ flat_map (part_numbers t times) parts)).0

  all_numbers : All (λ n. factor ∣ n) (map (λ (route : Route). route.count * times) routes ++ flat_map (part_numbers t times) parts)
  all_numbers = (factor_divides (ticks * times) (map (λ (route : Route). route.count * times) routes ++ flat_map (part_numbers t times) parts)).1

  pub of_routes : All (λ (route : Route). factor ∣ route.count * times) routes
  of_routes =
      each_mapped (λ n. factor ∣ n) (λ (route : Route). route.count * times) routes
      (front (λ n. factor ∣ n) (map (λ (route : Route). route.count * times) routes) (flat_map (part_numbers t times) parts) all_numbers)

  pub of_parts : All (λ (part : SlotPart). All (λ n. factor ∣ n) (part_numbers t times part)) parts
  of_parts =
      each_listed (λ n. factor ∣ n) (part_numbers t times) parts
      (back (λ n. factor ∣ n) (map (λ (route : Route). route.count * times) routes) (flat_map (part_numbers t times) parts) all_numbers)

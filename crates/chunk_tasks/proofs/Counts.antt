-- How many chunks there are, and that each begins within the data.
use Rattle.std.proofs.Common.{◌≡◌, ℕ, zero, suc, ◌+◌, ◌-◌, ◌*◌, ◌/◌, ◌<◌, ◌≤◌, List, [], ◌∷◌, length, map, refl, ap, arith, length-append}
use Rattle.std.proofs.Math.Nat.{le-div_iff_mul-le, suc-mul, le-mul_of_pos_right}
use Rattle.sha2.specs.Sha256.{sha256}
use Rattle.chunk_tasks.specs.Chunks.{ItemView, chunk_at, items_below}

-- a number below the quotient rounded up, times the divisor, is below the dividend
pub begins_within : (number size total : ℕ) → 1 ≤ size → number < (total + (size - 1)) / size → number * size < total
begins_within number size total some h =
    let k = (le-div_iff_mul-le {k = size} {x = suc number} {y = total + (size - 1)} (omega (arith, some))).0 (omega (arith, h)) in
    omega (arith, k, suc-mul number size, some)

-- the quotient rounded up is at most the dividend
pub count_within : (size total : ℕ) → 1 ≤ size → (total + (size - 1)) / size ≤ total
count_within size total some = within ((total + (size - 1)) / size) refl where
  within : (count : ℕ) → (total + (size - 1)) / size ≡ count → count ≤ total
  within zero e = omega arith
  within (suc number) e =
      let k = begins_within number size total some (omega (arith, e)) in
      omega (arith, k, le-mul_of_pos_right {m = size} number (omega (arith, some)))

-- there are as many chunks as were counted
pub length-items_below : (size : ℕ) (bytes : List ℕ) (count : ℕ) → length (items_below size bytes count) ≡ count
length-items_below size bytes zero = refl
length-items_below size bytes (suc count) =
    omega (arith, length-append (items_below size bytes count) (record { id = count; bytes = chunk_at size bytes count } ∷ []), length-items_below size bytes count)

-- digests of the items are digests of their bytes
pub digests_are : (items : List ItemView) → map (λ item. sha256 item.bytes) items ≡ map sha256 (map (λ item. item.bytes) items)
digests_are [] = refl
digests_are (item ∷ items) = ap (λ rest. sha256 item.bytes ∷ rest) (digests_are items)

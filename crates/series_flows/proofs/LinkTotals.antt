-- Totals over the links that pass a test.
use Rattle.std.proofs.Common.{◌≡◌, ℕ, zero, suc, ◌+◌, ◌*◌, ◌<◌, ◌≤◌, Bool, true, false, ◌&&◌, cond, refl, sym, ap, ◌∙◌, arith}
use Rattle.programme_rows.specs.Listings.{total_below}
use Rattle.programme_rows.proofs.Totals.{no_total, same_total, total_plus, total_scaled, total_at_most}

-- what isn't used carries nothing, so that all count that pass the test
pub used_alone : (n : ℕ) (used test : ℕ → Bool) (f : ℕ → ℕ) → ((k : ℕ) → used k ≡ false → f k ≡ 0) →
    total_below n (λ k. cond (used k && test k) (f k) 0) ≡ total_below n (λ k. cond (test k) (f k) 0)
used_alone n used test f h = same_total n _ _ (λ k l. either (used k) (test k) (f k) (h k))
  where
    either : (used here : Bool) (n : ℕ) → (used ≡ false → n ≡ 0) → cond (used && here) n 0 ≡ cond here n 0
    either true here n h = refl
    either false true n h = sym (h refl)
    either false false n h = refl

-- totals of totals, in either order
pub total_exchange : (n m : ℕ) (f : ℕ → ℕ → ℕ) → total_below n (λ i. total_below m (f i)) ≡ total_below m (λ j. total_below n (λ i. f i j))
total_exchange zero m f = sym (no_total m)
total_exchange (suc n) m f =
    ap (λ z. z + total_below m (f n)) (total_exchange n m f) ∙ sym (total_plus m (λ j. total_below n (λ i. f i j)) (f n))

-- what all kinds come to over the links that pass a test, kind by kind
pub over_each_kind : (n m : ℕ) (test : ℕ → Bool) (cost : ℕ → ℕ) (flow : ℕ → ℕ → ℕ) →
    total_below n (λ kind. total_below m (λ link. cond (test link) (cost link * flow kind link) 0)) ≡ total_below m (λ link. cond (test link) (cost link * total_below n (λ kind. flow kind link)) 0)
over_each_kind n m test cost flow =
    total_exchange n m (λ kind link. cond (test link) (cost link * flow kind link) 0) ∙ same_total m _ _ (λ link l. each (test link) link)
  where
    each : (b : Bool) (link : ℕ) → total_below n (λ kind. cond b (cost link * flow kind link) 0) ≡ cond b (cost link * total_below n (λ kind. flow kind link)) 0
    each true link = total_scaled n (cost link) (λ kind. flow kind link)
    each false link = no_total n

-- totals keep the ratio of their numbers
pub total_in_ratio : (n a b : ℕ) (f g : ℕ → ℕ) → ((k : ℕ) → k < n → a * f k ≤ b * g k) → a * total_below n f ≤ b * total_below n g
total_in_ratio n a b f g h =
    let all = total_at_most n (λ k. a * f k) (λ k. b * g k) h in
    omega (arith, all, total_scaled n a f, total_scaled n b g)

use Rattle.std.proofs.Common.{◌≡◌, ℕ, ◌+◌, ◌*◌, ◌^◌, ◌<◌, ◌≤◌, ◌≢◌, true, false, cond, nat_eq, List, length, take, count_by, get_or, slice_set, refl, sym, ap, ◌∙◌, arith, inl, inr}
use Rattle.std.proofs.Math.Nat.{mul-le-mul_right}
use Rattle.std.proofs.lemmas.Bool.Decides.{nat_tests}
use Rattle.std.proofs.lemmas.List.{length-set, get_or-set_same, get_or-set_other}
use Rattle.std.proofs.lemmas.List.Elements.{All-get_or}
use Rattle.std.proofs.lemmas.List.Sums.{sum_by_more, sum_by_more_le}
use Rattle.series_flows.proofs.Terms.{true_or_false}
use Rattle.series_routes.proofs.weighing.add_route.Goals as goal

abbrev is_one : ℕ → ℕ → ℕ
is_one link other = cond (nat_eq link other) 1 0

itself : (n : ℕ) → is_one n n ≡ 1
itself n = let t : nat_eq n n ≡ true = grind (arith, nat_tests) in rw t refl

-- one more of a route's links stays within what it carries
more_fits : (links : List ℕ) (k old count now : ℕ) → k < length links → old + count_by (nat_eq (get_or links k 0)) links * count < 2 ^ 128 →
    now ≡ old + count_by (nat_eq (get_or links k 0)) (take k links) * count → now + count < 2 ^ 128
more_fits links k old count now l room is =
    let link : ℕ = get_or links k 0 in
    fits _ _ _ (sum_by_more_le (is_one (get_or links k 0)) links k 0 l) (itself (get_or links k 0)) room is
  where
    fits : (a b v : ℕ) → a + v ≤ b → v ≡ 1 → old + b * count < 2 ^ 128 → now ≡ old + a * count → now + count < 2 ^ 128
    fits a b v h e r i = let most : (a + 1) * count ≤ b * count = mul-le-mul_right count (omega (arith, h, e)) in omega (arith, most, r, i)

-- what is noted with one more of a route's links
load_more : (links : List ℕ) (loads old : List ℕ) (k count : ℕ) → k < length links → length loads ≡ 128 → get_or links k 0 < 128 →
    ((link : ℕ) → link < 128 → get_or loads link 0 ≡ get_or old link 0 + count_by (nat_eq link) (take k links) * count) → (link : ℕ) → link < 128 →
    get_or (slice_set loads (get_or links k 0) (get_or loads (get_or links k 0) 0 + count)) link 0 ≡ get_or old link 0 + count_by (nat_eq link) (take (k + 1) links) * count
load_more links loads old k count l size small h link inside =
    elim (true_or_false (nat_eq link (get_or links k 0))) [
      | inl same ↦
          let is : link ≡ get_or links k 0 = grind (arith, nat_tests) in
          rw is (get_or-set_same loads (get_or links k 0) _ 0 (omega (arith, size, small))
          ∙ added _ _ _ _ _ (h (get_or links k 0) small) (sum_by_more (is_one (get_or links k 0)) links k 0 l) (itself (get_or links k 0)))
      | inr other ↦
          get_or-set_other loads (get_or links k 0) link _ 0 (differ _ _ other) ∙ h link inside
          ∙ ap (λ n. get_or old link 0 + n * count) (sym (skipped _ _ _ (sum_by_more (is_one link) links k 0 l) (rw other refl)))
    ]
  where
    differ : (a b : ℕ) → nat_eq a b ≡ false → a ≢ b
    differ a b e f = grind (arith, nat_tests)

    added : (start now a b v : ℕ) → now ≡ start + a * count → b ≡ a + v → v ≡ 1 → now + count ≡ start + b * count
    added start now a b v e f g = let is : b * count ≡ (a + 1) * count = ap (λ n. n * count) (omega (arith, f, g)) in omega (arith, e, is)

    skipped : (b a v : ℕ) → b ≡ a + v → v ≡ 0 → b ≡ a
    skipped b a v e f = omega arith

pub overflow_add-loads : goal.overflow_add-loads
overflow_add-loads c =
    let links = c.as_slice-link-items.ensures in
    let inside = rw links at c.loop-link-test.true in
    let small : get_or c.args.route.now.links c.loop-link.link-index 0 < 128 = All-get_or (λ link. link < 128) c.args.route.now.links c.loop-link.link-index 0 inside c.requires.links in
    rw links (record { fits = more_fits c.args.route.now.links c.loop-link.link-index _ c.args.route.now.count _ inside (c.requires.room _ small) (c.loop-link.invariant.loads _ small) })

pub loop-link-preserved : goal.loop-link-preserved
loop-link-preserved c =
    let links = c.as_slice-link-items.ensures in
    let inside = rw links at c.loop-link-test.true in
    let small : get_or c.args.route.now.links c.loop-link.link-index 0 < 128 = All-get_or (λ link. link < 128) c.args.route.now.links c.loop-link.link-index 0 inside c.requires.links in
    record {
      size = length-set c.loop-link.loads _ _ ∙ c.loop-link.invariant.size;
      loads = rw links (load_more c.args.route.now.links c.loop-link.loads c.args.loads.now c.loop-link.link-index c.args.route.now.count inside c.loop-link.invariant.size small c.loop-link.invariant.loads);
    }

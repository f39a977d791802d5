use Rattle.std.proofs.Common.{◌≡◌, ℕ, ◌+◌, ◌<◌, ◌≤◌, ◌≢◌, ◌⊎◌, inl, inr, List, length, get_or, min, arith, ◌∙◌, ap}
use Rattle.std.proofs.lemmas.Bool.{cases_lt, cases_eq}
use Rattle.flow_routes.proofs.walk.least_on.Invariants.{IsLeastSoFar}
use Rattle.flow_routes.proofs.walk.least_on.Goals as goal

with_link : (amounts path : List ℕ) (least end new : ℕ) → IsLeastSoFar amounts path least end → end < length path → new ≡ min least (get_or amounts (get_or path end 0) 0) →
    IsLeastSoFar amounts path new (end + 1)
with_link amounts path least end new h l e =
    elim (cases_lt (get_or amounts (get_or path end 0) 0) least) [
      | inl less ↦ record { at_most = λ j k. at_most j k (cases_eq j end); place = end; inside = l; reached = smaller less }
      | inr more ↦ record { at_most = λ j k. at_most j k (cases_eq j end); place = h.place; inside = h.inside; reached = h.reached ∙ larger more }
    ]
  where
    smaller : get_or amounts (get_or path end 0) 0 < least → get_or amounts (get_or path end 0) 0 ≡ new
    smaller p = omega (arith, e)

    larger : least ≤ get_or amounts (get_or path end 0) 0 → least ≡ new
    larger p = omega (arith, e)

    here : (c : ℕ) → c ≡ get_or amounts (get_or path end 0) 0 → new ≤ c
    here c g = omega (arith, e)

    earlier : (c : ℕ) → least ≤ c → new ≤ c
    earlier c g = omega (arith, e)

    at_most : (j : ℕ) → j < end + 1 → (j ≡ end) ⊎ (j ≢ end) → new ≤ get_or amounts (get_or path j 0) 0
    at_most j k (inl a) = here _ (ap (λ i. get_or amounts (get_or path i 0) 0) a)
    at_most j k (inr a) = earlier _ (h.at_most j (omega arith))

pub loop-link-preserved : goal.loop-link-preserved
loop-link-preserved c = with_link c.args.amounts.now c.args.path.now c.loop-link.least c.loop-link.link-index c.min-least.result c.loop-link.invariant c.loop-link-test.true c.min-least.ensures

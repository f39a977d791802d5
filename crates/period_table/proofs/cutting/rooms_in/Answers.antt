use Rattle.std.proofs.Common.{◌≡◌, ℕ, ◌+◌, ◌/◌, ◌<◌, ◌||◌, ◌≢◌, Bool, true, false, cond, nat_eq, List, length, take, get_or, slice_set, refl, sym, ◌∙◌, arith, inl, inr}
use Rattle.std.specs.List.{list_any}
use Rattle.std.proofs.lemmas.Bool.Decides.{nat_tests}
use Rattle.std.proofs.lemmas.Option.{get_or_from_slice_get}
use Rattle.std.proofs.lemmas.List.Folds.{list_any_more}
use Rattle.std.proofs.lemmas.List.{get_or-replicate, length-set, get_or-set_same, get_or-set_other}
use Rattle.std.proofs.lemmas.List.Elements.{All-get_or}
use Rattle.platform_file.specs.Ticks.{TimedView}
use Rattle.schedule_model.specs.Operations.{cost_of}
use Rattle.period_table.proofs.Chains.{true_or_false}
use Rattle.period_table.proofs.cutting.rooms_in.Goals as goal

-- the rooms of the links so far, with one more
room_more : (t : TimedView) (duration : ℕ) (links rooms : List ℕ) (k ticks : ℕ) → k < length links → get_or links k 0 < 128 → length rooms ≡ 128 → ticks ≡ cost_of t (get_or links k 0) →
    ((link : ℕ) → link < 128 → get_or rooms link 0 ≡ cond (list_any (nat_eq link) (take k links)) (duration / cost_of t link) 0) → (link : ℕ) → link < 128 →
    get_or (slice_set rooms (get_or links k 0) (duration / ticks)) link 0 ≡ cond (list_any (nat_eq link) (take (k + 1) links)) (duration / cost_of t link) 0
room_more t duration links rooms k ticks l small size cost h link inside =
    elim (true_or_false (nat_eq link (get_or links k 0))) [
      | inl same ↦
          let is : link ≡ get_or links k 0 = grind (arith, nat_tests) in
          rw (list_any_more (nat_eq link) links k 0 l, same, last (list_any (nat_eq link) (take k links)), is, cost)
          (get_or-set_same rooms (get_or links k 0) (duration / cost_of t (get_or links k 0)) 0 (omega (arith, size, small)))
      | inr other ↦
          rw (list_any_more (nat_eq link) links k 0 l, other, first (list_any (nat_eq link) (take k links)))
          (get_or-set_other rooms (get_or links k 0) link (duration / ticks) 0 (differ _ _ other) ∙ h link inside)
    ]
  where
    last : (b : Bool) → (b || true) ≡ true
    last true = refl
    last false = refl

    first : (b : Bool) → (b || false) ≡ b
    first true = refl
    first false = refl

    differ : (a b : ℕ) → nat_eq a b ≡ false → a ≢ b
    differ a b e f = grind (arith, nat_tests)

pub loop-link-init : goal.loop-link-init
loop-link-init c = record { size = refl; rooms = λ link l. get_or-replicate 128 link 0 0 l }

pub loop-link-preserved : goal.loop-link-preserved
loop-link-preserved c =
    let links = c.as_slice-link-items.ensures in
    let inside = rw links at c.loop-link-test.true in
    let exists : get_or c.args.part.now.edges c.loop-link.link-index 0 < length c.args.timed.now.platform.links = All-get_or (λ link. link < length c.args.timed.now.platform.links) c.args.part.now.edges c.loop-link.link-index 0 inside c.requires.exist in
    record {
      size = length-set c.loop-link.rooms _ _ ∙ c.loop-link.invariant.size;
      rooms = rw links (room_more c.args.timed.now c.args.part.now.duration c.args.part.now.edges c.loop-link.rooms c.loop-link.link-index c.from.result inside (omega (arith, exists, c.known.ensures.platform.few_links)) c.loop-link.invariant.size
          (c.from.ensures ∙ sym (get_or_from_slice_get c.args.timed.now.costs _ _ 0 (rw links at c.cost.ensures.value))) c.loop-link.invariant.rooms);
    }

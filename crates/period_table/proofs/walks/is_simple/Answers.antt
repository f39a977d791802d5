use Rattle.std.proofs.Common.{◌≡◌, ◌-◌, ◌<◌, false, true, sym, ◌∙◌, arith, refl, get_or, replicate, drop, nat_eq}
use Rattle.std.specs.List.{list_any}
use Rattle.std.proofs.Math.Seq.{drop-length}
use Rattle.std.proofs.lemmas.List.{get_or-replicate, length-set}
use Rattle.std.proofs.lemmas.Map.Keys.{IsDistinct-head, IsDistinct-cons}
use Rattle.schedule_model.specs.Operations.{sender_of}
use Rattle.period_table.specs.Tables.{nodes_on}
use Rattle.period_table.proofs.WalkSteps.{next_link, walk_from, simple_from, none_is, some_is, marked, first_marked, alone}
use Rattle.period_table.proofs.walks.is_simple.Goals as goal

pub loop-k-init : goal.loop-k-init
loop-k-init c =
    let small : c.args.end < 32 = omega (arith, c.requires.end, c.known.ensures.platform.few_nodes) in
    let all = drop-length c.args.links.now in
    record {
      size = length-set (replicate 32 false) c.args.end true;
      marks = rw all (first_marked (replicate 32 false) c.args.end refl small (λ node l. get_or-replicate 32 node false false l));
      simple = rw all (alone c.args.end);
    }

pub sender-from-requires : goal.sender-from-requires
sender-from-requires c =
    (walk_from c.args.timed.now c.args.links.now c.args.end c.loop-k.k (omega (arith, c.loop-k-test.true)) (omega (arith, c.loop-k.auto.k, c.loop-k-test.true)) c.requires.walk).0

pub returns-then-seen-from-clause-no : goal.returns-then-seen-from-clause-no
returns-then-seen-from-clause-no c = λ simple.
    let d = simple_from c.args.timed.now c.args.links.now c.args.end c.loop-k.k (omega (arith, c.loop-k-test.true)) (omega (arith, c.loop-k.auto.k, c.loop-k-test.true)) simple in
    let small : c.sender-from.result < 32 = omega (arith, c.sender-from.ensures.exists, c.known.ensures.platform.few_nodes) in
    let seen : list_any (nat_eq c.sender-from.result) (nodes_on c.args.timed.now (drop c.loop-k.k c.args.links.now) c.args.end) ≡ true = sym (c.loop-k.invariant.marks c.sender-from.result small) ∙ c.if-seen-from.true in
    absurd (some_is (sender_of c.args.timed.now (get_or c.args.links.now (c.loop-k.k - 1) 0)) _ (rw c.sender-from.ensures.value at seen) (IsDistinct-head nat_eq _ _ d))

pub loop-k-preserved : goal.loop-k-preserved
loop-k-preserved c =
    let small : c.sender-from.result < 32 = omega (arith, c.sender-from.ensures.exists, c.known.ensures.platform.few_nodes) in
    let next = next_link c.args.links.now c.loop-k.k (omega (arith, c.loop-k-test.true)) (omega (arith, c.loop-k.auto.k, c.loop-k-test.true)) in
    let nodes = nodes_on c.args.timed.now (drop c.loop-k.k c.args.links.now) c.args.end in
    let unseen : list_any (nat_eq c.sender-from.result) nodes ≡ false = sym (c.loop-k.invariant.marks c.sender-from.result small) ∙ c.if-seen-from.false in
    record {
      size = length-set c.loop-k.seen _ _ ∙ c.loop-k.invariant.size;
      marks = λ node l. rw (next, sym c.sender-from.ensures.value) (marked c.loop-k.seen nodes c.sender-from.result c.loop-k.invariant.size small c.loop-k.invariant.marks node l);
      simple = rw (next, sym c.sender-from.ensures.value) (IsDistinct-cons nat_eq c.sender-from.result nodes (none_is c.sender-from.result nodes unseen) c.loop-k.invariant.simple);
    }

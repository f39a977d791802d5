use Rattle.std.proofs.Common.{rules, ◌≡◌, [], ◌∷◌, ◌++◌, length, map, drop, subst, sym, ap, ◌∙◌, refl, arith}
use Rattle.std.proofs.lemmas.List.{append_assoc, append-nil}
use Rattle.std.proofs.Math.Seq.{drop-length}
use Rattle.schedule_model.specs.Operations.{receiver_of}
use Rattle.plan_text.specs.Walks.{IsNamedWalk}
use Rattle.plan_text.proofs.NamedWalks.{from_next, to_next}
use Rattle.plan_text.proofs.walks.walk_over.Goals as goal

pub loop-name-preserved : goal.loop-name-preserved
loop-name-preserved c =
    let t = c.args.timed.now in
    let names = c.args.names.now in
    let i = c.loop-name.name-index in
    let link = c.in-Some.link in
    let reached : c.receiver-at.result ≡ receiver_of t link = search rules in
    let pushed : c.push.new.self ≡ c.loop-name.links ++ link ∷ [] = search rules in
    rw (reached, pushed) (record {
      there = λ rest end w. subst (λ links. IsNamedWalk t c.args.start (map (λ name. name.now) names) links end) (sym (append_assoc c.loop-name.links (link ∷ []) rest))
          (c.loop-name.invariant.there (link ∷ rest) end (from_next t c.loop-name.at link names i _ c.loop-name-test.true c.in-Some.ensures rest end w));
      back = λ walk end w. let before = c.loop-name.invariant.back walk end w in to_next t c.known.ensures c.loop-name.at link names i _ c.loop-name-test.true c.in-Some.ensures before.0 end before.1;
    })

pub returns : goal.returns
returns c =
    let t = c.args.timed.now in
    let names = c.args.names.now in
    let i = c.loop-name.name-index in
    let at_end : i ≡ length names = omega (arith, c.loop-name-test.false, c.loop-name.auto.name-index-end) in
    let over : drop i names ≡ [] = ap (λ k. drop k names) at_end ∙ drop-length names in
    subst (λ links. IsNamedWalk t c.args.start (map (λ name. name.now) names) links c.loop-name.at) (append-nil c.loop-name.links)
    (c.loop-name.invariant.there [] c.loop-name.at (rw over refl))

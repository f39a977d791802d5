use Rattle.std.proofs.Common.{rules, ◌≡◌, IfOk, drop, length, vec_items, subst}
use Rattle.std.specs.Vec.Iter.{into_iter_items, into_iter_len}
use Rattle.std.specs.Iterator.Adapters.{skip_source}
use Rattle.std.proofs.lemmas.Iterator.{items_from_collect}
use Rattle.std.proofs.lemmas.Iterator.Adapters.{YieldsList-from_vec, YieldsList-from_skip}
use Rattle.steady.proofs.words_after_name.Goals as goal

pub returns-in-Ok-collect : goal.returns-in-Ok-collect
returns-in-Ok-collect c =
    let items : into_iter_items (skip_source c.skip.result) ≡ into_iter_items c.in-Ok.all = search rules in
    let size : into_iter_len (skip_source c.skip.result) ≡ length (into_iter_items c.in-Ok.all) = search rules in
    let given = YieldsList-from_skip 1 (YieldsList-from_vec (into_iter_items c.in-Ok.all) items size) c.skip.ensures.count in
    let words = items_from_collect c.collect.result c.collect.ensures.ran given in
    rw c.in-Ok.is (subst (λ r. IfOk r (λ w. vec_items w ≡ drop 1 (into_iter_items c.in-Ok.all))) c.in-Ok-collect.is words)

pub returns-in-Err-2 : goal.returns-in-Err-2
returns-in-Err-2 c = search rules

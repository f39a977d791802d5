use Rattle.std.proofs.Common.{rules, ◌≡◌, ℕ, [], ◌∷◌, ◌++◌, map, ◌∙◌, ap}
use Rattle.std.specs.List.{range_with_len}
use Rattle.run_text.specs.Counts.{dones_at}
use Rattle.run_text.proofs.Counts.{one_further}
use Rattle.run_text.proofs.counting.counts_of.Goals as goal

pub loop-node-preserved : goal.loop-node-preserved
loop-node-preserved c =
    let f : ℕ → ℕ = λ node. dones_at node c.args.actors.now c.args.wiring.now in
    let n = c.loop-node.node in
    let grown : c.push.new.self.items ≡ c.loop-node.counts.items ++ (c.dones_at.result ∷ []) = search rules in
    grown ∙ ap (λ items. items ++ (c.dones_at.result ∷ [])) c.loop-node.invariant
    ∙ ap (λ count. map f (range_with_len 0 n) ++ (count ∷ [])) c.dones_at.ensures ∙ one_further f n

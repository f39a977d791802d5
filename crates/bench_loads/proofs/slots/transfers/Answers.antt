use Rattle.std.proofs.Common.{◌≡◌, ℕ, suc, ◌-◌, ◌≤◌, add-one, arith, sym, subst}
use Rattle.bipartite_slots.specs.Parts.{Exist, AreWithin}
use Rattle.bench_loads.proofs.Transfers.{AreInChain, empty_chain, longer_chain, chain_exists, chain_within, chain_apart}
use Rattle.bench_loads.proofs.slots.transfers.Goals as goal

pub loop-node-init : goal.loop-node-init
loop-node-init c = subst (AreInChain 0) (sym c.new-edges.ensures) empty_chain

pub loop-node-preserved : goal.loop-node-preserved
loop-node-preserved c =
    let pushed = rw add-one at c.in_ok-push.ensures.ok in
    rw add-one (subst (AreInChain (suc c.loop-node.node)) (sym pushed) (longer_chain c.loop-node.node c.loop-node.edges c.weight_of.result c.loop-node.invariant c.weight_of.ensures))

all_nodes : (nodes node : ℕ) → 1 ≤ nodes → nodes - 1 ≤ node → node ≤ nodes - 1 → suc node ≡ nodes
all_nodes nodes node some low high = omega arith

pub returns-clause-exist : goal.returns-clause-exist
returns-clause-exist c =
    let whole = all_nodes c.args.nodes c.loop-node.node c.requires.some (omega (arith, c.loop-node-test.false)) (omega (arith, c.loop-node.auto.node-end)) in
    subst (λ n. Exist (record { nodes = n; edges = c.loop-node.edges })) whole (chain_exists c.loop-node.node c.loop-node.edges c.loop-node.invariant)

pub returns-clause-apart : goal.returns-clause-apart
returns-clause-apart c = chain_apart c.loop-node.node c.loop-node.edges c.loop-node.invariant

pub returns-clause-within : goal.returns-clause-within
returns-clause-within c =
    let whole = all_nodes c.args.nodes c.loop-node.node c.requires.some (omega (arith, c.loop-node-test.false)) (omega (arith, c.loop-node.auto.node-end)) in
    subst (λ n. AreWithin (record { nodes = n; edges = c.loop-node.edges }) 20000) whole (chain_within c.loop-node.node c.loop-node.edges c.loop-node.invariant)

use Rattle.toml.specs.View.{table_view}
use Rattle.platform_file.specs.Platform.{IsNode, same_name}
use Rattle.platform_file.specs.Reading.{node_in}
use Rattle.platform_file.proofs.Growing.{one_more}
use Rattle.platform_file.proofs.reading.read_nodes.Goals as goal

pub loop-table-preserved : goal.loop-table-preserved
loop-table-preserved c =
    let read = rw c.as_slice.ensures at c.in_ok-node.ensures.value in
    let fresh = rw c.as_slice.ensures at c.in_ok-node.ensures.fresh in
    rw c.in_ok-push.ensures.ok (one_more node_in (λ table. table_view table.now) c.args.tables.now IsNode same_name c.loop-table.table-index c.loop-table.nodes _ c.in_ok-node.node c.loop-table-test.true (rw c.table-item.is at read) c.in_ok-node.ensures.node fresh c.loop-table.invariant)

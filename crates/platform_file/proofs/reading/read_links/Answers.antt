use Rattle.std.proofs.Common.{sym}
use Rattle.toml.specs.View.{table_view}
use Rattle.platform_file.specs.Platform.{IsLink, same_ends}
use Rattle.platform_file.specs.Reading.{link_in}
use Rattle.platform_file.proofs.Growing.{one_more}
use Rattle.platform_file.proofs.reading.read_links.Goals as goal

pub loop-table-preserved : goal.loop-table-preserved
loop-table-preserved c =
    let read = rw (c.as_slice.ensures, c.table-item.is) at (sym c.in_ok-link.ensures.value) in
    let fresh = rw c.as_slice.ensures at c.in_ok-link.ensures.fresh in
    rw c.in_ok-push.ensures.ok (one_more (link_in c.args.nodes.now) (λ table. table_view table.now) c.args.tables.now (IsLink c.args.nodes.now) same_ends c.loop-table.table-index c.loop-table.links _ c.in_ok-link.link c.loop-table-test.true read c.in_ok-link.ensures.link fresh c.loop-table.invariant)

use Rattle.std.proofs.Common.{◌≡◌, length, slice_index, refl, ap, ◌∙◌}
use Rattle.platform_file.specs.Platform.{PlatformView}
use Rattle.exact_simplex.specs.Optima.{first_terms}
use Rattle.series_flows.proofs.flowing.flow_with.Goals as goal

pub returns : goal.returns
returns c =
    let p = c.args.timed.now.platform in
    let nodes : length c.nodes.result.now ≡ length p.nodes = ap length (c.nodes.ensures ∙ ap (λ (q : PlatformView). q.nodes) c.platform-platform.ensures) in
    let links : length c.links.result.now ≡ length p.links = ap length (c.links.ensures ∙ ap (λ (q : PlatformView). q.links) c.platform-platform.ensures) in
    let again : length c.nodes-2.result.now ≡ length p.nodes = ap length (c.nodes-2.ensures ∙ ap (λ (q : PlatformView). q.nodes) c.platform-platform.ensures) in
    let amounts : c.in_ok-first_ones.field-0 ≡ first_terms (slice_index c.args.amounts.now.flows) (length p.links) = rw links at c.in_ok-first_ones.ensures in
    let demands : c.in_ok-first_ones-2.field-0 ≡ first_terms (slice_index c.args.amounts.now.uses) (length p.nodes) = rw again at c.in_ok-first_ones-2.ensures in
    rw (nodes, c.master.ensures.value, c.platform-platform.ensures, c.in_ok-ends.ensures, amounts, demands) refl

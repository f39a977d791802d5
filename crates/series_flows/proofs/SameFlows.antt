-- Equal amounts make equal flows.
use Rattle.std.proofs.Common.{◌≡◌, ℕ, ◌<◌, length, refl}
use Rattle.platform_file.specs.Ticks.{TimedView}
use Rattle.series_flows.specs.Flows.{flow_with}
use Rattle.series_flows.proofs.Terms.{same_terms}

pub same_flow : (t : TimedView) (f g u v : ℕ → ℕ) → ((k : ℕ) → k < length t.platform.links → f k ≡ g k) → ((k : ℕ) → k < length t.platform.nodes → u k ≡ v k) → flow_with t f u ≡ flow_with t g v
same_flow t f g u v flows uses = rw (same_terms f g (length t.platform.links) flows, same_terms u v (length t.platform.nodes) uses) refl

use Rattle.std.proofs.Common.{◌≡◌, map}
use Rattle.sha2.specs.Sha256.{sha256}
use Rattle.chunk_tasks.specs.Chunks.{items_below}
use Rattle.chunk_tasks.proofs.digests.digest_chunks.Given as goal

abbrev pub invariant-loop-number : goal.invariant-loop-number
invariant-loop-number l = l.digests.items ≡ map sha256 (map (λ item. item.bytes) (items_below l.size l.bytes l.number))

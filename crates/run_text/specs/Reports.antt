-- The text of a report: what a run did, each chunk's digest, and how many tasks each node computed.
use Rattle.std.specs.Prelude.{◌≡◌, ℕ, ◌+◌, ◌^◌, ◌<◌, List, [], ◌∷◌, ◌++◌, length, All, codes, decimal}
use Rattle.hex.specs.Hex.{encode_lower}
use Rattle.platform_file.specs.Platform.{NodeView}
use Rattle.platform_file.specs.Ticks.{TimedView}
use Rattle.text_lines.specs.Lines.{line}
use Rattle.period_table.specs.declared.table.Table.{Table}
use Rattle.actor_programs.specs.Tasks.{batches_of}
use Rattle.actor_programs.specs.Programs.{run_periods}

-- the chunks, batches, periods and events of a run
abbrev pub run_line : Table → ℕ → ℕ → List ℕ
run_line table chunks events =
    codes "run 1 chunks " ++ (decimal chunks
    ++ (codes " batches " ++ (decimal (batches_of table.tasks chunks)
    ++ (codes " periods " ++ (decimal (run_periods table chunks)
    ++ (codes " events " ++ decimal events))))))

-- a chunk's number and its digest in hexadecimal digits
abbrev pub digest_line : ℕ → List ℕ → List ℕ
digest_line number digest = codes "digest " ++ (decimal number ++ (codes " " ++ encode_lower digest))

-- the lines of some digests, numbered from one on
abbrev pub digests_text : ℕ → List (List ℕ) → List ℕ
digests_text number [] = []
digests_text number (digest ∷ digests) = line (digest_line number digest) ++ digests_text (number + 1) digests

-- a node's name and how many tasks it computed
abbrev pub node_line : NodeView → ℕ → List ℕ
node_line node count = codes "node " ++ (node.name ++ (codes " " ++ decimal count))

-- the lines of some nodes, each with its count
abbrev pub nodes_text : List NodeView → List ℕ → List ℕ
nodes_text [] counts = []
nodes_text (node ∷ nodes) [] = []
nodes_text (node ∷ nodes) (count ∷ counts) = line (node_line node count) ++ nodes_text nodes counts

-- the report of a run with so many events, whose chunks have these digests and whose nodes computed so many tasks
abbrev pub report_text : TimedView → Table → ℕ → List (List ℕ) → List ℕ → List ℕ
report_text t table events results counts =
    line (run_line table (length results) events)
    ++ (digests_text 0 results
    ++ (nodes_text t.platform.nodes counts
    ++ line (codes "end")))

-- what can be reported of a platform: machine numbers, digests of 32 bytes, and a count for each node
pub record IsReportable (t : TimedView) (events : ℕ) (results : List (List ℕ)) (counts : List ℕ) : Type 0 where
  pub small_events : events < 2 ^ 64
  pub digests : All (λ digest. length digest ≡ 32) results
  pub small_counts : All (λ count. count < 2 ^ 64) counts
  pub each : length counts ≡ length t.platform.nodes

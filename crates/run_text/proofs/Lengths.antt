-- How long the lines of a report are at the most.
use Rattle.std.proofs.Common.{◌≡◌, ℕ, ◌+◌, ◌-◌, ◌*◌, ◌/◌, ◌^◌, ◌<◌, ◌≤◌, Bool, true, false, cond, nat_eq, List, [], ◌∷◌, ◌++◌, length, All, codes, decimal, rules, arith, length-append}
use Rattle.std.proofs.Math.Nat.{div-le_self}
use Rattle.std.proofs.lemmas.Fmt.{length-decimal-le, length-decimal-le_wide}
use Rattle.std.proofs.lemmas.List.Elements.{All-head, All-tail}
use Rattle.hex.specs.Hex.{encode_lower, lower_digits}
use Rattle.hex.proofs.HexLemmas.{length-encode_with}
use Rattle.platform_file.specs.Platform.{NodeView, IsNode, is_name}
use Rattle.platform_file.specs.Ticks.{TimedView, IsTimed}
use Rattle.text_lines.specs.Lines.{line}
use Rattle.period_table.specs.declared.table.Table.{Table}
use Rattle.actor_programs.specs.Tasks.{batches_of}
use Rattle.actor_programs.specs.Programs.{run_periods}
use Rattle.run_text.specs.Reports.{run_line, digest_line, digests_text, node_line, nodes_text, report_text, IsReportable}

-- a text of three parts
parts : (first second third : List ℕ) → length (first ++ (second ++ third)) ≡ length first + (length second + length third)
parts first second third = omega (arith, length-append first (second ++ third), length-append second third)

-- a line is a byte longer than its text
line_length : (text : List ℕ) → length (line text) ≡ length text + 1
line_length text = length-append text (10 ∷ [])

-- a machine number has at most 20 digits
word : (n : ℕ) → n < 2 ^ 64 → length (decimal n) ≤ 20
word n h = length-decimal-le 20 n (omega arith) (omega arith) h

-- a number below 10^39 has at most 39 digits
wide : (n : ℕ) → n < 10 ^ 39 → length (decimal n) ≤ 39
wide n h = length-decimal-le_wide 39 n (omega arith) h (omega (arith, h))

-- the line of a digest
digest_length : (number : ℕ) (digest : List ℕ) → number < 2 ^ 64 → length digest ≡ 32 → length (line (digest_line number digest)) ≤ 93
digest_length number digest small whole =
    omega (
      arith,
      line_length (digest_line number digest),
      parts (codes "digest ") (decimal number) (codes " " ++ encode_lower digest),
      length-append (codes " ") (encode_lower digest),
      length-encode_with lower_digits digest,
      whole,
      word number small,
    )

-- the lines of digests
pub digests_length : (number : ℕ) (digests : List (List ℕ)) → number + length digests ≤ 2 ^ 64 → All (λ digest. length digest ≡ 32) digests →
    length (digests_text number digests) ≤ 93 * length digests
digests_length number [] small all = omega arith
digests_length number (digest ∷ digests) small all =
    omega (
      arith,
      length-append (line (digest_line number digest)) (digests_text (number + 1) digests),
      digest_length number digest (omega (arith, small)) (All-head (λ digest. length digest ≡ 32) digest digests all),
      digests_length (number + 1) digests (omega (arith, small)) (All-tail (λ digest. length digest ≡ 32) digest digests all),
    )

-- a name has at most 32 bytes
name_length : (node : NodeView) → IsNode node → length node.name ≤ 32
name_length node is = short (is_name node.name) is.named
  where
    short : (b : Bool) → is_name node.name ≡ true → length node.name ≤ 32
    short b e = search (rules, e)

-- the line of a node
node_length : (node : NodeView) (count : ℕ) → IsNode node → count < 2 ^ 64 → length (line (node_line node count)) ≤ 59
node_length node count is small =
    omega (
      arith,
      line_length (node_line node count),
      parts (codes "node ") node.name (codes " " ++ decimal count),
      length-append (codes " ") (decimal count),
      name_length node is,
      word count small,
    )

-- the lines of nodes
pub nodes_length : (nodes : List NodeView) (counts : List ℕ) → All IsNode nodes → All (λ count. count < 2 ^ 64) counts →
    length (nodes_text nodes counts) ≤ 59 * length nodes
nodes_length [] counts named small = omega arith
nodes_length (node ∷ nodes) [] named small = omega arith
nodes_length (node ∷ nodes) (count ∷ counts) named small =
    omega (
      arith,
      length-append (line (node_line node count)) (nodes_text nodes counts),
      node_length node count (All-head IsNode node nodes named) (All-head (λ count. count < 2 ^ 64) count counts small),
      nodes_length nodes counts (All-tail IsNode node nodes named) (All-tail (λ count. count < 2 ^ 64) count counts small),
    )

-- nothing or a number is at most the number
none_or : (b : Bool) (n : ℕ) → cond b 0 n ≤ n
none_or true n = omega arith
none_or false n = omega arith

-- batches are no more than chunks and tasks together
batches_few : (tasks chunks : ℕ) → batches_of tasks chunks ≤ chunks + tasks
batches_few tasks chunks =
    let quotient : batches_of tasks chunks ≤ (chunks + (tasks - 1)) / tasks = none_or (nat_eq chunks 0) ((chunks + (tasks - 1)) / tasks) in
    omega (arith, quotient, div-le_self (chunks + (tasks - 1)) tasks)

-- periods are no more than the depth besides
periods_few : (table : Table) (chunks : ℕ) → run_periods table chunks ≤ chunks + table.tasks + table.depth
periods_few table chunks =
    let sum : run_periods table chunks ≤ batches_of table.tasks chunks + table.depth = none_or (nat_eq chunks 0) (batches_of table.tasks chunks + table.depth) in
    omega (arith, sum, batches_few table.tasks chunks)

-- the first line
pub run_length : (table : Table) (chunks events : ℕ) → table.tasks < 2 ^ 128 → table.depth < 2 ^ 32 → chunks < 2 ^ 64 → events < 2 ^ 64 →
    length (line (run_line table chunks events)) ≤ 158
run_length table chunks events tasks depth small few =
    let numbers = batches_few table.tasks chunks in
    let periods = periods_few table chunks in
    omega (
      arith,
      line_length (run_line table chunks events),
      parts (codes "run 1 chunks ") (decimal chunks) (codes " batches " ++ (decimal (batches_of table.tasks chunks) ++ (codes " periods " ++ (decimal (run_periods table chunks) ++ (codes " events " ++ decimal events))))),
      parts (codes " batches ") (decimal (batches_of table.tasks chunks)) (codes " periods " ++ (decimal (run_periods table chunks) ++ (codes " events " ++ decimal events))),
      parts (codes " periods ") (decimal (run_periods table chunks)) (codes " events " ++ decimal events),
      length-append (codes " events ") (decimal events),
      word chunks small,
      wide (batches_of table.tasks chunks) (omega (arith, numbers, tasks, small)),
      wide (run_periods table chunks) (omega (arith, periods, tasks, depth, small)),
      word events few,
    )

-- the whole report
pub report_length : (t : TimedView) (table : Table) (events : ℕ) (results : List (List ℕ)) (counts : List ℕ) → IsTimed t →
    table.tasks < 2 ^ 128 → table.depth < 2 ^ 32 → IsReportable t events results counts → length results < 2 ^ 64 →
    length (report_text t table events results counts) ≤ 93 * length results + 2050
report_length t table events results counts timed tasks depth is small =
    omega (
      arith,
      parts (line (run_line table (length results) events)) (digests_text 0 results) (nodes_text t.platform.nodes counts ++ line (codes "end")),
      length-append (nodes_text t.platform.nodes counts) (line (codes "end")),
      run_length table (length results) events tasks depth small is.small_events,
      digests_length 0 results (omega (arith, small)) is.digests,
      nodes_length t.platform.nodes counts timed.platform.nodes is.small_counts,
      timed.platform.few_nodes,
    )

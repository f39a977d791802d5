use Rattle.std.proofs.Common.{rules, ◌≡◌, ◌≤◌, length, map, arith, ◌∙◌}
use Rattle.std.proofs.lemmas.List.{length-map}
use Rattle.scatter_program.specs.Columns.{columns_of}
use Rattle.scatter_program.specs.Programme.{gain_of, scatter_programme}
use Rattle.scatter_program.proofs.Flows.{rows_few, columns_few}
use Rattle.scatter_program.proofs.programme.programme_over.Goals as goal

pub new-requires : goal.new-requires
new-requires c =
    let t = c.args.timed.now in
    let columns : c.args.columns.now ≡ columns_of t = search rules in
    let rows : c.in_ok-rows.rows ≡ (scatter_programme t).rows = search rules in
    let gain : c.in_ok-gain.gain ≡ map gain_of (columns_of t) = search rules in
    let nodes : length t.platform.nodes ≤ 32 = search rules in
    let links : length t.platform.links ≤ 128 = search rules in
    let targets : length t.platform.targets ≤ 8 = search rules in
    record {
      rows = search rules;
      gains = rw gain (length-map (columns_of t) gain_of ∙ search rules);
      small_gains = search rules;
      sizes = rw (rows, columns) (omega (arith, columns_few t links targets, rows_few t nodes targets));
    }

use Rattle.std.proofs.Common.{rules, ◌≡◌, ◌++◌, [], ◌∷◌, true, false, length, All, subst, sym}
use Rattle.std.proofs.lemmas.List.Elements.{All-push}
use Rattle.linear_program.specs.Programmes.{IsRow}
use Rattle.tasking_program.specs.Rows.{is_limited, row_of}
use Rattle.programme_rows.proofs.Listings.{pushed}
use Rattle.tasking_program.proofs.rows.push_rows.Goals.{then-is_limited+in_ok-row_of+in_ok-push, else-is_limited}
use Rattle.tasking_program.proofs.rows.push_rows.Goals as goal

pub loop-node-preserved : goal.loop-node-preserved
loop-node-preserved c =
    let t = c.args.timed.now in
    let limit = c.args.limit in
    let node = c.loop-node.node in
    let before = c.loop-node.invariant in
    elim c.if-is_limited.branch [
      | then-is_limited+in_ok-row_of+in_ok-push w ↦
          let is : is_limited t limit node ≡ true = search rules in
          let more : c.if-is_limited.rows ≡ c.loop-node.rows ++ row_of t limit node ∷ [] = search rules in
          let row : IsRow (length c.args.columns.now) (row_of t limit node) = search rules in
          record {
            value = pushed (is_limited t limit) (row_of t limit) node true _ _ _ is before.value more;
            rows = subst (λ rows. All (IsRow (length c.args.columns.now)) rows) (sym more) (All-push (IsRow (length c.args.columns.now)) c.loop-node.rows (row_of t limit node) before.rows row);
          }
      | else-is_limited w ↦
          let isnt : is_limited t limit node ≡ false = search rules in
          let same : c.if-is_limited.rows ≡ c.loop-node.rows = search rules in
          record {
            value = pushed (is_limited t limit) (row_of t limit) node false _ _ _ isnt before.value (search rules);
            rows = subst (λ rows. All (IsRow (length c.args.columns.now)) rows) (sym same) before.rows;
          }
    ]

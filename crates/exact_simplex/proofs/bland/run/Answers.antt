use Rattle.std.proofs.Common.{◌≡◌, ℕ, suc, ◌+◌, ◌-◌, ◌≤◌, ◌≢◌, Some, arith, refl, add-one, sym, ◌∙◌, ap}
use Rattle.linear_program.specs.Pivots.{Pivoted, pivoted}
use Rattle.exact_simplex.specs.Bland.{entering_column, leaving_row, run_from}
use Rattle.linear_program.proofs.Starts.{start_canonical, start_derived}
use Rattle.exact_simplex.proofs.Choices.{entering_is, ended_is, leaving_some, leaving_within, step_kept, run_ended, run_spent, run_overflow, run_next, after_step}
use Rattle.exact_simplex.proofs.bland.run.Goals as goal

left_over : (limit made : ℕ) → made ≤ limit → made ≢ limit → limit - made ≡ suc (limit - (made + 1))
left_over limit made h k = omega arith

pub loop-column-init : goal.loop-column-init
loop-column-init g c = record {
  within = omega arith;
  reached = let e : c.args.limit - 0 ≡ c.args.limit = omega arith in ap (λ n. run_from n 0 (g.T.Tableau.tableau c.args.tableau.now)) e;
  after = refl;
  canonical = rw c.requires.start (start_canonical c.requires.programme c.requires.lp);
  derived = rw c.requires.start (start_derived c.requires.programme);
}

pub returns-then-made-limit-clause-spent : goal.returns-then-made-limit-clause-spent
returns-then-made-limit-clause-spent g c n same =
    let t = g.T.Tableau.tableau c.loop-column.tableau in
    let none : c.args.limit - c.loop-column.made ≡ 0 = omega (arith, c.if-made-limit.true) in (
      cc,
      sym c.loop-column.invariant.reached
          ∙ ap (λ k. run_from k c.loop-column.made t) none
          ∙ run_spent c.loop-column.made c.in-Some.column t (sym c.in-Some.ensures),
    )

pub leaving-requires : goal.leaving-requires
leaving-requires g c =
    let enters = entering_is (g.T.Tableau.tableau c.loop-column.tableau) c.in-Some.column (sym c.in-Some.ensures) in
    omega (arith, enters.within)

pub unwrap-row-requires : goal.unwrap-row-requires
unwrap-row-requires g c =
    let t = g.T.Tableau.tableau c.loop-column.tableau in
    let inv = c.loop-column.invariant in
    rw c.leaving.ensures (leaving_some c.requires.programme t c.in-Some.column c.requires.bounded inv.canonical (rw c.requires.start at inv.derived) (sym c.in-Some.ensures))

-- what the pass knows of its pivot
pub pivot-requires-clause-row : goal.pivot-requires-clause-row
pivot-requires-clause-row g c =
    let t = g.T.Tableau.tableau c.loop-column.tableau in
    (leaving_within t c.in-Some.column t.constraints c.unwrap-row.result (sym c.leaving.ensures ∙ c.unwrap-row.ensures)).0

pub pivot-requires-clause-column : goal.pivot-requires-clause-column
pivot-requires-clause-column g c =
    let enters = entering_is (g.T.Tableau.tableau c.loop-column.tableau) c.in-Some.column (sym c.in-Some.ensures) in
    omega (arith, enters.within)

pub pivot-requires-clause-positive : goal.pivot-requires-clause-positive
pivot-requires-clause-positive g c =
    let t = g.T.Tableau.tableau c.loop-column.tableau in
    (leaving_within t c.in-Some.column t.constraints c.unwrap-row.result (sym c.leaving.ensures ∙ c.unwrap-row.ensures)).1

pub loop-column-preserved : goal.loop-column-preserved
loop-column-preserved g c =
    let t = g.T.Tableau.tableau c.loop-column.tableau in
    let u = g.T.Tableau.tableau c.pivot.new.self in
    let inv = c.loop-column.invariant in
    let enters : entering_column t ≡ Some c.in-Some.column = sym c.in-Some.ensures in
    let leaves : leaving_row t c.in-Some.column ≡ Some c.unwrap-row.result = sym c.leaving.ensures ∙ c.unwrap-row.ensures in
    let pivots : pivoted t c.unwrap-row.result c.in-Some.column ≡ Pivoted.tableau u = c.in-Ok.ensures.ok in
    let both = step_kept c.requires.programme t u c.in-Some.column c.unwrap-row.result inv.canonical (rw c.requires.start at inv.derived) enters leaves pivots in
    let left = left_over c.args.limit c.loop-column.made inv.within c.if-made-limit.false in
    record {
      within = let a = inv.within in let b = c.if-made-limit.false in omega arith;
      reached =
          sym (run_next (c.args.limit - (c.loop-column.made + 1)) c.loop-column.made c.in-Some.column c.unwrap-row.result t u enters leaves pivots)
          ∙ ap (λ k. run_from k c.loop-column.made t) (sym left) ∙ inv.reached;
      after = rw add-one (after_step c.loop-column.made c.in-Some.column c.unwrap-row.result (g.T.Tableau.tableau c.args.tableau.now) t u inv.after enters leaves pivots);
      canonical = both.0;
      derived = rw c.requires.start both.1;
    }

pub returns-in-Err-Overflow-clause-overflow : goal.returns-in-Err-Overflow-clause-overflow
returns-in-Err-Overflow-clause-overflow g c n i j same =
    let t = g.T.Tableau.tableau c.loop-column.tableau in
    let u = g.T.Tableau.tableau c.pivot.new.self in
    let inv = c.loop-column.invariant in
    let enters : entering_column t ≡ Some c.in-Some.column = sym c.in-Some.ensures in
    let leaves : leaving_row t c.in-Some.column ≡ Some c.unwrap-row.result = sym c.leaving.ensures ∙ c.unwrap-row.ensures in
    let left = left_over c.args.limit c.loop-column.made inv.within c.if-made-limit.false in
    let overflows : pivoted t c.unwrap-row.result c.in-Some.column ≡ Pivoted.overflow c.in-Err-Overflow.row c.in-Err-Overflow.column =
    c.in-Err-Overflow.ensures.overflow c.in-Err-Overflow.row c.in-Err-Overflow.column (let e = c.in-Err-Overflow.field-0-is in cc) in
    let stays : u ≡ t = c.in-Err-Overflow.ensures.refused in
    let run =
    sym inv.reached ∙ ap (λ k. run_from k c.loop-column.made t) left
    ∙ run_overflow (c.args.limit - (c.loop-column.made + 1)) c.loop-column.made c.in-Some.column c.unwrap-row.result c.in-Err-Overflow.row c.in-Err-Overflow.column t enters leaves overflows in
    let same_made : c.loop-column.made ≡ n = cc in
    let same_row : c.in-Err-Overflow.row ≡ i = cc in
    let same_column : c.in-Err-Overflow.column ≡ j = cc in
    rw (stays, ← same_made, ← same_row, ← same_column) run

pub returns-clause-ended : goal.returns-clause-ended
returns-clause-ended g c =
    let t = g.T.Tableau.tableau c.loop-column.tableau in
    sym c.loop-column.invariant.reached ∙ run_ended (c.args.limit - c.loop-column.made) c.loop-column.made t (sym c.in_default.ensures)

pub returns-clause-gainless : goal.returns-clause-gainless
returns-clause-gainless g c = ended_is (g.T.Tableau.tableau c.loop-column.tableau) (sym c.in_default.ensures)

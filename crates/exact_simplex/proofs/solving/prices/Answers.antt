use Rattle.std.proofs.Common.{rules, ◌≡◌, ◌+◌, ◌-◌, ◌<◌, ◌^◌, ℤ, pos, negsuc, ◌≤ℤ◌, nat_abs, All, [], ◌∷◌, ◌++◌, add-one, arith, sym, ◌∙◌, ap, subst, SFits}
use Rattle.std.specs.Int.{w128}
use Rattle.std.proofs.lemmas.Int.{ints, to_z-of_z}
use Rattle.std.proofs.lemmas.List.Elements.{All-push}
use Rattle.exact_simplex.specs.Optima.{first_terms, price_of}
use Rattle.exact_simplex.proofs.solving.prices.Goals as goal

-- a machine number that is not below 0
small : (z : ℤ) → SFits w128 z → pos 0 ≤ℤ z → nat_abs z < 2 ^ 127
small (pos n) fits h = fits.sfits
small (negsuc n) fits h = absurd (omega (arith, ints))

pub loop-row-preserved : goal.loop-row-preserved
loop-row-preserved g c =
    let t = g.T.Tableau.tableau c.args.tableau.now in
    let row = c.loop-row.row in
    let fits : SFits w128 c.cell.result = search rules in
    let within : row < t.constraints = omega (arith, c.rows-last.ensures, c.loop-row-test.true) in
    let last : c.rows-last.result - 1 ≡ t.constraints = omega (arith, c.rows-last.ensures) in
    let first : c.columns.result - c.rows.result - 1 + row ≡ t.values + row = omega (arith, c.columns.ensures, c.rows.ensures) in
    let cell : c.cell.result ≡ price_of t row = rw (last, first) at c.cell.ensures in
    let pushed : c.push.new.self ≡ c.loop-row.prices ++ c.cell.result ∷ [] = rw (to_z-of_z _ _ fits) at c.in_ok-push.ensures.ok in
    let all : All (λ price. nat_abs price < 2 ^ 127) (c.loop-row.prices ++ c.cell.result ∷ []) = All-push (λ price. nat_abs price < 2 ^ 127) c.loop-row.prices c.cell.result c.loop-row.invariant.small (small c.cell.result fits (rw cell (c.requires (t.values + row) (omega (arith, within))))) in
    record {
      value = rw add-one (pushed ∙ ap (λ l. l ++ c.cell.result ∷ []) c.loop-row.invariant.value ∙ ap (λ z. first_terms (price_of t) row ++ z ∷ []) cell);
      small = subst (λ ys. All (λ price. nat_abs price < 2 ^ 127) ys) (sym pushed) all;
    }

use Rattle.std.proofs.Common.{pos, ◌≤ℤ◌, nat_abs, sym, ◌∙◌, subst}
use Rattle.linear_program.specs.Duality.{priced_sides, IsDualFeasible}
use Rattle.dual_checker.specs.Verdicts.{ProvesOrOverflows}
use Rattle.dual_checker.proofs.Priced.{proof_of, dual_in_sizes, sides_in_sizes, complete}
use Rattle.dual_checker.proofs.checking.check.Goals as goal

pub returns-clause-proof : goal.returns-clause-proof
returns-clause-proof c proves = proof_of c.args.lp.now c.args.certificate.now c.requires c.known.ensures (sym c.verdict.ensures ∙ proves)

pub returns-clause-tasking_rate : goal.returns-clause-tasking_rate
returns-clause-tasking_rate c t timed is proves =
    let certificate = c.args.certificate.now in
    let proof = proof_of c.args.lp.now certificate c.requires c.known.ensures (sym c.verdict.ensures ∙ proves) in
    let dual = dual_in_sizes c.args.lp.now certificate c.requires c.known.ensures proof in
    let sides = sides_in_sizes c.args.lp.now certificate c.requires c.known.ensures proof in
    c.prices_bound_rates.ensures t certificate.prices (nat_abs certificate.scale) (nat_abs certificate.best) timed
    (subst (λ p. IsDualFeasible p certificate.prices (pos (nat_abs certificate.scale))) is dual)
    (subst (λ p. priced_sides p.rows certificate.prices ≤ℤ pos (nat_abs certificate.best)) is sides)

pub returns-clause-scatter_rate : goal.returns-clause-scatter_rate
returns-clause-scatter_rate c t timed some is proves =
    let certificate = c.args.certificate.now in
    let proof = proof_of c.args.lp.now certificate c.requires c.known.ensures (sym c.verdict.ensures ∙ proves) in
    let dual = dual_in_sizes c.args.lp.now certificate c.requires c.known.ensures proof in
    let sides = sides_in_sizes c.args.lp.now certificate c.requires c.known.ensures proof in
    c.prices_bound_rates-2.ensures t certificate.prices (nat_abs certificate.scale) (nat_abs certificate.best) timed some
    (subst (λ p. IsDualFeasible p certificate.prices (pos (nat_abs certificate.scale))) is dual)
    (subst (λ p. priced_sides p.rows certificate.prices ≤ℤ pos (nat_abs certificate.best)) is sides)

pub returns-clause-complete : goal.returns-clause-complete
returns-clause-complete c proof = subst (λ v. ProvesOrOverflows v) (sym c.verdict.ensures) (complete c.args.lp.now c.args.certificate.now c.requires proof)

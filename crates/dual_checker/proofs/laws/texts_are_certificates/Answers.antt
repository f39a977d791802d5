use Rattle.dual_checker.proofs.Exact.{exact}
use Rattle.dual_checker.proofs.laws.texts_are_certificates.Goals as goal

pub returns : goal.returns
returns c = exact

use Rattle.std.proofs.Common.{◌≡◌, ℕ, ◌<◌, ◌≤◌, List, length, get_or}
use Rattle.flow_routes.proofs.walk.least_on.Given as goal

pub record IsLeastSoFar (amounts path : List ℕ) (least end : ℕ) : Type 0 where
  pub at_most : (place : ℕ) → place < end → least ≤ get_or amounts (get_or path place 0) 0
  pub place : ℕ
  pub inside : place < length path
  pub reached : get_or amounts (get_or path place 0) 0 ≡ least

abbrev pub invariant-loop-link : goal.invariant-loop-link
invariant-loop-link l = IsLeastSoFar l.amounts l.path l.least l.link-index

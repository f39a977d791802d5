-- The columns and the rows of all kinds: that they exist, how many there are, and what they sum to.
use Rattle.std.proofs.Common.{◌≡◌, ℕ, zero, suc, ◌+◌, ◌*◌, ◌<◌, ◌≤◌, true, ◌++◌, length, All, ℤ, ◌+ℤ◌, refl, ◌∙◌, arith}
use Rattle.std.proofs.lemmas.List.{length-append}
use Rattle.std.proofs.lemmas.List.Elements.{All-append, All-cons, All-nil}
use Rattle.linear_program.specs.Sums.{sum_below}
use Rattle.linear_program.specs.Programmes.{RowView}
use Rattle.platform_file.specs.Ticks.{TimedView}
use Rattle.programme_rows.specs.Cells.{where_true}
use Rattle.programme_rows.proofs.Listings.{each_all, each_few, sum_over, sum_over_append, sum_over_each}
use Rattle.scatter_program.specs.declared.columns.Column.{Column}
use Rattle.scatter_program.specs.declared.columns.Column.TheVariants.{Rate, Flows}
use Rattle.scatter_program.specs.declared.rows.Limit.TheVariants.{Send, Receive, Supply}
use Rattle.scatter_program.specs.Columns.{carries, flows_of, flows_below, columns_of, Exists}
use Rattle.scatter_program.specs.Rows.{is_limited, row_of, rows_of, supplies_below}
use Rattle.scatter_program.specs.Programme.{scatter_programme}

both : {a b c d : ℤ} → a ≡ b → c ≡ d → a +ℤ c ≡ b +ℤ d
both e k = rw (e, k) refl

-- what holds of each flow holds of all
pub flows_all : (P : Column → Type 0) (t : TimedView) (n : ℕ) → ((link kind : ℕ) → link < length t.platform.links → kind < n → carries t kind link ≡ true → P (Flows link kind)) → All P (flows_below t n)
flows_all P t zero h = All-nil P
flows_all P t (suc n) h =
    All-append P (flows_below t n) (flows_of t n) (flows_all P t n (λ link kind l k e. h link kind l (omega (arith, k)) e))
    (each_all P (carries t n) (λ link. Flows link n) (length t.platform.links) (λ link l e. h link n l (omega arith) e))

-- each column of the programme exists
pub columns_exist : (t : TimedView) → All (Exists t) (columns_of t)
columns_exist t =
    All-cons (Exists t) Rate (flows_below t (length t.platform.targets)) tt (flows_all (Exists t) t (length t.platform.targets) (λ link kind l k e. (l, k)))

flows_few : (t : TimedView) → length t.platform.links ≤ 128 → (n : ℕ) → length (flows_below t n) ≤ 128 * n
flows_few t few zero = omega arith
flows_few t few (suc n) =
    more _ _ _ _ (length-append (flows_below t n) (flows_of t n)) (flows_few t few n) (each_few (carries t n) (λ link. Flows link n) (length t.platform.links))
  where
    more : (a b c n : ℕ) → a ≡ b + c → b ≤ 128 * n → c ≤ length t.platform.links → a ≤ 128 * suc n
    more a b c n e h k = omega (arith, few)

pub columns_few : (t : TimedView) → length t.platform.links ≤ 128 → length t.platform.targets ≤ 8 → length (columns_of t) ≤ 1025
columns_few t links targets = let flows = flows_few t links (length t.platform.targets) in omega (arith, flows, targets)

supplies_few : (t : TimedView) → length t.platform.nodes ≤ 32 → (n : ℕ) → length (supplies_below t n) ≤ 32 * n
supplies_few t few zero = omega arith
supplies_few t few (suc n) =
    more _ _ _ _ (length-append (supplies_below t n) (rows_of t (Supply n))) (supplies_few t few n) (each_few (is_limited t (Supply n)) (row_of t (Supply n)) (length t.platform.nodes))
  where
    more : (a b c n : ℕ) → a ≡ b + c → b ≤ 32 * n → c ≤ length t.platform.nodes → a ≤ 32 * suc n
    more a b c n e h k = omega (arith, few)

pub rows_few : (t : TimedView) → length t.platform.nodes ≤ 32 → length t.platform.targets ≤ 8 → length (scatter_programme t).rows ≤ 320
rows_few t nodes targets =
    let n = length t.platform.nodes in
    few nodes targets (length-append (rows_of t Send) (rows_of t Receive ++ supplies_below t (length t.platform.targets)))
    (length-append (rows_of t Receive) (supplies_below t (length t.platform.targets))) (each_few (is_limited t Send) (row_of t Send) n) (each_few (is_limited t Receive) (row_of t Receive) n)
    (supplies_few t nodes (length t.platform.targets))
  where
    few : {a b c y z n k : ℕ} → n ≤ 32 → k ≤ 8 → z ≡ a + y → y ≡ b + c → a ≤ n → b ≤ n → c ≤ 32 * k → z ≤ 320
    few l m e f g h i = omega arith

-- the sum over the flows, kind by kind and link by link
pub sum_over_flows : (t : TimedView) (f : Column → ℤ) (n : ℕ) →
    sum_over f (flows_below t n) ≡ sum_below n (λ kind. sum_below (length t.platform.links) (λ link. where_true (carries t kind link) (f (Flows link kind))))
sum_over_flows t f zero = refl
sum_over_flows t f (suc n) =
    sum_over_append f (flows_below t n) (flows_of t n) ∙ both (sum_over_flows t f n) (sum_over_each f (carries t n) (λ link. Flows link n) (length t.platform.links))

-- the sum over the supply rows, kind by kind and node by node
pub sum_over_supplies : (t : TimedView) (f : RowView → ℤ) (n : ℕ) →
    sum_over f (supplies_below t n) ≡ sum_below n (λ kind. sum_below (length t.platform.nodes) (λ node. where_true (is_limited t (Supply kind) node) (f (row_of t (Supply kind) node))))
sum_over_supplies t f zero = refl
sum_over_supplies t f (suc n) =
    sum_over_append f (supplies_below t n) (rows_of t (Supply n)) ∙ both (sum_over_supplies t f n) (sum_over_each f (is_limited t (Supply n)) (row_of t (Supply n)) (length t.platform.nodes))

-- The whole numbers by which a solution is scaled: the least common multiples of its denominators and of the costs of the links that carry something.
use Rattle.std.specs.Prelude.{ℕ, zero, suc, ◌*◌, ◌^◌, Bool, false, not, ◌||◌, List, [], ◌∷◌, ◌++◌, length, map, Result, Ok, Err, cond, nat_eq, nat_le, slice_index, codes, decimal}
use Rattle.std.specs.List.{list_any}
use Rattle.ratio_core.specs.Fraction.{Fraction}
use Rattle.ratio_core.specs.Multiples.{lcm_of}
use Rattle.platform_file.specs.Ticks.{TimedView}
use Rattle.schedule_model.specs.Operations.{cost_of}
use Rattle.schedule_model.specs.declared.schedule.Series.{Series}
use Rattle.programme_rows.specs.Listings.{each_where}
use Rattle.series_routes.specs.declared.numbers.PeriodStep.{PeriodStep}
use Rattle.series_routes.specs.declared.numbers.PeriodStep.TheVariants.{Denominators, Costs, Product}
use Rattle.series_routes.specs.declared.numbers.Scale.{Scale}
use Rattle.series_routes.specs.declared.numbers.TableFault.{TableFault}
use Rattle.series_routes.specs.declared.numbers.TableFault.TheVariants.{Period, NoMemory}
use Rattle.flow_routes.specs.declared.flow.Flow.{Flow}
use Rattle.series_flows.specs.Programmes.{kinds_of}
use Rattle.series_flows.specs.Flows.{flow_rate}

-- the word for a step
abbrev pub step_text : PeriodStep → List ℕ
step_text Denominators = codes "denominators"
step_text Costs = codes "costs"
step_text Product = codes "product"

-- the line that names why a solution has no scale
abbrev pub table_fault_text : TableFault → List ℕ
table_fault_text (Period step left right) = codes "period overflow at " ++ (step_text step ++ (codes ": " ++ (decimal left ++ (codes " and " ++ decimal right))))
table_fault_text NoMemory = codes "out of memory"

-- the least common multiple of what stands so far and of the numbers that follow, in their order; the first number that makes it exceed 2^100 ends it
abbrev pub multiple_of : PeriodStep → ℕ → List ℕ → Result ℕ TableFault
multiple_of step left [] = Ok left
multiple_of step left (right ∷ rest) = cond (nat_le (lcm_of left right) (2 ^ 100)) (multiple_of step (lcm_of left right) rest) (Err (Period step left right))

-- the least number that makes every value whole
abbrev pub common_denominator : List Fraction → Result ℕ TableFault
common_denominator values = multiple_of Denominators 1 (map (λ value. value.den) values)

-- some number below n passes
abbrev pub some_below : ℕ → (ℕ → Bool) → Bool
some_below zero passes = false
some_below (suc n) passes = some_below n passes || passes n

-- the link carries something of a kind, on a route or not
abbrev pub is_in_use : TimedView → Series → List Fraction → ℕ → Bool
is_in_use t series values link = some_below (kinds_of t series) (λ kind. not (nat_eq (flow_rate t series values kind link).num 0))

-- some flow has an amount on the link
abbrev pub goes_over : List Flow → ℕ → Bool
goes_over flows link = list_any (λ flow. not (nat_eq (slice_index flow.amounts link) 0)) flows

-- the costs of the links that carry something, in the order of the links
abbrev pub costs_in_use : TimedView → Series → List Fraction → List ℕ
costs_in_use t series values = each_where (is_in_use t series values) (cost_of t) (length t.platform.links)

-- the least number that makes each of these costs a divisor
abbrev pub common_cost : TimedView → Series → List Fraction → Result ℕ TableFault
common_cost t series values = multiple_of Costs 1 (costs_in_use t series values)

-- the product of the two, up to the same bound
abbrev pub product_of : ℕ → ℕ → Result ℕ TableFault
product_of left right = cond (nat_le (left * right) (2 ^ 100)) (Ok (left * right)) (Err (Period Product left right))

-- goes on with a number, or ends with the fault
abbrev pub and_then : {A B : Type 0} → Result A TableFault → (A → Result B TableFault) → Result B TableFault
and_then (Ok number) next = next number
and_then (Err fault) next = Err fault

-- the ticks in which all values are whole, and how many times as long they have to last: the denominators come first, then the costs, then the product
abbrev pub scale_of : TimedView → Series → List Fraction → Result Scale TableFault
scale_of t series values =
    and_then (common_denominator values)
    (λ ticks. and_then (common_cost t series values)
    (λ times. and_then (product_of ticks times) (λ period. Ok (record { ticks = ticks; times = times }))))

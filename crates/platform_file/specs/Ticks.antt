-- Platforms whose times and costs are counted in ticks. Source: this project; the literature counts in rational time.
use Rattle.std.specs.Prelude.{◌≡◌, ⊤, ℕ, ◌*◌, ◌/◌, ◌%◌, ◌^◌, ◌<◌, ◌≤◌, nat_le, cond, List, [], ◌∷◌, ◌++◌, map, flat_map, All, Option, Result, Ok, Err, IfSome, option_map, option_to_list}
use Rattle.ratio_core.specs.Multiples.{lcm_of}
use Rattle.platform_file.specs.declared.fault.TimedFault.{TimedFault}
use Rattle.platform_file.specs.declared.fault.TimedFault.TheVariants.{Unit, NoMemory}
use Rattle.ratio_core.specs.Fraction.{Fraction}
use Rattle.platform_file.specs.Platform.{PlatformView, IsPlatform}

-- a platform, the ticks of a time unit, each node's ticks for a task, and each link's for a task or message
pub record TimedView : Type 0 where
  pub platform : PlatformView
  pub unit : ℕ
  pub times : List (Option ℕ)
  pub costs : List ℕ

-- the ticks of a time or cost, which are whole where its denominator divides the unit
abbrev pub ticks_of : ℕ → Fraction → ℕ
ticks_of unit f = unit * f.num / f.den

-- the ticks of each node's task, where it computes
abbrev pub times_of : ℕ → PlatformView → List (Option ℕ)
times_of unit p = map (λ node. option_map (ticks_of unit) node.time) p.nodes

-- the ticks of each link's task or message
abbrev pub costs_of : ℕ → PlatformView → List ℕ
costs_of unit p = map (λ link. ticks_of unit link.cost) p.links

-- the denominators of all times in node order, and then of all costs in link order
abbrev pub denominators_of : PlatformView → List ℕ
denominators_of p = flat_map (λ node. option_to_list (option_map (λ time. time.den) node.time)) p.nodes ++ map (λ link. link.cost.den) p.links

-- the number is a multiple of each of the denominators
abbrev pub IsCommonMultiple : List ℕ → ℕ → Type 0
IsCommonMultiple denominators n = All (λ den. n % den ≡ 0) denominators

-- the unit is the least number of ticks that makes every time and cost whole, and each of them lasts
pub record IsTimed (t : TimedView) : Type 0 where
  pub platform : IsPlatform t.platform
  pub some_unit : 1 ≤ t.unit
  pub short_unit : t.unit ≤ 2 ^ 40
  pub common : IsCommonMultiple (denominators_of t.platform) t.unit
  pub least : (n : ℕ) → 1 ≤ n → IsCommonMultiple (denominators_of t.platform) n → t.unit ≤ n
  pub times : t.times ≡ times_of t.unit t.platform
  pub costs : t.costs ≡ costs_of t.unit t.platform
  pub some_time : All (λ time. IfSome time (λ ticks. 1 ≤ ticks)) t.times
  pub some_cost : All (λ ticks. 1 ≤ ticks) t.costs

-- the least common multiple of what stands so far and of the denominators that follow, in their order; the first denominator that makes it exceed 2^40 ends it
abbrev pub unit_from : ℕ → List ℕ → Result ℕ TimedFault
unit_from left [] = Ok left
unit_from left (right ∷ rest) = cond (nat_le (lcm_of left right) (2 ^ 40)) (unit_from (lcm_of left right) rest) (Err (Unit left right))

-- a platform in ticks, or where the ticks of its time unit exceed the bound
abbrev pub timed_of : PlatformView → Result TimedView TimedFault
timed_of p = in_ticks (unit_from 1 (denominators_of p))
  where
    in_ticks : Result ℕ TimedFault → Result TimedView TimedFault
    in_ticks (Ok unit) = Ok (record { platform = p; unit = unit; times = times_of unit p; costs = costs_of unit p })
    in_ticks (Err fault) = Err fault

-- the fault is the one with which this ends; memory may run out at any time
abbrev pub IsTimedFault : {A : Type 0} → TimedFault → Result A TimedFault → Type 0
IsTimedFault NoMemory read = ⊤
IsTimedFault fault read = read ≡ Err fault

-- no number of ticks up to 2^40 makes every time and cost whole
abbrev pub HasNoUnit : PlatformView → TimedFault → Type 0
HasNoUnit p NoMemory = ⊤
HasNoUnit p (Unit left right) = (n : ℕ) → 1 ≤ n → IsCommonMultiple (denominators_of p) n → 2 ^ 40 < n

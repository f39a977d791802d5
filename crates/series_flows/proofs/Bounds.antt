-- Bounds on the ticks of tasks and links, and on what takes them.
use Rattle.std.proofs.Common.{◌≡◌, ℕ, ◌+◌, ◌*◌, ◌/◌, ◌<◌, ◌≤◌, true, false, [], length, get_or, Option, Some, None, IfSome, option_map, unwrap_or, ap, ◌∙◌, arith}
use Rattle.std.specs.Option.{is_some}
use Rattle.std.proofs.Math.Nat.{mul-le-mul_left, mul-le-mul_right, lt-div-mul-add}
use Rattle.std.proofs.lemmas.List.{get_or-map, length-map}
use Rattle.std.proofs.lemmas.List.Elements.{All-get_or}
use Rattle.ratio_core.specs.Fraction.{Fraction}
use Rattle.ratio_core.specs.Texts.{HasSmallParts}
use Rattle.platform_file.specs.Platform.{NodeView, IsNode, LinkView, IsLink}
use Rattle.platform_file.specs.Ticks.{TimedView, IsTimed, ticks_of}
use Rattle.schedule_model.specs.Operations.{time_of, cost_of, sender_of, receiver_of, no_link}
use Rattle.tasking_program.specs.Columns.{computes}

-- a number is at most its product with one that lasts
pub lasting : (k n bound : ℕ) → 1 ≤ k → k * n ≤ bound → n ≤ bound
lasting k n bound some h = let one : 1 * n ≤ k * n = mul-le-mul_right n some in omega (arith, one, h)

-- what takes a time within the ticks has few time units
pub few_units : (unit time n ticks : ℕ) → unit ≤ 2000000 * time → time * n ≤ ticks → n * unit ≤ 2000000 * ticks
few_units unit time n ticks h k =
    let times : n * unit ≤ n * (2000000 * time) = mul-le-mul_left n h in
    let turned : n * (2000000 * time) ≡ 2000000 * (time * n) = omega arith in
    let all : 2000000 * (time * n) ≤ 2000000 * ticks = mul-le-mul_left 2000000 k in
    omega (arith, times, turned, all)

-- a time unit has at most two million times the ticks of a time in small parts
at_most : (unit num den ticks : ℕ) → 1 ≤ num → 1 ≤ den → den ≤ 1000000 → ticks ≡ unit * num / den → 1 ≤ ticks → unit ≤ 2000000 * ticks
at_most unit num den ticks some_num some_den small e lasts =
    let less : unit * num < ticks * den + den = rw e (lt-div-mul-add some_den) in
    let once : unit * 1 ≤ unit * num = mul-le-mul_left unit some_num in
    let twice : 1 * den ≤ ticks * den = mul-le-mul_right den lasts in
    let all : ticks * den ≤ ticks * 1000000 = mul-le-mul_left ticks small in
    omega (arith, less, once, twice, all)

module _ (t : TimedView) (timed : IsTimed t) where
  -- a task at a node that computes lasts
  pub some_time : (node : ℕ) → node < length t.platform.nodes → computes t node ≡ true → 1 ≤ time_of t node
  some_time node l does = lasts (get_or t.times node None) does (All-get_or (λ time. IfSome time (λ n. 1 ≤ n)) t.times node None inside timed.some_time)
    where
      inside : node < length t.times
      inside = rw (ap length timed.times ∙ length-map t.platform.nodes _) l

      lasts : (time : Option ℕ) → is_some time ≡ true → IfSome time (λ n. 1 ≤ n) → 1 ≤ unwrap_or time 0
      lasts None e h = let bad : false ≡ true = e in absurd cc
      lasts (Some n) e h = h

  -- a time unit has at most two million times the ticks of a node's task
  pub unit_of_times : (node : ℕ) → node < length t.platform.nodes → computes t node ≡ true → t.unit ≤ 2000000 * time_of t node
  unit_of_times node l does =
      found _ _ is does (All-get_or IsNode t.platform.nodes node no_node l timed.platform.nodes).time (All-get_or (λ time. IfSome time (λ n. 1 ≤ n)) t.times node None inside timed.some_time)
    where
      no_node : NodeView
      no_node = record { name = []; time = None }

      inside : node < length t.times
      inside = rw (ap length timed.times ∙ length-map t.platform.nodes _) l

      is : get_or t.times node None ≡ option_map (ticks_of t.unit) (get_or t.platform.nodes node no_node).time
      is = ap (λ times. get_or times node None) timed.times ∙ get_or-map (λ (n : NodeView). option_map (ticks_of t.unit) n.time) t.platform.nodes node no_node None l

      found : (time : Option Fraction) (ticks : Option ℕ) → ticks ≡ option_map (ticks_of t.unit) time → is_some ticks ≡ true → IfSome time HasSmallParts → IfSome ticks (λ n. 1 ≤ n) →
          t.unit ≤ 2000000 * unwrap_or ticks 0
      found None None e some parts lasts = let bad : false ≡ true = some in absurd cc
      found None (Some n) e some parts lasts = absurd cc
      found (Some time) None e some parts lasts = absurd cc
      found (Some time) (Some n) e some parts lasts = let same : n ≡ ticks_of t.unit time = cc in at_most t.unit time.num time.den n parts.some_num parts.some_den parts.small_den same lasts

  -- a task or message over a link lasts
  pub some_cost : (link : ℕ) → link < length t.platform.links → 1 ≤ cost_of t link
  some_cost link l = All-get_or (λ n. 1 ≤ n) t.costs link 0 inside timed.some_cost
    where
      inside : link < length t.costs
      inside = rw (ap length timed.costs ∙ length-map t.platform.links _) l

  -- a time unit has at most two million times the ticks of a link's task or message
  pub unit_of_costs : (link : ℕ) → link < length t.platform.links → t.unit ≤ 2000000 * cost_of t link
  unit_of_costs link l =
      let parts = (All-get_or (IsLink t.platform.nodes) t.platform.links link no_link l timed.platform.links).cost in
      at_most t.unit (get_or t.platform.links link no_link).cost.num (get_or t.platform.links link no_link).cost.den (cost_of t link) parts.some_num parts.some_den parts.small_den is (some_cost link l)
    where
      is : cost_of t link ≡ ticks_of t.unit (get_or t.platform.links link no_link).cost
      is = ap (λ costs. get_or costs link 0) timed.costs ∙ get_or-map (λ (k : LinkView). ticks_of t.unit k.cost) t.platform.links link no_link 0 l

  -- a link's ends are nodes
  pub sender_inside : (link : ℕ) → link < length t.platform.links → sender_of t link < length t.platform.nodes
  sender_inside link l = (All-get_or (IsLink t.platform.nodes) t.platform.links link no_link l timed.platform.links).leaves

  pub receiver_inside : (link : ℕ) → link < length t.platform.links → receiver_of t link < length t.platform.nodes
  receiver_inside link l = (All-get_or (IsLink t.platform.nodes) t.platform.links link no_link l timed.platform.links).enters

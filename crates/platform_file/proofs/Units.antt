-- The ticks of a time unit: the fold is the least common multiple of the denominators, so that every time and cost is whole and lasts.
use Rattle.std.proofs.Common.{◌≡◌, ℕ, ◌*◌, ◌%◌, ◌^◌, ◌<◌, ◌≤◌, nat_le, true, false, cond, List, [], ◌∷◌, ◌++◌, map, flat_map, All, Option, Some, None, Ok, Err, IfSome, option_map, option_to_list, refl, arith}
use Prim.Native.Nat.{◌∣◌}
use Rattle.std.proofs.lemmas.Bool.{leb-true, leb-false}
use Rattle.std.proofs.lemmas.Nat.{le-div, mul-le}
use Rattle.std.proofs.lemmas.Nat.Gcd.{dvd_trans, dvd_of_mod-eq-zero, mod-eq-zero_of_dvd, le_of_dvd}
use Rattle.std.proofs.Math.Nat.{mod_self, mod-one}
use Rattle.std.proofs.lemmas.List.Elements.{All-append, All-cons, All-nil, All-head, All-tail}
use Rattle.ratio_core.specs.Fraction.{Fraction}
use Rattle.ratio_core.specs.Texts.{HasSmallParts}
use Rattle.ratio_core.specs.Multiples.{IsLeastCommonMultiple, lcm_of}
use Rattle.platform_file.specs.declared.fault.TimedFault.{TimedFault}
use Rattle.platform_file.specs.declared.fault.TimedFault.TheVariants.{Unit, NoMemory}
use Rattle.platform_file.specs.Platform.{NodeView, LinkView, PlatformView, IsNode, IsLink, IsPlatform}
use Rattle.platform_file.specs.Ticks.{IsTimed, IsCommonMultiple, denominators_of, unit_from, ticks_of, times_of, costs_of, HasNoUnit}

-- where the first denominators end the fold, and where they don't
pub ends : (left : ℕ) (xs ys : List ℕ) (fault : TimedFault) → unit_from left xs ≡ Err fault → unit_from left (xs ++ ys) ≡ Err fault
ends left [] ys fault h = cc
ends left (right ∷ xs) ys fault h =
    elim (nat_le (lcm_of left right) (2 ^ 40)) as (λ b. cond b (unit_from (lcm_of left right) xs) (Err (Unit left right)) ≡ Err fault →
    cond b (unit_from (lcm_of left right) (xs ++ ys)) (Err (Unit left right)) ≡ Err fault) [
      | true ↦ λ h. ends (lcm_of left right) xs ys fault h
      | false ↦ λ h. h
    ] h

pub goes_on : (left : ℕ) (xs ys : List ℕ) (unit : ℕ) → unit_from left xs ≡ Ok unit → unit_from left (xs ++ ys) ≡ unit_from unit ys
goes_on left [] ys unit h = cc
goes_on left (right ∷ xs) ys unit h =
    elim (nat_le (lcm_of left right) (2 ^ 40)) as (λ b. cond b (unit_from (lcm_of left right) xs) (Err (Unit left right)) ≡ Ok unit →
    cond b (unit_from (lcm_of left right) (xs ++ ys)) (Err (Unit left right)) ≡ unit_from unit ys) [
      | true ↦ λ h. goes_on (lcm_of left right) xs ys unit h
      | false ↦ λ h. cc
    ] h

-- the least common multiple of a number and some denominators
record IsFolded (left : ℕ) (denominators : List ℕ) (unit : ℕ) : Type 0 where
  some : 1 ≤ unit
  short : unit ≤ 2 ^ 40
  of_left : unit % left ≡ 0
  common : IsCommonMultiple denominators unit
  least : (n : ℕ) → 1 ≤ n → n % left ≡ 0 → IsCommonMultiple denominators n → unit ≤ n

module _ (multiples : (a b : ℕ) → 1 ≤ a → 1 ≤ b → IsLeastCommonMultiple a b (lcm_of a b)) where
  next : (left right : ℕ) (rest : List ℕ) (unit : ℕ) → 1 ≤ left → 1 ≤ right → IsFolded (lcm_of left right) rest unit → IsFolded left (right ∷ rest) unit
  next left right rest unit some_left some_right f =
      let m = multiples left right some_left some_right in
      let whole : lcm_of left right ∣ unit = dvd_of_mod-eq-zero (lcm_of left right) f.of_left in
      record {
        some = f.some;
        short = f.short;
        of_left = mod-eq-zero_of_dvd left (dvd_trans left (dvd_of_mod-eq-zero left m.of_first) whole);
        common = All-cons (λ den. unit % den ≡ 0) right rest (mod-eq-zero_of_dvd right (dvd_trans right (dvd_of_mod-eq-zero right m.of_second) whole)) f.common;
        least = λ n some of_left common. f.least n some (m.divides n of_left (All-head (λ den. n % den ≡ 0) right rest common)) (All-tail (λ den. n % den ≡ 0) right rest common);
      }

  folded : (left : ℕ) (denominators : List ℕ) (unit : ℕ) → 1 ≤ left → left ≤ 2 ^ 40 → All (λ den. 1 ≤ den) denominators → unit_from left denominators ≡ Ok unit → IsFolded left denominators unit
  folded left [] unit some short all h =
      let same : left ≡ unit = cc in
      rw (← same) (record { some = some; short = short; of_left = mod_self left; common = All-nil (λ den. left % den ≡ 0); least = λ n some of_left common. le_of_dvd (omega arith) (dvd_of_mod-eq-zero left of_left) })
  folded left (right ∷ rest) unit some short all h =
      let some_right = All-head (λ den. 1 ≤ den) right rest all in
      elim (nat_le (lcm_of left right) (2 ^ 40)) as (λ b. nat_le (lcm_of left right) (2 ^ 40) ≡ b → cond b (unit_from (lcm_of left right) rest) (Err (Unit left right)) ≡ Ok unit → IsFolded left (right ∷ rest) unit) [
        | true ↦ λ e h. next left right rest unit some some_right (folded (lcm_of left right) rest unit (multiples left right some some_right).some (leb-true _ _ e) (All-tail (λ den. 1 ≤ den) right rest all) h)
        | false ↦ λ e h. cc
      ] refl h

  -- where the fold ends early, every common multiple exceeds the bound
  passed : (left : ℕ) (denominators : List ℕ) (l r n : ℕ) → 1 ≤ left → All (λ den. 1 ≤ den) denominators → unit_from left denominators ≡ Err (Unit l r) →
      1 ≤ n → n % left ≡ 0 → IsCommonMultiple denominators n → 2 ^ 40 < n
  passed left [] l r n some_left all h some of_left common = cc
  passed left (right ∷ rest) l r n some_left all h some of_left common =
      let some_right = All-head (λ den. 1 ≤ den) right rest all in
      let m = multiples left right some_left some_right in
      let of_right = All-head (λ den. n % den ≡ 0) right rest common in
      elim (nat_le (lcm_of left right) (2 ^ 40)) as (λ b. nat_le (lcm_of left right) (2 ^ 40) ≡ b → cond b (unit_from (lcm_of left right) rest) (Err (Unit left right)) ≡ Err (Unit l r) → 2 ^ 40 < n) [
        | true ↦ λ e h. passed (lcm_of left right) rest l r n m.some (All-tail (λ den. 1 ≤ den) right rest all) h some (m.divides n of_left of_right) (All-tail (λ den. n % den ≡ 0) right rest common)
        | false ↦ λ e h. let least = m.least n some of_left of_right in let more = leb-false (lcm_of left right) (2 ^ 40) e in omega (arith, least, more)
      ] refl h

-- the denominators of the times, in node order
abbrev pub time_denominators : List NodeView → List ℕ
time_denominators nodes = flat_map (λ node. option_to_list (option_map (λ time. time.den) node.time)) nodes

time_has : (time : Option Fraction) (P : Fraction → Type 0) (Q : ℕ → Type 0) → ((f : Fraction) → P f → Q f.den) → IfSome time P → All Q (option_to_list (option_map (λ time. time.den) time))
time_has None P Q step h = All-nil Q
time_has (Some f) P Q step h = All-cons Q f.den [] (step f h) (All-nil Q)

some_time_den : (nodes : List NodeView) → All IsNode nodes → All (λ den. 1 ≤ den) (time_denominators nodes)
some_time_den [] h = All-nil (λ den. 1 ≤ den)
some_time_den (node ∷ nodes) h =
    All-append (λ den. 1 ≤ den) _ (time_denominators nodes)
    (time_has node.time HasSmallParts (λ den. 1 ≤ den) (λ f small. small.some_den) (All-head IsNode node nodes h).time)
    (some_time_den nodes (All-tail IsNode node nodes h))

some_cost_den : (nodes : List NodeView) (links : List LinkView) → All (IsLink nodes) links → All (λ den. 1 ≤ den) (map (λ link. link.cost.den) links)
some_cost_den nodes [] h = All-nil (λ den. 1 ≤ den)
some_cost_den nodes (link ∷ links) h =
    All-cons (λ den. 1 ≤ den) link.cost.den (map (λ link. link.cost.den) links) (All-head (IsLink nodes) link links h).cost.some_den
    (some_cost_den nodes links (All-tail (IsLink nodes) link links h))

pub some_den : (p : PlatformView) → IsPlatform p → All (λ den. 1 ≤ den) (denominators_of p)
some_den p h = All-append (λ den. 1 ≤ den) (time_denominators p.nodes) (map (λ link. link.cost.den) p.links) (some_time_den p.nodes h.nodes) (some_cost_den p.nodes p.links h.links)

-- a time or cost whose denominator divides the unit lasts
lasts : (unit : ℕ) (f : Fraction) → 1 ≤ unit → HasSmallParts f → unit % f.den ≡ 0 → 1 ≤ ticks_of unit f
lasts unit f some small whole =
    let den : f.den ≤ unit = le_of_dvd (omega (arith, some)) (dvd_of_mod-eq-zero f.den whole) in
    let more : 1 * f.den ≤ unit * f.num = omega (arith, mul-le f.den 1 unit f.num den small.some_num) in
    le-div 1 (unit * f.num) f.den (omega (arith, small.some_den)) more

front : {A : Type 0} (P : A → Type 0) (xs ys : List A) → All P (xs ++ ys) → All P xs
front P [] ys h = All-nil P
front P (x ∷ xs) ys h = All-cons P x xs (All-head P x (xs ++ ys) h) (front P xs ys (All-tail P x (xs ++ ys) h))

back : {A : Type 0} (P : A → Type 0) (xs ys : List A) → All P (xs ++ ys) → All P ys
back P [] ys h = h
back P (x ∷ xs) ys h = back P xs ys (All-tail P x (xs ++ ys) h)

time_lasts : (unit : ℕ) (time : Option Fraction) → 1 ≤ unit → IfSome time HasSmallParts → IsCommonMultiple (option_to_list (option_map (λ time. time.den) time)) unit →
    IfSome (option_map (ticks_of unit) time) (λ ticks. 1 ≤ ticks)
time_lasts unit None some small whole = tt
time_lasts unit (Some f) some small whole = lasts unit f some small (All-head (λ den. unit % den ≡ 0) f.den [] whole)

times_last : (unit : ℕ) (nodes : List NodeView) → 1 ≤ unit → All IsNode nodes → IsCommonMultiple (time_denominators nodes) unit →
    All (λ time. IfSome time (λ ticks. 1 ≤ ticks)) (map (λ node. option_map (ticks_of unit) node.time) nodes)
times_last unit [] some h whole = All-nil _
times_last unit (node ∷ nodes) some h whole =
    let dens = option_to_list (option_map (λ time. time.den) node.time) in
    All-cons (λ time. IfSome time (λ ticks. 1 ≤ ticks)) _ _
    (time_lasts unit node.time some (All-head IsNode node nodes h).time (front (λ den. unit % den ≡ 0) dens (time_denominators nodes) whole))
    (times_last unit nodes some (All-tail IsNode node nodes h) (back (λ den. unit % den ≡ 0) dens (time_denominators nodes) whole))

costs_last : (unit : ℕ) (nodes : List NodeView) (links : List LinkView) → 1 ≤ unit → All (IsLink nodes) links → IsCommonMultiple (map (λ link. link.cost.den) links) unit →
    All (λ ticks. 1 ≤ ticks) (map (λ link. ticks_of unit link.cost) links)
costs_last unit nodes [] some h whole = All-nil (λ ticks. 1 ≤ ticks)
costs_last unit nodes (link ∷ links) some h whole =
    All-cons (λ ticks. 1 ≤ ticks) _ _
    (lasts unit link.cost some (All-head (IsLink nodes) link links h).cost (All-head (λ den. unit % den ≡ 0) link.cost.den (map (λ link. link.cost.den) links) whole))
    (costs_last unit nodes links some (All-tail (IsLink nodes) link links h) (All-tail (λ den. unit % den ≡ 0) link.cost.den (map (λ link. link.cost.den) links) whole))

pub link_costs : (nodes : List NodeView) (links : List LinkView) → All (IsLink nodes) links → All (λ link. HasSmallParts link.cost) links
link_costs nodes [] h = All-nil _
link_costs nodes (link ∷ links) h = All-cons (λ link. HasSmallParts link.cost) link links (All-head (IsLink nodes) link links h).cost (link_costs nodes links (All-tail (IsLink nodes) link links h))

module _ (multiples : (a b : ℕ) → 1 ≤ a → 1 ≤ b → IsLeastCommonMultiple a b (lcm_of a b)) (p : PlatformView) (h : IsPlatform p) where
  pub is_short : (unit : ℕ) → unit_from 1 (denominators_of p) ≡ Ok unit → unit ≤ 2 ^ 40
  is_short unit e = (folded multiples 1 (denominators_of p) unit (omega arith) (omega arith) (some_den p h) e).short

  pub is_timed : (unit : ℕ) → unit_from 1 (denominators_of p) ≡ Ok unit → IsTimed (record { platform = p; unit = unit; times = times_of unit p; costs = costs_of unit p })
  is_timed unit e =
      let f = folded multiples 1 (denominators_of p) unit (omega arith) (omega arith) (some_den p h) e in
      record {
        platform = h;
        some_unit = f.some;
        short_unit = f.short;
        common = f.common;
        least = λ n some common. f.least n some (mod-one n) common;
        times = refl;
        costs = refl;
        some_time = times_last unit p.nodes f.some h.nodes (front (λ den. unit % den ≡ 0) (time_denominators p.nodes) (map (λ link. link.cost.den) p.links) f.common);
        some_cost = costs_last unit p.nodes p.links f.some h.links (back (λ den. unit % den ≡ 0) (time_denominators p.nodes) (map (λ link. link.cost.den) p.links) f.common);
      }

  pub has_no_unit : (fault : TimedFault) → unit_from 1 (denominators_of p) ≡ Err fault → HasNoUnit p fault
  has_no_unit NoMemory e = tt
  has_no_unit (Unit left right) e = λ n some common. passed multiples 1 (denominators_of p) left right n (omega arith) (some_den p h) e some (mod-one n) common

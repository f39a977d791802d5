-- What nodes compute, actor by actor and node by node.
use Rattle.std.proofs.Common.{◌≡◌, ℕ, zero, suc, ◌+◌, ◌<◌, ◌≤◌, List, [], ◌∷◌, ◌++◌, length, map, take, sum_by, slice_get, get_or, Some, arith, sym, ap, ◌∙◌}
use Rattle.std.specs.List.{range_with_len}
use Rattle.std.specs.Option.{option_map_or}
use Rattle.std.proofs.lemmas.Option.{slice_get-get_or}
use Rattle.std.proofs.lemmas.List.Sums.{sum_by_more}
use Rattle.platform_file.specs.Ticks.{TimedView}
use Rattle.period_table.specs.declared.table.Table.{Table}
use Rattle.step_core.specs.declared.wiring.Event.{Event}
use Rattle.step_core.specs.Wirings.{WiringView, program_of}
use Rattle.actor_programs.specs.declared.actor.Actor.{Actor}
use Rattle.actor_programs.specs.Programs.{actors_of, wiring_of, program_from}
use Rattle.actor_programs.proofs.Acting.{length-numbered}
use Rattle.run_text.specs.Counts.{dones_of, dones_below}

-- one more actor
pub one_more : (node : ℕ) (actors : List Actor) (w : WiringView) (n count more : ℕ) (program : List Event) (d : Actor) → n < length actors
    → count ≡ dones_below node actors w n → program ≡ program_of w n → more ≡ dones_of node program (get_or actors n d) → count + more ≡ dones_below node actors w (n + 1)
one_more node actors w n count more program d within old own new =
    let here : slice_get actors n ≡ Some (get_or actors n d) = slice_get-get_or actors n d within in
    let next : suc n ≡ n + 1 = omega arith in
    let mine : more ≡ option_map_or (dones_of node (program_of w n)) (slice_get actors n) 0 =
    new ∙ ap (λ es. dones_of node es (get_or actors n d)) own ∙ ap (λ found. option_map_or (dones_of node (program_of w n)) found 0) (sym here) in
    ap (λ k. k + more) old ∙ ap (λ k. dones_below node actors w n + k) mine ∙ ap (dones_below node actors w) next

-- its program is one more of the programs
pub one_longer : (w : WiringView) (n count more : ℕ) → n < length w.programs → count ≤ sum_by length (take n w.programs) → more ≤ length (program_of w n)
    → count + more ≤ sum_by length (take (n + 1) w.programs)
one_longer w n count more within old new = omega (arith, sum_by_more length w.programs n [] within, old, new)

-- the numbers up to one more
further : (f : ℕ → ℕ) (first n : ℕ) → map f (range_with_len first (suc n)) ≡ map f (range_with_len first n) ++ (f (first + n) ∷ [])
further f first zero = ap (λ k. f k ∷ []) (let e : first ≡ first + zero = omega arith in e)
further f first (suc n) =
    ap (λ rest. f first ∷ rest) (further f (first + 1) n)
    ∙ ap (λ k. f first ∷ (map f (range_with_len (first + 1) n) ++ (f k ∷ []))) (let e : first + 1 + n ≡ first + suc n = omega arith in e)

pub one_further : (f : ℕ → ℕ) (n : ℕ) → map f (range_with_len 0 n) ++ (f n ∷ []) ≡ map f (range_with_len 0 (n + 1))
one_further f n =
    ap (λ k. map f (range_with_len 0 n) ++ (f k ∷ [])) (let e : n ≡ 0 + n = omega arith in e)
    ∙ sym (further f 0 n) ∙ ap (λ k. map f (range_with_len 0 k)) (let e : suc n ≡ n + 1 = omega arith in e)

-- each actor has a program
pub as_many : (t : TimedView) (table : Table) (chunks : ℕ) → length (wiring_of t table chunks).programs ≡ length (actors_of t table)
as_many t table chunks = length-numbered (program_from table chunks) 0 (actors_of t table)

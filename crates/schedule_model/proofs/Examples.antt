-- Schedules worked out by hand: for each rule one that breaks it by one tick or one number, and its neighbour that keeps all.
use Rattle.std.proofs.Common.{◌≡◌, ◌&&◌, ℕ, zero, suc, ◌≤◌, true, false, List, [], ◌∷◌, Option, Some, None, All, refl, arith}
use Rattle.std.proofs.lemmas.List.Sums.{count_by-le-length}
use Rattle.std.proofs.Math.Dec.{eqb-zero-suc}
use Rattle.std.specs.List.Sorted.{IsNonDecreasingBy}
use Rattle.ratio_core.specs.Fraction.{whole}
use Rattle.platform_file.specs.Platform.{NodeView, LinkView}
use Rattle.platform_file.specs.Ticks.{TimedView}
use Rattle.schedule_model.specs.declared.schedule.Op.{Op}
use Rattle.schedule_model.specs.declared.schedule.Op.TheVariants.{Send, Compute}
use Rattle.schedule_model.specs.declared.schedule.Series.TheVariants.{Tasking, Scatter}
use Rattle.schedule_model.specs.declared.schedule.Schedule.{Schedule}
use Rattle.schedule_model.specs.Operations.{start_of, end_of, sends_from, sends_to, computes_at, is_open}
use Rattle.schedule_model.specs.Validity.{IsInRange, KeepsOwn, IsWellFormed, IsOnePort, IsSupplied, IsValid, completed}
use Rattle.schedule_model.specs.Throughput.{IsUpperRate}
use Rattle.schedule_model.proofs.Evaluator.{kept, all_kept}

-- nodes are numbered in order, and their names don't matter here
abbrev node : Option ℕ → NodeView
node None = record { name = []; time = None }
node (Some ticks) = record { name = []; time = Some (whole ticks) }

abbrev link : ℕ → ℕ → ℕ → LinkView
link from to cost = record { from = from; to = to; cost = whole cost }

-- a schedule with one tick a time unit
abbrev schedule : ℕ → List Op → Schedule
schedule ticks ops = record { ticks_per_unit = 1; length = ticks; ops = ops }

-- a master without a time, and one worker
abbrev one_worker : TimedView
one_worker = record {
  platform = record { nodes = node None ∷ (node (Some 2) ∷ []); links = link 0 1 3 ∷ []; master = 0; targets = [] };
  unit = 1;
  times = None ∷ (Some 2 ∷ []);
  costs = 3 ∷ [];
}

-- the task is sent from tick 0 to 3, and computed from 3 to 5
one_task : kept one_worker Tasking (schedule 5 (Send 0 0 0 ∷ (Compute 1 3 ∷ []))) ≡ all_kept
one_task = refl

one_task_completed : completed one_worker Tasking (schedule 5 (Send 0 0 0 ∷ (Compute 1 3 ∷ []))) ≡ 1
one_task_completed = refl

-- it can't be computed one tick earlier
computed_early : kept one_worker Tasking (schedule 5 (Send 0 0 0 ∷ (Compute 1 2 ∷ []))) ≡ record all_kept { supply = false }
computed_early = refl

not_supplied : IsSupplied one_worker Tasking (schedule 5 (Send 0 0 0 ∷ (Compute 1 2 ∷ []))) → ⊥
not_supplied h = let bad = h 1 2 refl in absurd (omega (arith, bad))

-- nor in one tick less
too_late : kept one_worker Tasking (schedule 4 (Send 0 0 0 ∷ (Compute 1 3 ∷ []))) ≡ record all_kept { time = false }
too_late = refl

-- one link and one kind exist, and the master doesn't compute
no_such_link : kept one_worker Tasking (schedule 5 (Send 1 0 0 ∷ [])) ≡ record all_kept { range = false }
no_such_link = refl

no_such_kind : kept one_worker Tasking (schedule 5 (Send 0 1 0 ∷ [])) ≡ record all_kept { range = false }
no_such_kind = refl

no_such_time : kept one_worker Tasking (schedule 5 (Compute 0 0 ∷ [])) ≡ record all_kept { range = false }
no_such_time = refl

-- two tasks over one link follow each other: both ports are held for 3 ticks
two_sends : kept one_worker Tasking (schedule 6 (Send 0 0 0 ∷ (Send 0 0 3 ∷ []))) ≡ all_kept
two_sends = refl

sends_overlap : kept one_worker Tasking (schedule 6 (Send 0 0 0 ∷ (Send 0 0 2 ∷ []))) ≡ record all_kept { sends = false; receives = false }
sends_overlap = refl

-- a master with a time of 2, and two workers over links of cost 1 and 2
abbrev fork : TimedView
fork = record {
  platform = record { nodes = node (Some 2) ∷ (node None ∷ (node None ∷ [])); links = link 0 1 1 ∷ (link 0 2 2 ∷ []); master = 0; targets = 1 ∷ (2 ∷ []) };
  unit = 1;
  times = Some 2 ∷ (None ∷ (None ∷ []));
  costs = 1 ∷ (2 ∷ []);
}

-- the send port is held for 2 ticks
sends_in_turn : kept fork Tasking (schedule 3 (Send 1 0 0 ∷ (Send 0 0 2 ∷ []))) ≡ all_kept
sends_in_turn = refl

sends_at_once : kept fork Tasking (schedule 3 (Send 1 0 0 ∷ (Send 0 0 1 ∷ []))) ≡ record all_kept { sends = false }
sends_at_once = refl

not_one_port : IsOnePort fork (schedule 3 (Send 1 0 0 ∷ (Send 0 0 1 ∷ []))) → ⊥
not_one_port h = let bad = h.sends 0 1 in absurd (omega (arith, bad))

-- sends and computations overlap, and so do computations at two nodes, but not at one
computes_in_turn : kept fork Tasking (schedule 4 (Compute 0 0 ∷ (Send 1 0 0 ∷ (Compute 0 2 ∷ [])))) ≡ all_kept
computes_in_turn = refl

computes_at_once : kept fork Tasking (schedule 4 (Compute 0 0 ∷ (Compute 0 1 ∷ []))) ≡ record all_kept { computes = false }
computes_at_once = refl

-- the list is by starts
listed_by_start : kept fork Tasking (schedule 4 (Compute 0 2 ∷ (Send 0 0 2 ∷ []))) ≡ all_kept
listed_by_start = refl

listed_otherwise : kept fork Tasking (schedule 4 (Compute 0 2 ∷ (Send 0 0 1 ∷ []))) ≡ record all_kept { order = false }
listed_otherwise = refl

-- no tick at all in a time unit
no_unit : kept fork Tasking (record { ticks_per_unit = 0; length = 0; ops = [] }) ≡ record all_kept { unit = false }
no_unit = refl

-- two ways to one receiver, over costs of 1, 3, 4 and 2
abbrev diamond : TimedView
diamond = record {
  platform = record {
    nodes = node None ∷ (node None ∷ (node None ∷ (node (Some 1) ∷ [])));
    links = link 0 1 1 ∷ (link 0 2 3 ∷ (link 1 3 4 ∷ (link 2 3 2 ∷ [])));
    master = 0;
    targets = [];
  };
  unit = 1;
  times = None ∷ (None ∷ (None ∷ (Some 1 ∷ [])));
  costs = 1 ∷ (3 ∷ (4 ∷ (2 ∷ [])));
}

-- the receive port is held from tick 1 to 5
receives_in_turn : kept diamond Tasking (schedule 7 (Send 0 0 0 ∷ (Send 1 0 1 ∷ (Send 2 0 1 ∷ (Send 3 0 5 ∷ []))))) ≡ all_kept
receives_in_turn = refl

receives_at_once : kept diamond Tasking (schedule 7 (Send 0 0 0 ∷ (Send 1 0 1 ∷ (Send 2 0 1 ∷ (Send 3 0 4 ∷ []))))) ≡ record all_kept { receives = false }
receives_at_once = refl

-- a chain over links of cost 1, where each further node is a target
abbrev chain : TimedView
chain = record {
  platform = record { nodes = node None ∷ (node None ∷ (node None ∷ [])); links = link 0 1 1 ∷ (link 1 2 1 ∷ []); master = 0; targets = 1 ∷ (2 ∷ []) };
  unit = 1;
  times = None ∷ (None ∷ (None ∷ []));
  costs = 1 ∷ (1 ∷ []);
}

-- each target gets its message, the second one through the first
relayed : kept chain Scatter (schedule 3 (Send 0 1 0 ∷ (Send 0 0 1 ∷ (Send 1 1 2 ∷ [])))) ≡ all_kept
relayed = refl

relayed_completes : completed chain Scatter (schedule 3 (Send 0 1 0 ∷ (Send 0 0 1 ∷ (Send 1 1 2 ∷ [])))) ≡ 1
relayed_completes = refl

-- what only one target gets completes nothing
one_target : completed chain Scatter (schedule 3 (Send 0 0 0 ∷ (Send 0 0 1 ∷ []))) ≡ 0
one_target = refl

-- a message can't be relayed in the tick in which it comes, and not by the target that wants it
relayed_early : kept chain Scatter (schedule 3 (Send 0 1 0 ∷ (Send 1 1 0 ∷ []))) ≡ record all_kept { supply = false }
relayed_early = refl

own_sent_on : kept chain Scatter (schedule 3 (Send 0 0 0 ∷ (Send 1 0 1 ∷ []))) ≡ record all_kept { own = false }
own_sent_on = refl

no_third_target : kept chain Scatter (schedule 3 (Send 0 2 0 ∷ [])) ≡ record all_kept { range = false }
no_third_target = refl

-- two ticks a time unit
abbrev halves : TimedView
halves = record {
  platform = record { nodes = node (Some 1) ∷ []; links = []; master = 0; targets = [] };
  unit = 2;
  times = Some 2 ∷ [];
  costs = [];
}

-- a finer resolution is a multiple of the platform's, and stretches each operation
finer : kept halves Tasking (record { ticks_per_unit = 4; length = 4; ops = Compute 0 0 ∷ [] }) ≡ all_kept
finer = refl

finer_and_longer : kept halves Tasking (record { ticks_per_unit = 4; length = 3; ops = Compute 0 0 ∷ [] }) ≡ record all_kept { time = false }
finer_and_longer = refl

no_multiple : kept halves Tasking (record { ticks_per_unit = 3; length = 4; ops = Compute 0 0 ∷ [] }) ≡ record all_kept { unit = false }
no_multiple = refl

not_well_formed : IsWellFormed halves Tasking (record { ticks_per_unit = 3; length = 4; ops = Compute 0 0 ∷ [] }) → ⊥
not_well_formed h = let bad = h.whole_unit in absurd (omega (arith, bad))

-- nothing in no time is no rate
no_rate : (p : ℕ) → IsUpperRate halves Tasking p 0 → ⊥
no_rate p h = let bad = h.some_time in absurd (omega (arith, bad))

-- a master alone, a task of one tick, and the schedule of that tick
abbrev quick : TimedView
quick = record {
  platform = record { nodes = node (Some 1) ∷ []; links = []; master = 0; targets = [] };
  unit = 1;
  times = Some 1 ∷ [];
  costs = [];
}

abbrev one_tick : Schedule
one_tick = schedule 1 (Compute 0 0 ∷ [])

only : (P : Op → Type 0) (op : Op) → P op → All P (op ∷ [])
only P op h zero d k = h
only P op h (suc n) d k = absurd (omega (arith, k))

one_in_order : (op : Op) → IsNonDecreasingBy start_of (op ∷ [])
one_in_order op zero zero d h k = omega arith
one_in_order op zero (suc j) d h k = absurd (omega (arith, k))
one_in_order op (suc i) zero d h k = absurd (omega (arith, h))
one_in_order op (suc i) (suc j) d h k = absurd (omega (arith, k))

supplied_alone : IsSupplied quick Tasking one_tick
supplied_alone zero tick h = let bad : true ≡ false = h in cc
supplied_alone (suc n) tick h = rw (eqb-zero-suc n) (omega arith)

one_tick_valid : IsValid quick Tasking one_tick
one_tick_valid = record {
  well_formed = record {
    some_unit = omega arith;
    whole_unit = refl;
    in_order = one_in_order (Compute 0 0);
    in_range = only (IsInRange quick Tasking) (Compute 0 0) refl;
    in_time = only (λ op. end_of quick 1 op ≤ 1) (Compute 0 0) (omega arith);
    own_kept = only (KeepsOwn quick Tasking) (Compute 0 0) tt;
  };
  one_port = record {
    sends = λ node tick. count_by-le-length (λ op. sends_from quick node op && is_open quick 1 tick op) one_tick.ops;
    receives = λ node tick. count_by-le-length (λ op. sends_to quick node op && is_open quick 1 tick op) one_tick.ops;
    computes = λ node tick. count_by-le-length (λ op. computes_at node op && is_open quick 1 tick op) one_tick.ops;
  };
  supplied = supplied_alone;
}

-- so one task in two ticks is no upper rate: 2 is one more than 1
upper_too_low : IsUpperRate quick Tasking 1 2 → ⊥
upper_too_low h = let bad : 2 ≤ 1 = h.bounds one_tick one_tick_valid in absurd (omega (arith, bad))

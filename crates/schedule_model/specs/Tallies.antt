-- What the check of a schedule notes of the operations so far (this project).
use Rattle.std.specs.Prelude.{ℕ, ◌+◌, ◌*◌, Bool, true, false, not, ◌&&◌, cond, length, List, [], ◌∷◌, Option, Some, None, nat_eq, nat_lt, slice_index, slice_index_or, slice_set, replicate}
use Rattle.std.specs.Option.{is_some}
use Rattle.platform_file.specs.Platform.{is_master}
use Rattle.platform_file.specs.Ticks.{TimedView}
use Rattle.schedule_model.specs.declared.breach.Rule.{Rule}
use Rattle.schedule_model.specs.declared.breach.Rule.TheVariants.{Order, Range, Late, SendPort, ReceivePort, ComputePort, OwnType, Supply}
use Rattle.schedule_model.specs.declared.tally.Tally.{Tally}
use Rattle.schedule_model.specs.declared.schedule.Op.{Op}
use Rattle.schedule_model.specs.declared.schedule.Op.TheVariants.{Send, Compute}
use Rattle.schedule_model.specs.declared.schedule.Series.{Series}
use Rattle.schedule_model.specs.declared.schedule.Series.TheVariants.{Tasking, Scatter}
use Rattle.schedule_model.specs.Validity.{least}
use Rattle.schedule_model.specs.Operations.{start_of, end_of, cost_of, time_of, sender_of, receiver_of}

-- the tally of no operation
abbrev pub empty_tally : Tally
empty_tally = record {
  last = 0;
  sends = replicate 32 0;
  receives = replicate 32 0;
  computes = replicate 32 0;
  arrivals = replicate 256 0;
  received = replicate 256 0;
  started = replicate 256 0;
  computed = 0;
}

-- the series has messages of the kind
abbrev pub has_kind : TimedView → Series → ℕ → Bool
has_kind t Tasking kind = nat_eq kind 0
has_kind t Scatter kind = nat_lt kind (length t.platform.targets)

-- the series has computations
abbrev pub has_tasks : Series → Bool
has_tasks Tasking = true
has_tasks Scatter = false

-- the link or the node exists, and the series has such an operation
abbrev pub is_in_range : TimedView → Series → Op → Bool
is_in_range t series (Send link kind start) = nat_lt link (length t.platform.links) && has_kind t series kind
is_in_range t series (Compute node start) = has_tasks series && is_some (slice_index_or t.times node None)

-- the platform's ticks for an operation
abbrev pub platform_ticks : TimedView → Op → ℕ
platform_ticks t (Send link kind start) = cost_of t link
platform_ticks t (Compute node start) = time_of t node

-- a target sends messages of its own kind
abbrev pub sends_own : TimedView → Series → ℕ → ℕ → Bool
sends_own t Tasking kind node = false
sends_own t Scatter kind node = nat_eq (slice_index t.platform.targets kind) node

-- the place at which messages of a kind at a node are counted
abbrev pub place_of : ℕ → ℕ → ℕ
place_of kind node = kind * 32 + node

-- fewer tasks or messages have come by the tick than would have been begun
abbrev pub lacks : Tally → ℕ → ℕ → Bool
lacks tally place tick =
    not (nat_lt (slice_index tally.started place + cond (nat_lt tick (slice_index tally.arrivals place)) 1 0) (slice_index tally.received place))

-- the rule that a use of one more task or message breaks
abbrev pub broken_supply : TimedView → Tally → ℕ → ℕ → ℕ → Option Rule
broken_supply t tally kind node start = cond (not (is_master t.platform node) && lacks tally (place_of kind node) start) (Some Supply) None

-- the first rule that an operation breaks which is in order, in range and in time
abbrev pub broken_use : TimedView → Series → Tally → Op → Option Rule
broken_use t series tally (Send link kind start) =
    cond (nat_lt start (slice_index tally.sends (sender_of t link))) (Some SendPort)
    (cond (nat_lt start (slice_index tally.receives (receiver_of t link))) (Some ReceivePort)
    (cond (sends_own t series kind (sender_of t link)) (Some OwnType) (broken_supply t tally kind (sender_of t link) start)))
broken_use t series tally (Compute node start) =
    cond (nat_lt start (slice_index tally.computes node)) (Some ComputePort) (broken_supply t tally 0 node start)

-- the first rule that an operation breaks
abbrev pub broken_rule : TimedView → Series → ℕ → ℕ → Tally → Op → Option Rule
broken_rule t series u last_tick tally op =
    cond (nat_lt (start_of op) tally.last) (Some Order)
    (cond (not (is_in_range t series op)) (Some Range)
    (cond (nat_lt last_tick (end_of t u op)) (Some Late) (broken_use t series tally op)))

-- the tally with one more operation
abbrev pub noted : TimedView → ℕ → Tally → Op → Tally
noted t u tally (Send link kind start) = record {
  last = start;
  sends = slice_set tally.sends (sender_of t link) (end_of t u (Send link kind start));
  receives = slice_set tally.receives (receiver_of t link) (end_of t u (Send link kind start));
  computes = tally.computes;
  arrivals = slice_set tally.arrivals (place_of kind (receiver_of t link)) (end_of t u (Send link kind start));
  received = slice_set tally.received (place_of kind (receiver_of t link)) (slice_index tally.received (place_of kind (receiver_of t link)) + 1);
  started = slice_set tally.started (place_of kind (sender_of t link)) (slice_index tally.started (place_of kind (sender_of t link)) + 1);
  computed = tally.computed;
}
noted t u tally (Compute node start) = record {
  last = start;
  sends = tally.sends;
  receives = tally.receives;
  computes = slice_set tally.computes node (end_of t u (Compute node start));
  arrivals = tally.arrivals;
  received = tally.received;
  started = slice_set tally.started (place_of 0 node) (slice_index tally.started (place_of 0 node) + 1);
  computed = tally.computed + 1;
}

-- how many messages of its own kind each target got, for targets with kinds from one on
abbrev pub deliveries_of : Tally → ℕ → List ℕ → List ℕ
deliveries_of tally kind [] = []
deliveries_of tally kind (target ∷ targets) = slice_index tally.received (place_of kind target) ∷ deliveries_of tally (kind + 1) targets

-- what the operations complete
abbrev pub tallied : TimedView → Series → Tally → ℕ
tallied t Tasking tally = tally.computed
tallied t Scatter tally = least (deliveries_of tally 0 t.platform.targets)

-- A plain slow evaluator of the definitions on small schedules: each rule is tried at every node and tick there is.
use Rattle.std.proofs.Common.{ℕ, zero, suc, ◌+◌, ◌%◌, Bool, true, false, ◌&&◌, not, cond, nat_eq, nat_lt, nat_le, List, [], ◌∷◌, length, Option, Some, None, get_or, slice_get, is_some}
use Rattle.std.specs.List.{list_all}
use Rattle.platform_file.specs.Platform.{is_master}
use Rattle.platform_file.specs.Ticks.{TimedView}
use Rattle.schedule_model.specs.declared.schedule.Op.{Op}
use Rattle.schedule_model.specs.declared.schedule.Op.TheVariants.{Send, Compute}
use Rattle.schedule_model.specs.declared.schedule.Series.{Series}
use Rattle.schedule_model.specs.declared.schedule.Series.TheVariants.{Tasking, Scatter}
use Rattle.schedule_model.specs.declared.schedule.Schedule.{Schedule}
use Rattle.schedule_model.specs.Operations.{start_of, end_of, sender_of}
use Rattle.schedule_model.specs.Validity.{open_sends, open_receives, open_computes, started_tasks, received_tasks, started_messages, received_messages}

-- a test of every number below n
abbrev pub each_below : ℕ → (ℕ → Bool) → Bool
each_below zero passes = true
each_below (suc n) passes = passes n && each_below n passes

-- which rules a schedule keeps
pub record Kept : Type 0 where
  pub unit : Bool
  pub order : Bool
  pub range : Bool
  pub time : Bool
  pub sends : Bool
  pub receives : Bool
  pub computes : Bool
  pub own : Bool
  pub supply : Bool

abbrev starts_rise : List Op → Bool
starts_rise [] = true
starts_rise (op ∷ []) = true
starts_rise (op ∷ (next ∷ ops)) = nat_le (start_of op) (start_of next) && starts_rise (next ∷ ops)

abbrev is_in_range : TimedView → Series → Op → Bool
is_in_range t Tasking (Send link kind start) = nat_lt link (length t.platform.links) && nat_eq kind 0
is_in_range t Tasking (Compute node start) = is_some (get_or t.times node None)
is_in_range t Scatter (Send link kind start) = nat_lt link (length t.platform.links) && nat_lt kind (length t.platform.targets)
is_in_range t Scatter (Compute node start) = false

abbrev other_than : ℕ → Option ℕ → Bool
other_than sender None = true
other_than sender (Some target) = not (nat_eq sender target)

abbrev keeps_own : TimedView → Series → Op → Bool
keeps_own t Scatter (Send link kind start) = other_than (sender_of t link) (slice_get t.platform.targets kind)
keeps_own t series op = true

-- a test of every node and every tick up to the schedule's end
abbrev each_place : TimedView → Schedule → (ℕ → ℕ → Bool) → Bool
each_place t s passes = each_below (length t.platform.nodes) (λ node. each_below (s.length + 1) (passes node))

abbrev is_supplied : TimedView → Series → Schedule → Bool
is_supplied t Tasking s =
    each_place t s (λ node tick. cond (is_master t.platform node) true (nat_le (started_tasks t s node tick) (received_tasks t s node tick)))
is_supplied t Scatter s =
    each_below (length t.platform.targets) (λ kind.
    each_place t s (λ node tick. cond (is_master t.platform node) true (nat_le (started_messages t s kind node tick) (received_messages t s kind node tick))))

abbrev pub kept : TimedView → Series → Schedule → Kept
kept t series s = record {
  unit = nat_lt 0 s.ticks_per_unit && nat_eq (s.ticks_per_unit % t.unit) 0;
  order = starts_rise s.ops;
  range = list_all (is_in_range t series) s.ops;
  time = list_all (λ op. nat_le (end_of t s.ticks_per_unit op) s.length) s.ops;
  sends = each_place t s (λ node tick. nat_le (open_sends t s node tick) 1);
  receives = each_place t s (λ node tick. nat_le (open_receives t s node tick) 1);
  computes = each_place t s (λ node tick. nat_le (open_computes t s node tick) 1);
  own = list_all (keeps_own t series) s.ops;
  supply = is_supplied t series s;
}

abbrev pub all_kept : Kept
all_kept = record { unit = true; order = true; range = true; time = true; sends = true; receives = true; computes = true; own = true; supply = true }

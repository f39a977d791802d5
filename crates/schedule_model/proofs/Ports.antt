-- The ticks for which one port is used fit into the schedule's length.
use Rattle.std.proofs.Common.{ℕ, ◌+◌, ◌≤◌, Bool, ◌&&◌, count_by, arith}
use Rattle.platform_file.specs.Ticks.{TimedView, IsTimed}
use Rattle.schedule_model.specs.declared.schedule.Op.{Op}
use Rattle.schedule_model.specs.declared.schedule.Series.{Series}
use Rattle.schedule_model.specs.declared.schedule.Schedule.{Schedule}
use Rattle.schedule_model.specs.Operations.{start_of, duration_of, is_open, sends_from, sends_to, computes_at}
use Rattle.schedule_model.specs.Validity.{IsWellFormed, IsValid}
use Rattle.schedule_model.specs.Throughput.{send_ticks, receive_ticks, compute_ticks}
use Rattle.schedule_model.proofs.PortTime.{port_time, port_time_fits, in_order, from_zero}
use Rattle.schedule_model.proofs.Durations.{each_lasts}

port_fits : (t : TimedView) (series : Series) (s : Schedule) (uses : Op → Bool) → IsTimed t → IsWellFormed t series s →
    ((tick : ℕ) → count_by (λ op. uses op && is_open t s.ticks_per_unit tick op) s.ops ≤ 1) → port_time uses start_of (duration_of t s.ticks_per_unit) s.ops ≤ s.length
port_fits t series s uses timed fine single =
    let lasts : Op → ℕ = duration_of t s.ticks_per_unit in
    no_more _ _ (port_time_fits uses start_of lasts s.length 0 s.ops (omega arith) (from_zero uses start_of lasts s.ops) (in_order uses start_of lasts s.ops fine.in_order)
    (each_lasts t timed series s fine) fine.in_time single)
  where
    no_more : (a b : ℕ) → a + 0 ≤ b → a ≤ b
    no_more a b h = omega arith

pub sends_fit : (t : TimedView) (series : Series) (s : Schedule) (node : ℕ) → IsTimed t → IsValid t series s → send_ticks t s node ≤ s.length
sends_fit t series s node timed valid = port_fits t series s (sends_from t node) timed valid.well_formed (valid.one_port.sends node)

pub receives_fit : (t : TimedView) (series : Series) (s : Schedule) (node : ℕ) → IsTimed t → IsValid t series s → receive_ticks t s node ≤ s.length
receives_fit t series s node timed valid = port_fits t series s (sends_to t node) timed valid.well_formed (valid.one_port.receives node)

pub computes_fit : (t : TimedView) (series : Series) (s : Schedule) (node : ℕ) → IsTimed t → IsValid t series s → compute_ticks t s node ≤ s.length
computes_fit t series s node timed valid = port_fits t series s (computes_at node) timed valid.well_formed (valid.one_port.computes node)

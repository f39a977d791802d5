-- What no schedule exceeds. Source: the steady-state throughput of Beaumont, Legrand and Robert.
use Rattle.std.specs.Prelude.{ℕ, ◌*◌, ◌≤◌, cond, sum_by}
use Rattle.platform_file.specs.Ticks.{TimedView}
use Rattle.schedule_model.specs.declared.schedule.Series.{Series}
use Rattle.schedule_model.specs.declared.schedule.Schedule.{Schedule}
use Rattle.schedule_model.specs.Operations.{duration_of, sends_from, sends_to, computes_at}
use Rattle.schedule_model.specs.Validity.{IsValid, completed}

-- p/q tasks or messages in a time unit are exceeded by no valid schedule, of any resolution, length and list
pub record IsUpperRate (t : TimedView) (series : Series) (p q : ℕ) : Type 0 where
  pub some_time : 1 ≤ q
  pub bounds : (s : Schedule) → IsValid t series s → completed t series s * q * s.ticks_per_unit ≤ p * s.length

-- for how many ticks a node sends, all operations taken together (this project)
abbrev pub send_ticks : TimedView → Schedule → ℕ → ℕ
send_ticks t s node = sum_by (λ op. cond (sends_from t node op) (duration_of t s.ticks_per_unit op) 0) s.ops

-- for how many ticks it receives
abbrev pub receive_ticks : TimedView → Schedule → ℕ → ℕ
receive_ticks t s node = sum_by (λ op. cond (sends_to t node op) (duration_of t s.ticks_per_unit op) 0) s.ops

-- for how many ticks it computes
abbrev pub compute_ticks : TimedView → Schedule → ℕ → ℕ
compute_ticks t s node = sum_by (λ op. cond (computes_at node op) (duration_of t s.ticks_per_unit op) 0) s.ops

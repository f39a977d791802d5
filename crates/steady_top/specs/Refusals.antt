-- Why the program refuses, with its status and its one error line (this project).
use Rattle.std.specs.Prelude.{ℕ, List, ◌++◌, codes, decimal}
use Rattle.platform_file.specs.declared.fault.PlatformFault.{PlatformFault}
use Rattle.platform_file.specs.declared.fault.PlatformFault.TheVariants as platform
use Rattle.platform_file.specs.declared.fault.TimedFault.{TimedFault}
use Rattle.platform_file.specs.declared.fault.TimedFault.TheVariants as ticks
use Rattle.platform_file.specs.FaultTexts.{fault_text, timed_fault_text}
use Rattle.planner.specs.declared.fault.PlanFault.{PlanFault}
use Rattle.planner.specs.declared.fault.PlanFault.TheVariants as plans
use Rattle.planner.specs.Plans.{plan_fault_text}
use Rattle.schedule_model.specs.declared.breach.Rule.{Rule}
use Rattle.schedule_model.specs.BreachTexts.{breach_text}
use Rattle.steady_top.specs.declared.status.Status.{Status}
use Rattle.steady_top.specs.declared.status.Status.TheVariants as status
use Rattle.text_lines.specs.Lines.{line}

-- why what was read is refused, with what the error line names
pub data Reason : Type 0 where
  -- the platform file isn't a platform
  no_platform : PlatformFault → Reason
  -- the platform has no ticks
  no_ticks : TimedFault → Reason
  -- the platform isn't planned
  no_plan : PlanFault → Reason
  -- the certificate's file is too long
  long_certificate : Reason
  -- this line isn't a certificate's
  certificate_line : ℕ → Reason
  -- the price of this row is below 0
  negative_price : ℕ → Reason
  -- the prices don't cover this column
  uncovered_column : ℕ → Reason
  -- the prices make more of the right-hand sides than the certificate's best
  passed_value : Reason
  -- a sum of this column exceeds its bound in the check
  check_overflow : ℕ → Reason
  -- the plan's file is too long
  long_plan : Reason
  -- this line isn't a plan's
  plan_line : ℕ → Reason
  -- the plan's schedule has too many operations
  long_operations : Reason
  -- there is something to compute, and no node that can be reached computes
  nothing_computes : Reason
  -- the data's file is too long
  long_data : Reason
  -- the run has too many events
  long_events : Reason
  -- this operation of the plan's schedule is the first that breaks a rule, and this is the first that it breaks
  breach : ℕ → Rule → Reason

-- a refusal, with what its error line names
pub data Refusal : Type 0 where
  -- the words are no command
  usage : Refusal
  -- the file with this name can't be opened or read
  cannot_read : List ℕ → Refusal
  -- what was read is refused
  refused : Reason → Refusal
  -- memory ran out
  no_memory : Refusal

-- the refusal for a fault of a platform file
abbrev pub platform_refusal : PlatformFault → Refusal
platform_refusal platform.NoMemory = no_memory
platform_refusal fault = refused (no_platform fault)

-- the refusal for a platform that has no ticks
abbrev pub timed_refusal : TimedFault → Refusal
timed_refusal ticks.NoMemory = no_memory
timed_refusal fault = refused (no_ticks fault)

-- the refusal for a platform that isn't planned
abbrev pub plan_refusal : PlanFault → Refusal
plan_refusal plans.NoMemory = no_memory
plan_refusal fault = refused (no_plan fault)

-- the status of a reason
abbrev pub reason_status : Reason → Status
reason_status (no_platform fault) = status.Platform
reason_status (no_ticks fault) = status.Overflow
reason_status (no_plan plans.NoTargets) = status.Platform
reason_status (no_plan (plans.Spent limit)) = status.Spent
reason_status (no_plan fault) = status.Overflow
reason_status (check_overflow column) = status.Overflow
reason_status long_certificate = status.TooLong
reason_status (certificate_line number) = status.Refused
reason_status (negative_price row) = status.Refused
reason_status (uncovered_column column) = status.Refused
reason_status passed_value = status.Refused
reason_status long_plan = status.TooLong
reason_status long_operations = status.TooLong
reason_status nothing_computes = status.Platform
reason_status long_data = status.TooLong
reason_status long_events = status.TooLong
reason_status (plan_line number) = status.Refused
reason_status (breach index rule) = status.Refused

-- the status with which a refusal ends the program
abbrev pub status_of : Refusal → Status
status_of usage = status.Usage
status_of (cannot_read name) = status.ReadFault
status_of (refused reason) = reason_status reason
status_of no_memory = status.NoMemory

-- a reason's text
abbrev pub reason_text : Reason → List ℕ
reason_text (no_platform fault) = fault_text fault
reason_text (no_ticks fault) = timed_fault_text fault
reason_text (no_plan fault) = plan_fault_text fault
reason_text long_certificate = codes "too long: certificate"
reason_text (certificate_line number) = codes "certificate: line " ++ decimal number
reason_text (negative_price row) = codes "certificate: price " ++ (decimal row ++ codes " negative")
reason_text (uncovered_column column) = codes "certificate: column " ++ decimal column
reason_text passed_value = codes "certificate: value"
reason_text (check_overflow column) = codes "check overflow at column " ++ decimal column
reason_text long_plan = codes "too long: plan"
reason_text (plan_line number) = codes "plan: line " ++ decimal number
reason_text long_operations = codes "too long: operations"
reason_text nothing_computes = codes "no node that can be reached computes"
reason_text long_data = codes "too long: data"
reason_text long_events = codes "too long: events"
reason_text (breach index rule) = breach_text (record { index = index; rule = rule })

-- the error line's text after `error: `
abbrev pub refusal_text : Refusal → List ℕ
refusal_text usage = codes "usage"
refusal_text (cannot_read name) = codes "cannot read " ++ name
refusal_text (refused reason) = reason_text reason
refusal_text no_memory = codes "out of memory"

-- the whole error line
abbrev pub error_line : Refusal → List ℕ
error_line refusal = line (codes "error: " ++ refusal_text refusal)

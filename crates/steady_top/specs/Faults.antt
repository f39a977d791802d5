-- The refusal that a fault of the code stands for.
use Rattle.steady_top.specs.declared.fault.TopFault.{TopFault}
use Rattle.steady_top.specs.declared.fault.TopFault.TheVariants as top
use Rattle.steady_top.specs.declared.fault.CheckFault.{CheckFault}
use Rattle.steady_top.specs.declared.fault.CheckFault.TheVariants as unproved
use Rattle.steady_top.specs.declared.fault.ReadingFault.{ReadingFault}
use Rattle.steady_top.specs.declared.fault.ReadingFault.TheVariants as unread
use Rattle.steady_top.specs.declared.fault.RunFault.{RunFault}
use Rattle.steady_top.specs.declared.fault.RunFault.TheVariants as unrun
use Rattle.steady_top.specs.Refusals.{Reason, Refusal, usage, cannot_read, refused, no_memory, no_platform, no_ticks, no_plan, long_certificate, certificate_line, negative_price, uncovered_column, passed_value, check_overflow, long_plan, plan_line, long_operations, nothing_computes, long_data, long_events, breach}

-- why a certificate or a plan isn't read is a reason
abbrev pub reading_reason : ReadingFault → Reason
reading_reason unread.LongCertificate = long_certificate
reading_reason (unread.CertificateLine number) = certificate_line number
reading_reason unread.LongPlan = long_plan
reading_reason (unread.PlanLine number) = plan_line number
reading_reason unread.LongSchedule = long_operations

-- why a certificate proves nothing is a reason
abbrev pub check_reason : CheckFault → Reason
check_reason (unproved.NegativePrice row) = negative_price row
check_reason (unproved.UncoveredColumn column) = uncovered_column column
check_reason unproved.PassedValue = passed_value
check_reason (unproved.Overflow column) = check_overflow column

-- why a plan isn't carried out is a reason
abbrev pub run_reason : RunFault → Reason
run_reason unrun.NothingComputes = nothing_computes
run_reason unrun.LongData = long_data
run_reason unrun.LongEvents = long_events

-- each fault is the refusal of its name
abbrev pub refusal_of : TopFault → Refusal
refusal_of top.Usage = usage
refusal_of (top.CannotRead name) = cannot_read name.now
refusal_of (top.Platform fault) = refused (no_platform fault)
refusal_of (top.Ticks fault) = refused (no_ticks fault)
refusal_of (top.Plan fault) = refused (no_plan fault)
refusal_of (top.Unread fault) = refused (reading_reason fault)
refusal_of (top.Unproved fault) = refused (check_reason fault)
refusal_of (top.Unrun fault) = refused (run_reason fault)
refusal_of (top.Breach found) = refused (breach found.index found.rule)
refusal_of top.NoMemory = no_memory

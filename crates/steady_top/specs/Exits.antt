-- The numbers of the statuses (this project).
use Rattle.std.specs.Prelude.{ℕ}
use Rattle.steady_top.specs.declared.status.Status.{Status}
use Rattle.steady_top.specs.declared.status.Status.TheVariants.{Done, Usage, Platform, Overflow, Spent, ReadFault, WriteFault, NoMemory, TooLong, Refused}

-- a status's number, which is the exit status of the process
abbrev pub exit_code : Status → ℕ
exit_code Done = 0
exit_code Usage = 1
exit_code Platform = 2
exit_code Overflow = 3
exit_code Spent = 4
exit_code ReadFault = 5
exit_code WriteFault = 6
exit_code NoMemory = 7
exit_code TooLong = 8
exit_code Refused = 9

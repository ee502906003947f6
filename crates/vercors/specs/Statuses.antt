-- The exit status of each way to end, and the status by verdicts.
use Rattle.std.specs.Prelude.{ℕ, List, if◌then◌else◌}
use Rattle.small_verdicts.specs.declared.judging.Judged.{Judged}
use Rattle.pv_report.specs.Output.{some_fail}
use Rattle.vercors.specs.declared.ending.Status.{Status}
use Rattle.vercors.specs.declared.ending.Status.TheVariants.{Passed, Refused, TextRefused, Splits, WordsWrong, NoFile, ReadFault, WriteFault, TooLarge, NoMemory, WentWrong, ScheduleRefused, Overflow, RangeTooLong}

-- the exit status
abbrev pub code_of : Status → ℕ
code_of Passed = 0
code_of Refused = 1
code_of TextRefused = 2
code_of Splits = 3
code_of WordsWrong = 4
code_of NoFile = 5
code_of ReadFault = 6
code_of WriteFault = 7
code_of TooLarge = 8
code_of NoMemory = 9
code_of WentWrong = 10
code_of ScheduleRefused = 11
code_of Overflow = 12
code_of RangeTooLong = 13

-- the status by the verdicts
abbrev pub status_of : List Judged → Status
status_of judged = if some_fail judged then Refused else Passed

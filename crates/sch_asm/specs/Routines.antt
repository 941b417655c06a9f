-- The labels of the run-time routines.
use Rattle.std.specs.Prelude.{ℕ, ◌+◌, ◌-◌, length}
use Rattle.sch_word.specs.runs.Stops.{status_of}
use Rattle.sch_word.specs.values.Registers.{argument_registers}
use Rattle.sch_asm.specs.declared.routine.LeftOver.{LeftOver}
use Rattle.sch_asm.specs.declared.routine.LeftOver.TheVariants.{FromFirst, FromSecond, FromThird, FromFourth, FromFifth, FromSixth, InSlots}
use Rattle.sch_asm.specs.declared.routine.Routine.{Routine}
use Rattle.sch_asm.specs.declared.routine.Routine.TheVariants.{End, Stop, Put, PutFixnum, FillWords, FillBytes, PutValue, NewVector, NewString, NewList}

-- how many argument registers are before the first operand that is left over
abbrev pub registers_before : LeftOver → ℕ
registers_before FromFirst = 0
registers_before FromSecond = 1
registers_before FromThird = 2
registers_before FromFourth = 3
registers_before FromFifth = 4
registers_before FromSixth = 5
registers_before InSlots = length argument_registers

-- A routine that exits has the label of its status modulo 64.
abbrev pub label_of : Routine → ℕ
label_of End = 0
label_of (Stop s) = status_of s - 64
label_of Put = 11
label_of PutFixnum = 12
label_of FillWords = 13
label_of FillBytes = 14
label_of PutValue = 15
label_of NewVector = 16
label_of NewString = 17
label_of (NewList which) = 18 + registers_before which

-- Their labels are the numbers below this one.
abbrev pub routine_count : ℕ
routine_count = 25

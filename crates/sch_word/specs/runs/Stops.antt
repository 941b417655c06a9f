-- The named stops of a program, their exit statuses and their texts.
use Rattle.std.specs.Prelude.{ℕ, nat_eq, List, [], ◌∷◌, Option, codes}
use Rattle.std.specs.List.{find}
use Rattle.sch_word.specs.declared.stop.Stop.{Stop}
use Rattle.sch_word.specs.declared.stop.Stop.TheVariants.{WrongType, OutOfRange, NotProcedure, WrongCount, DivideByZero, Overflow, HeapLimit, DepthLimit, Unset, OutputFailed}

abbrev pub status_of : Stop → ℕ
status_of WrongType = 65
status_of OutOfRange = 66
status_of NotProcedure = 67
status_of WrongCount = 68
status_of DivideByZero = 69
status_of Overflow = 70
status_of HeapLimit = 71
status_of DepthLimit = 72
status_of Unset = 73
status_of OutputFailed = 74

abbrev pub all_stops : List Stop
all_stops =
    WrongType ∷ OutOfRange ∷ NotProcedure ∷ WrongCount ∷ DivideByZero
    ∷ Overflow ∷ HeapLimit ∷ DepthLimit ∷ Unset ∷ OutputFailed ∷ []

-- the stop that an exit status names, if it names one
abbrev pub stop_of : ℕ → Option Stop
stop_of status = find (λ stop. nat_eq (status_of stop) status) all_stops

abbrev pub text_of : Stop → List ℕ
text_of WrongType = codes "wrong type"
text_of OutOfRange = codes "out of range"
text_of NotProcedure = codes "not a procedure"
text_of WrongCount = codes "wrong argument count"
text_of DivideByZero = codes "division by zero"
text_of Overflow = codes "fixnum overflow"
text_of HeapLimit = codes "heap limit"
text_of DepthLimit = codes "depth limit"
text_of Unset = codes "unset variable"
text_of OutputFailed = codes "output failed"

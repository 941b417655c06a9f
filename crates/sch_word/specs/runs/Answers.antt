-- What is asked of the kernel's answers to writes.
use Rattle.std.specs.Prelude.{zero, suc}
use Rattle.sch_word.specs.declared.answer.Answer.{Answer}
use Rattle.sch_word.specs.declared.answer.Answer.TheVariants.{Took, Failed}

-- an answer that takes nothing
abbrev pub TakesNothing : Answer → Type 0
TakesNothing (Took zero) = Unit {0}
TakesNothing (Took (suc k)) = ⊥
TakesNothing Failed = Unit {0}

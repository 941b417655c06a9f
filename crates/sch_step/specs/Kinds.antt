-- The kinds of instructions whose rows are functions of their own.
use Rattle.sch_insn.specs.declared.insn.Insn.{Insn}
use Rattle.sch_insn.specs.declared.insn.Insn.TheVariants.{AddTo, OrTo, AndTo, SubTo, XorTo, CmpTo, TestTo, AddFrom, OrFrom, AndFrom, SubFrom, XorFrom, CmpFrom}
use Rattle.sch_insn.specs.Kinds.{EndsInNumber}

-- An add, a subtraction or a comparison, or one that goes bit by bit, of two words.
abbrev pub IsOnTwo : Insn → Type 0
IsOnTwo (AddTo m r) = Unit {0}
IsOnTwo (OrTo m r) = Unit {0}
IsOnTwo (AndTo m r) = Unit {0}
IsOnTwo (SubTo m r) = Unit {0}
IsOnTwo (XorTo m r) = Unit {0}
IsOnTwo (CmpTo m r) = Unit {0}
IsOnTwo (TestTo m r) = Unit {0}
IsOnTwo (AddFrom r m) = Unit {0}
IsOnTwo (OrFrom r m) = Unit {0}
IsOnTwo (AndFrom r m) = Unit {0}
IsOnTwo (SubFrom r m) = Unit {0}
IsOnTwo (XorFrom r m) = Unit {0}
IsOnTwo (CmpFrom r m) = Unit {0}
IsOnTwo i = EndsInNumber i

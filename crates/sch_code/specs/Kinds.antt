-- The kinds of instructions that are spelled by functions of their own.
use Rattle.sch_insn.specs.declared.insn.Insn.{Insn}
use Rattle.sch_insn.specs.declared.insn.Insn.TheVariants.{MovTo, AddTo, OrTo, AndTo, SubTo, XorTo, CmpTo, TestTo, MovFrom, Lea, AddFrom, OrFrom, AndFrom, SubFrom, XorFrom, CmpFrom, MovWord, Cqo, Jump, Jump8, JumpIf, JumpIf8, Syscall}

-- with W, one byte of opcode, and the register as its second operand
abbrev pub IsTo : Insn → Type 0
IsTo (MovTo m r) = Unit {0}
IsTo (AddTo m r) = Unit {0}
IsTo (OrTo m r) = Unit {0}
IsTo (AndTo m r) = Unit {0}
IsTo (SubTo m r) = Unit {0}
IsTo (XorTo m r) = Unit {0}
IsTo (CmpTo m r) = Unit {0}
IsTo (TestTo m r) = Unit {0}
IsTo _ = ⊥

-- the same with the register as its first operand
abbrev pub IsFrom : Insn → Type 0
IsFrom (MovFrom r m) = Unit {0}
IsFrom (Lea r m) = Unit {0}
IsFrom (AddFrom r m) = Unit {0}
IsFrom (OrFrom r m) = Unit {0}
IsFrom (AndFrom r m) = Unit {0}
IsFrom (SubFrom r m) = Unit {0}
IsFrom (XorFrom r m) = Unit {0}
IsFrom (CmpFrom r m) = Unit {0}
IsFrom _ = ⊥

-- without an operand that may lie in memory
abbrev pub IsBare : Insn → Type 0
IsBare (MovWord r n) = Unit {0}
IsBare Cqo = Unit {0}
IsBare (Jump d) = Unit {0}
IsBare (Jump8 d) = Unit {0}
IsBare (JumpIf c d) = Unit {0}
IsBare (JumpIf8 c d) = Unit {0}
IsBare Syscall = Unit {0}
IsBare _ = ⊥

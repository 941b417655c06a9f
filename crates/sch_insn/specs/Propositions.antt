-- That an operand and an instruction are valid are facts: there is one proof of each at most.
use Rattle.std.proofs.Props.{props}
use Rattle.sch_insn.specs.declared.insn.Arg.{Arg}
use Rattle.sch_insn.specs.declared.insn.Arg.TheVariants.{Reg, Base, Base8, Base32, Rip}
use Rattle.sch_insn.specs.declared.insn.Insn.{Insn}
use Rattle.sch_insn.specs.declared.insn.Insn.TheVariants as insn
use Rattle.sch_insn.specs.Spelling.{IsValid, IsArg}

IsArg-prop : (m : Arg) → IsProp (IsArg m)
IsArg-prop (Reg r) = hlevel props
IsArg-prop (Base b) = hlevel props
IsArg-prop (Base8 b d) = hlevel props
IsArg-prop (Base32 b d) = hlevel props
IsArg-prop (Rip d) = hlevel props

pub IsValid-prop : (i : Insn) → IsProp (IsValid i)
IsValid-prop (insn.MovTo m r) = hlevel (props, IsArg-prop)
IsValid-prop (insn.MovFrom r m) = hlevel (props, IsArg-prop)
IsValid-prop (insn.MovNumber m n) = hlevel (props, IsArg-prop)
IsValid-prop (insn.MovWord r n) = hlevel (props, IsArg-prop)
IsValid-prop (insn.StoreByte m r) = hlevel (props, IsArg-prop)
IsValid-prop (insn.LoadByte r m) = hlevel (props, IsArg-prop)
IsValid-prop (insn.Lea r m) = hlevel (props, IsArg-prop)
IsValid-prop (insn.AddTo m r) = hlevel (props, IsArg-prop)
IsValid-prop (insn.OrTo m r) = hlevel (props, IsArg-prop)
IsValid-prop (insn.AndTo m r) = hlevel (props, IsArg-prop)
IsValid-prop (insn.SubTo m r) = hlevel (props, IsArg-prop)
IsValid-prop (insn.XorTo m r) = hlevel (props, IsArg-prop)
IsValid-prop (insn.CmpTo m r) = hlevel (props, IsArg-prop)
IsValid-prop (insn.AddFrom r m) = hlevel (props, IsArg-prop)
IsValid-prop (insn.OrFrom r m) = hlevel (props, IsArg-prop)
IsValid-prop (insn.AndFrom r m) = hlevel (props, IsArg-prop)
IsValid-prop (insn.SubFrom r m) = hlevel (props, IsArg-prop)
IsValid-prop (insn.XorFrom r m) = hlevel (props, IsArg-prop)
IsValid-prop (insn.CmpFrom r m) = hlevel (props, IsArg-prop)
IsValid-prop (insn.AddNumber m n) = hlevel (props, IsArg-prop)
IsValid-prop (insn.OrNumber m n) = hlevel (props, IsArg-prop)
IsValid-prop (insn.AndNumber m n) = hlevel (props, IsArg-prop)
IsValid-prop (insn.SubNumber m n) = hlevel (props, IsArg-prop)
IsValid-prop (insn.XorNumber m n) = hlevel (props, IsArg-prop)
IsValid-prop (insn.CmpNumber m n) = hlevel (props, IsArg-prop)
IsValid-prop (insn.AddNumber8 m n) = hlevel (props, IsArg-prop)
IsValid-prop (insn.OrNumber8 m n) = hlevel (props, IsArg-prop)
IsValid-prop (insn.AndNumber8 m n) = hlevel (props, IsArg-prop)
IsValid-prop (insn.SubNumber8 m n) = hlevel (props, IsArg-prop)
IsValid-prop (insn.XorNumber8 m n) = hlevel (props, IsArg-prop)
IsValid-prop (insn.CmpNumber8 m n) = hlevel (props, IsArg-prop)
IsValid-prop (insn.TestTo m r) = hlevel (props, IsArg-prop)
IsValid-prop (insn.Imul r m) = hlevel (props, IsArg-prop)
IsValid-prop (insn.Neg m) = hlevel (props, IsArg-prop)
IsValid-prop (insn.Idiv m) = hlevel (props, IsArg-prop)
IsValid-prop insn.Cqo = hlevel (props, IsArg-prop)
IsValid-prop (insn.Shl m k) = hlevel (props, IsArg-prop)
IsValid-prop (insn.Shr m k) = hlevel (props, IsArg-prop)
IsValid-prop (insn.Sar m k) = hlevel (props, IsArg-prop)
IsValid-prop (insn.Jump d) = hlevel (props, IsArg-prop)
IsValid-prop (insn.Jump8 d) = hlevel (props, IsArg-prop)
IsValid-prop (insn.JumpTo m) = hlevel (props, IsArg-prop)
IsValid-prop (insn.JumpIf c d) = hlevel (props, IsArg-prop)
IsValid-prop (insn.JumpIf8 c d) = hlevel (props, IsArg-prop)
IsValid-prop insn.Syscall = hlevel (props, IsArg-prop)

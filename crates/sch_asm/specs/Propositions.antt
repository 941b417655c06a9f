-- What the type of items keeps are facts: there is one proof of each at most.
use Rattle.std.specs.Prelude.{List, [], ◌∷◌}
use Rattle.std.proofs.Props.{props}
use Rattle.sch_insn.specs.declared.insn.Arg.{Arg}
use Rattle.sch_insn.specs.declared.insn.Arg.TheVariants.{Rip}
use Rattle.sch_insn.specs.declared.insn.Insn.{Insn}
use Rattle.sch_insn.specs.declared.insn.Insn.TheVariants as insn
use Rattle.sch_insn.specs.Propositions.{IsValid-prop}
use Rattle.sch_asm.specs.declared.item.Item.{Item}
use Rattle.sch_asm.specs.declared.item.Item.TheVariants.{Label, Plain, Jump, JumpIf, LoadLabel, LoadWord, StoreWord, Mark}
use Rattle.sch_asm.specs.Items.{IsFree, IsPlain, IsItem, AreItems}

IsFree-prop : (m : Arg) → IsProp (IsFree m)
IsFree-prop (Rip d) = hlevel props
IsFree-prop _ = hlevel props

IsPlain-prop : (i : Insn) → IsProp (IsPlain i)
IsPlain-prop (insn.MovTo m r) = hlevel (props, IsFree-prop)
IsPlain-prop (insn.MovFrom r m) = hlevel (props, IsFree-prop)
IsPlain-prop (insn.MovNumber m n) = hlevel (props, IsFree-prop)
IsPlain-prop (insn.MovWord r n) = hlevel (props, IsFree-prop)
IsPlain-prop (insn.StoreByte m r) = hlevel (props, IsFree-prop)
IsPlain-prop (insn.LoadByte r m) = hlevel (props, IsFree-prop)
IsPlain-prop (insn.Lea r m) = hlevel (props, IsFree-prop)
IsPlain-prop (insn.AddTo m r) = hlevel (props, IsFree-prop)
IsPlain-prop (insn.OrTo m r) = hlevel (props, IsFree-prop)
IsPlain-prop (insn.AndTo m r) = hlevel (props, IsFree-prop)
IsPlain-prop (insn.SubTo m r) = hlevel (props, IsFree-prop)
IsPlain-prop (insn.XorTo m r) = hlevel (props, IsFree-prop)
IsPlain-prop (insn.CmpTo m r) = hlevel (props, IsFree-prop)
IsPlain-prop (insn.AddFrom r m) = hlevel (props, IsFree-prop)
IsPlain-prop (insn.OrFrom r m) = hlevel (props, IsFree-prop)
IsPlain-prop (insn.AndFrom r m) = hlevel (props, IsFree-prop)
IsPlain-prop (insn.SubFrom r m) = hlevel (props, IsFree-prop)
IsPlain-prop (insn.XorFrom r m) = hlevel (props, IsFree-prop)
IsPlain-prop (insn.CmpFrom r m) = hlevel (props, IsFree-prop)
IsPlain-prop (insn.AddNumber m n) = hlevel (props, IsFree-prop)
IsPlain-prop (insn.OrNumber m n) = hlevel (props, IsFree-prop)
IsPlain-prop (insn.AndNumber m n) = hlevel (props, IsFree-prop)
IsPlain-prop (insn.SubNumber m n) = hlevel (props, IsFree-prop)
IsPlain-prop (insn.XorNumber m n) = hlevel (props, IsFree-prop)
IsPlain-prop (insn.CmpNumber m n) = hlevel (props, IsFree-prop)
IsPlain-prop (insn.AddNumber8 m n) = hlevel (props, IsFree-prop)
IsPlain-prop (insn.OrNumber8 m n) = hlevel (props, IsFree-prop)
IsPlain-prop (insn.AndNumber8 m n) = hlevel (props, IsFree-prop)
IsPlain-prop (insn.SubNumber8 m n) = hlevel (props, IsFree-prop)
IsPlain-prop (insn.XorNumber8 m n) = hlevel (props, IsFree-prop)
IsPlain-prop (insn.CmpNumber8 m n) = hlevel (props, IsFree-prop)
IsPlain-prop (insn.TestTo m r) = hlevel (props, IsFree-prop)
IsPlain-prop (insn.Imul r m) = hlevel (props, IsFree-prop)
IsPlain-prop (insn.Neg m) = hlevel (props, IsFree-prop)
IsPlain-prop (insn.Idiv m) = hlevel (props, IsFree-prop)
IsPlain-prop insn.Cqo = hlevel (props, IsFree-prop)
IsPlain-prop (insn.Shl m k) = hlevel (props, IsFree-prop)
IsPlain-prop (insn.Shr m k) = hlevel (props, IsFree-prop)
IsPlain-prop (insn.Sar m k) = hlevel (props, IsFree-prop)
IsPlain-prop (insn.Jump d) = hlevel (props, IsFree-prop)
IsPlain-prop (insn.Jump8 d) = hlevel (props, IsFree-prop)
IsPlain-prop (insn.JumpTo m) = hlevel (props, IsFree-prop)
IsPlain-prop (insn.JumpIf c d) = hlevel (props, IsFree-prop)
IsPlain-prop (insn.JumpIf8 c d) = hlevel (props, IsFree-prop)
IsPlain-prop insn.Syscall = hlevel (props, IsFree-prop)

IsItem-prop : (i : Item) → IsProp (IsItem i)
IsItem-prop (Label l) = hlevel props
IsItem-prop (Plain i) = hlevel (props, IsValid-prop, IsPlain-prop)
IsItem-prop (Jump l) = hlevel props
IsItem-prop (JumpIf c l) = hlevel props
IsItem-prop (LoadLabel r l) = hlevel props
IsItem-prop (LoadWord r a) = hlevel props
IsItem-prop (StoreWord a r) = hlevel props
IsItem-prop (Mark m) = hlevel props

pub AreItems-prop : (is : List Item) → IsProp (AreItems is)
AreItems-prop [] = hlevel props
AreItems-prop (i ∷ is) = hlevel (IsItem-prop, AreItems-prop is)

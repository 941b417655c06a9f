-- When no call of a tree has more operands than a call may have.
use Rattle.std.specs.Prelude.{◌≤◌, length}
use Rattle.sch_word.specs.trees.Shape.{max_operands}
use Rattle.sch_control.specs.declared.tree.Exp.{Exp, Do, Bind', Seq', If', Fix', Call, TailCall, Return', End', Save'}

abbrev pub FewOperands : {C : Type 0} → Exp C → Type 0
FewOperands (Do operation) = Unit {0}
FewOperands (Bind' x p a q b) = FewOperands a × FewOperands b
FewOperands (Seq' p a q b) = FewOperands a × FewOperands b
FewOperands (If' p a q b r c) = FewOperands a × (FewOperands b × FewOperands c)
FewOperands (Fix' members p e) = FewOperands e
FewOperands (Call a annotation) = length a.operands ≤ max_operands
FewOperands (TailCall a) = length a.operands ≤ max_operands
FewOperands (Return' p e) = FewOperands e
FewOperands (End' p e) = FewOperands e
FewOperands (Save' saves p e) = FewOperands e

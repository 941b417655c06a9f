-- The kinds of trees with several parts, for which walks have functions of their own.
use Rattle.sch_cells.specs.Tree.{Tree, branch, bind, fix, letrec, call, new_cells}

abbrev pub IsIf : Tree → Type 0
IsIf (branch a b c) = Unit {0}
IsIf _ = ⊥

abbrev pub IsLet : Tree → Type 0
IsLet (bind site first es e) = Unit {0}
IsLet _ = ⊥

abbrev pub IsFix : Tree → Type 0
IsFix (fix first ls e) = Unit {0}
IsFix _ = ⊥

abbrev pub IsRec : Tree → Type 0
IsRec (letrec site first es e) = Unit {0}
IsRec _ = ⊥

abbrev pub IsLetOrRec : Tree → Type 0
IsLetOrRec (bind site first es e) = Unit {0}
IsLetOrRec (letrec site first es e) = Unit {0}
IsLetOrRec _ = ⊥

abbrev pub IsCall : Tree → Type 0
IsCall (call site spread f es) = Unit {0}
IsCall _ = ⊥

abbrev pub IsNewCells : Tree → Type 0
IsNewCells (new_cells cs e) = Unit {0}
IsNewCells _ = ⊥

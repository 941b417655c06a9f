-- The kinds of trees that are normalized by functions of their own.
use Rattle.sch_flat.specs.Tree.{Tree, branch, bind, fix_closures, call, new_cells}

abbrev pub IsIf : Tree → Type 0
IsIf (branch a b c) = Unit {0}
IsIf _ = ⊥

abbrev pub IsLet : Tree → Type 0
IsLet (bind site first es e) = Unit {0}
IsLet _ = ⊥

abbrev pub IsGroup : Tree → Type 0
IsGroup (fix_closures first ms e) = Unit {0}
IsGroup _ = ⊥

abbrev pub IsCall : Tree → Type 0
IsCall (call site spread f es) = Unit {0}
IsCall _ = ⊥

abbrev pub IsCells : Tree → Type 0
IsCells (new_cells cs e) = Unit {0}
IsCells _ = ⊥

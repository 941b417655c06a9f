-- The kinds of expressions with several parts, for which walks have functions of their own.
use Rattle.sch_lang.specs.Tree.{Expression, branch, bind, fix, letrec, call}

abbrev pub IsIf : Expression → Type 0
IsIf (branch a b c) = Unit {0}
IsIf _ = ⊥

abbrev pub IsLet : Expression → Type 0
IsLet (bind site es e) = Unit {0}
IsLet _ = ⊥

abbrev pub IsFix : Expression → Type 0
IsFix (fix ls e) = Unit {0}
IsFix _ = ⊥

abbrev pub IsRec : Expression → Type 0
IsRec (letrec site es e) = Unit {0}
IsRec _ = ⊥

abbrev pub IsCall : Expression → Type 0
IsCall (call site f es) = Unit {0}
IsCall _ = ⊥

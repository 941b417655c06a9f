-- The kinds of drafts with several parts, for which walks have functions of their own.
use Rattle.sch_sketch.specs.Draft.{Draft, branch, bind, letrec, call}

abbrev pub IsIf : Draft → Type 0
IsIf (branch a b c) = Unit {0}
IsIf _ = ⊥

abbrev pub IsLet : Draft → Type 0
IsLet (bind vs es e) = Unit {0}
IsLet _ = ⊥

abbrev pub IsLetrec : Draft → Type 0
IsLetrec (letrec vs g es e) = Unit {0}
IsLetrec _ = ⊥

abbrev pub IsCall : Draft → Type 0
IsCall (call vs f es) = Unit {0}
IsCall _ = ⊥

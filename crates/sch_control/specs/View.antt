-- The plain tree of an expression of the program's type.
use Rattle.std.specs.Prelude.{ℕ, List, [], Option}
use Rattle.sch_control.specs.declared.body.Entry.{Entry}
use Rattle.sch_control.specs.declared.tree.Exp.{Exp, Do, Bind', Seq', If', Fix', Call, TailCall, Return', End', Save'}
use Rattle.sch_control.specs.Tree.{Expression, perform, bind, sequence, branch, fix, call, tail_call, return, end, save, Code}

-- by what is restored after a call, as the call's annotation says
module _ {C : Type 0} (restores : C → List ℕ) where
  abbrev pub expression_with : Exp C → Expression
  expression_with (Do operation) = perform operation
  expression_with (Bind' x p a q b) = bind x (expression_with a) (expression_with b)
  expression_with (Seq' p a q b) = sequence (expression_with a) (expression_with b)
  expression_with (If' p a q b r c) = branch (expression_with a) (expression_with b) (expression_with c)
  expression_with (Fix' members p e) = fix members (expression_with e)
  expression_with (Call application annotation) = call application (restores annotation)
  expression_with (TailCall application) = tail_call application
  expression_with (Return' p e) = return (expression_with e)
  expression_with (End' p e) = end (expression_with e)
  expression_with (Save' saves p e) = save saves (expression_with e)

-- of a body whose calls have no annotation, nothing is restored
abbrev pub expression : Exp (Unit {0}) → Expression
expression = expression_with (λ annotation. [])

-- a body as plain data, from its parts
abbrev pub code : List ℕ → Option Entry → ℕ → Exp (Unit {0}) → Code
code name entry variables e = record { name = name; entry = entry; variables = variables; expression = expression e }

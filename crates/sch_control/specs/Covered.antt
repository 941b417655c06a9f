-- Which programs are covered.
use Rattle.std.specs.Prelude.{Bool, true, ◌&&◌, not, nat_le, length, Option, Some, None}
use Rattle.std.specs.List.{list_all}
use Rattle.sch_word.specs.trees.Shape.{max_library}
use Rattle.sch_word.specs.trees.Covered.{is_covered_primitive, is_covered_rest}
use Rattle.sch_control.specs.declared.body.Entry.{Entry}
use Rattle.sch_control.specs.declared.operation.Application.{Application}
use Rattle.sch_control.specs.declared.operation.Source.{Source as Captured}
use Rattle.sch_control.specs.declared.operation.Source.TheVariants.{Atom, Field}
use Rattle.sch_control.specs.declared.operation.Closure.{Closure}
use Rattle.sch_control.specs.declared.operation.Member.{Member}
use Rattle.sch_control.specs.declared.operation.Operation.{Operation}
use Rattle.sch_control.specs.declared.operation.Operation.TheVariants as operation
use Rattle.sch_control.specs.CoveredOperands.{is_covered_atom, is_covered_operand}
use Rattle.sch_control.specs.Tree.{Expression, perform, bind, sequence, branch, fix, call, tail_call, return, end, save, Code, Source}

-- ## Operations, where `V` says where a value stands

abbrev pub is_covered_source : {V : Type 0} → Captured V → Bool
is_covered_source (Atom a) = is_covered_atom a
is_covered_source (Field v k) = true

abbrev pub is_covered_closure : {V : Type 0} → Closure V → Bool
is_covered_closure c = list_all is_covered_source c.fields

abbrev pub is_covered_member : {V : Type 0} → Member V → Bool
is_covered_member m = is_covered_closure m.closure

abbrev pub is_covered_operation : {V : Type 0} → Operation V → Bool
is_covered_operation (operation.Operand o) = is_covered_operand o
is_covered_operation (operation.Prim site which operands) = is_covered_primitive which && list_all is_covered_operand operands
is_covered_operation (operation.Global g) = true
is_covered_operation (operation.SetGlobal g o) = is_covered_operand o
is_covered_operation (operation.Field v k) = true
is_covered_operation (operation.NewCell s) = is_covered_source s
is_covered_operation operation.UnsetCell = true
is_covered_operation (operation.CellGet s) = is_covered_source s
is_covered_operation (operation.CellSet s o) = is_covered_source s && is_covered_operand o
is_covered_operation (operation.MakeClosure c) = is_covered_closure c

-- a call that spreads no list
abbrev pub is_covered_application : {V : Type 0} → Application V → Bool
is_covered_application a = not a.spread && (is_covered_operand a.operator && list_all is_covered_operand a.operands)

-- ## Bodies

abbrev pub is_covered : Expression → Bool
is_covered (perform o) = is_covered_operation o
is_covered (bind x a b) = is_covered a && is_covered b
is_covered (sequence a b) = is_covered a && is_covered b
is_covered (branch a b c) = is_covered a && (is_covered b && is_covered c)
is_covered (fix members e) = list_all is_covered_member members && is_covered e
is_covered (call a restores) = is_covered_application a
is_covered (tail_call a) = is_covered_application a
is_covered (return e) = is_covered e
is_covered (end e) = is_covered e
is_covered (save saves e) = is_covered e

-- a form, or a procedure with its formals
abbrev pub has_covered_formals : Option Entry → Bool
has_covered_formals None = true
has_covered_formals (Some e) = is_covered_rest e.rest

abbrev pub is_covered_code : Code → Bool
is_covered_code c = has_covered_formals c.entry && is_covered c.expression

-- with no more procedures in the library than it may have
abbrev pub is_covered_program : Source → Bool
is_covered_program p = nat_le (length p.library) max_library && list_all is_covered_code p.bodies

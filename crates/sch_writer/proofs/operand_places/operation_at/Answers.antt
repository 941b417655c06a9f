use Rattle.std.proofs.Common.{◌∙◌, sym, ap}
use Rattle.std.proofs.lemmas.Result.{IfOk-from_err}
use Rattle.sch_control.specs.declared.operation.Operation.TheVariants as operation
use Rattle.sch_layout.specs.BodyLayout.{operands_at, source_at, operation_at}
use Rattle.sch_writer.proofs.operand_places.operation_at.Goals as goal

pub returns-in_err-operand_at-in-Operand : goal.returns-in_err-operand_at-in-Operand
returns-in_err-operand_at-in-Operand g c = IfOk-from_err c.from_residual.result _ c.from_residual.ensures.0

pub returns-in_err-operands-in-Prim : goal.returns-in_err-operands-in-Prim
returns-in_err-operands-in-Prim g c = IfOk-from_err c.from_residual-in_err-operands-in-Prim.result _ c.from_residual-in_err-operands-in-Prim.ensures.0

pub returns-in_err-operand_at-in-SetGlobal : goal.returns-in_err-operand_at-in-SetGlobal
returns-in_err-operand_at-in-SetGlobal g c = IfOk-from_err c.from_residual-in_err-operand_at-in-SetGlobal.result _ c.from_residual-in_err-operand_at-in-SetGlobal.ensures.0

pub returns-in_err-operand_at-in-CellSet : goal.returns-in_err-operand_at-in-CellSet
returns-in_err-operand_at-in-CellSet g c = IfOk-from_err c.from_residual-in_err-operand_at-in-CellSet.result _ c.from_residual-in_err-operand_at-in-CellSet.ensures.0

pub returns-in_err-closure_at-in-MakeClosure : goal.returns-in_err-closure_at-in-MakeClosure
returns-in_err-closure_at-in-MakeClosure g c = IfOk-from_err c.from_residual-in_err-closure_at-in-MakeClosure.result _ c.from_residual-in_err-closure_at-in-MakeClosure.ensures.0

pub returns-in_ok-operand_at-in-Operand : goal.returns-in_ok-operand_at-in-Operand
returns-in_ok-operand_at-in-Operand g c = ap operation.Operand c.in_ok-operand_at-in-Operand.ensures ∙ sym (ap (operation_at (g.P.VariablePlaces.plan c.args.places.now).place) c.in-Operand.is)

pub returns-in_ok-operands-in-Prim : goal.returns-in_ok-operands-in-Prim
returns-in_ok-operands-in-Prim g c = ap (operation.Prim c.in-Prim.site c.in-Prim.which) (c.in_ok-operands-in-Prim.ensures ∙ ap (operands_at (g.P.VariablePlaces.plan c.args.places.now).place) c.as_slice.ensures) ∙ sym (ap (operation_at (g.P.VariablePlaces.plan c.args.places.now).place) c.in-Prim.is)

pub returns-in-Global : goal.returns-in-Global
returns-in-Global g c = sym (ap (operation_at (g.P.VariablePlaces.plan c.args.places.now).place) c.in-Global.is)

pub returns-in_ok-operand_at-in-SetGlobal : goal.returns-in_ok-operand_at-in-SetGlobal
returns-in_ok-operand_at-in-SetGlobal g c = ap (operation.SetGlobal c.in-SetGlobal.g) c.in_ok-operand_at-in-SetGlobal.ensures ∙ sym (ap (operation_at (g.P.VariablePlaces.plan c.args.places.now).place) c.in-SetGlobal.is)

pub returns-in-Field : goal.returns-in-Field
returns-in-Field g c = ap (λ x. operation.Field x c.in-Field.k) c.place.ensures ∙ sym (ap (operation_at (g.P.VariablePlaces.plan c.args.places.now).place) c.in-Field.is)

pub returns-in-NewCell : goal.returns-in-NewCell
returns-in-NewCell g c = ap operation.NewCell c.source_at.ensures ∙ sym (ap (operation_at (g.P.VariablePlaces.plan c.args.places.now).place) c.in-NewCell.is)

pub returns-in-UnsetCell : goal.returns-in-UnsetCell
returns-in-UnsetCell g c = sym (ap (operation_at (g.P.VariablePlaces.plan c.args.places.now).place) c.in-UnsetCell.is)

pub returns-in-CellGet : goal.returns-in-CellGet
returns-in-CellGet g c = ap operation.CellGet c.source_at-in-CellGet.ensures ∙ sym (ap (operation_at (g.P.VariablePlaces.plan c.args.places.now).place) c.in-CellGet.is)

pub returns-in_ok-operand_at-in-CellSet : goal.returns-in_ok-operand_at-in-CellSet
returns-in_ok-operand_at-in-CellSet g c = ap (λ s. operation.CellSet s c.in_ok-operand_at-in-CellSet.field-0) c.source_at-c.ensures
    ∙ ap (operation.CellSet (source_at (g.P.VariablePlaces.plan c.args.places.now).place c.in-CellSet.c)) c.in_ok-operand_at-in-CellSet.ensures ∙ sym (ap (operation_at (g.P.VariablePlaces.plan c.args.places.now).place) c.in-CellSet.is)

pub returns-in_ok-closure_at-in-MakeClosure : goal.returns-in_ok-closure_at-in-MakeClosure
returns-in_ok-closure_at-in-MakeClosure g c = ap operation.MakeClosure c.in_ok-closure_at-in-MakeClosure.ensures ∙ sym (ap (operation_at (g.P.VariablePlaces.plan c.args.places.now).place) c.in-MakeClosure.is)

use Rattle.std.proofs.Common.{◌∙◌, None, get_or, refl, ap, arith}
use Rattle.std.proofs.lemmas.List.{get_or_default}
use Rattle.sch_flat.specs.declared.tree.NewCell.{NewCell}
use Rattle.sch_control.specs.Tree.{perform}
use Rattle.sch_control.specs.View.{expression}
use Rattle.sch_anf.specs.ScopeTable.{scope_of}
use Rattle.sch_anf.proofs.NewSteps.{cells_turn}
use Rattle.sch_anf.proofs.reading.make_cells.Goals as goal

pub loop-cell-preserved : goal.loop-cell-preserved
loop-cell-preserved c =
    let i = c.loop-cell.invariant in
    let items = c.as_slice-cell-items.result.now in
    let none : NewCell = record { variable = 0; content = None } in
    let cell = get_or items c.loop-cell.cell-index none in
    record {
      made = cells_turn (scope_of c.args.v.now.bound.items) items c.loop-cell.cell-index cell c.loop-cell-test.true
          (get_or_default items c.loop-cell.cell-index none cell c.loop-cell-test.true) c.loop-cell.at _ c.loop-cell.steps.items _ _ _ refl refl
          (ap expression c.in_ok-value.ensures.ok ∙ ap (λ o. perform o) c.cell_operation.ensures) c.in_ok-push.ensures.items i.made;
      at = omega (arith, i.at);
    }

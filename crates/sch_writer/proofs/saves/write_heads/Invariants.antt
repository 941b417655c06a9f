use Rattle.std.proofs.Common.{◌≡◌, ◌++◌, drop, List}
use Rattle.sch_control.specs.Meaning.{heads}
use Rattle.sch_control.specs.View.{expression_with}
use Rattle.sch_frames.specs.declared.instruction.Instruction.{Instruction}
use Rattle.sch_layout.specs.BodyLayout.{stored}
use Rattle.sch_writer.proofs.saves.write_heads.Given as goal

abbrev pub invariant-loop-x : goal.invariant-loop-x
invariant-loop-x g l = record {
  written : (rest : List Instruction) → l.out.instructions ++ stored (g.P.VariablePlaces.plan l.around.allocation.now.places) (heads (expression_with (g.R.Restores.lists l.around.allocation.now.restores) l.e) (drop l.x-index l.saves)) rest
      ≡ l.initial.out.instructions ++ stored (g.P.VariablePlaces.plan l.around.allocation.now.places) (heads (expression_with (g.R.Restores.lists l.around.allocation.now.restores) l.e) l.saves) rest;
  labels : l.out.labels ≡ l.initial.out.labels;
}

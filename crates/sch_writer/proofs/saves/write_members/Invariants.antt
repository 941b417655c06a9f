use Rattle.std.proofs.Common.{◌≡◌, ◌++◌, drop, List}
use Rattle.std.specs.Prelude.{filter}
use Rattle.sch_control.specs.Valid.{member_variables}
use Rattle.sch_frames.specs.declared.instruction.Instruction.{Instruction}
use Rattle.sch_layout.specs.BodyLayout.{stored}
use Rattle.sch_writer.specs.Regions.{inside}
use Rattle.sch_writer.proofs.saves.write_members.Given as goal

abbrev pub invariant-loop-m : goal.invariant-loop-m
invariant-loop-m g l = record {
  written : (rest : List Instruction) → l.out.instructions ++ stored (g.P.VariablePlaces.plan l.places) (filter (inside l.regions) (member_variables (drop l.m-index l.members))) rest
      ≡ l.initial.out.instructions ++ stored (g.P.VariablePlaces.plan l.places) (filter (inside l.regions) (member_variables l.members)) rest;
  labels : l.out.labels ≡ l.initial.out.labels;
}

use Rattle.std.proofs.Common.{◌≡◌, ◌++◌, drop, List}
use Rattle.sch_frames.specs.declared.instruction.Instruction.{Instruction}
use Rattle.sch_layout.specs.BodyLayout.{loaded}
use Rattle.sch_writer.proofs.saves.write_restores.Given as goal

abbrev pub invariant-loop-x : goal.invariant-loop-x
invariant-loop-x g l = record {
  written : (rest : List Instruction) → l.out.instructions ++ loaded (g.P.VariablePlaces.plan l.places) (drop l.x-index l.xs) rest
      ≡ l.initial.out.instructions ++ loaded (g.P.VariablePlaces.plan l.places) l.xs rest;
  labels : l.out.labels ≡ l.initial.out.labels;
}

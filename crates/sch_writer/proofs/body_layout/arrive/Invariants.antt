use Rattle.std.proofs.Common.{◌≡◌, ◌++◌, ◌+◌, ◌-◌, List}
use Rattle.sch_frames.specs.declared.instruction.Instruction.{Instruction}
use Rattle.sch_layout.specs.BodyLayout.{arrivals}
use Rattle.sch_writer.proofs.body_layout.arrive.Given as goal

abbrev pub invariant-loop-k : goal.invariant-loop-k
invariant-loop-k g l = record {
  written : (rest : List Instruction) → l.out.instructions ++ arrivals (g.P.VariablePlaces.plan l.places) (l.k + 1) (l.count - l.k) rest ≡ l.initial.out.instructions ++ arrivals (g.P.VariablePlaces.plan l.places) 1 l.count rest;
  labels : l.out.labels ≡ l.initial.out.labels;
}

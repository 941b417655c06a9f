use Rattle.std.proofs.Common.{◌≡◌, ◌++◌, take}
use Rattle.sch_control.specs.SourceView as control
use Rattle.sch_frames.specs.SourceView.{codes_of}
use Rattle.sch_registers.specs.FramedBodies.{AreFramedBodies}
use Rattle.sch_registers.specs.Registers.{all_calls}
use Rattle.sch_registers.proofs.programs.frame_bodies.Given as goal

abbrev pub invariant-loop-b : goal.invariant-loop-b
invariant-loop-b l = record {
  framed : AreFramedBodies (control.codes_of (take l.b-index l.bodies)) (codes_of l.made);
  calls : l.calls ≡ l.initial.calls ++ all_calls (control.codes_of (take l.b-index l.bodies));
}

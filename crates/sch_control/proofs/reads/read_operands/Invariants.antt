use Rattle.std.proofs.Common.{◌*◌, drop}
use Rattle.std.specs.Prelude.{◌||◌}
use Rattle.std.specs.FinSet as set
use Rattle.sch_word.specs.trees.NumberSets.{has}
use Rattle.sch_control.specs.AtomsAndSites.{operands_atoms}
use Rattle.sch_control.specs.flow.Live.{named}
use Rattle.sch_control.specs.flow.Reads.{AtomsBelow}
use Rattle.sch_control.proofs.ReadSteps.{Left}
use Rattle.sch_control.proofs.reads.read_operands.Given as goal

abbrev pub invariant-loop-o : goal.invariant-loop-o
invariant-loop-o g l =
    record {
      left : Left operands_atoms (drop l.o-index l.operands) l.live (λ x. has x (named (operands_atoms l.operands)) || set.contains l.initial.live x);
      below : AtomsBelow (64 * g.row.N) (operands_atoms (drop l.o-index l.operands));
    }

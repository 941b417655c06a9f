use Rattle.std.proofs.Common.{◌*◌, drop}
use Rattle.std.specs.Prelude.{◌||◌}
use Rattle.std.specs.FinSet as set
use Rattle.sch_word.specs.trees.NumberSets.{has}
use Rattle.sch_control.specs.flow.Live.{named}
use Rattle.sch_control.specs.flow.Reads.{AtomsBelow}
use Rattle.sch_control.proofs.ReadSteps.{Left, atoms_themselves}
use Rattle.sch_control.proofs.reads.read_atoms.Given as goal

abbrev pub invariant-loop-a : goal.invariant-loop-a
invariant-loop-a g l =
    record {
      left : Left atoms_themselves (drop l.a-index l.atoms) l.live (λ x. has x (named (atoms_themselves l.atoms)) || set.contains l.initial.live x);
      below : AtomsBelow (64 * g.row.N) (atoms_themselves (drop l.a-index l.atoms));
    }

use Rattle.std.proofs.Common.{◌*◌, drop}
use Rattle.std.specs.Prelude.{◌||◌}
use Rattle.std.specs.FinSet as set
use Rattle.sch_word.specs.trees.NumberSets.{has}
use Rattle.sch_control.specs.AtomsAndSites.{member_atoms}
use Rattle.sch_control.specs.flow.Live.{named}
use Rattle.sch_control.specs.flow.Reads.{AtomsBelow}
use Rattle.sch_control.proofs.ReadSteps.{Left}
use Rattle.sch_control.proofs.reads.read_members.Given as goal

abbrev pub invariant-loop-m : goal.invariant-loop-m
invariant-loop-m g l =
    record {
      left : Left member_atoms (drop l.m-index l.members) l.live (λ x. has x (named (member_atoms l.members)) || set.contains l.initial.live x);
      below : AtomsBelow (64 * g.row.N) (member_atoms (drop l.m-index l.members));
    }

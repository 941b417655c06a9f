use Rattle.std.proofs.Common.{◌*◌, drop}
use Rattle.std.specs.Prelude.{◌||◌}
use Rattle.std.specs.FinSet as set
use Rattle.sch_word.specs.trees.NumberSets.{has}
use Rattle.sch_control.specs.AtomsAndSites.{source_atoms}
use Rattle.sch_control.specs.flow.Live.{named}
use Rattle.sch_control.specs.flow.Reads.{AtomsBelow}
use Rattle.sch_control.proofs.ReadSteps.{Left}
use Rattle.sch_control.proofs.reads.read_sources.Given as goal

abbrev pub invariant-loop-s : goal.invariant-loop-s
invariant-loop-s g l =
    record {
      left : Left source_atoms (drop l.s-index l.sources) l.live (λ x. has x (named (source_atoms l.sources)) || set.contains l.initial.live x);
      below : AtomsBelow (64 * g.row.N) (source_atoms (drop l.s-index l.sources));
    }

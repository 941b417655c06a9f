use Rattle.std.proofs.Common.{rules, arith, ◌*◌, refl}
use Rattle.std.specs.Prelude.{◌||◌}
use Rattle.std.specs.FinSet as set
use Rattle.std.proofs.lemmas.Grind.{common_steps}
use Rattle.sch_word.specs.trees.NumberSets.{has}
use Rattle.sch_control.specs.AtomsAndSites.{source_atoms}
use Rattle.sch_control.specs.flow.Live.{named}
use Rattle.sch_control.proofs.ReadSteps.{read_turn, read_end, below_turn, source_alone}
use Rattle.sch_control.proofs.reads.read_sources.Goals as goal

pub read_source-requires : goal.read_source-requires
read_source-requires g c = (
  first_of (search rules, grind (arith, common_steps), omega arith),
  (below_turn source_alone source_atoms (λ a rest. refl) (64 * g.row.N) c.args.sources.now c.loop-s.s-index c.s-item.result c.loop-s-test.true c.s-item.is c.loop-s.invariant.below).0,
)

pub loop-s-preserved : goal.loop-s-preserved
loop-s-preserved g c =
    record {
      left =
          read_turn source_alone source_atoms (λ a rest. refl) c.args.sources.now c.loop-s.s-index c.s-item.result c.loop-s.live _
          (λ x. has x (named (source_atoms c.args.sources.now)) || set.contains c.args.live.now x) c.loop-s-test.true c.s-item.is c.read_source.ensures c.loop-s.invariant.left;
      below = (below_turn source_alone source_atoms (λ a rest. refl) (64 * g.row.N) c.args.sources.now c.loop-s.s-index c.s-item.result c.loop-s-test.true c.s-item.is c.loop-s.invariant.below).1;
    }

pub returns : goal.returns
returns g c =
    read_end source_alone source_atoms (λ a rest. refl) refl c.args.sources.now c.loop-s.s-index c.loop-s.live
    (λ x. has x (named (source_atoms c.args.sources.now)) || set.contains c.args.live.now x) c.loop-s-test.false c.loop-s.invariant.left

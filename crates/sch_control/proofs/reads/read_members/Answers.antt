use Rattle.std.proofs.Common.{rules, arith, ◌*◌, refl, sym, subst}
use Rattle.std.specs.Prelude.{◌||◌}
use Rattle.std.specs.FinSet as set
use Rattle.std.proofs.lemmas.Grind.{common_steps}
use Rattle.sch_word.specs.trees.NumberSets.{has}
use Rattle.sch_control.specs.AtomsAndSites.{source_atoms, member_atoms}
use Rattle.sch_control.specs.flow.Live.{named}
use Rattle.sch_control.specs.flow.Reads.{AtomsBelow, IsWith}
use Rattle.sch_control.proofs.ReadSteps.{read_turn, read_end, below_turn, captured}
use Rattle.sch_control.proofs.reads.read_members.Goals as goal

pub read_sources-requires : goal.read_sources-requires
read_sources-requires g c = (
  first_of (search rules, grind (arith, common_steps), omega arith),
  subst (λ z. AtomsBelow (64 * g.row.N) (source_atoms z)) (sym c.as_slice.ensures) ((below_turn captured member_atoms (λ a rest. refl) (64 * g.row.N) c.args.members.now c.loop-m.m-index c.m-item.result c.loop-m-test.true c.m-item.is c.loop-m.invariant.below).0),
)

pub loop-m-preserved : goal.loop-m-preserved
loop-m-preserved g c =
    record {
      left =
          read_turn captured member_atoms (λ a rest. refl) c.args.members.now c.loop-m.m-index c.m-item.result c.loop-m.live _
          (λ x. has x (named (member_atoms c.args.members.now)) || set.contains c.args.live.now x) c.loop-m-test.true c.m-item.is (subst (λ z. IsWith (source_atoms z) c.loop-m.live c.read_sources.new.live) c.as_slice.ensures c.read_sources.ensures) c.loop-m.invariant.left;
      below = (below_turn captured member_atoms (λ a rest. refl) (64 * g.row.N) c.args.members.now c.loop-m.m-index c.m-item.result c.loop-m-test.true c.m-item.is c.loop-m.invariant.below).1;
    }

pub returns : goal.returns
returns g c =
    read_end captured member_atoms (λ a rest. refl) refl c.args.members.now c.loop-m.m-index c.loop-m.live
    (λ x. has x (named (member_atoms c.args.members.now)) || set.contains c.args.live.now x) c.loop-m-test.false c.loop-m.invariant.left

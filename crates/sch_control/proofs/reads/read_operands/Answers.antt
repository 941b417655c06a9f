use Rattle.std.proofs.Common.{rules, arith, ◌*◌, refl}
use Rattle.std.specs.Prelude.{◌||◌}
use Rattle.std.specs.FinSet as set
use Rattle.std.proofs.lemmas.Grind.{common_steps}
use Rattle.sch_word.specs.trees.NumberSets.{has}
use Rattle.sch_control.specs.AtomsAndSites.{operand_atoms, operands_atoms}
use Rattle.sch_control.specs.flow.Live.{named}
use Rattle.sch_control.proofs.ReadSteps.{read_turn, read_end, below_turn}
use Rattle.sch_control.proofs.reads.read_operands.Goals as goal

pub read_operand-requires : goal.read_operand-requires
read_operand-requires g c = (
  first_of (search rules, grind (arith, common_steps), omega arith),
  (below_turn operand_atoms operands_atoms (λ a rest. refl) (64 * g.row.N) c.args.operands.now c.loop-o.o-index c.o-item.result c.loop-o-test.true c.o-item.is c.loop-o.invariant.below).0,
)

pub loop-o-preserved : goal.loop-o-preserved
loop-o-preserved g c =
    record {
      left =
          read_turn operand_atoms operands_atoms (λ a rest. refl) c.args.operands.now c.loop-o.o-index c.o-item.result c.loop-o.live _
          (λ x. has x (named (operands_atoms c.args.operands.now)) || set.contains c.args.live.now x) c.loop-o-test.true c.o-item.is c.read_operand.ensures c.loop-o.invariant.left;
      below = (below_turn operand_atoms operands_atoms (λ a rest. refl) (64 * g.row.N) c.args.operands.now c.loop-o.o-index c.o-item.result c.loop-o-test.true c.o-item.is c.loop-o.invariant.below).1;
    }

pub returns : goal.returns
returns g c =
    read_end operand_atoms operands_atoms (λ a rest. refl) refl c.args.operands.now c.loop-o.o-index c.loop-o.live
    (λ x. has x (named (operands_atoms c.args.operands.now)) || set.contains c.args.live.now x) c.loop-o-test.false c.loop-o.invariant.left

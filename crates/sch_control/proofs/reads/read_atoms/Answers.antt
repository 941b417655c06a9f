use Rattle.std.proofs.Common.{rules, arith, ◌*◌, refl}
use Rattle.std.specs.Prelude.{◌||◌}
use Rattle.std.specs.FinSet as set
use Rattle.std.proofs.lemmas.Grind.{common_steps}
use Rattle.sch_word.specs.trees.NumberSets.{has}
use Rattle.sch_control.specs.flow.Live.{named}
use Rattle.sch_control.proofs.ReadSteps.{read_turn, read_end, below_turn, atom_alone, atoms_themselves}
use Rattle.sch_control.proofs.reads.read_atoms.Goals as goal

pub read_atom-requires : goal.read_atom-requires
read_atom-requires g c = (
  first_of (search rules, grind (arith, common_steps), omega arith),
  (below_turn atom_alone atoms_themselves (λ a rest. refl) (64 * g.row.N) c.args.atoms.now c.loop-a.a-index c.a-item.result c.loop-a-test.true c.a-item.is c.loop-a.invariant.below).0,
)

pub loop-a-preserved : goal.loop-a-preserved
loop-a-preserved g c =
    record {
      left =
          read_turn atom_alone atoms_themselves (λ a rest. refl) c.args.atoms.now c.loop-a.a-index c.a-item.result c.loop-a.live _
          (λ x. has x (named (atoms_themselves c.args.atoms.now)) || set.contains c.args.live.now x) c.loop-a-test.true c.a-item.is c.read_atom.ensures c.loop-a.invariant.left;
      below = (below_turn atom_alone atoms_themselves (λ a rest. refl) (64 * g.row.N) c.args.atoms.now c.loop-a.a-index c.a-item.result c.loop-a-test.true c.a-item.is c.loop-a.invariant.below).1;
    }

pub returns : goal.returns
returns g c =
    read_end atom_alone atoms_themselves (λ a rest. refl) refl c.args.atoms.now c.loop-a.a-index c.loop-a.live
    (λ x. has x (named (atoms_themselves c.args.atoms.now)) || set.contains c.args.live.now x) c.loop-a-test.false c.loop-a.invariant.left

use Rattle.std.proofs.Common.{rules, arith, ◌*◌, sym, subst}
use Rattle.std.proofs.lemmas.Grind.{common_steps}
use Rattle.sch_control.specs.AtomsAndSites.{operand_atoms, operands_atoms}
use Rattle.sch_control.specs.flow.Reads.{AtomsBelow, IsWith}
use Rattle.sch_control.proofs.ReadSteps.{below_parts, with_append}
use Rattle.sch_control.proofs.reads.read_application.Goals as goal

pub read_operand-requires : goal.read_operand-requires
read_operand-requires g c =
    let a = c.args.a.now in (
      first_of (search rules, grind (arith, common_steps), omega arith),
      (below_parts (64 * g.row.N) (operand_atoms a.operator) (operands_atoms a.operands) c.requires).0,
    )

pub read_operands-requires : goal.read_operands-requires
read_operands-requires g c =
    let a = c.args.a.now in (
      first_of (search rules, grind (arith, common_steps), omega arith),
      subst (λ z. AtomsBelow (64 * g.row.N) (operands_atoms z)) (sym c.as_slice.ensures)
          (below_parts (64 * g.row.N) (operand_atoms a.operator) (operands_atoms a.operands) c.requires).1,
    )

pub returns : goal.returns
returns g c =
    let a = c.args.a.now in
    with_append (operand_atoms a.operator) (operands_atoms a.operands) c.args.live.now c.read_operand.new.live c.read_operands.new.live c.read_operand.ensures
    (subst (λ z. IsWith (operands_atoms z) c.read_operand.new.live c.read_operands.new.live) c.as_slice.ensures c.read_operands.ensures)

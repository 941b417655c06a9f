use Rattle.std.proofs.Common.{sym, subst}
use Rattle.sch_control.specs.AtomsAndSites.{operation_atoms}
use Rattle.sch_control.specs.flow.Reads.{IsWith}
use Rattle.sch_control.proofs.ReadSteps.{with_variable}
use Rattle.sch_control.proofs.reads.read_operation.Goals as goal

pub returns-in-Field : goal.returns-in-Field
returns-in-Field g c =
    subst (λ z. IsWith (operation_atoms z) c.args.live.now c.insert.new.self) (sym c.in-Field.is)
    (with_variable c.in-Field.x c.args.live.now c.insert.new.self c.insert.ensures)

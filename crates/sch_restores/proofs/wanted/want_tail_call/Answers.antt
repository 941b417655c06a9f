use Rattle.sch_control.specs.AtomsAndSites.{application_atoms}
use Rattle.sch_restores.proofs.EagerSteps.{read_and_return}
use Rattle.sch_restores.proofs.wanted.want_tail_call.Goals as goal

pub returns : goal.returns
returns g c =
    read_and_return (application_atoms c.args.a.now) c.new.result c.insert.new.self c.read_application.new.live c.new.ensures c.insert.ensures c.read_application.ensures

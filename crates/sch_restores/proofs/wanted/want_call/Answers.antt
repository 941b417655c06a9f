use Rattle.sch_control.specs.AtomsAndSites.{application_atoms}
use Rattle.sch_restores.proofs.EagerSteps.{read_alone}
use Rattle.sch_restores.proofs.wanted.want_call.Goals as goal

pub returns : goal.returns
returns g c = read_alone (application_atoms c.args.a.now) c.new.result c.read_application.new.live c.new.ensures c.read_application.ensures

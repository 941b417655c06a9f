use Rattle.std.proofs.Common.{◌∷◌, [], sym, subst}
use Rattle.sch_control.specs.flow.Reads.{IsWith}
use Rattle.sch_control.proofs.ReadSteps.{with_variable}
use Rattle.sch_control.proofs.reads.read_atom.Goals as goal

pub returns-in-Variable : goal.returns-in-Variable
returns-in-Variable g c =
    subst (λ z. IsWith (z ∷ []) c.args.live.now c.insert.new.self) (sym c.in-Variable.is)
    (with_variable c.in-Variable.x c.args.live.now c.insert.new.self c.insert.ensures)

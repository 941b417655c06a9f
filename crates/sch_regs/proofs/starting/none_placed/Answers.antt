use Rattle.std.proofs.Common.{refl}
use Rattle.sch_regs.proofs.StartSteps.{none_held, none_listed}
use Rattle.sch_regs.proofs.starting.none_placed.Goals as goal

pub returns : goal.returns
returns g c =
    record {
      shown = λ lt. record {
        held = none_held c.in_ok-held.held.items c.in_ok-held.ensures;
        slots = refl;
        places = none_listed c.args.variables c.in_ok-places.places.items c.in_ok-places.ensures;
      };
    }

use Rattle.std.proofs.Common.{subst}
use Rattle.std.specs.FinSet as set
use Rattle.sch_regs.specs.PlaceChoice as table
use Rattle.sch_regs.specs.Shows.{Shows}
use Rattle.sch_regs.proofs.assigning.choose_one.Goals as goal

pub returns : goal.returns
returns g c count t h =
    subst (λ s. Shows count c.choose.new.placing (table.choose (set.contains s) c.args.y t)) c.noted_under-live.ensures (c.choose.ensures count t h)

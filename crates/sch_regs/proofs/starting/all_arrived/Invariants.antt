use Rattle.sch_regs.specs.PlaceChoice.{arrived}
use Rattle.sch_regs.specs.Shows.{Shows}
use Rattle.sch_regs.proofs.starting.all_arrived.Given as goal

abbrev pub invariant-loop-k : goal.invariant-loop-k
invariant-loop-k g l = Shows l.variables l.placing (arrived l.k)

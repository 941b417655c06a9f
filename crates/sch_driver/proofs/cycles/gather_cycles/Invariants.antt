use Rattle.std.proofs.Common.{◌≡◌, ◌++◌}
use Rattle.sch_driver.specs.ListedCycles.{listed_cycles}
use Rattle.sch_driver.proofs.cycles.gather_cycles.Given as goal

abbrev pub invariant-loop-call : goal.invariant-loop-call
invariant-loop-call l = l.all ++ listed_cycles l.call-iterator.rest.items ≡ listed_cycles l.initial.call-iterator.rest.items

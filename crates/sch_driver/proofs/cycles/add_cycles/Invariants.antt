use Rattle.std.proofs.Common.{◌≡◌, ◌++◌}
use Rattle.sch_driver.specs.ListedCycles.{cycles_at}
use Rattle.sch_driver.proofs.cycles.add_cycles.Given as goal

abbrev pub invariant-loop-places : goal.invariant-loop-places
invariant-loop-places l = l.all ++ cycles_at l.site l.places-iterator.rest.items ≡ l.initial.all ++ cycles_at l.site l.initial.places-iterator.rest.items

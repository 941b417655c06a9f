use Rattle.std.proofs.Common.{◌≡◌, ◌++◌, map}
use Rattle.sch_driver.proofs.listing.gather_names.Given as goal

abbrev pub invariant-loop-body : goal.invariant-loop-body
invariant-loop-body l = l.names ++ map (λ b. b.name) l.body-iterator.rest.items ≡ map (λ b. b.name) l.initial.body-iterator.rest.items

use Rattle.std.specs.Prelude.{◌&&◌, slice_get}
use Rattle.std.specs.FinSet as set
use Rattle.sch_homes.specs.Homes.{has_register}
use Rattle.sch_homes.proofs.HomeLoops.{Given}
use Rattle.sch_homes.proofs.saved_variables.give_homes.Given as goal

abbrev pub invariant-loop-x : goal.invariant-loop-x
invariant-loop-x g l = Given l.first (λ x. has_register (slice_get l.places x) && set.contains l.saved x) l.x l.given.homes l.given.end

use Rattle.std.proofs.Common.{arith}
use Rattle.std.specs.Prelude.{◌&&◌, slice_get}
use Rattle.std.specs.FinSet as set
use Rattle.sch_homes.specs.Homes.{has_register}
use Rattle.sch_homes.proofs.HomeLoops.{count_within}
use Rattle.sch_homes.proofs.saved_variables.give_homes.Goals as goal

pub put-requires : goal.put-requires
put-requires g c =
    let ends = c.loop-x.invariant.ends in
    let few = count_within (λ x. has_register (slice_get c.args.places.now x) && set.contains c.args.saved.now x) c.loop-x.x in
    let room = c.requires.room in
    let less = c.loop-x-test.true in
    omega (arith, ends, few, room, less)

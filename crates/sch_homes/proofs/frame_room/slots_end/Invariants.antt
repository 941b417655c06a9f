use Rattle.std.proofs.Common.{◌≡◌, drop}
use Rattle.sch_homes.specs.Homes.{slots_end}
use Rattle.sch_homes.proofs.frame_room.slots_end.Given as goal

abbrev pub invariant-loop-p : goal.invariant-loop-p
invariant-loop-p l = slots_end l.end (drop l.p-index l.places) ≡ slots_end l.late l.places

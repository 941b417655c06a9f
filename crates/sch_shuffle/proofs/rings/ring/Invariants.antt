use Rattle.std.proofs.Common.{◌≡◌, ◌-◌, ◌<◌, [], length, slice_index}
use Rattle.sch_shuffle.proofs.Paths.{walk}
use Rattle.sch_shuffle.proofs.rings.ring.Given as goal

abbrev pub invariant-loop-step : goal.invariant-loop-step
invariant-loop-step l =
    (l.at < length l.successors)
    × (walk (slice_index l.successors) (length l.successors) l.start (length l.successors - l._step) l.done.items l.at
    ≡ walk (slice_index l.successors) (length l.successors) l.start (length l.successors) [] l.start)

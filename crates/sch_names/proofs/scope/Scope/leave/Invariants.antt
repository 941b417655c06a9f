use Rattle.std.proofs.Common.{◌≡◌, ◌-◌, drop, length}
use Rattle.sch_names.proofs.scope.Scope.leave.Given as goal

abbrev pub invariant-loop-self : goal.invariant-loop-self
invariant-loop-self l = drop (length l.self - l.depth) l.self ≡ drop (length l.initial.self - l.depth) l.initial.self

abbrev pub decreases-loop-self : goal.decreases-loop-self
decreases-loop-self l = length l.self

use Rattle.std.proofs.Common.{◌≡◌, length, take}
use Rattle.sch_anf.proofs.variables.Variables.release.Given as goal

abbrev pub invariant-loop-self : goal.invariant-loop-self
invariant-loop-self l = record {
  bound : take l.depth l.self.bound.items ≡ take l.depth l.initial.self.bound.items;
  next : l.self.next ≡ l.initial.self.next;
}

abbrev pub decreases-loop-self : goal.decreases-loop-self
decreases-loop-self l = length l.self.bound.items

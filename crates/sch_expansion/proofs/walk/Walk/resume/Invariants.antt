use Rattle.std.proofs.Common.{◌≡◌, ◌≤◌, length, reverse}
use Rattle.sch_names.specs.NamesView.{globals_of}
use Rattle.sch_expansion.specs.WalkStack.{Task, Goes, open_left}
use Rattle.sch_expansion.proofs.walk.Walk.resume.Given as goal

abbrev pub invariant-parts : goal.invariant-parts
invariant-parts l = record {
  stack : l.self.stack ≡ l.initial.self.stack;
  goes : (w : Task) → w.globals ≡ globals_of l.fn.globals → Goes w l.fn.node (reverse l.fn.self.stack) l.fn.self.scope l.fn.fault →
      Goes w l.node (reverse l.self.stack) l.self.scope l.fault;
  left : open_left l.node ≤ open_left l.fn.node;
}

abbrev pub decreases-parts : goal.decreases-parts
decreases-parts l = length l.node.left

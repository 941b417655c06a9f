use Rattle.std.proofs.Common.{◌≡◌, ◌++◌, drop}
use Rattle.sch_listing.specs.Lines.{bodies_text}
use Rattle.sch_listing.proofs.printing.write_bodies.Given as goal

abbrev pub invariant-loop-number : goal.invariant-loop-number
invariant-loop-number l = l.out ++ bodies_text l.number (drop l.number l.names) ≡ l.fn.out ++ bodies_text 0 l.names

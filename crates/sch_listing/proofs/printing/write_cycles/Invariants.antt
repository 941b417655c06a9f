use Rattle.std.proofs.Common.{◌≡◌, ◌++◌, drop}
use Rattle.sch_listing.specs.Lines.{cycles_text}
use Rattle.sch_listing.proofs.printing.write_cycles.Given as goal

abbrev pub invariant-loop-cycle : goal.invariant-loop-cycle
invariant-loop-cycle l = l.out ++ cycles_text (drop l.cycle-index l.cycles) ≡ l.fn.out ++ cycles_text l.cycles

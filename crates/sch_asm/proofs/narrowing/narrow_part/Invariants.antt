use Rattle.std.proofs.Common.{◌≡◌, ◌++◌, drop, take}
use Rattle.sch_asm.specs.Narrow.{narrowed}
use Rattle.sch_asm.proofs.narrowing.narrow_part.Given as goal

abbrev pub invariant-loop-item : goal.invariant-loop-item
invariant-loop-item l = take l.item-index l.item-items ++ narrowed (drop l.item-index l.item-items) ≡ narrowed l.fn.part.items

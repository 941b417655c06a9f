use Rattle.std.proofs.Common.{◌≡◌, ◌++◌, drop, take}
use Rattle.std.specs.Prelude.{flat_map}
use Rattle.sch_asm.specs.Narrow.{narrowed}
use Rattle.sch_asm.proofs.narrowing.narrow_parts.Given as goal

abbrev pub invariant-loop-part : goal.invariant-loop-part
invariant-loop-part l = flat_map (λ part. part.items) (take l.part-index l.part-items) ++ narrowed (flat_map (λ part. part.items) (drop l.part-index l.part-items))
    ≡ narrowed (flat_map (λ part. part.items) l.fn.parts.items)

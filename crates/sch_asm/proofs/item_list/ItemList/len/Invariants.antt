use Rattle.std.proofs.Common.{◌≡◌, ◌+◌, ◌^◌, ◌<◌, length, drop}
use Rattle.std.specs.Prelude.{flat_map}
use Rattle.sch_asm.proofs.item_list.ItemList.len.Given as goal

abbrev pub invariant-loop-part : goal.invariant-loop-part
invariant-loop-part l = (length l.self < 2 ^ 64 → l.count + length (flat_map (λ part. part.items) (drop l.part-index l.part-items)) ≡ length l.self)

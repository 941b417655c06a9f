use Rattle.std.proofs.Common.{◌≡◌, ◌++◌, drop}
use Rattle.sch_asm.specs.ItemParts.{items_in_parts}
use Rattle.sch_asm.specs.Items.{AreItems}
use Rattle.sch_asm.specs.Pieces.{skeleton}
use Rattle.sch_asm.proofs.layout.append_all.Given as goal

abbrev pub invariant-loop-part : goal.invariant-loop-part
invariant-loop-part l = record {
  pieces : l.pieces.items ++ skeleton (items_in_parts (drop l.part-index l.earlier) l.last) ≡ l.fn.pieces.items ++ skeleton l.items;
  sound : AreItems (items_in_parts (drop l.part-index l.earlier) l.last);
}

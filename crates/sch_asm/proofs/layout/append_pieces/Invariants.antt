use Rattle.std.proofs.Common.{◌≡◌, ◌+◌, ◌≤◌, ◌++◌, drop, length, vec_len, vec_capacity}
use Rattle.sch_asm.specs.Items.{AreItems}
use Rattle.sch_asm.specs.Pieces.{skeleton}
use Rattle.sch_asm.proofs.layout.append_pieces.Given as goal

abbrev pub invariant-loop-item : goal.invariant-loop-item
invariant-loop-item l = record {
  pieces : l.pieces.items ++ skeleton (drop l.item-index l.items) ≡ l.fn.pieces.items ++ skeleton l.items;
  sound : AreItems (drop l.item-index l.items);
  room : vec_len l.pieces + length (drop l.item-index l.items) ≤ vec_capacity l.pieces;
}

use Rattle.std.proofs.Common.{◌≡◌, ◌+◌, ◌^◌, ◌<◌, ◌++◌, length, drop}
use Rattle.std.specs.Prelude.{slice_index}
use Rattle.sch_jumps.specs.Spans.{set_of}
use Rattle.sch_asm.specs.ItemParts.{items_in_parts}
use Rattle.sch_asm.specs.Items.{AreItems}
use Rattle.sch_asm.specs.Layout.{ReachFrom, UseBelow, emitted_from, jumps_in, marked_from, size_from}
use Rattle.sch_asm.proofs.resolving.emit_all.Given as goal

abbrev pub invariant-loop-part : goal.invariant-loop-part
invariant-loop-part l = record {
  code : l.code ++ emitted_from (slice_index l.layout.places.items) (set_of l.layout.longs.items) l.spot.jumps l.spot.at (items_in_parts (drop l.part-index l.earlier) l.last) ≡ l.fn.code ++ emitted_from (slice_index l.layout.places.items) (set_of l.layout.longs.items) l.fn.from.jumps l.fn.from.at l.items;
  marks : l.marks ++ marked_from (set_of l.layout.longs.items) l.spot.jumps l.spot.at (items_in_parts (drop l.part-index l.earlier) l.last) ≡ l.fn.marks ++ marked_from (set_of l.layout.longs.items) l.fn.from.jumps l.fn.from.at l.items;
  end : l.spot.at + size_from (set_of l.layout.longs.items) l.spot.jumps (items_in_parts (drop l.part-index l.earlier) l.last) ≡ l.fn.from.at + size_from (set_of l.layout.longs.items) l.fn.from.jumps l.items;
  count : l.spot.jumps + jumps_in (items_in_parts (drop l.part-index l.earlier) l.last) ≡ l.fn.from.jumps + jumps_in l.items;
  few : l.spot.jumps + length (items_in_parts (drop l.part-index l.earlier) l.last) < 2 ^ 63;
  sound : AreItems (items_in_parts (drop l.part-index l.earlier) l.last);
  reach : ReachFrom (slice_index l.layout.places.items) (set_of l.layout.longs.items) l.spot.jumps l.spot.at (items_in_parts (drop l.part-index l.earlier) l.last);
  uses : UseBelow (length l.layout.places.items) (items_in_parts (drop l.part-index l.earlier) l.last);
}

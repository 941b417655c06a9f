use Rattle.std.proofs.Common.{◌≡◌, ◌+◌, ◌^◌, ◌<◌, ◌++◌, length, drop}
use Rattle.std.specs.Prelude.{slice_index}
use Rattle.sch_jumps.specs.Spans.{set_of}
use Rattle.sch_asm.specs.Items.{AreItems}
use Rattle.sch_asm.specs.Layout.{ReachFrom, UseBelow, emitted_from, jumps_in, marked_from, size_from}
use Rattle.sch_asm.proofs.resolving.emit.Given as goal

abbrev pub invariant-loop-item : goal.invariant-loop-item
invariant-loop-item l = record {
  code : l.code ++ emitted_from (slice_index l.layout.places.items) (set_of l.layout.longs.items) l.spot.jumps l.spot.at (drop l.item-index l.items) ≡ l.fn.code ++ emitted_from (slice_index l.layout.places.items) (set_of l.layout.longs.items) l.fn.from.jumps l.fn.from.at l.items;
  marks : l.marks ++ marked_from (set_of l.layout.longs.items) l.spot.jumps l.spot.at (drop l.item-index l.items) ≡ l.fn.marks ++ marked_from (set_of l.layout.longs.items) l.fn.from.jumps l.fn.from.at l.items;
  end : l.spot.at + size_from (set_of l.layout.longs.items) l.spot.jumps (drop l.item-index l.items) ≡ l.fn.from.at + size_from (set_of l.layout.longs.items) l.fn.from.jumps l.items;
  count : l.spot.jumps + jumps_in (drop l.item-index l.items) ≡ l.fn.from.jumps + jumps_in l.items;
  few : l.spot.jumps + length (drop l.item-index l.items) < 2 ^ 63;
  sound : AreItems (drop l.item-index l.items);
  reach : ReachFrom (slice_index l.layout.places.items) (set_of l.layout.longs.items) l.spot.jumps l.spot.at (drop l.item-index l.items);
  uses : UseBelow (length l.layout.places.items) (drop l.item-index l.items);
}

use Rattle.std.proofs.Common.{◌++◌, ap, ◌∙◌, append_assoc, drop, subst, sym, ◌+◌}
use Rattle.sch_asm.specs.ItemParts.{items_in_parts}
use Rattle.sch_asm.specs.Items.{AreItems}
use Rattle.sch_asm.specs.Pieces.{skeleton}
use Rattle.sch_asm.proofs.ItemParts.{next_part}
use Rattle.sch_asm.proofs.Skeleton.{skeleton_append}
use Rattle.sch_asm.proofs.Tables.{sound_back, sound_front}
use Rattle.sch_asm.proofs.layout.append_all.Goals as goal

pub append_pieces-requires : goal.append_pieces-requires
append_pieces-requires c =
    let earlier = c.parts.result.0.now in
    let last = c.parts.result.1.now in
    let i = c.loop-part.part-index in
    let items = c.as_slice.result.now in
    let split = next_part earlier last i c.part-item.result items c.loop-part-test.true c.part-item.is c.as_slice.ensures.value in
    record { sound = sound_front items (items_in_parts (drop (i + 1) earlier) last) (subst AreItems split c.loop-part.invariant.sound) }

pub loop-part-preserved : goal.loop-part-preserved
loop-part-preserved c =
    let earlier = c.parts.result.0.now in
    let last = c.parts.result.1.now in
    let i = c.loop-part.part-index in
    let items = c.as_slice.result.now in
    let rest = items_in_parts (drop (i + 1) earlier) last in
    let split = next_part earlier last i c.part-item.result items c.loop-part-test.true c.part-item.is c.as_slice.ensures.value in
    let before = c.loop-part.pieces.items in
    record {
      pieces = ap (λ l. l ++ skeleton rest) c.in_ok-append_pieces.ensures ∙ append_assoc before (skeleton items) (skeleton rest) ∙ ap (λ l. before ++ l) (sym (skeleton_append items rest))
          ∙ ap (λ l. before ++ skeleton l) (sym split) ∙ c.loop-part.invariant.pieces;
      sound = sound_back items rest (subst AreItems split c.loop-part.invariant.sound);
    }

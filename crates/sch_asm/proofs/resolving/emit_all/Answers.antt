use Rattle.std.proofs.Common.{◌+◌, length, drop, subst, arith, ap, ◌∙◌}
use Rattle.std.specs.Prelude.{slice_index}
use Rattle.sch_jumps.specs.Spans.{set_of}
use Rattle.sch_asm.specs.ItemParts.{items_in_parts}
use Rattle.sch_asm.specs.Items.{AreItems}
use Rattle.sch_asm.specs.Layout.{ReachFrom, UseBelow, size_from}
use Rattle.sch_asm.proofs.Emitted.{reach_front, size_append}
use Rattle.sch_asm.proofs.ItemParts.{code_behind, count_behind, end_behind, few_behind, marks_behind, next_part, reach_behind}
use Rattle.sch_asm.proofs.Tables.{sound_back, sound_front, use_back, use_front}
use Rattle.sch_asm.proofs.resolving.emit_all.Goals as goal

pub emit-requires-clause-sound : goal.emit-requires-clause-sound
emit-requires-clause-sound c =
    let earlier = c.parts.result.0.now in
    let last = c.parts.result.1.now in
    let i = c.loop-part.part-index in
    let items = c.as_slice.result.now in
    let split = next_part earlier last i c.part-item.result items c.loop-part-test.true c.part-item.is c.as_slice.ensures.value in
    sound_front items (items_in_parts (drop (i + 1) earlier) last) (subst AreItems split c.loop-part.invariant.sound)

pub emit-requires-clause-uses : goal.emit-requires-clause-uses
emit-requires-clause-uses c =
    let earlier = c.parts.result.0.now in
    let last = c.parts.result.1.now in
    let i = c.loop-part.part-index in
    let items = c.as_slice.result.now in
    let n = length c.args.layout.now.places.items in
    let split = next_part earlier last i c.part-item.result items c.loop-part-test.true c.part-item.is c.as_slice.ensures.value in
    use_front items (items_in_parts (drop (i + 1) earlier) last) n (subst (UseBelow n) split c.loop-part.invariant.uses)

pub emit-requires-clause-short : goal.emit-requires-clause-short
emit-requires-clause-short c =
    let earlier = c.parts.result.0.now in
    let last = c.parts.result.1.now in
    let i = c.loop-part.part-index in
    let items = c.as_slice.result.now in
    let long = set_of c.args.layout.now.longs.items in
    let split = next_part earlier last i c.part-item.result items c.loop-part-test.true c.part-item.is c.as_slice.ensures.value in
    let both = ap (size_from long c.loop-part.spot.jumps) split ∙ size_append long items (items_in_parts (drop (i + 1) earlier) last) c.loop-part.spot.jumps in
    omega (arith, both, c.loop-part.invariant.end, c.requires.short)

pub emit-requires-clause-reach : goal.emit-requires-clause-reach
emit-requires-clause-reach c =
    let earlier = c.parts.result.0.now in
    let last = c.parts.result.1.now in
    let i = c.loop-part.part-index in
    let items = c.as_slice.result.now in
    let place = slice_index c.args.layout.now.places.items in
    let long = set_of c.args.layout.now.longs.items in
    let spot = c.loop-part.spot in
    let split = next_part earlier last i c.part-item.result items c.loop-part-test.true c.part-item.is c.as_slice.ensures.value in
    reach_front place long items (items_in_parts (drop (i + 1) earlier) last) spot.jumps spot.at (subst (ReachFrom place long spot.jumps spot.at) split c.loop-part.invariant.reach)

pub loop-part-preserved : goal.loop-part-preserved
loop-part-preserved c =
    let earlier = c.parts.result.0.now in
    let last = c.parts.result.1.now in
    let i = c.loop-part.part-index in
    let items = c.as_slice.result.now in
    let rest = items_in_parts (drop (i + 1) earlier) last in
    let all = items_in_parts (drop i earlier) last in
    let place = slice_index c.args.layout.now.places.items in
    let long = set_of c.args.layout.now.longs.items in
    let n = length c.args.layout.now.places.items in
    let from = c.loop-part.spot in
    let to = c.in_ok-spot.spot in
    let done = c.in_ok-spot.ensures in
    let known = c.loop-part.invariant in
    let split = next_part earlier last i c.part-item.result items c.loop-part-test.true c.part-item.is c.as_slice.ensures.value in
    record {
      code = code_behind place long items rest all split from.jumps from.at to.jumps to.at done.jumps done.end c.loop-part.code c.emit.new.code _ done.code known.code;
      marks = marks_behind place long items rest all split from.jumps from.at to.jumps to.at done.jumps done.end c.loop-part.marks c.emit.new.marks _ done.marks known.marks;
      end = end_behind place long items rest all split from.jumps from.at to.jumps to.at done.jumps done.end _ known.end;
      count = count_behind place long items rest all split from.jumps from.at to.jumps to.at done.jumps done.end _ known.count;
      few = few_behind place long items rest all split from.jumps from.at to.jumps to.at done.jumps done.end _ known.few;
      sound = sound_back items rest (subst AreItems split known.sound);
      reach = reach_behind place long items rest all split from.jumps from.at to.jumps to.at done.jumps done.end known.reach;
      uses = use_back items rest n (subst (UseBelow n) split known.uses);
    }

use Rattle.std.proofs.Common.{◌≤◌, ◌+◌, ◌*◌, ◌∙◌, ap, arith, length, subst, sym}
use Rattle.std.proofs.lemmas.Bool.{and_parts}
use Rattle.sch_word.specs.trees.Shape.{max_operands}
use Rattle.sch_control.specs.Work as control_work
use Rattle.sch_frames.specs.Covered.{code_begins, is_covered_code}
use Rattle.sch_frames.specs.Does.{FrameOf}
use Rattle.sch_frames.specs.Sizes.{code_work, copies_of}
use Rattle.sch_frames.specs.Standing.{code_marks_stand}
use Rattle.sch_frames.specs.Valid.{forward, placed, shaped}
use Rattle.sch_homes.specs.View.{bare_code, entry_of, tree_of}
use Rattle.sch_homes.proofs.BodyLimits.{body_few, homes_low, places_few}
use Rattle.sch_homes.proofs.FewKept.{homes_fit}
use Rattle.sch_homes.proofs.FrameRoom.{formals_few}
use Rattle.sch_homes.proofs.FrameValid.{homes_framed}
use Rattle.sch_homes.proofs.KeptByType.{body_ends, body_placed}
use Rattle.sch_homes.proofs.WholeFrame.{whole_frame}
use Rattle.sch_homes.proofs.frame_body.frame.Goals as goal

pub invariant_of-places : goal.invariant_of-places
invariant_of-places g c =
    let p = c.args.b.now in
    let few = places_few p in
    let many = ap length c.as_slice.ensures in
    let low = homes_low p in
    let end = c.in_ok-room.ensures.end in
    record { few = omega (arith, few, many); low = omega (arith, low, end) }

pub write_body-requires-clause-formals : goal.write_body-requires-clause-formals
write_body-requires-clause-formals g c = let p = c.args.b.now in formals_few (bare_code p) (tree_of p) p.places (body_placed p)

pub write_body-requires-clause-few : goal.write_body-requires-clause-few
write_body-requires-clause-few g c = body_few c.args.b.now

pub write_body-requires-clause-labels : goal.write_body-requires-clause-labels
write_body-requires-clause-labels g c = c.requires.labels

pub invariant_of-result : goal.invariant_of-result
invariant_of-result g c =
    let p = c.args.b.now in
    let room = c.in_ok-room.ensures in
    let made = whole_frame (entry_of p) (tree_of p) p.places _ _ _ _ _ _ c.as_slice.ensures room.end room.words room.homes c.in_ok-out.ensures.instructions c.in_ok-out.ensures.labels in
    let framed = homes_framed (bare_code p) (tree_of p) p.places (body_placed p) (body_ends p) c.requires.soon in
    let parts = and_parts _ _ framed.valid in
    let more = and_parts _ _ parts.1 in
    record {
      placed = ap (λ f. placed f.entry f.words f.instructions) made ∙ parts.0;
      forward = ap (λ f. forward f.labels f.instructions) made ∙ more.0;
      shaped = ap (λ f. shaped f.entry f.instructions) made ∙ more.1;
    }

pub returns-clause-made : goal.returns-clause-made
returns-clause-made g c =
    let p = c.args.b.now in
    let room = c.in_ok-room.ensures in
    whole_frame (entry_of p) (tree_of p) p.places _ _ _ _ _ _ c.as_slice.ensures room.end room.words room.homes c.in_ok-out.ensures.instructions c.in_ok-out.ensures.labels

pub returns-clause-same : goal.returns-clause-same
returns-clause-same g c =
    let p = c.args.b.now in
    subst (FrameOf (bare_code p)) (sym (returns-clause-made g c)) (homes_framed (bare_code p) (tree_of p) p.places (body_placed p) (body_ends p) c.requires.soon).does

pub returns-clause-begins : goal.returns-clause-begins
returns-clause-begins g c =
    let p = c.args.b.now in
    ap code_begins (returns-clause-made g c) ∙ (homes_framed (bare_code p) (tree_of p) p.places (body_placed p) (body_ends p) c.requires.soon).begins

pub returns-clause-stand : goal.returns-clause-stand
returns-clause-stand g c =
    let p = c.args.b.now in
    ap code_marks_stand (returns-clause-made g c) ∙ (homes_framed (bare_code p) (tree_of p) p.places (body_placed p) (body_ends p) c.requires.soon).stand

pub returns-clause-covered : goal.returns-clause-covered
returns-clause-covered g c covered =
    let p = c.args.b.now in
    ap is_covered_code (returns-clause-made g c) ∙ (homes_framed (bare_code p) (tree_of p) p.places (body_placed p) (body_ends p) c.requires.soon).covered covered

pub returns-clause-words : goal.returns-clause-words
returns-clause-words g c dense =
    let p = c.args.b.now in
    subst (λ words. words ≤ max_operands + p.restored.now.body.now.variables) (sym c.in_ok-room.ensures.words)
    ((homes_framed (bare_code p) (tree_of p) p.places (body_placed p) (body_ends p) c.requires.soon).dense_words dense)

pub returns-clause-fits : goal.returns-clause-fits
returns-clause-fits g c few =
    let p = c.args.b.now in
    subst (λ f. 64 * code_work f + 8 * copies_of f.instructions ≤ 72 * control_work.code_work (bare_code p)) (sym (returns-clause-made g c))
    (homes_fit (bare_code p) (tree_of p) p.places (body_placed p) few)

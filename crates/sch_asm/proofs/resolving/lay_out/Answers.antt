-- The table that is filled is that of the items.
use Rattle.std.proofs.Common.{◌≡◌, ℕ, ◌<◌, ◌++◌, List, length, Bool, sym, ap, ◌∙◌, subst, arith}
use Rattle.std.specs.Prelude.{slice_index}
use Rattle.sch_word.specs.runs.ProgramLayout.{text_address}
use Rattle.sch_jumps.specs.declared.piece.Piece.{Piece}
use Rattle.sch_jumps.specs.Sizes.{ArePieces, jump_count}
use Rattle.sch_jumps.specs.Least.{AllReach, IsLeast}
use Rattle.sch_jumps.specs.Places.{Once, Own}
use Rattle.sch_jumps.specs.Spans.{LabelsBelow, set_of}
use Rattle.sch_asm.specs.declared.assembly.Word.{Word}
use Rattle.sch_asm.specs.declared.item.Item.{Item}
use Rattle.sch_asm.specs.Items.{AreKnown, AreOwn, AreRoutines, IsEachOnce, labels_in}
use Rattle.sch_asm.specs.Layout.{IsLaidOut}
use Rattle.sch_asm.specs.Pieces.{skeleton}
use Rattle.sch_asm.proofs.Skeleton.{skeleton_append, sound_pieces}
use Rattle.sch_asm.proofs.Tables.{once_in_both, own_high, routines_low, stand_back, stand_below, stand_front, use_append, uses_known}
use Rattle.sch_asm.proofs.resolving.lay_out.Goals as goal

laid_out : (xs ys : List Item) (ws rs : List Word) (places : List ℕ) (longs : List Bool) (z : ℕ) → AreOwn xs → AreRoutines ys rs z → IsEachOnce (labels_in xs) → IsEachOnce (labels_in ys) → AreKnown xs ws → AreKnown ys rs
    → IsLeast (skeleton (xs ++ ys)) (set_of longs)
    → length longs ≡ jump_count (skeleton (xs ++ ys))
    → LabelsBelow (length places) (skeleton (xs ++ ys))
    → (Once (skeleton (xs ++ ys)) → Own (set_of longs) (slice_index places) 0 text_address (skeleton (xs ++ ys)))
    → AllReach (set_of longs) (slice_index places) 0 text_address (skeleton (xs ++ ys))
    → IsLaidOut (xs ++ ys) ws places longs
laid_out xs ys ws rs places longs z own routines once once' known known' least each below owned reach =
    let n = length places in
    let stand = stand_below (xs ++ ys) n below in
    let a = stand_front xs ys n stand in
    let b = stand_back xs ys n stand in
    let u = uses_known xs ys ws n routines.complete a b known in
    let v = uses_known ys ys rs n routines.complete b b known' in
    record {
      least = least;
      each = each;
      standing = owned (once_in_both xs ys once once' (own_high xs own) (routines_low ys routines.others));
      reach = reach;
      uses = use_append xs ys n u.0 v.0;
      words_use = u.1;
    }

the_pieces : (xs ys : List Item) (made given : List Piece) → made ≡ skeleton xs ++ skeleton ys → given ≡ made → given ≡ skeleton (xs ++ ys)
the_pieces xs ys made given h i = i ∙ h ∙ sym (skeleton_append xs ys)

pub choose-requires-clause-sound : goal.choose-requires-clause-sound
choose-requires-clause-sound c =
    let e = the_pieces c.args.a.now.items c.args.routines.now.items c.in_ok-pieces.pieces.items c.deref.result.now c.in_ok-pieces.ensures c.deref.ensures.value in
    subst ArePieces (sym e) (sound_pieces (c.args.a.now.items ++ c.args.routines.now.items))

pub returns-clause-places : goal.returns-clause-places
returns-clause-places c =
    let xs = c.args.a.now.items in
    let ys = c.args.routines.now.items in
    let ps = c.deref.result.now in
    let e : ps ≡ skeleton (xs ++ ys) = the_pieces xs ys c.in_ok-pieces.pieces.items ps c.in_ok-pieces.ensures c.deref.ensures.value in
    let f = c.in_ok-forms.forms in
    let h = c.in_ok-forms.ensures in
    let low : f.end < 1073741824 = omega (arith, c.if-bytes-gt-MAX_TEXT_SIZE.false, h.end) in
    laid_out xs ys c.args.a.now.words c.args.routines.now.words f.places.items f.longs.items c.args.routines.now.zeros c.requires.own c.requires.routines c.args.a.now.once c.args.routines.now.once c.args.a.now.known c.args.routines.now.known
    (subst (λ q. IsLeast q (set_of f.longs.items)) e h.least)
    (h.each ∙ ap jump_count e)
    (subst (λ q. LabelsBelow (length f.places.items) q) e h.known)
    (subst (λ q. Once q → Own (set_of f.longs.items) (slice_index f.places.items) 0 text_address q) e (h.own low))
    (subst (λ q. AllReach (set_of f.longs.items) (slice_index f.places.items) 0 text_address q) e (h.reach low))

use Rattle.std.proofs.Common.{◌≡◌, ℕ, ◌+◌, ◌<◌, List, length, refl, sym, ap, ◌∙◌, arith, subst, slice_index, zero, suc}
use Rattle.std.specs.Prelude.{replicate}
use Rattle.std.proofs.Math.ListN.{length-replicate}
use Rattle.sch_jumps.specs.declared.piece.Piece.{Piece}
use Rattle.sch_jumps.specs.Sizes.{Set, ArePieces, end_from, placed_from, place_from, targets}
use Rattle.sch_jumps.specs.Least.{IsLeast, AllReach, text_size}
use Rattle.sch_jumps.specs.Places.{Once, Own}
use Rattle.sch_jumps.specs.Spans.{LabelsBelow, label_bound, set_of}
use Rattle.sch_jumps.proofs.Lists.{labels_below, target_below}
use Rattle.sch_jumps.proofs.Text.{the_size}
use Rattle.sch_jumps.proofs.Reaching.{all_reach, end_moved, placed_at}
use Rattle.sch_jumps.proofs.Owning.{own_by, placed_small, placed_count}
use Rattle.sch_jumps.proofs.choice.choose.Goals as goal

in_table : (ps : List Piece) (n from : ℕ) (t : List ℕ) → n ≡ label_bound 0 ps → t ≡ replicate n from → length t ≡ label_bound 0 ps
in_table ps n from t e f = ap length f ∙ length-replicate n from ∙ e

the_end : (ps : List Piece) (s : Set) (from end : ℕ) → ArePieces ps → IsLeast ps s → end ≡ end_from s 0 from ps → end ≡ from + text_size ps
the_end ps s from end sound h e =
    let z : from ≡ from + 0 = omega arith in
    e ∙ ap (λ a. end_from s 0 a ps) z ∙ end_moved ps s 0 0 from ∙ ap (λ n. from + n) (the_size ps s sound h)

all_same : (n v l : ℕ) → l < n → slice_index (replicate n v) l ≡ v
all_same zero v l lt = absurd (omega arith)
all_same (suc n) v zero lt = refl
all_same (suc n) v (suc l) lt = all_same n v l (omega arith)

they_reach : (ps : List Piece) (s : Set) (from n : ℕ) (t u : List ℕ) → IsLeast ps s → n ≡ label_bound 0 ps → t ≡ replicate n from → u ≡ placed_from s 0 from ps t → AllReach s (slice_index u) 0 from ps
they_reach ps s from n t u h e f g =
    let z : from + 0 ≡ from = omega arith in
    let k = in_table ps n from t e f in
    subst (λ a. AllReach s (slice_index u) 0 a ps) z
    (all_reach ps s from (slice_index u) h.suffices (λ i lt.
    let l = slice_index (targets ps) i in
    let d : l < length t = subst (λ m. l < m) (sym k) (target_below ps (label_bound 0 ps) i (labels_below ps) lt) in
    let d' : l < n = subst (λ m. l < m) (sym e) (target_below ps (label_bound 0 ps) i (labels_below ps) lt) in
    let v : slice_index t l ≡ from = ap (λ x. slice_index x l) f ∙ all_same n from l d' in
    ap (λ x. slice_index x l) g ∙ placed_at ps s 0 from t l d ∙ ap (λ a. place_from s a 0 from ps l) (v ∙ sym z) ∙ ap (λ a. place_from s (from + 0) 0 a ps l) (sym z)))

pub place_labels-end-requires-clause-below : goal.place_labels-end-requires-clause-below
place_labels-end-requires-clause-below c = subst (λ n. LabelsBelow n c.args.pieces.now) (sym (in_table c.args.pieces.now c.label_bound-bound.result c.args.from c.in_ok-places.places.items c.label_bound-bound.ensures c.in_ok-places.ensures)) (labels_below c.args.pieces.now)

pub returns-clause-end : goal.returns-clause-end
returns-clause-end c =
    let ps = c.args.pieces.now in
    let s = c.in_ok-longs.longs.items in
    the_end ps (set_of s) c.args.from c.place_labels-end.result c.requires.sound c.in_ok-longs.ensures.least (c.place_labels-end.ensures.end ∙ ap (λ l. end_from (set_of l) 0 c.args.from ps) c.deref.ensures.value)

pub returns-clause-reach : goal.returns-clause-reach
returns-clause-reach c = λ lt.
    let ps = c.args.pieces.now in
    let s = c.in_ok-longs.longs.items in
    they_reach ps (set_of s) c.args.from c.label_bound-bound.result c.in_ok-places.places.items c.place_labels-end.new.places.items c.in_ok-longs.ensures.least c.label_bound-bound.ensures c.in_ok-places.ensures
    (c.place_labels-end.ensures.places lt ∙ ap (λ l. placed_from (set_of l) 0 c.args.from ps c.in_ok-places.places.items) c.deref.ensures.value)

they_own : (ps : List Piece) (s : Set) (from n : ℕ) (t u : List ℕ) → n ≡ label_bound 0 ps → t ≡ replicate n from → u ≡ placed_from s 0 from ps t → Once ps → Own s (slice_index u) 0 from ps
they_own ps s from n t u e f g once =
    let k = in_table ps n from t e f in
    subst (λ v. Own s (slice_index v) 0 from ps) (sym g) (own_by ps s from t once (subst (λ m. LabelsBelow m ps) (sym k) (labels_below ps)))

pub returns-clause-own : goal.returns-clause-own
returns-clause-own c = λ lt. λ once.
    let ps = c.args.pieces.now in
    let s = c.in_ok-longs.longs.items in
    they_own ps (set_of s) c.args.from c.label_bound-bound.result c.in_ok-places.places.items c.place_labels-end.new.places.items c.label_bound-bound.ensures c.in_ok-places.ensures
    (c.place_labels-end.ensures.places lt ∙ ap (λ l. placed_from (set_of l) 0 c.args.from ps c.in_ok-places.places.items) c.deref.ensures.value) once

pub returns-clause-known : goal.returns-clause-known
returns-clause-known c =
    let ps = c.args.pieces.now in
    let k = in_table ps c.label_bound-bound.result c.args.from c.in_ok-places.places.items c.label_bound-bound.ensures c.in_ok-places.ensures in
    subst (λ n. LabelsBelow n ps) (sym (c.place_labels-end.ensures.size ∙ k)) (labels_below ps)

they_are_low : (ps : List Piece) (s : Set) (from n : ℕ) (t u : List ℕ) → t ≡ replicate n from → u ≡ placed_from s 0 from ps t → from < 1073741824 → end_from s 0 from ps < 1073741824 → (l : ℕ) → l < length u → slice_index u l < 1073741824
they_are_low ps s from n t u f g low lt l within =
    let many : length t ≡ n = ap length f ∙ length-replicate n from in
    let same : length u ≡ length t = ap length g ∙ placed_count ps s 0 from t in
    let each : (i : ℕ) → i < length t → slice_index t i < 1073741824 = λ i within. subst (λ a. a < 1073741824) (sym (ap (λ x. slice_index x i) f ∙ all_same n from i (subst (λ m. i < m) many within))) low in
    subst (λ v. slice_index v l < 1073741824) (sym g) (placed_small ps s from 1073741824 t each lt l (subst (λ m. l < m) same within))

pub returns-clause-low : goal.returns-clause-low
returns-clause-low c = λ lt. λ l. λ within.
    let ps = c.args.pieces.now in
    let s = c.in_ok-longs.longs.items in
    let e : c.place_labels-end.result ≡ end_from (set_of s) 0 c.args.from ps = c.place_labels-end.ensures.end ∙ ap (λ l. end_from (set_of l) 0 c.args.from ps) c.deref.ensures.value in
    they_are_low ps (set_of s) c.args.from c.label_bound-bound.result c.in_ok-places.places.items c.place_labels-end.new.places.items c.in_ok-places.ensures
    (c.place_labels-end.ensures.places lt ∙ ap (λ l. placed_from (set_of l) 0 c.args.from ps c.in_ok-places.places.items) c.deref.ensures.value)
    c.requires.few (subst (λ a. a < 1073741824) e lt) l within

-- What each kind of sketch stands for.
use Rattle.std.proofs.Common.{◌≡◌, ℕ, List, ap, sym, ◌∙◌}
use Rattle.std.specs.Borrow.{Bor}
use Rattle.std.specs.declared.alloc.Global.{Global}
use Rattle.std.specs.declared.boxed.Box.{Box}
use Rattle.sch_read.specs.declared.datum.Datum.{Datum}
use Rattle.sch_read.specs.Views.{tree_of, data_of}
use Rattle.sch_sketch.specs.declared.sketch.Row.{Row}
use Rattle.sch_sketch.specs.declared.sketch.Kind.{Kind}
use Rattle.sch_sketch.specs.declared.sketch.Leaf.{Leaf}
use Rattle.sch_sketch.specs.declared.sketch.Wrong as code_wrong
use Rattle.sch_sketch.specs.declared.sketch.Sketch.{fold-roll-Sketch}
use Rattle.sch_sketch.specs.declared.sketch.Sketch as code
use Rattle.sch_sketch.specs.declared.sketch.Sketch.TheOpen.{Sketch-F}
use Rattle.sch_sketch.specs.declared.sketch.Sketch.TheVariants.{Text, rolls-Text, Rest, rolls-Rest, Wrong, rolls-Wrong, Leaf as LeafOf, rolls-Leaf, Node, rolls-Node, Limited, rolls-Limited}
use Rattle.sch_sketch.specs.Sketch as plain
use Rattle.sch_sketch.specs.SketchView.{sketch_view, sketch_of, sketches_of, leaf_of, fault_of, kind_of}

pub text_view : {k : code.Sketch} (d : Bor Datum) → k ≡ Text d → sketch_of k ≡ plain.text (tree_of d.now)
text_view d e = ap sketch_of (e ∙ sym (rolls-Text d)) ∙ fold-roll-Sketch plain.Sketch sketch_view (Sketch-F.Text d)

pub rest_view : {k : code.Sketch} (r : Row) (at : ℕ) (xs ys : Bor (List Datum)) → k ≡ Rest r at xs ys → sketch_of k ≡ plain.rest r at (data_of xs.now) (data_of ys.now)
rest_view r at xs ys e = ap sketch_of (e ∙ sym (rolls-Rest r at xs ys)) ∙ fold-roll-Sketch plain.Sketch sketch_view (Sketch-F.Rest r at xs ys)

pub wrong_view : {k : code.Sketch} (w : code_wrong.Wrong) → k ≡ Wrong w → sketch_of k ≡ plain.wrong (fault_of w)
wrong_view w e = ap sketch_of (e ∙ sym (rolls-Wrong w)) ∙ fold-roll-Sketch plain.Sketch sketch_view (Sketch-F.Wrong w)

pub leaf_view : {k : code.Sketch} (at : ℕ) (l : Leaf) → k ≡ LeafOf at l → sketch_of k ≡ plain.leaf at (leaf_of l)
leaf_view at l e = ap sketch_of (e ∙ sym (rolls-Leaf at l)) ∙ fold-roll-Sketch plain.Sketch sketch_view (Sketch-F.Leaf at l)

pub node_view : {k : code.Sketch} (kind : Kind) (at : ℕ) (ks : List code.Sketch) → k ≡ Node kind at ks → sketch_of k ≡ plain.node (kind_of kind) at (sketches_of ks)
node_view kind at ks e = ap sketch_of (e ∙ sym (rolls-Node kind at ks)) ∙ fold-roll-Sketch plain.Sketch sketch_view (Sketch-F.Node kind at ks)

pub limited_view : {k : code.Sketch} (at count : ℕ) (b : Box code.Sketch Global) → k ≡ Limited at count b → sketch_of k ≡ plain.limited at count (sketch_of b.value)
limited_view at count b e = ap sketch_of (e ∙ sym (rolls-Limited at count b)) ∙ fold-roll-Sketch plain.Sketch sketch_view (Sketch-F.Limited at count b)

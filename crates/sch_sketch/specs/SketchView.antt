-- What the values of the code stand for, in plain words.
use Rattle.std.specs.Prelude.{List, [], ◌∷◌, map}
use Rattle.sch_read.specs.Views.{tree_of, data_of}
use Rattle.sch_names.specs.ScopeView.{given_names}
use Rattle.sch_sketch.specs.declared.fault.Fault.{Fault}
use Rattle.sch_sketch.specs.declared.fault.Fault.TheVariants as faults
use Rattle.sch_sketch.specs.declared.sketch.Leaf.{Leaf}
use Rattle.sch_sketch.specs.declared.sketch.Leaf.TheVariants as a
use Rattle.sch_sketch.specs.declared.sketch.Wrong.{Wrong}
use Rattle.sch_sketch.specs.declared.sketch.Wrong.TheVariants as w
use Rattle.sch_sketch.specs.declared.sketch.Kind as code
use Rattle.sch_sketch.specs.declared.sketch.Kind.TheVariants as of
use Rattle.sch_sketch.specs.declared.sketch.Sketch.{Sketch, fold-Sketch}
use Rattle.sch_sketch.specs.declared.sketch.Sketch.TheOpen.{Sketch-F}
use Rattle.sch_sketch.specs.Sketch as plain
use Rattle.sch_sketch.specs.Sketch.{Sketches, sketches, and_sketch, choosing, sequencing, binding, recurring, abstracting, calling, operating, setting, setting_global, defining}
use Rattle.sch_sketch.specs.Sketch.{text, rest, wrong, leaf, node, limited}
use Rattle.sch_sketch.specs.Draft.{Draft, constant, symbol, literal, local, global}

abbrev pub leaf_of : Leaf → Draft
leaf_of (a.Constant c) = constant c
leaf_of (a.Symbol x) = symbol x.now
leaf_of (a.Literal d) = literal (tree_of d.now)
leaf_of (a.Local k) = local k
leaf_of (a.Global x) = global x.now

abbrev pub fault_of : Wrong → Fault
fault_of (w.KeywordDefined at) = faults.KeywordDefined at
fault_of (w.BadForm at) = faults.BadForm at
fault_of (w.Unbound at x) = faults.Unbound at x.now

abbrev pub kind_of : code.Kind → plain.Kind
kind_of of.If = choosing
kind_of of.Seq = sequencing
kind_of (of.Let vs) = binding (given_names vs)
kind_of (of.Letrec vs p) = recurring (given_names vs) p
kind_of (of.Lambda vs r) = abstracting (given_names vs) r
kind_of (of.Call vs) = calling (given_names vs)
kind_of (of.Prim p) = operating p
kind_of (of.SetLocal k) = setting k
kind_of (of.SetGlobal x) = setting_global x.now
kind_of (of.Define x) = defining x.now

-- one level
abbrev pub sketch_view : Sketch-F plain.Sketch → plain.Sketch
sketch_view (Sketch-F.Text d) = text (tree_of d.now)
sketch_view (Sketch-F.Rest r at xs ys) = rest r at (data_of xs.now) (data_of ys.now)
sketch_view (Sketch-F.Wrong f) = wrong (fault_of f)
sketch_view (Sketch-F.Leaf at e) = leaf at (leaf_of e)
sketch_view (Sketch-F.Node k at ks) = node (kind_of k) at (sketches ks)
sketch_view (Sketch-F.Limited at n k) = limited at n k.value

-- a sketch as plain data, and a list of them
abbrev pub sketch_of : Sketch → plain.Sketch
sketch_of = fold-Sketch plain.Sketch sketch_view

abbrev pub sketches_of : List Sketch → Sketches
sketches_of ks = sketches (map sketch_of ks)

-- sketches that are made, and then others
abbrev pub ahead : List Sketch → Sketches → Sketches
ahead [] more = more
ahead (k ∷ ks) more = and_sketch (sketch_of k) (ahead ks more)

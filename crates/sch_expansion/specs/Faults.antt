-- The faults of texts. Inside a form that is bad or too deep, nothing more is looked at.
use Rattle.std.specs.Prelude.{◌≡◌, ℕ, ◌+◌, Bool, true, false, nat_le}
use Rattle.sch_word.specs.trees.Shape.{max_levels, max_operands}
use Rattle.sch_read.specs.Grammar.{Datum, Data}
use Rattle.sch_names.specs.Scope.{Scope, Globals}
use Rattle.sch_sketch.specs.declared.fault.Fault.{Fault}
use Rattle.sch_sketch.specs.declared.fault.Fault.TheVariants.{Operands, Core}
use Rattle.sch_sketch.specs.declared.sketch.Position.{Position}
use Rattle.sch_sketch.specs.declared.sketch.Row.{Row}
use Rattle.sch_sketch.specs.Draft.{Draft}
use Rattle.sch_expansion.specs.Outline.{outline_datum, outline}
use Rattle.sch_sketch.specs.Sketch.{Kind, Sketch, Sketches, text, rest, wrong, leaf, node, limited, and_sketch, how_many_parts, is_end, scope_in, position_in, width}
use Rattle.sch_expansion.specs.Expands.{IsLevel}

module _ (globals : Globals) where
  mutual
    pub data HasFault : (level : ℕ) → Scope → Position → Sketch → Fault → Type 0 where
      in_datum : (n : ℕ) (s : Scope) (t : Position) (d : Datum) (f : Fault) →
          HasFault n s t (outline_datum globals s d) f → HasFault n s t (text d) f
      in_rest : (n : ℕ) (s : Scope) (t : Position) (r : Row) (at : ℕ) (xs ys : Data) (f : Fault) →
          HasFault n s t (outline globals s t r at xs ys) f → HasFault n s t (rest r at xs ys) f
      is_wrong : (n : ℕ) (s : Scope) (t : Position) (f : Fault) → HasFault n s t (wrong f) f
      leaf_deep : (n : ℕ) (s : Scope) (t : Position) (at : ℕ) (e : Draft) → nat_le n max_levels ≡ false →
          HasFault n s t (leaf at e) (Core at)
      node_deep : (n : ℕ) (s : Scope) (t : Position) (k : Kind) (at : ℕ) (ks : Sketches) → nat_le n max_levels ≡ false →
          HasFault n s t (node k at ks) (Core at)
      node_wide : (n : ℕ) (s : Scope) (t : Position) (k : Kind) (at : ℕ) (ks : Sketches) →
          nat_le (width k (how_many_parts ks)) max_operands ≡ false → HasFault n s t (node k at ks) (Operands at)
      in_node : (n : ℕ) (s : Scope) (t : Position) (k : Kind) (at : ℕ) (ks : Sketches) (f : Fault) → IsLevel n →
          PartHasFault k true (n + 1) s t ks f → HasFault n s t (node k at ks) f
      too_many : (n : ℕ) (s : Scope) (t : Position) (at count : ℕ) (k : Sketch) → nat_le count max_operands ≡ false →
          HasFault n s t (limited at count k) (Operands at)
      in_limited : (n : ℕ) (s : Scope) (t : Position) (at count : ℕ) (k : Sketch) (f : Fault) →
          HasFault n s t k f → HasFault n s t (limited at count k) f

    pub data PartHasFault : Kind → (first : Bool) → (level : ℕ) → Scope → Position → Sketches → Fault → Type 0 where
      here : (k : Kind) (first : Bool) (n : ℕ) (s : Scope) (t : Position) (p : Sketch) (ps : Sketches) (f : Fault) →
          HasFault n (scope_in k first (is_end ps) s) (position_in k first (is_end ps) t) p f → PartHasFault k first n s t (and_sketch p ps) f
      there : (k : Kind) (first : Bool) (n : ℕ) (s : Scope) (t : Position) (p : Sketch) (ps : Sketches) (f : Fault) →
          PartHasFault k false n s t ps f → PartHasFault k first n s t (and_sketch p ps) f

-- The walk over a sketch in the order of the text: the least fault before it and after it, and the draft
-- that is built. Where a fault was found, the draft says nothing.
use Rattle.std.specs.Prelude.{◌≡◌, ℕ, ◌+◌, Bool, true, false, cond, List, [], ◌∷◌, Option, nat_le}
use Rattle.sch_word.specs.trees.Shape.{max_levels, max_operands}
use Rattle.sch_read.specs.Grammar.{Datum, Data}
use Rattle.sch_names.specs.Scope.{Scope, Globals}
use Rattle.sch_sketch.specs.declared.fault.Fault.{Fault}
use Rattle.sch_sketch.specs.declared.fault.Fault.TheVariants.{Operands, Core}
use Rattle.sch_sketch.specs.declared.sketch.Position.{Position}
use Rattle.sch_sketch.specs.declared.sketch.Row.{Row}
use Rattle.sch_sketch.specs.Draft.{Draft, Drafts, no_drafts, and_draft}
use Rattle.sch_expansion.specs.Outline.{outline_datum, outline}
use Rattle.sch_sketch.specs.Sketch.{Kind, Sketch, Sketches, text, rest, wrong, leaf, node, limited, no_sketch, and_sketch, how_many_parts, is_end, scope_in, position_in, width, assemble, nothing}
use Rattle.sch_expansion.specs.FaultOrder.{reported, all_reported}
use Rattle.sch_expansion.specs.Expands.{IsLevel}

-- too deep, too many
abbrev pub level_faults : (level at : ℕ) → List Fault
level_faults n at = cond (nat_le n max_levels) [] (Core at ∷ [])

abbrev pub operand_faults : (at count : ℕ) → List Fault
operand_faults at n = cond (nat_le n max_operands) [] (Operands at ∷ [])

module _ (globals : Globals) where
  mutual
    pub data Reads : (level : ℕ) → Scope → Position → Sketch → (before after : Option Fault) → Draft → Type 0 where
      reads_datum : (n : ℕ) (s : Scope) (t : Position) (d : Datum) (a b : Option Fault) (e : Draft) →
          Reads n s t (outline_datum globals s d) a b e → Reads n s t (text d) a b e
      reads_rest : (n : ℕ) (s : Scope) (t : Position) (r : Row) (at : ℕ) (xs ys : Data) (a b : Option Fault) (e : Draft) →
          Reads n s t (outline globals s t r at xs ys) a b e → Reads n s t (rest r at xs ys) a b e
      reads_wrong : (n : ℕ) (s : Scope) (t : Position) (f : Fault) (a : Option Fault) → Reads n s t (wrong f) a (reported f a) nothing
      reads_leaf : (n : ℕ) (s : Scope) (t : Position) (at : ℕ) (e : Draft) (a : Option Fault) →
          Reads n s t (leaf at e) a (all_reported (level_faults n at) a) e
      reads_limited : (n : ℕ) (s : Scope) (t : Position) (at count : ℕ) (k : Sketch) (a b : Option Fault) (e : Draft) →
          Reads n s t k (all_reported (operand_faults at count) a) b e → Reads n s t (limited at count k) a b e
      reads_deep : (n : ℕ) (s : Scope) (t : Position) (k : Kind) (at : ℕ) (ks : Sketches) (a : Option Fault) →
          nat_le n max_levels ≡ false →
          Reads n s t (node k at ks) a (reported (Core at) (all_reported (operand_faults at (width k (how_many_parts ks))) a)) nothing
      reads_node : (n : ℕ) (s : Scope) (t : Position) (k : Kind) (at : ℕ) (ks : Sketches) (a b : Option Fault) (es : Drafts) → IsLevel n →
          PartsRead k true (n + 1) s t ks (all_reported (operand_faults at (width k (how_many_parts ks))) a) b es →
          Reads n s t (node k at ks) a b (assemble k es)

    -- the parts of a node; whether they begin with its first
    pub data PartsRead : Kind → (first : Bool) → (level : ℕ) → Scope → Position → Sketches → (before after : Option Fault) → Drafts → Type 0 where
      reads_none : (k : Kind) (first : Bool) (n : ℕ) (s : Scope) (t : Position) (a : Option Fault) →
          PartsRead k first n s t no_sketch a a no_drafts
      reads_part : (k : Kind) (first : Bool) (n : ℕ) (s : Scope) (t : Position) (p : Sketch) (ps : Sketches) (a m b : Option Fault) (e : Draft) (es : Drafts) →
          Reads n (scope_in k first (is_end ps) s) (position_in k first (is_end ps) t) p a m e → PartsRead k false n s t ps m b es →
          PartsRead k first n s t (and_sketch p ps) a b (and_draft e es)

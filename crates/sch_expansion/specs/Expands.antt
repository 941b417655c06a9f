-- Which core expression stands for a text (R5RS 4 and 7.3): a relation with a rule for each kind of
-- sketch. It relates a sketch at a level of nesting, in a scope and in a position, to a draft. The table of
-- forms says which sketch stands for a datum. Levels are those of the expressions, the outermost is at
-- level 1, and none may lie deeper than the limit.
use Rattle.std.specs.Prelude.{◌≡◌, ℕ, ◌+◌, Bool, true, false, nat_le}
use Rattle.sch_word.specs.trees.Shape.{max_levels, max_operands}
use Rattle.sch_read.specs.Grammar.{Datum, Data}
use Rattle.sch_names.specs.Scope.{Scope, Globals}
use Rattle.sch_sketch.specs.declared.sketch.Position.{Position}
use Rattle.sch_sketch.specs.declared.sketch.Row.{Row}
use Rattle.sch_sketch.specs.Draft.{Draft, Drafts, no_drafts, and_draft}
use Rattle.sch_expansion.specs.Outline.{outline_datum, outline}
use Rattle.sch_sketch.specs.Sketch.{Kind, Sketch, Sketches, text, rest, leaf, node, limited, no_sketch, and_sketch, how_many_parts, is_end, scope_in, position_in, width, assemble}

-- a level within the limit, and as many operands or bindings as a form may have
abbrev pub IsLevel : ℕ → Type 0
IsLevel n = nat_le n max_levels ≡ true

abbrev pub AreFew : ℕ → Type 0
AreFew n = nat_le n max_operands ≡ true

module _ (globals : Globals) where
  mutual
    pub data Expands : (level : ℕ) → Scope → Position → Sketch → Draft → Type 0 where
      a_datum : (n : ℕ) (s : Scope) (t : Position) (d : Datum) (e : Draft) →
          Expands n s t (outline_datum globals s d) e → Expands n s t (text d) e
      a_rest : (n : ℕ) (s : Scope) (t : Position) (r : Row) (at : ℕ) (xs ys : Data) (e : Draft) →
          Expands n s t (outline globals s t r at xs ys) e → Expands n s t (rest r at xs ys) e
      a_leaf : (n : ℕ) (s : Scope) (t : Position) (at : ℕ) (e : Draft) → IsLevel n → Expands n s t (leaf at e) e
      a_node : (n : ℕ) (s : Scope) (t : Position) (k : Kind) (at : ℕ) (ks : Sketches) (es : Drafts) → IsLevel n →
          AreFew (width k (how_many_parts ks)) → PartsExpand k true (n + 1) s t ks es → Expands n s t (node k at ks) (assemble k es)
      within : (n : ℕ) (s : Scope) (t : Position) (at count : ℕ) (k : Sketch) (e : Draft) → AreFew count →
          Expands n s t k e → Expands n s t (limited at count k) e

    -- the parts of a node; whether they begin with its first
    pub data PartsExpand : Kind → (first : Bool) → (level : ℕ) → Scope → Position → Sketches → Drafts → Type 0 where
      no_part : (k : Kind) (first : Bool) (n : ℕ) (s : Scope) (t : Position) → PartsExpand k first n s t no_sketch no_drafts
      and_part : (k : Kind) (first : Bool) (n : ℕ) (s : Scope) (t : Position) (p : Sketch) (ps : Sketches) (e : Draft) (es : Drafts) →
          Expands n (scope_in k first (is_end ps) s) (position_in k first (is_end ps) t) p e → PartsExpand k false n s t ps es →
          PartsExpand k first n s t (and_sketch p ps) (and_draft e es)

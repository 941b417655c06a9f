-- Sketches whose nodes have as many parts as they must, whose variables are bound, and whose procedures
-- are such.
use Rattle.std.specs.Prelude.{◌≡◌, ◌≤◌, ◌<◌, ℕ, suc, Bool, true, false, ◌&&◌, length}
use Rattle.sch_word.specs.values.Literals.{constant_known}
use Rattle.sch_word.specs.values.Primitives.{operands_of}
use Rattle.sch_read.specs.Grammar.{Data}
use Rattle.sch_read.specs.Parts.{how_many}
use Rattle.sch_names.specs.declared.keyword.Keyword.TheVariants.{Lambda}
use Rattle.sch_names.specs.Scope.{Scope, onto}
use Rattle.sch_sketch.specs.declared.sketch.Row.{Row}
use Rattle.sch_sketch.specs.declared.sketch.Row.TheVariants.{Form, Method, Cases, Tests, Chain, Join}
use Rattle.sch_sketch.specs.Draft.{Draft, constant, symbol, literal, local, global}
use Rattle.sch_sketch.specs.Sketch.{Kind, choosing, sequencing, binding, recurring, abstracting, calling, operating, setting, setting_global, defining, Sketch, Sketches, text}
use Rattle.sch_sketch.specs.Sketch.{rest, wrong, leaf, node, limited, no_sketch, and_sketch, how_many_parts, is_end, scope_in}
use Rattle.sch_sketch.specs.FreeWords.{is_lambda}

-- an expression without parts: no constant names a symbol, and a variable is bound
abbrev pub IsAtom : Draft → (bound : ℕ) → Type 0
IsAtom (constant c) n = constant_known 0 c ≡ true
IsAtom (symbol x) n = Unit {0}
IsAtom (literal d) n = Unit {0}
IsAtom (local k) n = k < n
IsAtom (global x) n = Unit {0}
IsAtom _ n = ⊥

abbrev pub HasParts : Kind → ℕ → Type 0
HasParts choosing n = n ≡ 3
HasParts sequencing n = 1 ≤ n
HasParts (binding vs) n = n ≡ suc (length vs)
HasParts (recurring vs procedures) n = n ≡ suc (length vs)
HasParts (abstracting vs more) n = n ≡ 1
HasParts (calling vs) n = 1 ≤ n
HasParts (operating p) n = n ≡ operands_of p
HasParts (setting k) n = n ≡ 1
HasParts (setting_global x) n = 1 ≤ n
HasParts (defining x) n = n ≡ 1

-- ## Procedures by their forms

abbrev pub is_procedure_row : Row → Bool
is_procedure_row (Form Lambda) = true
is_procedure_row Method = true
is_procedure_row _ = false

abbrev pub is_abstracting : Kind → Bool
is_abstracting (abstracting vs more) = true
is_abstracting _ = false

-- a sketch has no draft but that of a procedure
abbrev pub is_procedure : Scope → Sketch → Bool
is_procedure s (text d) = is_lambda s d
is_procedure s (rest r at xs ys) = is_procedure_row r
is_procedure s (wrong f) = true
is_procedure s (leaf at e) = false
is_procedure s (node k at ks) = is_abstracting k
is_procedure s (limited at count k) = false

abbrev pub are_procedures : Scope → Sketches → Bool
are_procedures s no_sketch = true
are_procedures s (and_sketch k ks) = is_procedure s k && are_procedures s ks

-- all parts but the last
abbrev pub but_last : Sketches → Sketches
but_last no_sketch = no_sketch
but_last (and_sketch k no_sketch) = no_sketch
but_last (and_sketch k (and_sketch p ps)) = and_sketch k (but_last (and_sketch p ps))

-- what a kind relies on: the variable that is set is bound, a rest has its variable, and the inits of a
-- group of procedures are such
abbrev pub IsSoundKind : Kind → Scope → Sketches → Type 0
IsSoundKind (setting k) s ks = k < length s
IsSoundKind (abstracting vs true) s ks = 1 ≤ length vs
IsSoundKind (recurring vs true) s ks = are_procedures (onto vs s) (but_last ks) ≡ true
IsSoundKind _ s ks = Unit {0}

-- ## Sound sketches

-- the operands that are joined or compared are the nearest variables, and so is the key of a `case`
abbrev pub IsSoundRest : Row → Data → Scope → Type 0
IsSoundRest Cases xs s = 0 < length s
IsSoundRest Tests xs s = 0 < length s
IsSoundRest (Chain p) xs s = (operands_of p ≡ 2) × (how_many xs ≤ length s)
IsSoundRest (Join p k far) xs s = (operands_of p ≡ 2) × (far < length s)
IsSoundRest _ xs s = Unit {0}

abbrev mutual
  pub IsSound : Scope → Sketch → Type 0
  IsSound s (text d) = Unit {0}
  IsSound s (rest r at xs ys) = IsSoundRest r xs s
  IsSound s (wrong f) = Unit {0}
  IsSound s (leaf at e) = IsAtom e (length s)
  IsSound s (node k at ks) = HasParts k (how_many_parts ks) × (IsSoundKind k s ks × AreSound k true s ks)
  IsSound s (limited at count k) = IsSound s k

  pub AreSound : Kind → (first : Bool) → Scope → Sketches → Type 0
  AreSound k first s no_sketch = Unit {0}
  AreSound k first s (and_sketch p ps) = IsSound (scope_in k first (is_end ps) s) p × AreSound k false s ps

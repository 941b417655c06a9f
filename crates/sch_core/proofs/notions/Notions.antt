-- What may stand in a text, and what in the drafts that stand for it: sketches and drafts that fit such a notion.
use Rattle.std.proofs.Common.{◌≡◌, ℕ, ℤ, Bool, true, List}
use Rattle.sch_word.specs.declared.constant.Const.{Const}
use Rattle.sch_word.specs.declared.constant.Const.TheVariants.{Fixnum, Character, Boolean, Nil, Unspecified}
use Rattle.sch_word.specs.declared.primitive.Primitive.{Primitive}
use Rattle.sch_read.specs.Grammar.{Datum, Data, atom, list, none, cons, integer, character, symbol as symbol_atom}
use Rattle.sch_names.specs.Operations.{unit_of}
use Rattle.sch_names.specs.Scope.{Globals, is_among}
use Rattle.sch_sketch.specs.Draft.{Draft, constant, symbol, literal, global}
use Rattle.sch_sketch.specs.Sketch.{setting_global, defining, Sketch, Sketches, text, rest, wrong, leaf, node, limited, no_sketch, and_sketch}

-- which data may stand in a text, and which globals, constants and symbols in a draft
pub record Notion : Type 1 where
  pub Good : Datum → Type 0
  pub Global : List ℕ → Type 0
  pub Constant : Const → Type 0
  pub Symbol : List ℕ → Type 0

abbrev pub AllGood : Notion → Data → Type 0
AllGood n none = Unit {0}
AllGood n (cons x xs) = n.Good x × AllGood n xs

-- a notion that the rows of the table keep, where these are the globals
pub record IsKept (globals : Globals) (n : Notion) : Type 0 where
  pub parts : (at : ℕ) (xs : Data) → n.Good (list at xs) → AllGood n xs
  pub truth : (b : Bool) → n.Constant (Boolean b)
  pub integer_is : (at : ℕ) (z : ℤ) → n.Good (atom at (integer z)) → n.Constant (Fixnum z)
  pub character_is : (at k : ℕ) → n.Good (atom at (character k)) → n.Constant (Character k)
  pub symbol_is : (at : ℕ) (x : List ℕ) → n.Good (atom at (symbol_atom x)) → n.Symbol x
  pub empty : n.Constant Nil
  pub nothing : n.Constant Unspecified
  pub unit : (p : Primitive) → n.Constant (Fixnum (unit_of p))
  pub space : n.Constant (Character 32)
  pub bound : (x : List ℕ) → is_among x globals.bound ≡ true → n.Global x

-- ## Sketches

abbrev pub IsFitLeaf : Notion → Draft → Type 0
IsFitLeaf n (constant k) = n.Constant k
IsFitLeaf n (symbol x) = n.Symbol x
IsFitLeaf n (literal d) = n.Good d
IsFitLeaf n (global x) = n.Global x
IsFitLeaf n _ = Unit {0}

-- a global that is set is one that may stand in a draft, or it is wrong
abbrev pub IsSet : Notion → List ℕ → Sketches → Type 0
IsSet n x (and_sketch (wrong f) ks) = Unit {0}
IsSet n x _ = n.Global x

abbrev mutual
  pub IsFit : Notion → Sketch → Type 0
  IsFit n (text d) = n.Good d
  IsFit n (rest r at xs ys) = AllGood n xs × AllGood n ys
  IsFit n (wrong f) = Unit {0}
  IsFit n (leaf at e) = IsFitLeaf n e
  IsFit n (node (setting_global x) at ks) = IsSet n x ks × AreFit n ks
  IsFit n (node (defining x) at ks) = n.Global x × AreFit n ks
  IsFit n (node k at ks) = AreFit n ks
  IsFit n (limited at count k) = IsFit n k

  pub AreFit : Notion → Sketches → Type 0
  AreFit n no_sketch = Unit {0}
  AreFit n (and_sketch k ks) = IsFit n k × AreFit n ks

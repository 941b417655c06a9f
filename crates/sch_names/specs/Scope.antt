-- What a name means where it stands.
use Rattle.std.specs.Prelude.{ℕ, zero, suc, Bool, true, false, cond, List, [], ◌∷◌, Option, Some, None}
use Rattle.std.specs.Str.{bytes_eq}
pub use Rattle.sch_word.specs.trees.Bindings.{pushed as onto}
use Rattle.sch_names.specs.declared.keyword.Keyword.{Keyword}
use Rattle.sch_names.specs.declared.operation.Operation.{Operation}
use Rattle.sch_names.specs.Words.{keyword_of}
use Rattle.sch_names.specs.Operations.{operation_of}

-- The names of variables. One that a rewriting adds has none, so no name of the text means it.
abbrev pub VariableNames : Type 0
VariableNames = List (Option (List ℕ))

-- the variables that are bound, the nearest first: a list of bindings
abbrev pub Scope : Type 0
Scope = VariableNames

abbrev pub is_named : List ℕ → Option (List ℕ) → Bool
is_named x None = false
is_named x (Some y) = bytes_eq x y

abbrev pub farther : Option ℕ → Option ℕ
farther None = None
farther (Some k) = Some (suc k)

-- how many variables are bound nearer than the nearest one of this name
abbrev pub find : Scope → List ℕ → Option ℕ
find [] x = None
find (v ∷ s) x = cond (is_named x v) (Some zero) (farther (find s x))

abbrev pub is_among : List ℕ → List (List ℕ) → Bool
is_among x [] = false
is_among x (y ∷ ys) = cond (bytes_eq x y) true (is_among x ys)

-- What the name at the head of a combination makes of it: a form of the keyword, an operation, or a
-- call of a procedure.
pub data Head : Type 0 where
  form : Keyword → Head
  operating : Operation → Head
  calling : Head

abbrev pub free_head : (own : Bool) → Option Keyword → Option Operation → Head
free_head own (Some k) o = form k
free_head false None (Some o) = operating o
free_head _ None _ = calling

abbrev pub head : Option ℕ → (own : Bool) → Option Keyword → Option Operation → Head
head (Some k) own w o = calling
head None own w o = free_head own w o

-- The global variables of a text: the names that there are, those among them and beside them that the
-- text defines or assigns, and whether the text is that of a library, where the names that begin with %
-- are those of operations.
pub record Globals : Type 0 where
  pub bound : List (List ℕ)
  pub own : List (List ℕ)
  pub internal : Bool

-- A name means no operation where the text defines or assigns it anywhere as a global one. A local variable shadows
-- a keyword and an operation.
abbrev pub head_of : Globals → Scope → List ℕ → ℕ → Head
head_of globals s x n = head (find s x) (is_among x globals.own) (keyword_of x) (operation_of globals.internal x n)

-- Definitions (R5RS 5.2): which parts of a body are some, and which variables they bind.
use Rattle.std.specs.Prelude.{ℕ, Bool, true, false, cond, ◌&&◌, List, [], ◌∷◌, ◌++◌, Option, Some, None}
use Rattle.sch_read.specs.Grammar.{Datum, Data, atom, list, none, cons, symbol}
use Rattle.sch_names.specs.declared.keyword.Keyword.{Keyword}
use Rattle.sch_names.specs.declared.keyword.Keyword.TheVariants.{Define, Begin}
use Rattle.sch_names.specs.Words.{keyword_of}
use Rattle.sch_names.specs.Scope.{Scope, find, VariableNames}
use Rattle.sch_sketch.specs.declared.fault.Fault.TheVariants.{BadForm}
use Rattle.sch_sketch.specs.declared.sketch.Row.TheVariants.{Method}
use Rattle.sch_sketch.specs.Sketch.{Sketch, Sketches, text, rest, wrong, and_sketch}
use Rattle.sch_sketch.specs.Formals.{listed, tail_of, are_formals}

abbrev pub defining : Option ℕ → Option Keyword → (parts : Bool) → Bool
defining None (Some Define) parts = true
defining None (Some Begin) parts = parts
defining _ _ parts = false

-- A use of `define`, well shaped or not, and a use of `begin` whose parts are all definitions. Whether
-- the words are shadowed is told by the scope outside the body's own definitions.
abbrev mutual
  pub is_definition : Scope → Datum → Bool
  is_definition s (list at (cons (atom q (symbol x)) xs)) = defining (find s x) (keyword_of x) (are_definitions s xs)
  is_definition s _ = false

  pub are_definitions : Scope → Data → Bool
  are_definitions s none = true
  are_definitions s (cons d ds) = is_definition s d && are_definitions s ds

-- ## One definition, by what follows the word

-- the name of a procedure, and its formals
abbrev pub defined_procedure : Data → Option Datum → Option (List ℕ)
defined_procedure (cons (atom q (symbol v)) fs) f = cond (are_formals fs f) (Some v) None
defined_procedure _ f = None

-- The name that is defined: `(define v e)`, and `(define (v . F) e ..)`. A badly shaped definition has
-- none.
abbrev pub defined_name : Data → Option (List ℕ)
defined_name (cons (atom p (symbol v)) (cons e none)) = Some v
defined_name (cons h (cons e es)) = defined_procedure (listed h) (tail_of h)
defined_name _ = None

-- what it is defined as
abbrev pub defined_sketch : ℕ → Data → Sketch
defined_sketch at (cons (atom p (symbol v)) (cons e none)) = text e
defined_sketch at (cons (atom p a) es) = wrong (BadForm at)
defined_sketch at (cons h es) = rest Method at (cons h es) none
defined_sketch at none = wrong (BadForm at)

-- ## The definitions in a datum that is one

abbrev pub is_define_word : Option Keyword → Bool
is_define_word (Some Define) = true
is_define_word _ = false

abbrev mutual
  pub names_in : Datum → VariableNames
  names_in (list at (cons (atom q (symbol w)) xs)) = cond (is_define_word (keyword_of w)) (defined_name xs ∷ []) (names_of_each xs)
  names_in _ = []

  pub names_of_each : Data → VariableNames
  names_of_each none = []
  names_of_each (cons d ds) = names_in d ++ names_of_each ds

abbrev mutual
  pub inits_in : Datum → Sketches → Sketches
  inits_in (list at (cons (atom q (symbol w)) xs)) ks = cond (is_define_word (keyword_of w)) (and_sketch (defined_sketch at xs) ks) (inits_of_each xs ks)
  inits_in _ ks = ks

  pub inits_of_each : Data → Sketches → Sketches
  inits_of_each none ks = ks
  inits_of_each (cons d ds) ks = inits_in d (inits_of_each ds ks)

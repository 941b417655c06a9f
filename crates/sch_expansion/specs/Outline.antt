-- The table of forms (R5RS 4, 5.2.2 and 7.3): which sketch stands for a datum, and for the rest of a form.
use Rattle.std.specs.Prelude.{ℕ, Bool, true, false, List, [], Option, Some, None}
use Rattle.sch_read.specs.Grammar.{Datum, Data, atom, list, dotted, vector, none, cons, symbol}
use Rattle.sch_read.specs.Parts.{how_many}
use Rattle.sch_names.specs.declared.keyword.Keyword.{Keyword}
use Rattle.sch_names.specs.declared.keyword.Keyword.TheVariants.{Quote, Lambda, If, Set, Cond, Case, And, Or, Let, LetStar, Letrec, Begin, Do}
use Rattle.sch_names.specs.Words.{keyword_of}
use Rattle.sch_names.specs.Scope.{Scope, Globals, find, is_among, Head, form, operating, calling as calling_head, head_of}
use Rattle.sch_sketch.specs.declared.fault.Fault.TheVariants.{BadForm, Unbound}
use Rattle.sch_sketch.specs.declared.sketch.Position.{Position}
use Rattle.sch_sketch.specs.declared.sketch.Row.{Row}
use Rattle.sch_sketch.specs.declared.sketch.Row.TheVariants.{Form, Body, Method, Nest, Clauses, Cases, Tests, Chain, Join}
use Rattle.sch_sketch.specs.Draft.{local, global}
use Rattle.sch_sketch.specs.Sketch.{Sketch, text, rest, wrong, leaf, node, no_sketch, and_sketch, calling}
use Rattle.sch_sketch.specs.Small.{texts, quoted}
use Rattle.sch_form_choices.specs.Choices.{row_quote, row_begin, row_if, row_and, row_or, row_cond, row_clauses}
use Rattle.sch_form_choices.specs.Cases.{row_case, row_cases, row_tests}
use Rattle.sch_form_choices.specs.Combinations.{combination, row_chain, row_join}
use Rattle.sch_form_bodies.specs.Bodies.{row_body, row_lambda, row_method}
use Rattle.sch_form_bindings.specs.Binders.{row_let, row_let_star, row_letrec, row_nest}
use Rattle.sch_form_bindings.specs.Loops.{row_do}
use Rattle.sch_form_bodies.specs.Assignments.{row_set}

module _ (globals : Globals) where
  -- The other keywords have no form here: a definition stands at the head of a body or at top level, and
  -- `else` and `=>` in a clause.
  abbrev pub row_form : Keyword → Scope → Position → ℕ → Data → Sketch
  row_form Quote s t at xs = row_quote at xs
  row_form If s t at xs = row_if at xs
  row_form Begin s t at xs = row_begin at xs
  row_form And s t at xs = row_and at xs
  row_form Or s t at xs = row_or t at xs
  row_form Cond s t at xs = row_cond s at xs
  row_form Case s t at xs = row_case s at xs
  row_form Let s t at xs = row_let s at xs
  row_form LetStar s t at xs = row_let_star s at xs
  row_form Letrec s t at xs = row_letrec s at xs
  row_form Lambda s t at xs = row_lambda s at xs
  row_form Do s t at xs = row_do at xs
  row_form Set s t at xs = row_set globals s at xs
  row_form _ s t at xs = wrong (BadForm at)

  abbrev pub outline : Scope → Position → Row → ℕ → Data → Data → Sketch
  outline s t (Form k) at xs ys = row_form k s t at xs
  outline s t Body at xs ys = row_body s at xs
  outline s t Method at xs ys = row_method s at xs
  outline s t (Nest outer) at xs ys = row_nest outer at xs ys
  outline s t Clauses at xs ys = row_clauses s t at xs
  outline s t Cases at xs ys = row_cases at xs
  outline s t Tests at xs ys = row_tests at xs
  outline s t (Chain p) at xs ys = row_chain p at xs
  outline s t (Join p k j) at xs ys = row_join p k j at

-- ## Data

-- a variable: it may be no keyword, and must be bound
abbrev pub outline_name : Option ℕ → Option Keyword → (global : Bool) → ℕ → List ℕ → Sketch
outline_name (Some k) w g at x = leaf at (local k)
outline_name None (Some w) g at x = wrong (BadForm at)
outline_name None None true at x = leaf at (global x)
outline_name None None false at x = wrong (Unbound at x)

-- a call, by its operator and its operands; that of `apply` is to be told from the others here
abbrev pub call_of : ℕ → Datum → Data → Sketch
call_of at f xs = node (calling []) at (and_sketch (text f) (texts xs no_sketch))

-- a combination, by its head
abbrev pub outline_head : Head → (at : ℕ) → Datum → Data → Sketch
outline_head (form k) at f xs = rest (Form k) at xs none
outline_head (operating o) at f xs = combination o at xs
outline_head calling_head at f xs = call_of at f xs

module _ (globals : Globals) where
  abbrev pub outline_datum : Scope → Datum → Sketch
  outline_datum s (atom at (symbol x)) = outline_name (find s x) (keyword_of x) (is_among x globals.bound) at x
  outline_datum s (atom at a) = quoted at (atom at a)
  outline_datum s (list at (cons (atom q (symbol x)) xs)) = outline_head (head_of globals s x (how_many xs)) at (atom q (symbol x)) xs
  outline_datum s (list at (cons f xs)) = call_of at f xs
  outline_datum s (list at none) = wrong (BadForm at)
  outline_datum s (dotted at xs x) = wrong (BadForm at)
  outline_datum s (vector at xs) = wrong (BadForm at)

-- Each row of the table makes a sound sketch.
use Rattle.std.proofs.Common.{◌≡◌, ℕ, Bool, true, false, List, [], Option, Some, None, refl, arith}
use Rattle.sch_read.specs.Grammar.{Datum, Data, atom, list, dotted, vector, none, cons, boolean, integer, character, symbol}
use Rattle.sch_read.specs.Grammar as grammar
use Rattle.sch_read.specs.Parts.{how_many}
use Rattle.sch_names.specs.declared.keyword.Keyword.{Keyword}
use Rattle.sch_names.specs.declared.keyword.Keyword.TheVariants.{Quote, Lambda, If, Set, Cond, Case, And, Or, Let, LetStar, Letrec, Begin, Do}
use Rattle.sch_names.specs.Words.{keyword_of}
use Rattle.sch_names.specs.Scope.{Scope, Globals, Head, form, operating, calling as calling_head, find, is_among, head_of}
use Rattle.sch_names.proofs.Counts.{operation_admits}
use Rattle.sch_sketch.specs.declared.sketch.Position.{Position}
use Rattle.sch_sketch.specs.declared.sketch.Row.{Row}
use Rattle.sch_sketch.specs.declared.sketch.Row.TheVariants.{Form, Body, Method, Nest, Clauses, Cases, Tests, Chain, Join}
use Rattle.sch_sketch.specs.Sketch.{no_sketch, calling}
use Rattle.sch_sketch.specs.Soundness.{IsSound, IsSoundRest}
use Rattle.sch_sketch.proofs.SmallSound.{found, quoted_sound, texts_sound}
use Rattle.sch_form_choices.proofs.SoundRows.{combination_sound, chain_sound, join_sound, quote_sound, if_sound, begin_sound, and_sound, or_sound, cond_sound, clauses_sound, case_sound, cases_sound, tests_sound}
use Rattle.sch_form_bodies.proofs.SoundDefinitions.{set_sound}
use Rattle.sch_form_bodies.proofs.SoundBodies.{body_sound, lambda_sound, method_sound}
use Rattle.sch_form_bindings.proofs.SoundBinders.{let_sound, letrec_sound, let_star_sound, nest_sound}
use Rattle.sch_form_bindings.proofs.SoundLoops.{do_sound}
use Rattle.sch_expansion.specs.Outline.{row_form, outline, outline_name, call_of, outline_head, outline_datum}

-- ## Data

name_sound : (s : Scope) (v : Option ℕ) (w : Option Keyword) (g : Bool) (at : ℕ) (x : List ℕ) → find s x ≡ v → IsSound s (outline_name v w g at x)
name_sound s (Some k) w g at x e = found s x k e
name_sound s None (Some w) g at x e = tt
name_sound s None None true at x e = tt
name_sound s None None false at x e = tt

call_sound : (s : Scope) (at : ℕ) (f : Datum) (xs : Data) → IsSound s (call_of at f xs)
call_sound s at f xs = (omega arith, (tt, (tt, texts_sound (calling []) false s xs no_sketch (λ b. tt))))

module _ (globals : Globals) where
  head_sound : (s : Scope) (x : List ℕ) (h : Head) (at q : ℕ) (xs : Data) → head_of globals s x (how_many xs) ≡ h → IsSound s (outline_head h at (atom q (symbol x)) xs)
  head_sound s x (form k) at q xs e = tt
  head_sound s x (operating o) at q xs e = combination_sound s o at xs (operation_admits globals s x (how_many xs) o e)
  head_sound s x calling_head at q xs e = call_sound s at (atom q (symbol x)) xs

  pub datum_sound : (s : Scope) (d : Datum) → IsSound s (outline_datum globals s d)
  datum_sound s (atom at (symbol x)) = name_sound s (find s x) (keyword_of x) (is_among x globals.bound) at x refl
  datum_sound s (atom at (boolean b)) = quoted_sound s at (atom at (boolean b))
  datum_sound s (atom at (integer z)) = quoted_sound s at (atom at (integer z))
  datum_sound s (atom at (character c)) = quoted_sound s at (atom at (character c))
  datum_sound s (atom at (grammar.text bs)) = quoted_sound s at (atom at (grammar.text bs))
  datum_sound s (list at (cons (atom q (symbol x)) xs)) = head_sound s x (head_of globals s x (how_many xs)) at q xs refl
  datum_sound s (list at (cons (atom q (boolean b)) xs)) = call_sound s at (atom q (boolean b)) xs
  datum_sound s (list at (cons (atom q (integer z)) xs)) = call_sound s at (atom q (integer z)) xs
  datum_sound s (list at (cons (atom q (character c)) xs)) = call_sound s at (atom q (character c)) xs
  datum_sound s (list at (cons (atom q (grammar.text bs)) xs)) = call_sound s at (atom q (grammar.text bs)) xs
  datum_sound s (list at (cons (list q ys) xs)) = call_sound s at (list q ys) xs
  datum_sound s (list at (cons (dotted q ys y) xs)) = call_sound s at (dotted q ys y) xs
  datum_sound s (list at (cons (vector q ys) xs)) = call_sound s at (vector q ys) xs
  datum_sound s (list at none) = tt
  datum_sound s (dotted at xs x) = tt
  datum_sound s (vector at xs) = tt

  -- ## Rows

  form_sound : (k : Keyword) (s : Scope) (t : Position) (at : ℕ) (xs : Data) → IsSound s (row_form globals k s t at xs)
  form_sound Quote s t at xs = quote_sound s at xs
  form_sound If s t at xs = if_sound s at xs
  form_sound Begin s t at xs = begin_sound s at xs
  form_sound And s t at xs = and_sound s at xs
  form_sound Or s t at xs = or_sound s t at xs
  form_sound Cond s t at xs = cond_sound s at xs
  form_sound Case s t at xs = case_sound s at xs
  form_sound Let s t at xs = let_sound s at xs
  form_sound LetStar s t at xs = let_star_sound s at xs
  form_sound Letrec s t at xs = letrec_sound s at xs
  form_sound Lambda s t at xs = lambda_sound s at xs
  form_sound Do s t at xs = do_sound s at xs
  form_sound Set s t at xs = set_sound globals s at xs
  form_sound _ s t at xs = tt

  pub rest_sound : (s : Scope) (t : Position) (r : Row) (at : ℕ) (xs ys : Data) → IsSoundRest r xs s → IsSound s (outline globals s t r at xs ys)
  rest_sound s t (Form k) at xs ys h = form_sound k s t at xs
  rest_sound s t Body at xs ys h = body_sound s at xs
  rest_sound s t Method at xs ys h = method_sound s at xs
  rest_sound s t (Nest outer) at xs ys h = nest_sound s outer at xs ys
  rest_sound s t Clauses at xs ys h = clauses_sound s t at xs
  rest_sound s t Cases at xs ys h = cases_sound s at xs h
  rest_sound s t Tests at xs ys h = tests_sound s at xs h
  rest_sound s t (Chain p) at xs ys h = chain_sound s p at xs h.0 h.1
  rest_sound s t (Join p k j) at xs ys h = join_sound s p k j at h.0 h.1

-- The rows of bodies and procedures make sound sketches.
use Rattle.std.proofs.Common.{◌≡◌, ◌&&◌, ◌++◌, ℕ, Bool, true, false, cond, List, [], ◌∷◌, length-append, Option, Some, None, refl, sym, ap, subst, ◌∙◌, arith}
use Rattle.std.specs.Prelude.{is_some}
use Rattle.std.proofs.lemmas.Bool.{and_parts}
use Rattle.sch_read.specs.Grammar.{Datum, Data, atom, list, dotted, vector, none, cons, boolean, integer, character, symbol}
use Rattle.sch_read.specs.Grammar as grammar
use Rattle.sch_names.specs.Words.{keyword_of}
use Rattle.sch_names.specs.Scope.{Scope, onto, VariableNames}
use Rattle.sch_sketch.specs.Sketch.{Sketch, Sketches, no_sketch, and_sketch, how_many_parts, abstracting}
use Rattle.sch_sketch.specs.Soundness.{IsSound, IsSoundKind}
use Rattle.sch_sketch.proofs.SmallSound.{choice, choice_by}
use Rattle.sch_sketch.specs.Formals.{is_rest, symbols, formals, are_formals, listed, tail_of}
use Rattle.sch_sketch.specs.Definitions.{is_definition, is_define_word, defined_name, defined_sketch, names_in, names_of_each, inits_in, inits_of_each}
use Rattle.sch_form_bodies.proofs.SoundDefinitions.{defined_sound}
use Rattle.sch_sketch.specs.BodyHeads.{body_names, body_inits, is_body, body}
use Rattle.sch_form_bodies.specs.Bodies.{row_body, procedure, row_lambda, method, row_method}
use Rattle.sch_sketch.proofs.PartJoins.{join, join_again, count_join, AllSound, all_join}
use Rattle.sch_sketch.proofs.GroupsOfInits.{AreInits, group_sound}

-- ## Definitions

cond_inits : (b : Bool) (v : Option (List ℕ)) (ws : VariableNames) (k : Sketch) (is : Sketches → Sketches) → ((s : Scope) → IsSound s k) → AreInits ws is →
    AreInits (cond b (v ∷ []) ws) (λ ks. cond b (and_sketch k ks) (is ks))
cond_inits true v ws k is h i = record { ahead = λ ks. refl; count = refl; all = (h, tt) }
cond_inits false v ws k is h i = i

no_inits : AreInits [] (λ ks. ks)
no_inits = record { ahead = λ ks. refl; count = refl; all = tt }

more_inits : (vs ws : VariableNames) (is js : Sketches → Sketches) → AreInits vs is → AreInits ws js → AreInits (vs ++ ws) (λ ks. is (js ks))
more_inits vs ws is js i j = record {
  ahead = λ ks.
      let x : is (js ks) ≡ join (is no_sketch) (join (js no_sketch) ks) = i.ahead (js ks) ∙ ap (join (is no_sketch)) (j.ahead ks) in
      let y : join (is (js no_sketch)) ks ≡ join (join (is no_sketch) (js no_sketch)) ks = ap (λ l. join l ks) (i.ahead (js no_sketch)) in
      x ∙ (join_again (is no_sketch) (js no_sketch) ks ∙ sym y);
  count =
      ap how_many_parts (i.ahead (js no_sketch)) ∙ (count_join (is no_sketch) (js no_sketch) ∙ omega (arith, i.count, j.count, length-append vs ws));
  all = subst AllSound (sym (i.ahead (js no_sketch))) (all_join (is no_sketch) (js no_sketch) i.all j.all);
}

mutual
  definition_inits : (d : Datum) → AreInits (names_in d) (inits_in d)
  definition_inits (list at (cons (atom q (symbol w)) xs)) =
      cond_inits (is_define_word (keyword_of w)) (defined_name xs) (names_of_each xs) (defined_sketch at xs) (inits_of_each xs) (λ s. defined_sound s at xs) (definitions_inits xs)
  definition_inits (list at none) = no_inits
  definition_inits (list at (cons (atom q (boolean b)) xs)) = no_inits
  definition_inits (list at (cons (atom q (integer z)) xs)) = no_inits
  definition_inits (list at (cons (atom q (character c)) xs)) = no_inits
  definition_inits (list at (cons (atom q (grammar.text bs)) xs)) = no_inits
  definition_inits (list at (cons (list q ys) xs)) = no_inits
  definition_inits (list at (cons (dotted q ys y) xs)) = no_inits
  definition_inits (list at (cons (vector q ys) xs)) = no_inits
  definition_inits (atom at a) = no_inits
  definition_inits (dotted at xs x) = no_inits
  definition_inits (vector at xs) = no_inits

  definitions_inits : (ds : Data) → AreInits (names_of_each ds) (inits_of_each ds)
  definitions_inits none = no_inits
  definitions_inits (cons d ds) = more_inits (names_in d) (names_of_each ds) (inits_in d) (inits_of_each ds) (definition_inits d) (definitions_inits ds)

head_inits : (b : Bool) (vs : VariableNames) (is : Sketches → Sketches) → AreInits vs is → AreInits (cond b vs []) (λ ks. cond b (is ks) ks)
head_inits true vs is i = i
head_inits false vs is i = no_inits

are_body_inits : (s : Scope) (es : Data) → AreInits (body_names s es) (body_inits s es)
are_body_inits s none = no_inits
are_body_inits s (cons d ds) =
    head_inits (is_definition s d) (names_in d ++ body_names s ds) (λ ks. inits_in d (body_inits s ds ks))
    (more_inits (names_in d) (body_names s ds) (inits_in d) (body_inits s ds) (definition_inits d) (are_body_inits s ds))

pub body_sound : (s : Scope) (at : ℕ) (xs : Data) → IsSound s (row_body s at xs)
body_sound s at none = tt
body_sound s at (cons e es) =
    choice s (is_definition s e) _ _ (group_sound s (body_names s (cons e es)) at (body_inits s (cons e es)) _ (are_body_inits s (cons e es)) (λ s'. tt)) tt

-- ## Procedures

rest_bound : (fs : Data) (f : Option Datum) → is_rest f ≡ true → (b : Bool) → is_some f ≡ b → (at : ℕ) (es : Data) (s : Scope) → IsSoundKind (abstracting (formals fs f) b) s (body at es)
rest_bound fs None h true e at es s = cc
rest_bound fs None h false e at es s = tt
rest_bound fs (Some (atom q (symbol x))) h true e at es s = omega (arith, length-append (symbols fs) (Some x ∷ []))
rest_bound fs (Some (atom q (symbol x))) h false e at es s = cc
rest_bound fs (Some (atom q (boolean b))) h c e at es s = cc
rest_bound fs (Some (atom q (integer z))) h c e at es s = cc
rest_bound fs (Some (atom q (character n))) h c e at es s = cc
rest_bound fs (Some (atom q (grammar.text bs))) h c e at es s = cc
rest_bound fs (Some (list q xs)) h c e at es s = cc
rest_bound fs (Some (dotted q xs x)) h c e at es s = cc
rest_bound fs (Some (vector q xs)) h c e at es s = cc

procedure_sound : (s : Scope) (at : ℕ) (fs : Data) (f : Option Datum) (es : Data) → IsSound s (procedure s at fs f es)
procedure_sound s at fs f es =
    choice_by s (are_formals fs f && is_body (onto (formals fs f) s) es) _ _
    (λ e. (refl, (rest_bound fs f (and_parts _ _ (and_parts _ _ (and_parts _ _ e).0).0).1 (is_some f) refl at es s, (tt, tt)))) tt

pub lambda_sound : (s : Scope) (at : ℕ) (xs : Data) → IsSound s (row_lambda s at xs)
lambda_sound s at none = tt
lambda_sound s at (cons f es) = procedure_sound s at (listed f) (tail_of f) es

method_sound_of : (s : Scope) (at : ℕ) (xs : Data) (f : Option Datum) (es : Data) → IsSound s (method s at xs f es)
method_sound_of s at (cons (atom q (symbol v)) fs) f es = procedure_sound s at fs f es
method_sound_of s at _ f es = tt

pub method_sound : (s : Scope) (at : ℕ) (xs : Data) → IsSound s (row_method s at xs)
method_sound s at none = tt
method_sound s at (cons h es) = method_sound_of s at (listed h) (tail_of h) es

-- Lists of bindings, step by step.
use Rattle.std.proofs.Common.{◌≡◌, ◌<◌, ◌+◌, ℕ, suc, Bool, false, List, [], ◌∷◌, ◌++◌, length, drop, get_or, Option, Some, refl, sym, ap, ◌∙◌, add-one}
use Rattle.std.proofs.lemmas.List.{map-append, append_assoc}
use Rattle.std.specs.Borrow.{Bor}
use Rattle.sch_word.proofs.facts.Lists.{next_left}
use Rattle.sch_read.specs.declared.datum.Datum.{Datum}
use Rattle.sch_read.specs.Grammar.{Data, none, cons, list, atom, symbol}
use Rattle.sch_read.specs.Grammar as grammar
use Rattle.sch_read.specs.Views.{tree_of, data_of}
use Rattle.sch_sketch.specs.declared.sketch.Sketch as code
use Rattle.sch_names.specs.Scope.{VariableNames}
use Rattle.sch_sketch.specs.Sketch.{Sketches}
use Rattle.sch_sketch.specs.Sketch as words
use Rattle.sch_sketch.specs.SketchView.{sketch_of, ahead}
use Rattle.sch_names.specs.ScopeView.{given_names}
use Rattle.sch_form_bindings.specs.Bindings.{IsNoBinding, inits, bound, are_bindings}
use Rattle.sch_sketch.proofs.PartLists.{ahead_more}

abbrev IsBinding : grammar.Datum → List ℕ → grammar.Datum → ℕ → ℕ → Type 0
IsBinding d x i p q = d ≡ list p (cons (atom q (symbol x)) (cons i none))

-- a datum that is no binding ends the list
no_inits : (d : grammar.Datum) (rest : Data) (ks : Sketches) → IsNoBinding d → inits (cons d rest) ks ≡ ks
no_inits (list p (cons (atom q (symbol b)) (cons i none))) rest ks h = absurd h
no_inits _ rest ks h = refl

no_bindings : (d : grammar.Datum) (rest : Data) → IsNoBinding d → are_bindings (cons d rest) ≡ false
no_bindings (list p (cons (atom q (symbol b)) (cons i none))) rest h = absurd h
no_bindings _ rest h = refl

pub inits_next : (items : List Datum) (i : ℕ) (d : Datum) (ks ks' : List code.Sketch) (k : code.Sketch) {x : List ℕ} {init : grammar.Datum} {p q : ℕ} → i < length items → d ≡ get_or items i d →
    IsBinding (tree_of d) x init p q → ks' ≡ ks ++ k ∷ [] → sketch_of k ≡ words.text init →
    (more : Sketches) → ahead ks' (inits (data_of (drop (i + 1) items)) more) ≡ ahead ks (inits (data_of (drop i items)) more)
inits_next items i d ks ks' k l e b p v more = rw (next_left items i d l e, add-one, p, ahead_more, v, b) refl

pub inits_stop : (items : List Datum) (i : ℕ) (d : Datum) (ks : List code.Sketch) → i < length items → d ≡ get_or items i d → IsNoBinding (tree_of d) →
    (more : Sketches) → ahead ks (inits (data_of (drop i items)) more) ≡ ahead ks more
inits_stop items i d ks l e b more = rw (next_left items i d l e) (ap (ahead ks) (no_inits (tree_of d) (data_of (drop (suc i) items)) more b))

-- names so far, and those of the rest
pub bound_next : (items : List Datum) (i : ℕ) (d : Datum) (vs vs' : List (Option (Bor (List ℕ)))) (x : Bor (List ℕ)) (r : VariableNames) {init : grammar.Datum} {p q : ℕ} → i < length items → d ≡ get_or items i d →
    IsBinding (tree_of d) x.now init p q → vs' ≡ vs ++ Some x ∷ [] → given_names vs ++ bound (data_of (drop i items)) ≡ r → given_names vs' ++ bound (data_of (drop (i + 1) items)) ≡ r
bound_next items i d vs vs' x r l e b p k =
    let k' = rw (next_left items i d l e, b) at k in rw (add-one, p, map-append, append_assoc) k'

pub bindings_next : (items : List Datum) (i : ℕ) (d : Datum) (r : Bool) {x : List ℕ} {init : grammar.Datum} {p q : ℕ} → i < length items → d ≡ get_or items i d →
    IsBinding (tree_of d) x init p q → are_bindings (data_of (drop i items)) ≡ r → are_bindings (data_of (drop (i + 1) items)) ≡ r
bindings_next items i d r l e b k = let k' = rw (next_left items i d l e, b) at k in rw add-one k'

pub bindings_stop : (items : List Datum) (i : ℕ) (d : Datum) (r : Bool) → i < length items → d ≡ get_or items i d → IsNoBinding (tree_of d) → are_bindings (data_of (drop i items)) ≡ r → r ≡ false
bindings_stop items i d r l e b k = sym k ∙ rw (next_left items i d l e) (no_bindings (tree_of d) (data_of (drop (suc i) items)) b)

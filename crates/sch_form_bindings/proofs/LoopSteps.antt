-- The variables of a `do`, one after the other.
use Rattle.std.proofs.Common.{◌≡◌, ℕ, Bool, true, false, List, [], ◌∷◌, ◌++◌, Option, Some, refl, sym, ap, ◌∙◌}
use Rattle.std.proofs.lemmas.List.{map-append, append_assoc}
use Rattle.std.specs.Borrow.{Bor}
use Rattle.sch_read.specs.Grammar.{Datum, Data, atom, list, none, cons, symbol}
use Rattle.sch_read.specs.Parts.{how_many}
use Rattle.sch_names.specs.ScopeView.{given_names}
use Rattle.sch_sketch.specs.declared.sketch.Sketch as code
use Rattle.sch_names.specs.Scope.{VariableNames}
use Rattle.sch_sketch.specs.Draft.{local}
use Rattle.sch_sketch.specs.Sketch.{Kind, Sketches, and_sketch, no_sketch, text, leaf, node, calling}
use Rattle.sch_sketch.specs.SketchView.{sketch_of, sketches_of, ahead}
use Rattle.sch_sketch.proofs.PartLists.{ahead_more, made_after}
use Rattle.sch_form_bindings.specs.Loops.{is_step_end, are_steps, stepped, starts, step, steps, again, rounds, are_rounds, do_form}
use Rattle.sch_form_bindings.specs.Loops.{IsNoStart}

abbrev pub IsStart : Datum → List ℕ → Datum → Data → ℕ → ℕ → Type 0
IsStart d x i zs p q = d ≡ list p (cons (atom q (symbol x)) (cons i zs))

joined : {xs bs : Data} {d d' : Datum} → xs ≡ cons d bs → d ≡ d' → xs ≡ cons d' bs
joined {xs} {bs} e h = e ∙ ap (λ v. cons v bs) h

no_start : (d : Datum) (bs : Data) (ks : Sketches) → IsNoStart d → starts (cons d bs) ks ≡ ks
no_start (list p (cons (atom q (symbol x)) (cons i zs))) bs ks h = absurd h
no_start _ bs ks h = refl

no_steps : (at : ℕ) (d : Datum) (bs : Data) (ks : Sketches) → IsNoStart d → steps at (cons d bs) ks ≡ ks
no_steps at (list p (cons (atom q (symbol x)) (cons i zs))) bs ks h = absurd h
no_steps at _ bs ks h = refl

not_steps : (d : Datum) (bs : Data) → IsNoStart d → are_steps (cons d bs) ≡ false
not_steps (list p (cons (atom q (symbol x)) (cons i zs))) bs h = absurd h
not_steps _ bs h = refl

-- ## Inits

pub starts_next : {xs bs zs : Data} {d i : Datum} {x : List ℕ} {p q : ℕ} (ks ks' : List code.Sketch) (k : code.Sketch) → xs ≡ cons d bs → IsStart d x i zs p q → ks' ≡ ks ++ k ∷ [] → sketch_of k ≡ text i →
    (more : Sketches) → ahead ks' (starts bs more) ≡ ahead ks (starts xs more)
starts_next ks ks' k e b p v more = rw (joined e b, p, ahead_more, v) refl

pub starts_stop : {xs bs : Data} {d : Datum} (ks : List code.Sketch) → xs ≡ cons d bs → IsNoStart d → (more : Sketches) → ahead ks more ≡ ahead ks (starts xs more)
starts_stop {xs} {bs} {d} ks e h more = ap (ahead ks) (sym (ap (λ v. starts v more) e ∙ no_start d bs more h))

pub starts_end : {xs : Data} (ks : List code.Sketch) → xs ≡ none → (more : Sketches) → ahead ks more ≡ ahead ks (starts xs more)
starts_end ks e more = rw e refl

-- ## Steps

pub steps_next : (at : ℕ) {xs bs zs : Data} {d i : Datum} {x : List ℕ} {p q n : ℕ} (ks ks' : List code.Sketch) (k : code.Sketch) → xs ≡ cons d bs → IsStart d x i zs p q → ks' ≡ ks ++ k ∷ [] →
    sketch_of k ≡ step at n zs → n ≡ how_many bs → (more : Sketches) → ahead ks' (steps at bs more) ≡ ahead ks (steps at xs more)
steps_next at ks ks' k e b p v n more = rw (joined e b, p, ahead_more, v, n) refl

pub steps_stop : (at : ℕ) {xs bs : Data} {d : Datum} (ks : List code.Sketch) → xs ≡ cons d bs → IsNoStart d → (more : Sketches) → ahead ks more ≡ ahead ks (steps at xs more)
steps_stop at {xs} {bs} {d} ks e h more = ap (ahead ks) (sym (ap (λ v. steps at v more) e ∙ no_steps at d bs more h))

pub steps_end : (at : ℕ) {xs : Data} (ks : List code.Sketch) → xs ≡ none → (more : Sketches) → ahead ks more ≡ ahead ks (steps at xs more)
steps_end at ks e more = rw e refl

-- ## Names

pub stepped_next : {xs bs zs : Data} {d i : Datum} {p q : ℕ} (vs vs' : List (Option (Bor (List ℕ)))) (x : Bor (List ℕ)) (r : VariableNames) → xs ≡ cons d bs → IsStart d x.now i zs p q → vs' ≡ vs ++ Some x ∷ [] →
    given_names vs ++ stepped xs ≡ r → given_names vs' ++ stepped bs ≡ r
stepped_next vs vs' x r e b p k = let k' = rw (joined e b) at k in rw (p, map-append, append_assoc) k'

pub are_next : {xs bs zs : Data} {d i : Datum} {x : List ℕ} {p q : ℕ} {b r : Bool} → xs ≡ cons d bs → IsStart d x i zs p q → b ≡ is_step_end zs → b ≡ true → are_steps xs ≡ r → are_steps bs ≡ r
are_next e h f g k = let k' = rw (joined e h, sym f ∙ g) at k in k'

pub are_stop : {xs bs : Data} {d : Datum} {r : Bool} → xs ≡ cons d bs → IsNoStart d → are_steps xs ≡ r → r ≡ false
are_stop {xs} {bs} {d} e h k = sym k ∙ (ap are_steps e ∙ not_steps d bs h)

pub are_long : {xs bs zs : Data} {d i : Datum} {x : List ℕ} {p q : ℕ} {b r : Bool} → xs ≡ cons d bs → IsStart d x i zs p q → b ≡ is_step_end zs → b ≡ false → are_steps xs ≡ r → r ≡ false
are_long e h f g k = let k' = rw (joined e h, sym f ∙ g) at k in sym k'

-- ## The calls

pub again_made : (at n : ℕ) (bs : Data) (ks ks' ks0 : List code.Sketch) (k : code.Sketch) {kind : Kind} → ks0 ≡ [] → ks ≡ ks0 ++ k ∷ [] → ((more : Sketches) → ahead ks' more ≡ ahead ks (steps at bs more)) →
    sketch_of k ≡ leaf at (local n) → n ≡ how_many bs → kind ≡ calling [] → node kind at (sketches_of ks') ≡ again at bs
again_made at n bs ks ks' ks0 k {kind} z e h v m w = let x = made_after ks ks' ks0 k (steps at bs) z e h in rw (x, v, m, w) refl

pub do_made : (at : ℕ) (bs : Data) (a : Datum) (rs es : Data) (ks : List code.Sketch) (k : code.Sketch) {vs ws : VariableNames} → are_rounds bs ≡ true
    → sketches_of ks ≡ and_sketch (sketch_of k) (starts bs no_sketch) → sketch_of k ≡ rounds at bs a rs es → vs ≡ stepped bs → ws ≡ vs
    → node (calling ws) at (sketches_of ks) ≡ do_form at bs a rs es
do_made at bs a rs es ks k t e v n w = rw (t, e, v, w, n) refl

-- The rows of bindings make sound sketches.
use Rattle.std.proofs.Common.{◌≡◌, ◌&&◌, ℕ, suc, Bool, false, List, ◌∷◌, length, Some, refl, ap}
use Rattle.sch_read.specs.Grammar.{Data, atom, list, none, cons, symbol}
use Rattle.sch_names.specs.Scope.{Scope, onto, VariableNames}
use Rattle.sch_sketch.specs.declared.sketch.Row.TheVariants.{Body}
use Rattle.sch_sketch.specs.Sketch.{Kind, Sketches, text as datum, rest, node, no_sketch, and_sketch, how_many_parts, binding, calling}
use Rattle.sch_sketch.specs.Soundness.{IsSound, AreSound}
use Rattle.sch_sketch.proofs.SmallSound.{choice, near, call_sound}
use Rattle.sch_sketch.specs.BodyHeads.{is_body, body}
use Rattle.sch_sketch.proofs.PartJoins.{join, AllSound}
use Rattle.sch_sketch.proofs.GroupsOfInits.{AreInits, last_count, parts_sound, group_sound}
use Rattle.sch_form_bindings.specs.Bindings.{bound, inits, are_bindings}
use Rattle.sch_form_bindings.specs.Binders.{is_binding_form, looping, row_named, row_let, row_letrec, row_let_star, row_nest, starred}

inits_ahead : (bs : Data) (ks : Sketches) → inits bs ks ≡ join (inits bs no_sketch) ks
inits_ahead (cons (list at (cons (atom q (symbol x)) (cons i none))) bs) ks = ap (and_sketch (datum i)) (inits_ahead bs ks)
inits_ahead _ ks = refl

inits_count : (bs : Data) → how_many_parts (inits bs no_sketch) ≡ length (bound bs)
inits_count (cons (list at (cons (atom q (symbol x)) (cons i none))) bs) = ap suc (inits_count bs)
inits_count _ = refl

inits_all : (bs : Data) → AllSound (inits bs no_sketch)
inits_all (cons (list at (cons (atom q (symbol x)) (cons i none))) bs) = ((λ s. tt), inits_all bs)
inits_all _ = tt

are_inits : (bs : Data) → AreInits (bound bs) (inits bs)
are_inits bs = record { ahead = inits_ahead bs; count = inits_count bs; all = inits_all bs }

-- ## Bindings

looping_sound : (s : Scope) (at : ℕ) (f : List ℕ) (vs : VariableNames) (es : Data) → IsSound s (looping at f vs es)
looping_sound s at f vs es = (refl, (refl, ((refl, (tt, (tt, tt))), (near (Some f) s, tt))))

all_in : (k : Kind) (first : Bool) (s : Scope) (ks : Sketches) → AllSound ks → AreSound k first s ks
all_in k first s no_sketch h = tt
all_in k first s (and_sketch p ps) h = (h.0 _, all_in k false s ps h.1)

named_sound : (s : Scope) (at : ℕ) (f : List ℕ) (xs : Data) → IsSound s (row_named s at f xs)
named_sound s at f (cons (list q bs) es) =
    choice s (is_binding_form (Some f ∷ s) bs es) _ _ (call_sound (bound bs) s at (looping at f (bound bs) es) (inits bs no_sketch) (looping_sound s at f (bound bs) es) (all_in (calling (bound bs)) false s (inits bs no_sketch) (inits_all bs))) tt
named_sound s at f _ = tt

let_form_sound : (s : Scope) (at : ℕ) (bs es : Data) → IsSound s (node (binding (bound bs)) at (inits bs (body at es)))
let_form_sound s at bs es = (last_count (bound bs) (inits bs) _ (are_inits bs), (tt, parts_sound _ s (bound bs) (inits bs) _ (are_inits bs) (λ s'. tt)))

pub let_sound : (s : Scope) (at : ℕ) (xs : Data) → IsSound s (row_let s at xs)
let_sound s at (cons (list q bs) es) = choice s (is_binding_form s bs es) _ _ (let_form_sound s at bs es) tt
let_sound s at (cons (atom q (symbol f)) xs) = named_sound s at f xs
let_sound s at _ = tt

pub letrec_sound : (s : Scope) (at : ℕ) (xs : Data) → IsSound s (row_letrec s at xs)
letrec_sound s at (cons (list q bs) es) =
    choice s (is_binding_form s bs es) _ _ (group_sound s (bound bs) at (inits bs) (rest Body at es none) (are_inits bs) (λ s'. tt)) tt
letrec_sound s at _ = tt

starred_sound : (s : Scope) (at : ℕ) (bs es : Data) → IsSound s (starred at bs es)
starred_sound s at none es = (refl, (tt, (tt, tt)))
starred_sound s at (cons b bs) es = tt

pub let_star_sound : (s : Scope) (at : ℕ) (xs : Data) → IsSound s (row_let_star s at xs)
let_star_sound s at (cons (list q bs) es) = choice s (are_bindings bs && is_body (onto (bound bs) s) es) _ _ (starred_sound s at bs es) tt
let_star_sound s at _ = tt

pub nest_sound : (s : Scope) (outer at : ℕ) (bs es : Data) → IsSound s (row_nest outer at bs es)
nest_sound s outer at (cons (list q (cons (atom p (symbol v)) (cons i none))) none) es = (refl, (tt, (tt, (tt, tt))))
nest_sound s outer at (cons (list q (cons (atom p (symbol v)) (cons i none))) (cons b bs)) es = (refl, (tt, (tt, (tt, tt))))
nest_sound s outer at _ es = tt

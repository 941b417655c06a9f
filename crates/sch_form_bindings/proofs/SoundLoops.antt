-- The row of `do` makes a sound sketch.
use Rattle.std.proofs.Common.{◌≡◌, ◌≤◌, ◌<◌, ℕ, suc, true, false, [], ◌∷◌, length, None, refl, ap, arith}
use Rattle.std.proofs.lemmas.Bool.{and_parts}
use Rattle.sch_read.specs.Grammar.{Datum, Data, atom, list, dotted, vector, none, cons, boolean, integer, character, symbol}
use Rattle.sch_read.specs.Grammar as grammar
use Rattle.sch_read.specs.Parts.{how_many}
use Rattle.sch_names.specs.Scope.{Scope, VariableNames}
use Rattle.sch_sketch.specs.Draft.{local}
use Rattle.sch_sketch.specs.Sketch.{leaf, no_sketch, calling, sequencing}
use Rattle.sch_sketch.specs.Small.{one}
use Rattle.sch_sketch.specs.Soundness.{IsSound, AreSound}
use Rattle.sch_sketch.proofs.SmallSound.{onto_length, choice_by, near, call_sound, texts_sound, texts_count}
use Rattle.sch_form_bindings.specs.Loops.{are_steps, stepped, starts, steps, step, again, next_round, result, round, rounds, are_rounds, do_form, row_do}

starts_sound : (vs : VariableNames) (s : Scope) (bs : Data) → AreSound (calling vs) false s (starts bs no_sketch)
starts_sound vs s (cons (list p (cons (atom q (symbol x)) (cons i xs))) bs) = (tt, starts_sound vs s bs)
starts_sound vs s _ = tt

-- as many variables as there are bindings from here on are bound
step_sound : (s : Scope) (at k : ℕ) (xs : Data) → k < length s → IsSound s (step at k xs)
step_sound s at k none h = h
step_sound s at k (cons d ds) h = tt

steps_sound : (s : Scope) (at : ℕ) (bs : Data) → how_many bs ≤ length s → AreSound (calling []) false s (steps at bs no_sketch)
steps_sound s at (cons (list p (cons (atom q (symbol x)) (cons i xs))) bs) h = (step_sound s at _ xs (omega (arith, h)), steps_sound s at bs (omega (arith, h)))
steps_sound s at _ h = tt

again_sound : (s : Scope) (at : ℕ) (bs : Data) → how_many bs < length s → IsSound s (again at bs)
again_sound s at bs h = call_sound [] s at (leaf at (local (how_many bs))) (steps at bs no_sketch) h (steps_sound s at bs (omega (arith, h)))

next_sound : (s : Scope) (at : ℕ) (bs es : Data) → how_many bs < length s → IsSound s (next_round at bs es)
next_sound s at bs none h = again_sound s at bs h
next_sound s at bs (cons e es) h =
    (omega (arith, texts_count (cons e es) (one (again at bs))), (tt, texts_sound sequencing true s (cons e es) _ (λ b. (again_sound s at bs h, tt))))

result_sound : (s : Scope) (at : ℕ) (rs : Data) → IsSound s (result at rs)
result_sound s at none = refl
result_sound s at (cons r rs) = tt

round_sound : (s : Scope) (at : ℕ) (bs : Data) (a : Datum) (rs es : Data) → how_many bs < length s → IsSound s (round at bs a rs es)
round_sound s at bs a rs es h = (refl, (tt, (tt, (result_sound s at rs, (next_sound s at bs es h, tt)))))

step_count : (bs : Data) → are_steps bs ≡ true → length (stepped bs) ≡ how_many bs
step_count none e = refl
step_count (cons (list p (cons (atom q (symbol x)) (cons i xs))) bs) e = ap suc (step_count bs (and_parts _ _ e).1)
step_count (cons (list p none) bs) e = cc
step_count (cons (list p (cons (atom q (symbol x)) none)) bs) e = cc
step_count (cons (list p (cons (atom q (boolean b)) xs)) bs) e = cc
step_count (cons (list p (cons (atom q (integer z)) xs)) bs) e = cc
step_count (cons (list p (cons (atom q (character c)) xs)) bs) e = cc
step_count (cons (list p (cons (atom q (grammar.text t)) xs)) bs) e = cc
step_count (cons (list p (cons (list q ys) xs)) bs) e = cc
step_count (cons (list p (cons (dotted q ys y) xs)) bs) e = cc
step_count (cons (list p (cons (vector q ys) xs)) bs) e = cc
step_count (cons (atom p a) bs) e = cc
step_count (cons (dotted p ys y) bs) e = cc
step_count (cons (vector p ys) bs) e = cc

rounds_sound : (s : Scope) (at : ℕ) (bs : Data) (a : Datum) (rs es : Data) → are_steps bs ≡ true → IsSound s (rounds at bs a rs es)
rounds_sound s at bs a rs es e =
    (refl, (refl, ((refl, (tt, (round_sound _ at bs a rs es (omega (arith, onto_length (stepped bs) (None ∷ s), step_count bs e)), tt))), (near None s, tt))))

do_form_sound : (s : Scope) (at : ℕ) (bs : Data) (a : Datum) (rs es : Data) → IsSound s (do_form at bs a rs es)
do_form_sound s at bs a rs es =
    choice_by s (are_rounds bs) _ _ (λ e. call_sound (stepped bs) s at (rounds at bs a rs es) (starts bs no_sketch) (rounds_sound s at bs a rs es (and_parts _ _ e).0) (starts_sound (stepped bs) s bs)) tt

pub do_sound : (s : Scope) (at : ℕ) (xs : Data) → IsSound s (row_do at xs)
do_sound s at (cons (list p bs) (cons (list q (cons a rs)) es)) = do_form_sound s at bs a rs es
do_sound s at _ = tt

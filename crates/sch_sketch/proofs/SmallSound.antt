-- Small sketches are sound where their parts are.
use Rattle.std.proofs.Common.{◌≡◌, ◌<◌, ◌+◌, ℕ, zero, suc, Bool, true, false, cond, List, [], ◌∷◌, length, Option, Some, None, refl, ap, ◌∙◌, arith}
use Rattle.sch_read.specs.Grammar.{Datum, Data, atom, list, dotted, vector, none, cons, boolean, integer, character, symbol as symbol_atom}
use Rattle.sch_read.specs.Grammar as grammar
use Rattle.sch_read.specs.Parts.{how_many}
use Rattle.sch_names.specs.Scope.{Scope, onto, find, farther, is_named, VariableNames}
use Rattle.sch_sketch.specs.declared.sketch.Position.{Position}
use Rattle.sch_sketch.specs.declared.sketch.Position.TheVariants.{Value, Test}
use Rattle.sch_sketch.specs.Sketch.{Kind, Sketch, Sketches, node, and_sketch, calling, how_many_parts}
use Rattle.sch_sketch.specs.Small.{texts, fresh_each, quoted, either_of}
use Rattle.sch_sketch.specs.Soundness.{IsSound, AreSound}

pub onto_length : (vs : VariableNames) (s : Scope) → length (onto vs s) ≡ length vs + length s
onto_length [] s = omega arith
onto_length (v ∷ vs) s = onto_length vs (v ∷ s) ∙ omega arith

found_at : (b : Bool) (o : Option ℕ) (k m : ℕ) → cond b (Some zero) (farther o) ≡ Some k → ((j : ℕ) → o ≡ Some j → j < m) → k < suc m
found_at true o k m e h = let f : zero ≡ k = cc in omega (arith, f)
found_at false None k m e h = cc
found_at false (Some j) k m e h = let f : suc j ≡ k = cc in omega (arith, f, h j refl)

pub found : (s : Scope) (x : List ℕ) (k : ℕ) → find s x ≡ Some k → k < length s
found [] x k e = cc
found (v ∷ s) x k e = found_at (is_named x v) (find s x) k (length s) e (found s x)

pub choice : (s : Scope) (b : Bool) (k k' : Sketch) → IsSound s k → IsSound s k' → IsSound s (cond b k k')
choice s true k k' h h' = h
choice s false k k' h h' = h'

pub choice_by : (s : Scope) (b : Bool) (k k' : Sketch) → (b ≡ true → IsSound s k) → IsSound s k' → IsSound s (cond b k k')
choice_by s true k k' h h' = h refl
choice_by s false k k' h h' = h'

pub near : (v : Option (List ℕ)) (s : Scope) → 0 < length (v ∷ s)
near v s = omega arith

pub call_sound : (vs : VariableNames) (s : Scope) (at : ℕ) (k : Sketch) (ks : Sketches) → IsSound s k → AreSound (calling vs) false s ks → IsSound s (node (calling vs) at (and_sketch k ks))
call_sound vs s at k ks h g = (omega arith, (tt, (h, g)))

pub quoted_sound : (s : Scope) (at : ℕ) (d : Datum) → IsSound s (quoted at d)
quoted_sound s at (atom q (boolean b)) = refl
quoted_sound s at (atom q (integer z)) = refl
quoted_sound s at (atom q (character c)) = refl
quoted_sound s at (atom q (grammar.text bs)) = tt
quoted_sound s at (atom q (symbol_atom x)) = tt
quoted_sound s at (list q none) = refl
quoted_sound s at (list q (cons x xs)) = tt
quoted_sound s at (dotted q xs x) = tt
quoted_sound s at (vector q xs) = tt

pub texts_sound : (k : Kind) (first : Bool) (s : Scope) (xs : Data) (ks : Sketches) → ((b : Bool) → AreSound k b s ks) → AreSound k first s (texts xs ks)
texts_sound k first s none ks h = h first
texts_sound k first s (cons d ds) ks h = (tt, texts_sound k false s ds ks h)

pub texts_count : (xs : Data) (ks : Sketches) → how_many_parts (texts xs ks) ≡ how_many xs + how_many_parts ks
texts_count none ks = omega arith
texts_count (cons d ds) ks = omega (arith, texts_count ds ks)

pub fresh_count : (xs : Data) → length (fresh_each xs) ≡ how_many xs
fresh_count none = refl
fresh_count (cons d ds) = ap suc (fresh_count ds)

pub either_sound : (s : Scope) (t : Position) (at : ℕ) (a k : Sketch) → IsSound s a → ((s' : Scope) → IsSound s' k) → IsSound s (either_of t at a k)
either_sound s Value at a k g h = (refl, (tt, (g, ((refl, (tt, (near None s, (near None s, (h _, tt))))), tt))))
either_sound s Test at a k g h = (refl, (tt, (g, (refl, (h _, tt)))))

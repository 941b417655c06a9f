-- Each draft that stands for a sound sketch is sound: one induction over the relation, with a line for each kind.
use Rattle.std.proofs.Common.{◌≡◌, ◌+◌, ℕ, suc, Bool, true, false, length, refl, ap, subst, arith}
use Rattle.std.proofs.lemmas.Bool.{leb-true}
use Rattle.sch_word.proofs.facts.Booleans.{and_parts}
use Rattle.sch_names.specs.Scope.{Scope, Globals, onto, VariableNames}
use Rattle.sch_sketch.specs.declared.sketch.Position.{Position}
use Rattle.sch_sketch.specs.Draft.{Draft, Drafts, constant, symbol, literal, local, global, set_local, set_global, define, branch, sequence, bind, letrec, lambda, call, operation, no_drafts, and_draft, count}
use Rattle.sch_sketch.specs.Sketch.{Kind, choosing, sequencing, binding, recurring, abstracting, calling, operating, setting, setting_global, defining, Sketch, Sketches, how_many_parts, is_end, scope_in, position_in, front, last, but_first, but_one, assemble, width}
use Rattle.sch_sketch.specs.Soundness.{IsAtom, HasParts, IsSoundKind, is_abstracting, is_procedure, are_procedures, but_last}
use Rattle.sch_sketch.specs.Soundness as sketches
use Rattle.sch_sketch.proofs.SmallSound.{onto_length}
use Rattle.sch_expansion.proofs.SoundRows.{datum_sound, rest_sound}
use Rattle.sch_expansion.proofs.Procedures.{datum_procedure, rest_procedure}
use Rattle.sch_expansion.specs.Expands.{AreFew, Expands, PartsExpand}
use Rattle.sch_expansion.specs.Expands as ex
use Rattle.sch_core.specs.SoundDrafts.{IsProcedure, AreProcedures, AreProceduresIf, HasRest, IsSound, AreSound}
use Rattle.sch_core.proofs.drafts.Parts.{front_count, front_sound, last_sound, first_sound, but_first_sound, is_none, InPlace, all_in, inits_in_place, body_in_place}

-- ## Nodes

branch_sound : (m : ℕ) (es : Drafts) → count es ≡ 3 → AreSound m es → IsSound m (assemble choosing es)
branch_sound m (and_draft a (and_draft b (and_draft c no_drafts))) n h = (h.0, h.1.0, h.1.1.0)
branch_sound m (and_draft a (and_draft b (and_draft c (and_draft d ds)))) n h = absurd (omega (arith, n))
branch_sound m (and_draft a (and_draft b no_drafts)) n h = absurd (omega (arith, n))
branch_sound m (and_draft a no_drafts) n h = absurd (omega (arith, n))
branch_sound m no_drafts n h = absurd (omega (arith, n))

but_first_count : (es : Drafts) → count (but_first es) ≡ but_one (count es)
but_first_count no_drafts = refl
but_first_count (and_draft e es) = refl

has_rest : (vs : VariableNames) (more : Bool) (s : Scope) (ks : Sketches) → IsSoundKind (abstracting vs more) s ks → HasRest more (length vs)
has_rest vs true s ks h = h
has_rest vs false s ks h = tt

group_of : (vs : VariableNames) (p : Bool) (s : Scope) (ks : Sketches) (es : Drafts) →
    (are_procedures (onto vs s) (but_last ks) ≡ true → AreProcedures es) → IsSoundKind (recurring vs p) s ks → AreProceduresIf p es
group_of vs true s ks es f h = f h
group_of vs false s ks es f h = tt

node_sound : (k : Kind) (s : Scope) (ks : Sketches) (es : Drafts) → HasParts k (count es) → AreFew (width k (count es)) → IsSoundKind k s ks →
    ((vs : VariableNames) (p : Bool) → k ≡ recurring vs p → are_procedures (onto vs s) (but_last ks) ≡ true → AreProcedures (front es)) →
    InPlace k true s es → IsSound (length s) (assemble k es)
node_sound choosing s ks es c w i g p = branch_sound (length s) es c (all_in choosing true (length s) s es (λ f l. refl) p)
node_sound sequencing s ks es c w i g p = (c, all_in sequencing true (length s) s es (λ f l. refl) p)
node_sound (operating q) s ks es c w i g p = (c, all_in (operating q) true (length s) s es (λ f l. refl) p)
node_sound (calling vs) s ks es c w i g p =
    let a = all_in (calling vs) true (length s) s es (λ f l. refl) p in
    (omega (arith, but_first_count es, leb-true _ _ w), first_sound (length s) es c a, but_first_sound (length s) es a)
node_sound (setting k) s ks es c w i g p =
    (i, last_sound (length s) es (omega (arith, c)) (all_in (setting k) true (length s) s es (λ f l. refl) p))
node_sound (setting_global x) s ks es c w i g p = last_sound (length s) es c (all_in (setting_global x) true (length s) s es (λ f l. refl) p)
node_sound (defining x) s ks es c w i g p = last_sound (length s) es (omega (arith, c)) (all_in (defining x) true (length s) s es (λ f l. refl) p)
node_sound (binding vs) s ks es c w i g p =
    let x = front_count es (length vs) c in
    let w' : AreFew (length vs) = rw c at w in
    let b = body_in_place vs true s es (omega (arith, c)) p in (
      omega (arith, x, leb-true _ _ w'),
      inits_in_place vs true s es p,
      subst (λ m. IsSound m (last es)) (omega (arith, onto_length vs s, x)) b,
    )
node_sound (recurring vs q) s ks es c w i g p =
    let x = front_count es (length vs) c in
    let w' : AreFew (length vs) = rw c at w in
    let m : length (onto vs s) ≡ length s + count (front es) = omega (arith, onto_length vs s, x) in
    let a = all_in (recurring vs q) true (length s + count (front es)) s es (λ f l. m) p in (
      omega (arith, x, leb-true _ _ w'),
      group_of vs q s ks (front es) (g vs q refl) i,
      front_sound _ es a,
      last_sound _ es (omega (arith, c)) a,
    )
node_sound (abstracting vs more) s ks es c w i g p = (
  has_rest vs more s ks i,
  leb-true _ _ w,
  last_sound _ es (omega (arith, c)) (all_in (abstracting vs more) true (length s + length vs) s es (λ f l. omega (arith, onto_length vs s)) p),
)

atom_sound : (m : ℕ) (e : Draft) → IsAtom e m → IsSound m e
atom_sound m (constant c) h = h
atom_sound m (symbol x) h = tt
atom_sound m (literal d) h = tt
atom_sound m (local k) h = h
atom_sound m (global x) h = tt
atom_sound m (set_local k e) h = absurd h
atom_sound m (set_global x e) h = absurd h
atom_sound m (define x e) h = absurd h
atom_sound m (branch a b c) h = absurd h
atom_sound m (sequence es) h = absurd h
atom_sound m (bind vs es e) h = absurd h
atom_sound m (letrec vs p es e) h = absurd h
atom_sound m (lambda n r e) h = absurd h
atom_sound m (call vs f es) h = absurd h
atom_sound m (operation p es) h = absurd h

abstracts : (k : Kind) (es : Drafts) → is_abstracting k ≡ true → IsProcedure (assemble k es)
abstracts (abstracting vs more) es h = tt
abstracts choosing es h = cc
abstracts sequencing es h = cc
abstracts (binding vs) es h = cc
abstracts (recurring vs p) es h = cc
abstracts (calling vs) es h = cc
abstracts (operating p) es h = cc
abstracts (setting k) es h = cc
abstracts (setting_global x) es h = cc
abstracts (defining x) es h = cc

-- ## Sketches

module _ (globals : Globals) where
  pub counted : {k : Kind} {first : Bool} {n : ℕ} {s : Scope} {t : Position} {ks : Sketches} {es : Drafts} → PartsExpand globals k first n s t ks es → how_many_parts ks ≡ count es
  counted (ex.no_part k first n s t) = refl
  counted (ex.and_part k first n s t p ps e es x y) = ap suc (counted y)

  ends : {k : Kind} {first : Bool} {n : ℕ} {s : Scope} {t : Position} {ks : Sketches} {es : Drafts} → PartsExpand globals k first n s t ks es → is_end ks ≡ is_none es
  ends (ex.no_part k first n s t) = refl
  ends (ex.and_part k first n s t p ps e es x y) = refl

  -- what is a procedure by its form becomes one
  pub procedure : {n : ℕ} {s : Scope} {t : Position} {k : Sketch} {e : Draft} → Expands globals n s t k e → is_procedure s k ≡ true → IsProcedure e
  procedure (ex.a_datum n s t d e p) h = procedure p (datum_procedure globals s d h)
  procedure (ex.a_rest n s t r at xs ys e p) h = procedure p (rest_procedure globals s t r at xs ys h)
  procedure (ex.a_leaf n s t at e l) h = cc
  procedure (ex.a_node n s t k at ks es l w p) h = abstracts k es h
  procedure (ex.within n s t at m k e w p) h = cc

  group : (vs : VariableNames) (q first : Bool) {k : Kind} {n : ℕ} {s : Scope} {t : Position} {ks : Sketches} {es : Drafts} → PartsExpand globals k first n s t ks es →
      k ≡ recurring vs q → are_procedures (onto vs s) (but_last ks) ≡ true → AreProcedures (front es)
  group vs q first (ex.no_part k _ n s t) i h = tt
  group vs q first (ex.and_part k _ n s t p _ e _ x (ex.no_part _ _ _ _ _)) i h = tt
  group vs q first (ex.and_part k _ n s t p _ e _ x (ex.and_part _ _ _ _ _ p' ps e' es x' y)) i h =
      let b = and_parts _ _ h in
      (procedure (subst (λ j. Expands globals n (scope_in j first false s) (position_in k first false t) p e) i x) b.0, group vs q false (ex.and_part k false n s t p' ps e' es x' y) i b.1)

  mutual
    pub sound : {n : ℕ} {s : Scope} {t : Position} {k : Sketch} {e : Draft} → Expands globals n s t k e → sketches.IsSound s k → IsSound (length s) e
    sound (ex.a_datum n s t d e p) h = sound p (datum_sound globals s d)
    sound (ex.a_rest n s t r at xs ys e p) h = sound p (rest_sound globals s t r at xs ys h)
    sound (ex.a_leaf n s t at e l) h = atom_sound (length s) e h
    sound (ex.a_node n s t k at ks es l w p) h =
        node_sound k s ks es (subst (HasParts k) (counted p) h.0) (subst (λ m. AreFew (width k m)) (counted p) w) h.1.0
        (λ vs q i. group vs q true p i) (sound_each p h.1.1)
    sound (ex.within n s t at m k e w p) h = sound p h

    pub sound_each : {k : Kind} {first : Bool} {n : ℕ} {s : Scope} {t : Position} {ks : Sketches} {es : Drafts} → PartsExpand globals k first n s t ks es → sketches.AreSound k first s ks → InPlace k first s es
    sound_each (ex.no_part k first n s t) h = tt
    sound_each (ex.and_part k first n s t p ps e es x y) h = (subst (λ b. IsSound (length (scope_in k first b s)) e) (ends y) (sound x h.0), sound_each y h.1)

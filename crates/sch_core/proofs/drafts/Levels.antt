-- Each draft that stands for a sound sketch lies within the limit on levels, and keeps its levels when it is numbered.
use Rattle.std.proofs.Common.{◌≤◌, ◌-◌, ◌+◌, ℕ, Bool, length, subst, arith}
use Rattle.std.specs.Prelude.{max}
use Rattle.std.proofs.lemmas.Bool.{leb-true}
use Rattle.sch_word.specs.trees.Shape.{max_levels}
use Rattle.sch_names.specs.Scope.{Scope, Globals}
use Rattle.sch_sketch.specs.declared.sketch.Position.{Position}
use Rattle.sch_sketch.specs.Draft.{Draft, Drafts, constant, symbol, literal, local, global, set_local, set_global, define, branch, sequence, bind, letrec, lambda, call, operation, no_drafts, and_draft, count}
use Rattle.sch_sketch.specs.Sketch.{Kind, choosing, sequencing, binding, recurring, abstracting, calling, operating, setting, setting_global, defining, Sketch, Sketches, front, last, first, but_first, assemble}
use Rattle.sch_sketch.specs.Soundness.{IsAtom, HasParts}
use Rattle.sch_sketch.specs.Soundness as sketches
use Rattle.sch_expansion.proofs.SoundRows.{datum_sound, rest_sound}
use Rattle.sch_expansion.specs.Expands.{IsLevel, Expands, PartsExpand}
use Rattle.sch_expansion.specs.Expands as ex
use Rattle.sch_core.specs.SoundDrafts.{levels, levels_each}
use Rattle.sch_core.proofs.drafts.Soundness.{counted}

parts_levels : (es : Drafts) → 1 ≤ count es → max (levels_each (front es)) (levels (last es)) ≤ levels_each es
parts_levels no_drafts h = absurd (omega (arith, h))
parts_levels (and_draft e no_drafts) h = omega arith
parts_levels (and_draft e (and_draft f fs)) h = omega (arith, parts_levels (and_draft f fs) (omega arith))

first_levels : (es : Drafts) → 1 ≤ count es → max (levels (first es)) (levels_each (but_first es)) ≤ levels_each es
first_levels no_drafts h = absurd (omega (arith, h))
first_levels (and_draft e es) h = omega arith

last_levels : (es : Drafts) → 1 ≤ count es → levels (last es) ≤ levels_each es
last_levels es h = omega (arith, parts_levels es h)

node_levels : (k : Kind) (es : Drafts) → HasParts k (count es) → levels (assemble k es) ≤ 1 + levels_each es
node_levels choosing (and_draft a (and_draft b (and_draft c no_drafts))) h = omega arith
node_levels choosing (and_draft a (and_draft b (and_draft c (and_draft d ds)))) h = absurd (omega (arith, h))
node_levels choosing (and_draft a (and_draft b no_drafts)) h = absurd (omega (arith, h))
node_levels choosing (and_draft a no_drafts) h = absurd (omega (arith, h))
node_levels choosing no_drafts h = absurd (omega (arith, h))
node_levels sequencing es h = omega arith
node_levels (operating p) es h = omega arith
node_levels (binding vs) es h = omega (arith, parts_levels es (omega (arith, h)))
node_levels (recurring vs p) es h = omega (arith, parts_levels es (omega (arith, h)))
node_levels (abstracting vs more) es h = omega (arith, last_levels es (omega (arith, h)))
node_levels (calling vs) es h = omega (arith, first_levels es h)
node_levels (setting k) es h = omega (arith, last_levels es (omega (arith, h)))
node_levels (setting_global x) es h = omega (arith, last_levels es h)
node_levels (defining x) es h = omega (arith, last_levels es (omega (arith, h)))

atom_levels : (m : ℕ) (e : Draft) → IsAtom e m → levels e ≤ 1
atom_levels m (constant c) h = omega arith
atom_levels m (symbol x) h = omega arith
atom_levels m (literal d) h = omega arith
atom_levels m (local k) h = omega arith
atom_levels m (global x) h = omega arith
atom_levels m (set_local k e) h = absurd h
atom_levels m (set_global x e) h = absurd h
atom_levels m (define x e) h = absurd h
atom_levels m (branch a b c) h = absurd h
atom_levels m (sequence es) h = absurd h
atom_levels m (bind vs es e) h = absurd h
atom_levels m (letrec vs p es e) h = absurd h
atom_levels m (lambda n r e) h = absurd h
atom_levels m (call vs f es) h = absurd h
atom_levels m (operation p es) h = absurd h

within : (n : ℕ) → IsLevel n → n ≤ max_levels
within n l = leb-true n max_levels l

module _ (globals : Globals) where
  mutual
    pub level : {n : ℕ} {s : Scope} {t : Position} {k : Sketch} {e : Draft} → Expands globals n s t k e → sketches.IsSound s k → levels e ≤ 1 + max_levels - n
    level (ex.a_datum n s t d e p) h = level p (datum_sound globals s d)
    level (ex.a_rest n s t r at xs ys e p) h = level p (rest_sound globals s t r at xs ys h)
    level (ex.a_leaf n s t at e l) h = omega (arith, within n l, atom_levels (length s) e h)
    level (ex.a_node n s t k at ks es l w p) h =
        omega (arith, within n l, node_levels k es (subst (HasParts k) (counted globals p) h.0), level_each p h.1.1)
    level (ex.within n s t at m k e w p) h = level p h

    pub level_each : {k : Kind} {first : Bool} {n : ℕ} {s : Scope} {t : Position} {ks : Sketches} {es : Drafts} → PartsExpand globals k first n s t ks es → sketches.AreSound k first s ks → levels_each es ≤ 1 + max_levels - n
    level_each (ex.no_part k first n s t) h = omega arith
    level_each (ex.and_part k first n s t p ps e es x y) h = omega (arith, level x h.0, level_each y h.1)

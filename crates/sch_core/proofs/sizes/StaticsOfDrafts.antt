-- What the symbols, the literals and the globals of a draft take is at most what its sketch allows.
use Rattle.std.proofs.Common.{◌≤◌, ◌+◌, ℕ, Bool, subst, arith}
use Rattle.sch_names.specs.Scope.{Scope, Globals}
use Rattle.sch_sketch.specs.declared.sketch.Position.{Position}
use Rattle.sch_sketch.specs.Draft.{Draft, Drafts, no_drafts, and_draft, count}
use Rattle.sch_sketch.specs.Sketch.{Kind, choosing, sequencing, binding, recurring, abstracting, calling, operating, setting, setting_global, defining, Sketch, Sketches, assemble}
use Rattle.sch_sketch.specs.Soundness.{HasParts}
use Rattle.sch_sketch.specs.Soundness as sketches
use Rattle.sch_expansion.proofs.SoundRows.{datum_sound, rest_sound}
use Rattle.sch_expansion.specs.Expands.{Expands, PartsExpand}
use Rattle.sch_expansion.specs.Expands as ex
use Rattle.sch_core.specs.SizesOfStatics.{statics_here, statics_in, statics_in_each}
use Rattle.sch_core.proofs.drafts.Parts.{front_sum, first_sum}
use Rattle.sch_core.proofs.drafts.Soundness.{counted}
use Rattle.sch_core.proofs.sizes.StaticsOfSketches.{global_here, sketch_statics, sketches_statics}
use Rattle.sch_core.proofs.sizes.StaticsOfRows.{datum_statics, row_statics}

-- ## Nodes

node_statics : (k : Kind) (es : Drafts) → HasParts k (count es) → statics_in (assemble k es) ≤ global_here k + statics_in_each es
node_statics choosing (and_draft a (and_draft b (and_draft c no_drafts))) h = omega arith
node_statics choosing (and_draft a (and_draft b (and_draft c (and_draft d ds)))) h = absurd (omega (arith, h))
node_statics choosing (and_draft a (and_draft b no_drafts)) h = absurd (omega (arith, h))
node_statics choosing (and_draft a no_drafts) h = absurd (omega (arith, h))
node_statics choosing no_drafts h = absurd (omega (arith, h))
node_statics sequencing es h = omega arith
node_statics (operating p) es h = omega arith
node_statics (binding vs) es h = omega (arith, front_sum statics_here es (omega (arith, h)))
node_statics (recurring vs p) es h = omega (arith, front_sum statics_here es (omega (arith, h)))
node_statics (abstracting vs more) es h = omega (arith, front_sum statics_here es (omega (arith, h)))
node_statics (calling vs) es h = omega (arith, first_sum statics_here es h)
node_statics (setting k) es h = omega (arith, front_sum statics_here es (omega (arith, h)))
node_statics (setting_global x) es h = omega (arith, front_sum statics_here es h)
node_statics (defining x) es h = omega (arith, front_sum statics_here es (omega (arith, h)))

-- ## Sketches

module _ (globals : Globals) where
  mutual
    pub statics : {n : ℕ} {s : Scope} {t : Position} {k : Sketch} {e : Draft} → Expands globals n s t k e → sketches.IsSound s k → statics_in e ≤ sketch_statics k
    statics (ex.a_datum n s t d e p) h = omega (arith, statics p (datum_sound globals s d), datum_statics globals s d)
    statics (ex.a_rest n s t r at xs ys e p) h = omega (arith, statics p (rest_sound globals s t r at xs ys h), row_statics globals s t r at xs ys)
    statics (ex.a_leaf n s t at e l) h = omega arith
    statics (ex.a_node n s t k at ks es l w p) h =
        omega (arith, node_statics k es (subst (HasParts k) (counted globals p) h.0), statics_each p h.1.1)
    statics (ex.within n s t at m k e w p) h = statics p h

    pub statics_each : {k : Kind} {first : Bool} {n : ℕ} {s : Scope} {t : Position} {ks : Sketches} {es : Drafts} → PartsExpand globals k first n s t ks es → sketches.AreSound k first s ks → statics_in_each es ≤ sketches_statics ks
    statics_each (ex.no_part k first n s t) h = omega arith
    statics_each (ex.and_part k first n s t p ps e es x y) h = omega (arith, statics x h.0, statics_each y h.1)

-- Sketches that are made one after the other.
use Rattle.std.proofs.Common.{◌≡◌, ◌<◌, ◌+◌, ℕ, List, [], ◌∷◌, ◌++◌, length, drop, get_or, refl, sym, ap, ◌∙◌, add-one}
use Rattle.sch_word.proofs.facts.Lists.{next_left}
use Rattle.sch_read.specs.declared.datum.Datum.{Datum}
use Rattle.sch_read.specs.Views.{tree_of, data_of}
use Rattle.sch_sketch.specs.declared.sketch.Sketch as code
use Rattle.sch_sketch.specs.Sketch.{Sketches, and_sketch, no_sketch}
use Rattle.sch_sketch.specs.Sketch as words
use Rattle.sch_sketch.specs.SketchView.{sketch_of, sketches_of, ahead}
use Rattle.sch_sketch.specs.Small.{texts}

pub ahead_more : (ks : List code.Sketch) (k : code.Sketch) (more : Sketches) → ahead (ks ++ k ∷ []) more ≡ ahead ks (and_sketch (sketch_of k) more)
ahead_more [] k more = refl
ahead_more (a ∷ ks) k more = ap (and_sketch (sketch_of a)) (ahead_more ks k more)

pub ahead_none : (ks : List code.Sketch) → ahead ks no_sketch ≡ sketches_of ks
ahead_none [] = refl
ahead_none (k ∷ ks) = ap (and_sketch (sketch_of k)) (ahead_none ks)

pub texts_next : (items : List Datum) (i : ℕ) (d : Datum) (ks ks' : List code.Sketch) (k : code.Sketch) → i < length items → d ≡ get_or items i d → ks' ≡ ks ++ k ∷ [] → sketch_of k ≡ words.text (tree_of d) →
    (more : Sketches) → ahead ks' (texts (data_of (drop (i + 1) items)) more) ≡ ahead ks (texts (data_of (drop i items)) more)
texts_next items i d ks ks' k l e p v more = rw (next_left items i d l e, add-one, p, ahead_more, v) refl

pub made_all : (ks ks0 : List code.Sketch) (F : Sketches → Sketches) → ks0 ≡ [] → ((more : Sketches) → ahead ks more ≡ ahead ks0 (F more)) → sketches_of ks ≡ F no_sketch
made_all ks ks0 F z h = sym (ahead_none ks) ∙ h no_sketch ∙ ap (λ l. ahead l (F no_sketch)) z

pub made_and : (ks ks' ks0 : List code.Sketch) (k : code.Sketch) (F : Sketches → Sketches) → ks0 ≡ [] → ((more : Sketches) → ahead ks more ≡ ahead ks0 (F more)) → ks' ≡ ks ++ k ∷ [] →
    sketches_of ks' ≡ F (and_sketch (sketch_of k) no_sketch)
made_and ks ks' ks0 k F z h e =
    rw e (sym (ahead_none (ks ++ k ∷ [])) ∙ (ahead_more ks k no_sketch ∙ (h (and_sketch (sketch_of k) no_sketch) ∙ ap (λ l. ahead l (F (and_sketch (sketch_of k) no_sketch))) z)))

pub made_after : (ks ks' ks0 : List code.Sketch) (k : code.Sketch) (F : Sketches → Sketches) → ks0 ≡ [] → ks ≡ ks0 ++ k ∷ [] → ((more : Sketches) → ahead ks' more ≡ ahead ks (F more)) →
    sketches_of ks' ≡ and_sketch (sketch_of k) (F no_sketch)
made_after ks ks' ks0 k F z e h = sym (ahead_none ks') ∙ (h no_sketch ∙ ap (λ l. ahead l (F no_sketch)) (e ∙ ap (λ l. l ++ k ∷ []) z))

pub pushed : (ks ks' : List code.Sketch) (k : code.Sketch) {p : words.Sketch} → ks' ≡ ks ++ k ∷ [] → sketch_of k ≡ p → (more : Sketches) → ahead ks' more ≡ ahead ks (and_sketch p more)
pushed ks ks' k e v more = rw (e, ahead_more, v) refl

-- What is made of the inits of a group and of its body.
use Rattle.std.proofs.Common.{◌≡◌, ℕ, List, [], ◌∷◌, ◌++◌, Bool, refl, sym, ap, ◌∙◌}
use Rattle.sch_names.specs.Scope.{Scope, onto, VariableNames}
use Rattle.sch_sketch.specs.declared.sketch.Sketch as code
use Rattle.sch_sketch.specs.Sketch.{Sketch, Sketches, no_sketch, and_sketch, node, recurring}
use Rattle.sch_sketch.specs.SketchView.{sketch_of, sketches_of, ahead}
use Rattle.sch_sketch.specs.Small.{one}
use Rattle.sch_sketch.specs.Soundness.{are_procedures}
use Rattle.sch_sketch.proofs.PartLists.{ahead_more, ahead_none}
use Rattle.sch_sketch.specs.Groups.{group}

pub group_made : (s : Scope) (vs : VariableNames) (at : ℕ) (is : Sketches → Sketches) (ks ks' : List code.Sketch) (last : code.Sketch) (b : Bool) (k : Sketch) →
    ((more : Sketches) → ahead ks more ≡ is more) → b ≡ are_procedures (onto vs s) (sketches_of ks) → ks' ≡ ks ++ last ∷ [] →
    k ≡ node (recurring vs b) at (sketches_of ks') → k ≡ group s vs at is (sketch_of last)
group_made s vs at is ks ks' last b k h f e m =
    let x : sketches_of ks ≡ is no_sketch = sym (ahead_none ks) ∙ h no_sketch in
    let y : sketches_of ks' ≡ is (one (sketch_of last)) = ap sketches_of e ∙ (sym (ahead_none (ks ++ last ∷ [])) ∙ (ahead_more ks last no_sketch ∙ h (and_sketch (sketch_of last) no_sketch))) in
    m ∙ rw (y, f, x) refl

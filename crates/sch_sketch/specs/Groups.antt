-- The `letrec` that bodies and bindings make (R5RS 4.2.2 and 5.2.2).
use Rattle.std.specs.Prelude.{ℕ}
use Rattle.sch_names.specs.Scope.{Scope, onto, VariableNames}
use Rattle.sch_sketch.specs.Sketch.{Sketch, Sketches, node, no_sketch, recurring}
use Rattle.sch_sketch.specs.Small.{one}
use Rattle.sch_sketch.specs.Soundness.{are_procedures}

-- The variables of a `letrec` in this scope, its inits and its body. It is told here whether its inits are
-- procedures by their forms.
abbrev pub group : Scope → VariableNames → ℕ → (Sketches → Sketches) → Sketch → Sketch
group s vs at is e = node (recurring vs (are_procedures (onto vs s) (is no_sketch))) at (is (one e))

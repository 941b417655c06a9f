-- Laws of the expansion of one datum.
use Rattle.std.specs.Prelude.{◌≡◌, ℕ}
use Rattle.sch_read.specs.Grammar.{Datum}
use Rattle.sch_names.specs.Scope.{Scope, Globals}
use Rattle.sch_sketch.specs.declared.sketch.Position.{Position}
use Rattle.sch_sketch.specs.declared.fault.Fault.{Fault}
use Rattle.sch_sketch.specs.Draft.{Draft}
use Rattle.sch_sketch.specs.Sketch.{text}
use Rattle.sch_expansion.specs.Expands.{Expands}
use Rattle.sch_expansion.specs.Faults.{HasFault}

-- at most one draft stands for a datum at a level, in a scope and in a position
abbrev pub AtMostOne : Type 0
AtMostOne =
    (globals : Globals) (level : ℕ) (s : Scope) (t : Position) (d : Datum) (a b : Draft) →
    Expands globals level s t (text d) a → Expands globals level s t (text d) b → a ≡ b

-- where a draft stands for a datum, it has no fault, and where it has none, one stands for it
abbrev pub NoFault : Type 0
NoFault =
    (globals : Globals) (level : ℕ) (s : Scope) (t : Position) (d : Datum) (a : Draft) →
    Expands globals level s t (text d) a → (f : Fault) → HasFault globals level s t (text d) f → ⊥

abbrev pub FaultOrDraft : Type 0
FaultOrDraft =
    (globals : Globals) (level : ℕ) (s : Scope) (t : Position) (d : Datum) →
    ((f : Fault) → HasFault globals level s t (text d) f → ⊥) → (a : Draft) × Expands globals level s t (text d) a

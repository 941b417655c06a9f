-- The walk with a stack of its own.
use Rattle.std.specs.Prelude.{◌≡◌, ◌-◌, ◌+◌, ◌*◌, ◌≤◌, ℕ, zero, true, List, [], ◌∷◌, Option, map, length, drop, reverse, nat_eq, false}
use Rattle.sch_names.specs.Scope.{Scope, Globals}
use Rattle.sch_sketch.specs.declared.fault.Fault.{Fault}
use Rattle.sch_sketch.specs.declared.sketch.Position.{Position}
use Rattle.sch_sketch.specs.Draft.{Draft, Drafts, and_draft}
use Rattle.sch_sketch.specs.Measure.{sketch_measure, sketches_measure}
use Rattle.sch_sketch.specs.Sketch.{Kind, Sketch, Sketches, assemble}
use Rattle.sch_sketch.specs.SketchView.{kind_of, sketch_of, sketches_of}
use Rattle.sch_expansion.specs.declared.walk.Open.{Open}
use Rattle.sch_expansion.specs.declared.walk.Next.{Next}
use Rattle.sch_expansion.specs.declared.walk.Next.TheVariants.{Down, Up}
use Rattle.sch_sketch.specs.DraftView.{draft_of}
use Rattle.sch_expansion.specs.Following.{and_then}
use Rattle.sch_expansion.specs.Reads.{Reads, PartsRead}

-- what is to be read in the end
pub record Task : Type 0 where
  pub globals : Globals
  pub level : ℕ
  pub scope : Scope
  pub position : Position
  pub sketch : Sketch
  pub fault : Option Fault

-- the scope of a node whose part has this scope
abbrev pub around : Open → Scope → Scope
around o s = drop (length s - o.depth) s

-- with this draft of the part that is read now, and the fault by then, the task is read in the end
abbrev pub Holds : Task → List Open → Scope → Option Fault → Draft → Type 0
Holds w [] s b e = Reads w.globals w.level w.scope w.position w.sketch w.fault b e
Holds w (o ∷ os) s b e = (o.depth ≤ length s) × ((c : Option Fault) (es : Drafts) →
    PartsRead w.globals (kind_of o.kind) false o.level (around o s) o.position (sketches_of (reverse o.left)) b c es →
    Holds w os (around o s) c (assemble (kind_of o.kind) (and_then (map draft_of o.drafts) (and_draft e es))))

-- the same before the next part of a node, whose scope this is
pub record Goes (w : Task) (o : Open) (os : List Open) (s : Scope) (b : Option Fault) : Type 0 where
  pub depth : o.depth ≡ length s
  pub rest : (c : Option Fault) (es : Drafts) →
      PartsRead w.globals (kind_of o.kind) (nat_eq (length o.drafts) 0) o.level s o.position (sketches_of (reverse o.left)) b c es →
      Holds w os s c (assemble (kind_of o.kind) (and_then (map draft_of o.drafts) es))

-- the same before the first part of a node
abbrev pub PartsWanted : Task → Kind → (level : ℕ) → Position → Sketches → List Open → Scope → Option Fault → Type 0
PartsWanted w k n t ks os s b = (c : Option Fault) (es : Drafts) → PartsRead w.globals k true n s t ks b c es → Holds w os s c (assemble k es)

abbrev pub Ready : Task → Next → List Open → Scope → Option Fault → Type 0
Ready w (Up e) os s b = Holds w os s b (draft_of e)
Ready w (Down k at) os s b = (m : Option Fault) (e : Draft) → Reads w.globals at.level s at.position (sketch_of k) b m e → Holds w os s m e

-- ## What is left to do

abbrev pub open_left : Open → ℕ
open_left o = 1 + 2 * sketches_measure (sketches_of (reverse o.left))

abbrev pub stack_left : List Open → ℕ
stack_left [] = zero
stack_left (o ∷ os) = open_left o + stack_left os

abbrev pub next_left : Next → List Open → ℕ
next_left (Up e) os = 1 + stack_left os
next_left (Down k at) os = 2 * sketch_measure (sketch_of k) + stack_left os

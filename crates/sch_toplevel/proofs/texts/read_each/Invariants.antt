use Rattle.std.proofs.Common.{[], drop, map, true, false, Option}
use Rattle.sch_names.specs.NamesView.{globals_of}
use Rattle.sch_sketch.specs.declared.fault.Fault.{Fault}
use Rattle.sch_sketch.specs.declared.sketch.Position.TheVariants.{Value}
use Rattle.sch_sketch.specs.Draft.{Drafts}
use Rattle.sch_sketch.specs.DraftView.{draft_of}
use Rattle.sch_sketch.specs.Sketch.{sketches, sequencing}
use Rattle.sch_expansion.specs.Following.{and_then}
use Rattle.sch_expansion.specs.Reads.{PartsRead}
use Rattle.sch_toplevel.specs.FormView.{sketches_at}
use Rattle.sch_toplevel.proofs.texts.read_each.Given as goal

abbrev pub invariant-loop-form : goal.invariant-loop-form
invariant-loop-form l =
    (b : Option Fault) (es : Drafts) → PartsRead (globals_of l.globals) sequencing false 1 [] Value (sketches (sketches_at (drop l.form-index l.forms))) l.fault b es →
    PartsRead (globals_of l.globals) sequencing true 1 [] Value (sketches (sketches_at l.forms)) l.initial.fault b (and_then (map draft_of l.reading.drafts) es)

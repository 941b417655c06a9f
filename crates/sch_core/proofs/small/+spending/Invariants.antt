use Rattle.std.proofs.Common.{◌≡◌, drop}
use Rattle.std.specs.Prelude.{◌-◌}
use Rattle.sch_sketch.specs.DraftMeasures.{size_each}
use Rattle.sch_sketch.specs.DraftView.{drafts_of}
use Rattle.sch_core.proofs.small.+spending.Given as goal

abbrev pub invariant-spend_each-loop-e : goal.invariant-spend_each-loop-e
invariant-spend_each-loop-e l = l.left - size_each (drafts_of (drop l.e-index l.es)) ≡ l.fn.budget - size_each (drafts_of l.es)

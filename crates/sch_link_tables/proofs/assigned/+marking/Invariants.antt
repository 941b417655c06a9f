use Rattle.std.proofs.Common.{◌≡◌, ◌+◌, ◌<◌, ◌^◌, drop}
use Rattle.sch_word.specs.trees.Assigned.{marked}
use Rattle.sch_sketch.specs.DraftMeasures.{size_each}
use Rattle.sch_sketch.specs.DraftView.{drafts_of}
use Rattle.sch_link_tables.specs.Assigned.{assigns_each}
use Rattle.sch_link_tables.proofs.assigned.+marking.Given as goal

abbrev pub invariant-mark_each-loop-e : goal.invariant-mark_each-loop-e
invariant-mark_each-loop-e l = record {
  marks : marked (assigns_each (drafts_of (drop l.e-index l.es))) l.from l.marks ≡ marked (assigns_each (drafts_of l.es)) l.from l.initial.marks;
  few : l.from + size_each (drafts_of (drop l.e-index l.es)) < 2 ^ 32;
}

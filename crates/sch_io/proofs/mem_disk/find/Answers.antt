use Rattle.std.proofs.Common.{◌<◌, sym, ◌∙◌, rules, arith, length}
use Rattle.std.specs.FinMap.{get-empty}
use Rattle.sch_io.proofs.StoredFiles.{found, passed}
use Rattle.sch_io.proofs.mem_disk.find.Goals as goal
use Rattle.sch_io.proofs.mem_disk.find.Goals.{then-eq, else-eq}

pub loop-entry-preserved : goal.loop-entry-preserved
loop-entry-preserved c =
    let lt : c.loop-entry.entry-index < length c.args.entries.now = omega arith in
    elim c.if-eq.branch [
      | then-eq w ↦ rw w.found-is (search rules, found _ _ _ _ _ lt (sym c.eq.ensures ∙ w.if-eq.true))
      | else-eq w ↦ rw w.found-is (c.loop-entry.invariant.0, passed _ _ _ _ _ lt (sym c.eq.ensures ∙ w.if-eq.false) ∙ c.loop-entry.invariant.1)
    ]

pub loop-entry-init : goal.loop-entry-init
loop-entry-init c = (tt, get-empty _ _)

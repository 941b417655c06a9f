use Rattle.std.proofs.Common.{map}
use Rattle.sch_word.specs.values.Registers.{argument_registers}
use Rattle.sch_shuffle.specs.View.{tree}
use Rattle.sch_homes.specs.CallMoves.{is_spare}
use Rattle.sch_homes.proofs.CallLists.{spare_more}
use Rattle.sch_homes.proofs.temporaries.spare_registers.Goals as goal

pub loop-r-preserved : goal.loop-r-preserved
loop-r-preserved c =
    spare_more (is_spare (map tree c.args.args.now) c.args.targets.now) argument_registers c.loop-r.r-index _ _ c.loop-r-test.true c.loop-r.invariant c.in_ok-put_spare.ensures

use Rattle.std.proofs.Common.{refl, arith}
use Rattle.std.proofs.lemmas.Grind.{common_steps}
use Rattle.sch_step.proofs.loading.load_segments.Goals as goal

pub loop-segment-init : goal.loop-segment-init
loop-segment-init c = grind (arith, common_steps)

pub loop-segment-preserved : goal.loop-segment-preserved
loop-segment-preserved c = grind (arith, common_steps)

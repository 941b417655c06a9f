use Rattle.std.proofs.Common.{rules, arith}
use Rattle.std.proofs.lemmas.Grind.{common_steps}
use Rattle.sch_tests_passes.proofs.trees.write_restored.Goals as goal

pub place_restores-requires : goal.place_restores-requires
place_restores-requires g c = (
  first_of (search rules, grind (arith, common_steps), omega arith),
  (first_of (search rules, grind (arith, common_steps), omega arith), c.requires.saved),
)

pub assign_places-requires : goal.assign_places-requires
assign_places-requires g c = (
  first_of (search rules, grind (arith, common_steps), omega arith),
  (first_of (search rules, grind (arith, common_steps), omega arith), c.in_ok-restored.ensures.enough),
)

use Rattle.std.proofs.Common.{ap, arith}
use Rattle.std.specs.Prelude.{length}
use Rattle.sch_tests_passes.proofs.closures.made_of_numbered.Goals as goal

-- converting changes no body
pub made_of_cells-requires : goal.made_of_cells-requires
made_of_cells-requires c = omega (arith, ap length c.in_ok-converted.ensures.bodies, c.requires.bodies)

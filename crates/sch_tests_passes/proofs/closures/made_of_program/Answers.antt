use Rattle.std.proofs.Common.{ap, arith}
use Rattle.std.specs.Prelude.{length}
use Rattle.sch_lang.specs.ProgramView.{source}
use Rattle.sch_lang.proofs.BodyCounts.{bodies_within_nodes}
use Rattle.sch_lang.proofs.Measured.{bound_within_nodes}
use Rattle.sch_tests_passes.proofs.closures.made_of_program.Goals as goal

pub rename-requires : goal.rename-requires
rename-requires c = record { few = omega (arith, bound_within_nodes (source c.args.program.now), c.requires) }

-- renaming changes no body
pub made_of_numbered-requires : goal.made_of_numbered-requires
made_of_numbered-requires c = record {
  variables = omega (arith, c.in_ok-renamed.ensures.variables, bound_within_nodes (source c.args.program.now), c.requires);
  bodies = omega (arith, ap length c.in_ok-renamed.ensures.bodies, bodies_within_nodes (source c.args.program.now), c.requires);
}

use Rattle.std.proofs.Common.{◌≤◌, arith}
use Rattle.sch_lang.specs.Measures.{nodes_and_bound}
use Rattle.sch_lang.specs.ProgramView.{source}
use Rattle.sch_lang.specs.Tree.{Source, count_lambdas}
use Rattle.sch_tests_passes.proofs.texts.control_of_program.Goals as goal

-- a program has no more procedures of the library than nodes and bound variables
library_within_nodes : (p : Source) → count_lambdas p.library ≤ nodes_and_bound p
library_within_nodes p = omega arith

pub control_program-requires : goal.control_program-requires
control_program-requires c = record {
  library = omega (arith, library_within_nodes (source c.args.program.now), c.requires);
  small = omega (arith, c.requires);
}

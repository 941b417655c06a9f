use Rattle.sch_jumps.specs.Sizes.{ArePieces}
use Rattle.sch_tests_machine.proofs.chain.links.Given as goal

abbrev pub invariant-loop-label : goal.invariant-loop-label
invariant-loop-label l = ArePieces l.pieces

use Rattle.std.proofs.Common.{arith}
use Rattle.sch_read.specs.Views.{tree_of}
use Rattle.sch_read.proofs.ReleaseEffort.{some_weight}
use Rattle.sch_word.proofs.values.LiteralEffort.{lighter}
use Rattle.sch_read.proofs.release.opened.Goals as goal

pub returns-clause-less : goal.returns-clause-less
returns-clause-less c = lighter _ _ _ _ (omega (arith, c.taken.ensures.all, some_weight (tree_of c.args.d)))

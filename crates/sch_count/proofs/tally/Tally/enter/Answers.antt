use Rattle.std.proofs.Common.{arith}
use Rattle.sch_count.proofs.TallySteps.{activations_fit, entered}
use Rattle.sch_count.proofs.tally.Tally.enter.Goals as goal

pub overflow_add-row : goal.overflow_add-row
overflow_add-row c = let h = activations_fit c.args.self.now c.requires.room c.args.body c.index-row.result.now c.requires.known c.index-row.ensures in omega (arith, h)

pub returns-clause-tallies : goal.returns-clause-tallies
returns-clause-tallies c = λ a over free h. entered c.args.self.now a over h c.args.body c.index-row.result.now c.requires.known c.index-row.ensures free

use Rattle.std.proofs.Common.{arith}
use Rattle.sch_count.proofs.TallySteps.{open_known, saves, saves_fit}
use Rattle.sch_count.proofs.tally.Tally.save.Goals as goal

pub overflow_add-row : goal.overflow_add-row
overflow_add-row c =
    let h = saves_fit c.args.self.now c.requires.room c.in-Some.open.body c.index-row.result.now (open_known c.args.self.now c.requires.room c.in-Some.open c.in-Some.is) c.index-row.ensures in
    omega (arith, h)

pub returns-clause-tallies : goal.returns-clause-tallies
returns-clause-tallies c = λ a over x h. saves c.args.self.now a over c.in-Some.open c.in-Some.is h c.index-row.result.now x c.index-row.ensures

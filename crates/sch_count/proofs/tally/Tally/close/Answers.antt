use Rattle.std.proofs.Common.{arith}
use Rattle.sch_count.proofs.TallySteps.{closes_leaf, closes_caller, leaves_fit, leaf_saves_fit, open_known}
use Rattle.sch_count.proofs.tally.Tally.close.Goals as goal

pub overflow_add-row : goal.overflow_add-row
overflow_add-row c =
    let h = leaves_fit c.args.self.now c.requires.room c.in-Some.open.body c.index-row.result.now (open_known c.args.self.now c.requires.room c.in-Some.open c.in-Some.is) c.index-row.ensures in
    omega (arith, h)

pub overflow_add-row-then-not-open : goal.overflow_add-row-then-not-open
overflow_add-row-then-not-open c = let h = leaf_saves_fit c.args.self.now c.requires.room c.in-Some.open c.index-row.result.now c.in-Some.is c.index-row.ensures in omega (arith, h)

pub returns-then-not-open-clause-tallies : goal.returns-then-not-open-clause-tallies
returns-then-not-open-clause-tallies c = λ a over m enter call save h.
    closes_leaf c.args.self.now a over c.in-Some.open c.in-Some.is h m enter call save c.index-row.result.now c.if-not-open.true c.index-row.ensures

pub returns-else-not-open-clause-tallies : goal.returns-else-not-open-clause-tallies
returns-else-not-open-clause-tallies c = λ a over m enter call save h. closes_caller c.args.self.now a over c.in-Some.open c.in-Some.is h m enter call save c.if-not-open.false

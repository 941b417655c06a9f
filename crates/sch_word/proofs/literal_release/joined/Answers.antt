use Rattle.std.proofs.Common.{arith}
use Rattle.sch_word.proofs.values.LiteralEffort.{lighter}
use Rattle.sch_word.proofs.literal_release.joined.Goals as goal

pub returns-then-is_empty-clause-less : goal.returns-then-is_empty-clause-less
returns-then-is_empty-clause-less c = lighter _ _ _ _ (omega (arith, c.taken.ensures.all))

pub returns-then-is_empty-2-clause-less : goal.returns-then-is_empty-2-clause-less
returns-then-is_empty-2-clause-less c = lighter _ _ _ _ (omega (arith, c.taken-then-is_empty-2.ensures.all))

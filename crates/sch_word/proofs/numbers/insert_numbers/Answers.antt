use Rattle.sch_word.proofs.facts.NumberSets.{union_next}
use Rattle.sch_word.proofs.numbers.insert_numbers.Goals as goal

pub loop-x-preserved : goal.loop-x-preserved
loop-x-preserved c = record { left = union_next c.args.more.now c.loop-x.x-index c.loop-x.xs.items c.insert_number.new.xs.items _ c.loop-x-test.true c.in_ok-insert_number.ensures c.loop-x.invariant.left }

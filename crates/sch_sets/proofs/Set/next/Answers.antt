use Rattle.std.proofs.Common.{arith}
use Rattle.sch_sets.proofs.WordSets.{first_in_word, none_in_word, none_before}
use Rattle.sch_sets.proofs.Set.next.Goals as goal

pub returns-then-v-end : goal.returns-then-v-end
returns-then-v-end g c =
    first_in_word c.args.self.now c.args.from c.args.end c.words.i c.members_in_word-word.result c.members_in_word-word.ensures c.if-word-ne0.true (omega arith)
    c.words.invariant c.if-v-end.true

pub returns-else-v-end : goal.returns-else-v-end
returns-else-v-end g c =
    none_before c.args.self.now c.args.from c.args.end c.words.i c.members_in_word-word.result c.members_in_word-word.ensures c.if-word-ne0.true (omega arith)
    c.words.invariant (omega (arith, c.if-v-end.false))

pub words-preserved : goal.words-preserved
words-preserved g c =
    none_in_word c.args.self.now c.args.from c.words.i c.members_in_word-word.result c.members_in_word-word.ensures (omega (arith, c.if-word-ne0.false)) c.words.invariant

use Rattle.std.proofs.Common.{◌+◌, ◌/◌, length}
use Rattle.sch_select_data.proofs.TextSteps.{text_goes_on}
use Rattle.sch_select_data.proofs.data_words.push_text.Goals as goal

pub loop-k-preserved : goal.loop-k-preserved
loop-k-preserved c = record {
  words = text_goes_on ((length c.args.text.now + 7) / 8) c.loop-k.k c.word_at.result c.args.text.now c.loop-k.words
      c.push.new.self _ c.loop-k-test.true c.word_at.ensures c.in_ok-push.ensures.ok c.loop-k.invariant.words;
}

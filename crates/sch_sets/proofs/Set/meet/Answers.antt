use Rattle.std.proofs.Common.{arith, get_or}
use Rattle.std.proofs.Math.ListN.{length-set}
use Rattle.std.specs.Prelude.{bit_and}
use Rattle.sch_sets.proofs.WordSets.{numbers_in-intersection, word_written}
use Rattle.sch_sets.proofs.Set.meet.Goals as goal

pub returns : goal.returns
returns g c =
    rw (← c.self.view_is, ← c.other.view_is)
    (numbers_in-intersection g.row.N _ _ _ (omega arith) (omega arith) (omega arith) (λ j h. c.words.invariant.written j (omega arith)))

pub words-preserved : goal.words-preserved
words-preserved g c = record {
  size = simp length-set (omega arith);
  written =
      word_written (λ j. bit_and (get_or c.self.inside.words j 0) (get_or c.other.inside.words j 0)) c.words.words c.words.i (omega arith)
      c.words.invariant.written;
}

-- What of a store never falls: the output, the bytes charged and the objects grow, procedure entries
-- and kernel answers are only used up, and the constants stay.
use Rattle.std.specs.Prelude.{◌≡◌, ℕ, ◌≤◌, List, ◌++◌, length}
use Rattle.sch_word.specs.declared.answer.Answer.{Answer}
use Rattle.sch_word.specs.runs.Store.{Store}

pub record GrowsTo (s t : Store) : Type 0 where
  pub constants : t.constants ≡ s.constants
  pub written : List ℕ
  pub output : t.output ≡ s.output ++ written
  pub used : List Answer
  pub answers : s.answers ≡ used ++ t.answers
  pub charged : s.charged ≤ t.charged
  pub objects : length s.objects ≤ length t.objects
  pub entries : t.entries ≤ s.entries

use Rattle.std.proofs.Common.{◌≡◌, ◌*◌, ◌∷◌, length}
use Rattle.sch_select_data.specs.ObjectWords.{text_words}
use Rattle.sch_select_data.proofs.contents.string_words.Given as goal

abbrev pub invariant-loop-k : goal.invariant-loop-k
invariant-loop-k l = l.words ≡ 8 * length l.text ∷ text_words l.k l.text

use Rattle.std.proofs.Common.{◌≡◌, ◌+◌, ◌-◌, ◌*◌, ◌/◌, ◌++◌, drop, length, map}
use Rattle.sch_asm.specs.declared.assembly.Word.TheVariants.{Fixed}
use Rattle.sch_select_data.specs.ObjectWords.{text_words}
use Rattle.sch_select_data.proofs.data_words.push_text.Given as goal

abbrev pub invariant-loop-k : goal.invariant-loop-k
invariant-loop-k l = record {
  words : l.words ++ map Fixed (text_words ((length l.text + 7) / 8 - l.k) (drop (8 * l.k) l.text)) ≡ l.initial.words ++ map Fixed
      (text_words ((length l.text + 7) / 8) l.text);
}

use Rattle.std.proofs.Common.{◌≡◌, ◌+◌, ◌++◌, reverse, take}
use Rattle.sch_select_data.specs.PlacedWords.{list_word, linked_words}
use Rattle.sch_select_data.proofs.contents.put_pairs.Given as goal

abbrev pub invariant-loop-value : goal.invariant-loop-value
invariant-loop-value l = record {
  unit_is : l.unit + l.value-index ≡ l.end;
  rest_is : l.rest ≡ list_word l.unit (reverse (take l.value-index l.value-items)) l.last;
  words_are : l.words ≡ l.initial.words ++ reverse (linked_words l.unit (reverse (take l.value-index l.value-items)) l.last);
}

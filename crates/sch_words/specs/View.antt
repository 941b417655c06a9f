-- The code's texts as those of the definitions.
use Rattle.std.specs.Prelude.{option_map}
use Rattle.sch_words.specs.GivenTexts.{Texts}
use Rattle.sch_words.specs.declared.Words.{Words}

abbrev pub texts_of : Words → Texts
texts_of words = record {
  verb = option_map (λ text. text.now) words.verb;
  name = option_map (λ text. text.now) words.name;
  second = option_map (λ text. text.now) words.second;
  listing = option_map (λ text. text.now) words.listing;
  heap = option_map (λ text. text.now) words.heap;
  depth = option_map (λ text. text.now) words.depth;
  steps = option_map (λ text. text.now) words.steps;
}

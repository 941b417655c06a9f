-- What the words of small command lines give, or that they are refused. Each statement is computed.
use Rattle.std.proofs.Common.{codes, refl, List, [], ◌∷◌, Option, Some, None, ◌≡◌}
use Rattle.std.specs.Prelude.{if◌then◌else◌, ◌==◌}
use Rattle.std.specs.List.{onto_first}
use Rattle.sch_words.specs.GivenTexts.{Text, Texts}
use Rattle.sch_words.specs.PlainReading.{given_in, plain_reading, positionals_in}

abbrev no_texts : Texts
no_texts = record { verb = None; name = None; second = None; listing = None; heap = None; depth = None; steps = None }

-- the words of a line, each behind one space but the first
abbrev words_of : Text → List Text
words_of [] = [] ∷ []
words_of (byte ∷ bytes) = if byte == 32 then [] ∷ words_of bytes else onto_first byte (words_of bytes)

abbrev line : Text → Option Texts
line text = plain_reading (words_of text)

no_words : plain_reading [] ≡ Some no_texts
unfolding given_in
no_words = refl

-- `-é`
flag_outside_ascii : line (45 ∷ 195 ∷ 169 ∷ []) ≡ None
unfolding given_in positionals_in
flag_outside_ascii = refl

dashes_alone : line (codes "--") ≡ Some no_texts
unfolding given_in positionals_in
dashes_alone = refl

three_positionals : line (codes "a b c")
    ≡ Some (record no_texts { verb = Some (codes "a"); name = Some (codes "b"); second = Some (codes "c") })
unfolding given_in positionals_in
three_positionals = refl

four_positionals : line (codes "a b c d") ≡ None
unfolding given_in positionals_in
four_positionals = refl

option_behind : line (codes "run p --heap 64")
    ≡ Some (record no_texts { verb = Some (codes "run"); name = Some (codes "p"); heap = Some (codes "64") })
unfolding given_in positionals_in
option_behind = refl

option_between : line (codes "run --heap=64 p")
    ≡ Some (record no_texts { verb = Some (codes "run"); name = Some (codes "p"); heap = Some (codes "64") })
unfolding given_in positionals_in
option_between = refl

option_before : line (codes "--heap=64 run p")
    ≡ Some (record no_texts { verb = Some (codes "run"); name = Some (codes "p"); heap = Some (codes "64") })
unfolding given_in positionals_in
option_before = refl

option_takes_next_word : line (codes "--heap run p") ≡ Some (record no_texts { verb = Some (codes "p"); heap = Some (codes "run") })
unfolding given_in positionals_in
option_takes_next_word = refl

all_texts : line (codes "run p --steps 7 --listing f --depth=3 --heap 9 q") ≡ Some (record {
  verb = Some (codes "run");
  name = Some (codes "p");
  second = Some (codes "q");
  listing = Some (codes "f");
  heap = Some (codes "9");
  depth = Some (codes "3");
  steps = Some (codes "7");
})
unfolding given_in positionals_in
all_texts = refl

empty_text : line (codes "run p --heap=")
    ≡ Some (record no_texts { verb = Some (codes "run"); name = Some (codes "p"); heap = Some (codes "") })
unfolding given_in positionals_in
empty_text = refl

empty_next_word : line (codes "run p --heap ")
    ≡ Some (record no_texts { verb = Some (codes "run"); name = Some (codes "p"); heap = Some (codes "") })
unfolding given_in positionals_in
empty_next_word = refl

text_is_equals : line (codes "--heap==") ≡ Some (record no_texts { heap = Some (codes "=") })
unfolding given_in positionals_in
text_is_equals = refl

text_with_equals : line (codes "--heap=a=b") ≡ Some (record no_texts { heap = Some (codes "a=b") })
unfolding given_in positionals_in
text_with_equals = refl

text_like_an_option : line (codes "--heap=--depth=5") ≡ Some (record no_texts { heap = Some (codes "--depth=5") })
unfolding given_in positionals_in
text_like_an_option = refl

text_like_a_flag : line (codes "--heap=-5") ≡ Some (record no_texts { heap = Some (codes "-5") })
unfolding given_in positionals_in
text_like_a_flag = refl

hyphen_for_an_option : line (codes "--heap -") ≡ Some (record no_texts { heap = Some (codes "-") })
unfolding given_in positionals_in
hyphen_for_an_option = refl

hyphen_for_a_positional : line (codes "run -") ≡ Some (record no_texts { verb = Some (codes "run"); name = Some (codes "-") })
unfolding given_in positionals_in
hyphen_for_a_positional = refl

flag_for_an_option : line (codes "--heap -5") ≡ None
unfolding given_in positionals_in
flag_for_an_option = refl

option_for_an_option : line (codes "--heap --depth 5") ≡ None
unfolding given_in positionals_in
option_for_an_option = refl

option_without_text : line (codes "run p --heap") ≡ None
unfolding given_in positionals_in
option_without_text = refl

dashes_for_an_option : line (codes "--heap --") ≡ None
unfolding given_in positionals_in
dashes_for_an_option = refl

dashes_and_more_for_an_option : line (codes "--heap -- 5") ≡ None
unfolding given_in positionals_in
dashes_and_more_for_an_option = refl

option_twice : line (codes "--heap=1 --heap=1") ≡ None
unfolding given_in positionals_in
option_twice = refl

option_twice_in_two_spellings : line (codes "--heap 1 run --heap=2") ≡ None
unfolding given_in positionals_in
option_twice_in_two_spellings = refl

abbreviation : line (codes "--he 5") ≡ None
unfolding given_in positionals_in
abbreviation = refl

abbreviation_with_text : line (codes "--he=5") ≡ None
unfolding given_in positionals_in
abbreviation_with_text = refl

capital_letter : line (codes "--Heap=5") ≡ None
unfolding given_in positionals_in
capital_letter = refl

hyphen_after_name : line (codes "--heap-=5") ≡ None
unfolding given_in positionals_in
hyphen_after_name = refl

three_hyphens : line (codes "---heap=5") ≡ None
unfolding given_in positionals_in
three_hyphens = refl

no_name : line (codes "--=5") ≡ None
unfolding given_in positionals_in
no_name = refl

unknown_flag : line (codes "-x") ≡ None
unfolding given_in positionals_in
unknown_flag = refl

number_with_sign : line (codes "run -5") ≡ None
unfolding given_in positionals_in
number_with_sign = refl

short_help : line (codes "-h") ≡ None
unfolding given_in positionals_in
short_help = refl

short_version : line (codes "-V") ≡ None
unfolding given_in positionals_in
short_version = refl

long_help : line (codes "--help") ≡ None
unfolding given_in positionals_in
long_help = refl

long_version : line (codes "--version") ≡ None
unfolding given_in positionals_in
long_version = refl

help_is_a_text : line (codes "help run") ≡ Some (record no_texts { verb = Some (codes "help"); name = Some (codes "run") })
unfolding given_in positionals_in
help_is_a_text = refl

flag_after_dashes : line (codes "run -- -x") ≡ Some (record no_texts { verb = Some (codes "run"); name = Some (codes "-x") })
unfolding given_in positionals_in
flag_after_dashes = refl

option_after_dashes : line (codes "run -- --heap=5") ≡ Some (record no_texts { verb = Some (codes "run"); name = Some (codes "--heap=5") })
unfolding given_in positionals_in
option_after_dashes = refl

dashes_after_dashes : line (codes "-- --") ≡ Some (record no_texts { verb = Some (codes "--") })
unfolding given_in positionals_in
dashes_after_dashes = refl

second_dashes_after_dashes : line (codes "run p -- --")
    ≡ Some (record no_texts { verb = Some (codes "run"); name = Some (codes "p"); second = Some (codes "--") })
unfolding given_in positionals_in
second_dashes_after_dashes = refl

third_after_dashes : line (codes "a b -- c")
    ≡ Some (record no_texts { verb = Some (codes "a"); name = Some (codes "b"); second = Some (codes "c") })
unfolding given_in positionals_in
third_after_dashes = refl

fourth_after_dashes : line (codes "a b c -- d") ≡ None
unfolding given_in positionals_in
fourth_after_dashes = refl

two_after_dashes_too_many : line (codes "a b -- c d") ≡ None
unfolding given_in positionals_in
two_after_dashes_too_many = refl

empty_word : line (codes "") ≡ Some (record no_texts { verb = Some (codes "") })
unfolding given_in positionals_in
empty_word = refl

empty_name : line (codes "run ") ≡ Some (record no_texts { verb = Some (codes "run"); name = Some (codes "") })
unfolding given_in positionals_in
empty_name = refl

equals_alone : line (codes "=") ≡ Some (record no_texts { verb = Some (codes "=") })
unfolding given_in positionals_in
equals_alone = refl

option_of_listing : line (codes "--listing f") ≡ Some (record no_texts { listing = Some (codes "f") })
unfolding given_in positionals_in
option_of_listing = refl

option_of_depth : line (codes "--depth=5") ≡ Some (record no_texts { depth = Some (codes "5") })
unfolding given_in positionals_in
option_of_depth = refl

option_of_steps : line (codes "--steps 7") ≡ Some (record no_texts { steps = Some (codes "7") })
unfolding given_in positionals_in
option_of_steps = refl

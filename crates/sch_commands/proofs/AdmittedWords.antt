-- Which texts and which words are a command, and of what: rows of the table of verbs. Each statement is computed.
use Rattle.std.proofs.Common.{codes, refl, List, ℕ, [], ◌∷◌, Some, None, ◌≡◌}
use Rattle.sch_words.specs.GivenTexts.{Texts}
use Rattle.sch_words.specs.PlainReading.{given_in, positionals_in}
use Rattle.sch_commands.specs.Command.{admitted, command, compile, count, gen, list, run, step}

abbrev texts : (verb name : List ℕ) → Texts
texts verb name = record { verb = Some verb; name = Some name; second = None; listing = None; heap = None; depth = None; steps = None }

-- ---- `compile`

compiles_two_names : admitted (record (texts (codes "compile") (codes "a")) { second = Some (codes "b") }) ≡ Some (compile (codes "a") (codes "b") None 67108864 100000)
compiles_two_names = refl

compiles_with_limits : admitted (record (texts (codes "compile") (codes "a")) { second = Some (codes "b"); heap = Some (codes "4096"); depth = Some (codes "7") }) ≡ Some (compile (codes "a") (codes "b") None 4096 7)
compiles_with_limits = refl

compiles_no_single_name : admitted (texts (codes "compile") (codes "a")) ≡ None
compiles_no_single_name = refl

compiles_no_equal_names : admitted (record (texts (codes "compile") (codes "a")) { second = Some (codes "a") }) ≡ None
compiles_no_equal_names = refl

compiles_no_empty_source : admitted (record (texts (codes "compile") (codes "")) { second = Some (codes "b") }) ≡ None
compiles_no_empty_source = refl

compiles_no_empty_target : admitted (record (texts (codes "compile") (codes "a")) { second = Some (codes "") }) ≡ None
compiles_no_empty_target = refl

compiles_without_steps : admitted (record (texts (codes "compile") (codes "a")) { second = Some (codes "b"); steps = Some (codes "1") }) ≡ None
compiles_without_steps = refl

compiles_with_a_listing : admitted (record (texts (codes "compile") (codes "a")) { second = Some (codes "b"); listing = Some (codes "f") }) ≡ Some (compile (codes "a") (codes "b") (Some (codes "f")) 67108864 100000)
compiles_with_a_listing = refl

compiles_no_empty_listing : admitted (record (texts (codes "compile") (codes "a")) { second = Some (codes "b"); listing = Some (codes "") }) ≡ None
compiles_no_empty_listing = refl

compiles_no_listing_of_the_source : admitted (record (texts (codes "compile") (codes "a")) { second = Some (codes "b"); listing = Some (codes "a") }) ≡ None
compiles_no_listing_of_the_source = refl

compiles_no_listing_of_the_target : admitted (record (texts (codes "compile") (codes "a")) { second = Some (codes "b"); listing = Some (codes "b") }) ≡ None
compiles_no_listing_of_the_target = refl

-- ---- `run`

runs_one_name : admitted (texts (codes "run") (codes "a")) ≡ Some (run (codes "a") 67108864 100000 1000000000)
runs_one_name = refl

runs_with_options : admitted (record (texts (codes "run") (codes "a")) { heap = Some (codes "8192"); depth = Some (codes "1"); steps = Some (codes "0") }) ≡ Some (run (codes "a") 8192 1 0)
runs_with_options = refl

runs_a_name_like_an_option : admitted (texts (codes "run") (codes "--heap=1")) ≡ Some (run (codes "--heap=1") 67108864 100000 1000000000)
runs_a_name_like_an_option = refl

runs_no_second_name : admitted (record (texts (codes "run") (codes "a")) { second = Some (codes "b") }) ≡ None
runs_no_second_name = refl

runs_no_empty_name : admitted (texts (codes "run") (codes "")) ≡ None
runs_no_empty_name = refl

runs_without_listing : admitted (record (texts (codes "run") (codes "a")) { listing = Some (codes "f") }) ≡ None
runs_without_listing = refl

-- ---- `step`

steps_one_name : admitted (record (texts (codes "step") (codes "a")) { steps = Some (codes "5") }) ≡ Some (step (codes "a") 5)
steps_one_name = refl

steps_at_most : admitted (texts (codes "step") (codes "a")) ≡ Some (step (codes "a") 1000000000)
steps_at_most = refl

steps_no_second_name : admitted (record (texts (codes "step") (codes "a")) { second = Some (codes "b") }) ≡ None
steps_no_second_name = refl

steps_no_empty_name : admitted (texts (codes "step") (codes "")) ≡ None
steps_no_empty_name = refl

steps_without_heap : admitted (record (texts (codes "step") (codes "a")) { heap = Some (codes "4096") }) ≡ None
steps_without_heap = refl

steps_without_depth : admitted (record (texts (codes "step") (codes "a")) { depth = Some (codes "1") }) ≡ None
steps_without_depth = refl

steps_without_listing : admitted (record (texts (codes "step") (codes "a")) { listing = Some (codes "f") }) ≡ None
steps_without_listing = refl

-- ---- `gen`

makes_of_a_number : admitted (texts (codes "gen") (codes "0")) ≡ Some (gen 0 1000000000)
makes_of_a_number = refl

makes_with_steps : admitted (record (texts (codes "gen") (codes "007")) { steps = Some (codes "5") }) ≡ Some (gen 7 5)
makes_with_steps = refl

greatest_number : admitted (texts (codes "gen") (codes "2147483647")) ≡ Some (gen 2147483647 1000000000)
greatest_number = refl

number_too_large : admitted (texts (codes "gen") (codes "2147483648")) ≡ None
number_too_large = refl

makes_of_no_name : admitted (texts (codes "gen") (codes "a")) ≡ None
makes_of_no_name = refl

makes_of_no_sign : admitted (texts (codes "gen") (codes "-1")) ≡ None
makes_of_no_sign = refl

makes_of_no_empty_number : admitted (texts (codes "gen") (codes "")) ≡ None
makes_of_no_empty_number = refl

makes_of_no_second_number : admitted (record (texts (codes "gen") (codes "0")) { second = Some (codes "1") }) ≡ None
makes_of_no_second_number = refl

makes_without_heap : admitted (record (texts (codes "gen") (codes "0")) { heap = Some (codes "4096") }) ≡ None
makes_without_heap = refl

makes_without_depth : admitted (record (texts (codes "gen") (codes "0")) { depth = Some (codes "1") }) ≡ None
makes_without_depth = refl

makes_without_listing : admitted (record (texts (codes "gen") (codes "0")) { listing = Some (codes "f") }) ≡ None
makes_without_listing = refl

-- ---- `list`

lists_one_name : admitted (texts (codes "list") (codes "a")) ≡ Some (list (codes "a") 67108864 100000)
lists_one_name = refl

lists_with_limits : admitted (record (texts (codes "list") (codes "a")) { heap = Some (codes "4096"); depth = Some (codes "7") }) ≡ Some (list (codes "a") 4096 7)
lists_with_limits = refl

lists_no_second_name : admitted (record (texts (codes "list") (codes "a")) { second = Some (codes "b") }) ≡ None
lists_no_second_name = refl

lists_no_empty_name : admitted (texts (codes "list") (codes "")) ≡ None
lists_no_empty_name = refl

lists_without_steps : admitted (record (texts (codes "list") (codes "a")) { steps = Some (codes "1") }) ≡ None
lists_without_steps = refl

lists_without_listing : admitted (record (texts (codes "list") (codes "a")) { listing = Some (codes "f") }) ≡ None
lists_without_listing = refl

-- ---- `count`

counts_one_name : admitted (texts (codes "count") (codes "a")) ≡ Some (count (codes "a") 67108864 100000 1000000000)
counts_one_name = refl

counts_with_options : admitted (record (texts (codes "count") (codes "a")) { heap = Some (codes "8192"); depth = Some (codes "1"); steps = Some (codes "0") }) ≡ Some (count (codes "a") 8192 1 0)
counts_with_options = refl

counts_no_second_name : admitted (record (texts (codes "count") (codes "a")) { second = Some (codes "b") }) ≡ None
counts_no_second_name = refl

counts_no_empty_name : admitted (texts (codes "count") (codes "")) ≡ None
counts_no_empty_name = refl

counts_without_listing : admitted (record (texts (codes "count") (codes "a")) { listing = Some (codes "f") }) ≡ None
counts_without_listing = refl

-- ---- no verb of the table

other_verb : admitted (texts (codes "counts") (codes "a")) ≡ None
other_verb = refl

capital_verb : admitted (texts (codes "Run") (codes "a")) ≡ None
capital_verb = refl

empty_verb : admitted (texts (codes "") (codes "a")) ≡ None
empty_verb = refl

no_verb : admitted (record (texts (codes "run") (codes "a")) { verb = None }) ≡ None
no_verb = refl

no_name : admitted (record (texts (codes "run") (codes "a")) { name = None }) ≡ None
no_name = refl

-- ---- bounds

least_heap : admitted (record (texts (codes "run") (codes "a")) { heap = Some (codes "4080") }) ≡ None
least_heap = refl

heap_of_sixteens : admitted (record (texts (codes "run") (codes "a")) { heap = Some (codes "4097") }) ≡ None
heap_of_sixteens = refl

greatest_heap : admitted (record (texts (codes "run") (codes "a")) { heap = Some (codes "1073741824") }) ≡ Some (run (codes "a") 1073741824 100000 1000000000)
greatest_heap = refl

heap_too_large : admitted (record (texts (codes "run") (codes "a")) { heap = Some (codes "1073741840") }) ≡ None
heap_too_large = refl

no_depth : admitted (record (texts (codes "run") (codes "a")) { depth = Some (codes "0") }) ≡ None
no_depth = refl

greatest_depth : admitted (record (texts (codes "run") (codes "a")) { depth = Some (codes "10000000") }) ≡ Some (run (codes "a") 67108864 10000000 1000000000)
greatest_depth = refl

depth_too_large : admitted (record (texts (codes "run") (codes "a")) { depth = Some (codes "10000001") }) ≡ None
depth_too_large = refl

most_steps : admitted (record (texts (codes "run") (codes "a")) { steps = Some (codes "1000000000000000000") }) ≡ Some (run (codes "a") 67108864 100000 1000000000000000000)
most_steps = refl

too_many_steps : admitted (record (texts (codes "run") (codes "a")) { steps = Some (codes "1000000000000000001") }) ≡ None
too_many_steps = refl

-- ---- the spelling of a number

nineteen_digits : admitted (record (texts (codes "step") (codes "a")) { steps = Some (codes "0000000000000000012") }) ≡ Some (step (codes "a") 12)
nineteen_digits = refl

twenty_digits : admitted (record (texts (codes "step") (codes "a")) { steps = Some (codes "00000000000000000012") }) ≡ None
twenty_digits = refl

no_digits : admitted (record (texts (codes "step") (codes "a")) { steps = Some (codes "") }) ≡ None
no_digits = refl

no_digit_behind : admitted (record (texts (codes "step") (codes "a")) { steps = Some (codes "1x") }) ≡ None
no_digit_behind = refl

no_plus : admitted (record (texts (codes "step") (codes "a")) { steps = Some (codes "+1") }) ≡ None
no_plus = refl

no_minus : admitted (record (texts (codes "step") (codes "a")) { steps = Some (codes "-1") }) ≡ None
no_minus = refl

-- ---- words

option_in_one_word : command (codes "run" ∷ codes "--heap=4096" ∷ codes "p.scm" ∷ []) ≡ Some (run (codes "p.scm") 4096 100000 1000000000)
unfolding given_in positionals_in
option_in_one_word = refl

option_in_two_words : command (codes "--steps" ∷ codes "0" ∷ codes "run" ∷ codes "p" ∷ []) ≡ Some (run (codes "p") 67108864 100000 0)
unfolding given_in positionals_in
option_in_two_words = refl

name_behind_dashes : command (codes "step" ∷ codes "--" ∷ codes "-p" ∷ []) ≡ Some (step (codes "-p") 1000000000)
unfolding given_in positionals_in
name_behind_dashes = refl

two_names_and_an_option : command (codes "compile" ∷ codes "a" ∷ codes "--depth=7" ∷ codes "b" ∷ []) ≡ Some (compile (codes "a") (codes "b") None 67108864 7)
unfolding given_in positionals_in
two_names_and_an_option = refl

listing_anywhere : command (codes "--listing=f" ∷ codes "compile" ∷ codes "a" ∷ codes "b" ∷ []) ≡ Some (compile (codes "a") (codes "b") (Some (codes "f")) 67108864 100000)
unfolding given_in positionals_in
listing_anywhere = refl

counts_no_steps : command (codes "count" ∷ codes "p.scm" ∷ codes "--steps" ∷ codes "0" ∷ []) ≡ Some (count (codes "p.scm") 67108864 100000 0)
unfolding given_in positionals_in
counts_no_steps = refl

hyphen_is_a_name : command (codes "run" ∷ codes "-" ∷ []) ≡ Some (run (codes "-") 67108864 100000 1000000000)
unfolding given_in positionals_in
hyphen_is_a_name = refl

flag_is_no_name : command (codes "run" ∷ codes "-p" ∷ []) ≡ None
unfolding given_in positionals_in
flag_is_no_name = refl

option_twice : command (codes "run" ∷ codes "p" ∷ codes "--heap" ∷ codes "4096" ∷ codes "--heap=4096" ∷ []) ≡ None
unfolding given_in positionals_in
option_twice = refl

help_is_unknown : command (codes "--help" ∷ []) ≡ None
unfolding given_in positionals_in
help_is_unknown = refl

makes_of_words : command (codes "gen" ∷ codes "--steps=9" ∷ codes "12" ∷ []) ≡ Some (gen 12 9)
unfolding given_in positionals_in
makes_of_words = refl

makes_of_no_flag : command (codes "gen" ∷ codes "-1" ∷ []) ≡ None
unfolding given_in positionals_in
makes_of_no_flag = refl

makes_of_something : command (codes "gen" ∷ []) ≡ None
unfolding given_in positionals_in
makes_of_something = refl

no_words : command [] ≡ None
unfolding given_in positionals_in
no_words = refl

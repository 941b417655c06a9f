-- The words that are a command: read as one simple command, they give texts that the table of verbs admits.
use Rattle.std.specs.Prelude.{ℕ, ◌^◌, ◌-◌, ◌%◌, nat_le, List, [], ◌∷◌, length, codes, Bool, true, false, not, ◌&&◌, ◌||◌, ◌==◌, Option, Some, None, if◌then◌else◌}
use Rattle.std.specs.Str.{bytes_eq}
use Rattle.std.specs.Char.{is_ascii_digit}
use Rattle.std.specs.List.{list_all}
use Rattle.std.specs.Option.{is_some, option_and_then, option_map}
use Rattle.std.specs.Str.Parse.{digits_value}
use Rattle.sch_word.specs.declared.limits.TheConstants.{MIN_HEAP, MAX_HEAP, MIN_DEPTH, MAX_DEPTH}
use Rattle.sch_words.specs.GivenTexts.{Text, Texts}
use Rattle.sch_words.specs.PlainReading.{plain_reading}

-- ---- what is taken where the words give nothing

abbrev pub default_steps : ℕ
default_steps = 10 ^ 9

-- the limits of a program: its heap, 64 MiB, and its depth
abbrev pub default_heap : ℕ
default_heap = 2 ^ 26

abbrev pub default_depth : ℕ
default_depth = 10 ^ 5

-- ---- commands

-- `compile` reads a source and writes a target, and a listing where a name is given for it; `run` compiles a source and runs
-- it; `count` does so too, and counts; `list` lists what is compiled of a source: all of them under limits of heap and depth.
-- `step` runs an image; `gen` compiles and runs the text that is made of a number. What is run takes at most `steps` steps.
pub data Command : Type 0 where
  compile : (source target : List ℕ) → (listing : Option (List ℕ)) → (heap depth : ℕ) → Command
  run : (source : List ℕ) → (heap depth steps : ℕ) → Command
  step : (image : List ℕ) → (steps : ℕ) → Command
  gen : (number steps : ℕ) → Command
  list : (source : List ℕ) → (heap depth : ℕ) → Command
  count : (source : List ℕ) → (heap depth steps : ℕ) → Command

-- ---- names

abbrev pub is_name : Text → Bool
is_name [] = false
is_name (byte ∷ bytes) = true

-- the name, where there is no second one
abbrev pub only_name : Texts → Option Text
only_name given = if is_some given.second then None
    else option_and_then (λ name. if is_name name then Some name else None) given.name

-- both names, where they differ
abbrev pub both_names : Texts → Option (Text × Text)
both_names given = option_and_then (λ name. option_and_then (λ second.
    if is_name name && is_name second && not (bytes_eq name second) then Some (name, second) else None) given.second) given.name

-- where a name is given for a listing, it is none of these two
abbrev pub is_listing : (name second : Text) → Option Text → Bool
is_listing name second None = true
is_listing name second (Some listing) = is_name listing && not (bytes_eq listing name) && not (bytes_eq listing second)

-- ---- numbers

-- the most digits of a number
abbrev pub max_digits : ℕ
max_digits = 19

-- decimal digits, at least one
abbrev pub is_number : Text → Bool
is_number digits = nat_le 1 (length digits) && nat_le (length digits) max_digits && list_all is_ascii_digit digits

-- the number that an option gives, or another where the option is not there
abbrev pub number_or : ℕ → Option Text → Option ℕ
number_or other None = Some other
number_or other (Some digits) = if is_number digits then Some (digits_value 10 digits) else None

-- the greatest number of which a text is made
abbrev pub max_program_number : ℕ
max_program_number = 2 ^ 31 - 1

-- the number of a text, in decimal digits
abbrev pub program_number : Text → Option ℕ
program_number digits =
    if is_number digits && nat_le (digits_value 10 digits) max_program_number then Some (digits_value 10 digits) else None

-- the most steps
abbrev pub max_steps : ℕ
max_steps = 10 ^ 18

abbrev pub steps_of : Texts → Option ℕ
steps_of given = option_and_then (λ steps. if nat_le steps max_steps then Some steps else None) (number_or default_steps given.steps)

-- limits that are admitted
abbrev pub are_limits : (heap depth : ℕ) → Bool
are_limits heap depth = nat_le MIN_HEAP heap && nat_le heap MAX_HEAP && heap % 16 == 0 && nat_le MIN_DEPTH depth && nat_le depth MAX_DEPTH

-- a heap and a depth
abbrev pub limits_of : Texts → Option (ℕ × ℕ)
limits_of given = option_and_then (λ heap. option_and_then (λ depth.
    if are_limits heap depth then Some (heap, depth) else None) (number_or default_depth given.depth)) (number_or default_heap given.heap)

-- ---- the table of verbs, with the names and options that they take

abbrev pub compile_of : Texts → Option Command
compile_of given = if is_some given.steps then None
    else option_and_then (λ names. if is_listing names.0 names.1 given.listing
    then option_map (λ limits. compile names.0 names.1 given.listing limits.0 limits.1) (limits_of given) else None) (both_names given)

abbrev pub run_of : Texts → Option Command
run_of given = option_and_then (λ source. option_and_then (λ steps.
    option_map (λ limits. run source limits.0 limits.1 steps) (limits_of given)) (steps_of given)) (only_name given)

abbrev pub step_of : Texts → Option Command
step_of given = if is_some given.heap || is_some given.depth then None
    else option_and_then (λ image. option_map (λ steps. step image steps) (steps_of given)) (only_name given)

abbrev pub gen_of : Texts → Option Command
gen_of given = if is_some given.heap || is_some given.depth then None
    else option_and_then (λ name. option_and_then (λ number. option_map (λ steps. gen number steps) (steps_of given)) (program_number name)) (only_name given)

abbrev pub list_of : Texts → Option Command
list_of given = if is_some given.steps then None
    else option_and_then (λ source. option_map (λ limits. list source limits.0 limits.1) (limits_of given)) (only_name given)

abbrev pub count_of : Texts → Option Command
count_of given = option_and_then (λ source. option_and_then (λ steps.
    option_map (λ limits. count source limits.0 limits.1 steps) (limits_of given)) (steps_of given)) (only_name given)

-- `compile` alone takes a listing
abbrev pub verb_of : Text → Texts → Option Command
verb_of verb given =
    if bytes_eq verb (codes "compile") then compile_of given
    else if is_some given.listing then None
    else if bytes_eq verb (codes "run") then run_of given
    else if bytes_eq verb (codes "step") then step_of given
    else if bytes_eq verb (codes "gen") then gen_of given
    else if bytes_eq verb (codes "list") then list_of given
    else if bytes_eq verb (codes "count") then count_of given
    else None

-- The command of texts: `compile NAME NAME2 [--listing F] [--heap N] [--depth N]`, `run NAME [--heap N] [--depth N] [--steps N]`,
-- `step NAME [--steps N]`, `gen N [--steps N]`, `list NAME [--heap N] [--depth N]` or
-- `count NAME [--heap N] [--depth N] [--steps N]`.
abbrev pub admitted : Texts → Option Command
admitted given = option_and_then (λ verb. verb_of verb given) given.verb

-- the command of words
abbrev pub command : (words : List Text) → Option Command
command words = option_and_then admitted (plain_reading words)

-- what holds of the names, the number, the limits and the steps of a verb, where the words are its command
abbrev pub IfCompile : Option Command → ((source target : List ℕ) → (listing : Option (List ℕ)) → (heap depth : ℕ) → Type 0) → Type 0
IfCompile (Some (compile source target listing heap depth)) P = P source target listing heap depth
IfCompile _ P = Unit {0}

abbrev pub IfRun : Option Command → ((source : List ℕ) → (heap depth steps : ℕ) → Type 0) → Type 0
IfRun (Some (run source heap depth steps)) P = P source heap depth steps
IfRun _ P = Unit {0}

abbrev pub IfStep : Option Command → ((image : List ℕ) → (steps : ℕ) → Type 0) → Type 0
IfStep (Some (step image steps)) P = P image steps
IfStep _ P = Unit {0}

abbrev pub IfGen : Option Command → ((number steps : ℕ) → Type 0) → Type 0
IfGen (Some (gen number steps)) P = P number steps
IfGen _ P = Unit {0}

abbrev pub IfList : Option Command → ((source : List ℕ) → (heap depth : ℕ) → Type 0) → Type 0
IfList (Some (list source heap depth)) P = P source heap depth
IfList _ P = Unit {0}

abbrev pub IfCount : Option Command → ((source : List ℕ) → (heap depth steps : ℕ) → Type 0) → Type 0
IfCount (Some (count source heap depth steps)) P = P source heap depth steps
IfCount _ P = Unit {0}

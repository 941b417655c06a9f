-- The same reading in plain terms, with no word of clap.
use Rattle.std.specs.Prelude.{ℕ, Bool, true, not, ◌&&◌, ◌==◌, List, [], ◌∷◌, codes, find}
use Rattle.std.specs.Prelude.{Option, Some, None, if◌then◌else◌, option_and_then, option_map}
use Rattle.std.specs.List.{after_first, before_first, list_any}
use Rattle.std.specs.Str.{bytes_eq}
use Rattle.sch_words.specs.GivenTexts.{Text, Texts}

-- ---- one word

-- what a word looks like: `--`; an option, `--name` or `--name=text`; a flag, `-` and more, as `-x` or `-5`;
-- or a plain text, as `p.scm`, `-` and the empty word
pub data Look : Type 0 where
  dashes : Look
  option : (name : Text) → (text : Option Text) → Look
  flag : Look
  plain : Look

abbrev pub is_equals : ℕ → Bool
is_equals byte = byte == 61

abbrev pub is_hyphen : ℕ → Bool
is_hyphen byte = byte == 45

-- by what follows two hyphens: its name ends, and its text begins, at the first `=`
abbrev pub look_of_name : Text → Look
look_of_name [] = dashes
look_of_name (byte ∷ bytes) = option (before_first is_equals (byte ∷ bytes))
    (if list_any is_equals (byte ∷ bytes) then Some (after_first is_equals (byte ∷ bytes)) else None)

-- by what follows one hyphen
abbrev pub look_of_rest : Text → Look
look_of_rest [] = plain
look_of_rest (byte ∷ bytes) = if is_hyphen byte then look_of_name bytes else flag

abbrev pub look_of : Text → Look
look_of [] = plain
look_of (byte ∷ bytes) = if is_hyphen byte then look_of_rest bytes else plain

-- ---- all words

-- a text, for the positional or the option of this name
pub record Given : Type 0 where
  pub name : Text
  pub text : Text

abbrev pub giving : (name text : Text) → Option (List Given) → Option (List Given)
giving name text = option_map (λ more. record { name = name; text = text } ∷ more)

-- the options go by their whole names
abbrev pub option_named : Text → Option Text
option_named name = find (λ option. bytes_eq option name) (codes "listing" ∷ codes "heap" ∷ codes "depth" ∷ codes "steps" ∷ [])

-- each word for the next of the positionals that are free
unfoldable pub positionals_in : (words free : List Text) → Option (List Given)
positionals_in [] free = Some []
positionals_in (word ∷ rest) [] = None
positionals_in (word ∷ rest) (name ∷ free) = giving name word (positionals_in rest free)

-- what words give, by the positionals that are free and the option that waits for its text
abbrev pub Giving : Type 0
Giving = (free : List Text) → (waiting : Option Text) → Option (List Given)

-- what a word of this look gives with the words after it, which give `more`, or `last` after the word `--`
abbrev pub giving_by : Look → (word : Text) → (free : List Text) → (waiting : Option Text) → (more : Giving)
    → (last : Option (List Given)) → Option (List Given)
giving_by plain word free (Some name) more last = giving name word (more free None)
giving_by plain word (name ∷ free) None more last = giving name word (more free None)
giving_by (option name (Some text)) word free None more last =
    option_and_then (λ known. giving known text (more free None)) (option_named name)
giving_by (option name None) word free None more last =
    option_and_then (λ known. more free (Some known)) (option_named name)
giving_by dashes word free None more last = last
giving_by _ word free waiting more last = None

-- what all words give
unfoldable pub given_in : (words free : List Text) → (waiting : Option Text) → Option (List Given)
given_in [] free None = Some []
given_in [] free (Some name) = None
given_in (word ∷ rest) free waiting = giving_by (look_of word) word free waiting (given_in rest) (positionals_in rest free)

-- no name is given twice
abbrev pub are_once : List Given → Bool
are_once [] = true
are_once (given ∷ more) = not (list_any (λ other. bytes_eq given.name other.name) more) && are_once more

-- ---- the texts

abbrev pub text_for : (name : Text) → List Given → Option Text
text_for name all = option_map (λ given. given.text) (find (λ given. bytes_eq given.name name) all)

abbrev pub texts_given : List Given → Texts
texts_given all = record {
  verb = text_for (codes "verb") all;
  name = text_for (codes "name") all;
  second = text_for (codes "second") all;
  listing = text_for (codes "listing") all;
  heap = text_for (codes "heap") all;
  depth = text_for (codes "depth") all;
  steps = text_for (codes "steps") all;
}

-- the texts of the words, where each word gives something and no name is given twice
abbrev pub plain_reading : (words : List Text) → Option Texts
plain_reading words =
    let all = given_in words (codes "verb" ∷ codes "name" ∷ codes "second" ∷ []) None in
    option_and_then (λ given. if are_once given then Some (texts_given given) else None) all

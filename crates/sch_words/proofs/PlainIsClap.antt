-- The reading by clap and the plain reading are the same, on all words.
use Rattle.std.proofs.Common.{ap, refl, codes, true, false, List, ℕ, [], ◌∷◌, Option, Some, None, ◌≡◌, ◌∙◌, map, option_map}
use Rattle.std.specs.Prelude.{option_and_then, if◌then◌else◌, Bool}
use Rattle.std.specs.Str.{bytes_eq}
use Rattle.clap.specs.Lexer.{long_of, short_of}
use Rattle.clap.specs.Walk.{bundle_met, walked}
use Rattle.clap.specs.Faults.{flags_fault, use_fault}
use Rattle.sch_words.specs.GivenTexts.{Text}
use Rattle.sch_words.specs.PlainReading.{Given, are_once, given_in, look_of, option, plain, plain_reading, texts_given}
use Rattle.sch_words.specs.SimpleCommand.{clap_reading, texts_of_rows}
use Rattle.sch_words.proofs.AfterDashes.{Free, between, none, one, three, trailing_agrees, two}
use Rattle.std.proofs.Math.Bool.{and-false}
use Rattle.sch_words.proofs.GivenInTurn.{take_all, take_all_first, take_each_from_none}
use Rattle.sch_words.proofs.GivenRows.{row_of, rule_for, texts_in_rows, used_takes}
use Rattle.sch_words.proofs.OneWalk.{clap_reading_run, run, top}
use Rattle.sch_words.proofs.PendingTexts.{passing_alone, pending_settles, waiting_for}
use Rattle.sch_words.proofs.WordKinds.{AreUtf8, IsOption, Kind, Names, all_dashes, is_dashes, kind_of_word, no_flag, no_option, some_flag, with_text, without_text}

-- the walk and the plain reading agree where nothing waits, and where an option waits
abbrev Agrees : (words : List Text) → Type 0
Agrees words = (position : ℕ) (free : List Text) → Free position free → (taken : List Given)
    → run top words (between false position (map row_of taken)) ≡ option_map (map row_of) (take_all (given_in words free None) taken)

abbrev AgreesWaiting : (words : List Text) → Type 0
AgreesWaiting words = (position : ℕ) (free : List Text) → Free position free → (taken : List Given) (known : Text) → IsOption known
    → run top words (waiting_for position known (map row_of taken)) ≡ option_map (map row_of) (take_all (given_in words free (Some known)) taken)

-- ---- where nothing waits

with_text_agrees : (word name text known : Text) → is_dashes word ≡ false → long_of word ≡ Some (name, Some text) → look_of word ≡ option name (Some text) → Names name known
    → (rest : List Text) → Agrees rest → Agrees (word ∷ rest)
unfolding run walked given_in
with_text_agrees word name text known e is_long look names rest more position free left taken = rw (e, is_long, names.found, look, names.named)
    (passing_alone (use_fault false (rule_for known (Some known) None) (text ∷ []) (map row_of taken)) _
    ∙ used_takes known text (Some known) None taken (λ rows. run top rest (between false position rows))
    ∙ take_all_first (map row_of) (λ all. run top rest (between false position (map row_of all))) known text (given_in rest free None) taken (more position free left))

plain_agrees : (word : Text) → is_dashes word ≡ false → long_of word ≡ None → short_of word ≡ None → look_of word ≡ plain
    → (rest : List Text) → AreUtf8 rest → Agrees rest → Agrees (word ∷ rest)
unfolding run walked given_in
plain_agrees word e no_long short look rest utf8 more _ _ three taken = rw (e, no_long, short, look) (pending_settles rest utf8 2 _ two taken (codes "verb") word None (Some 1) refl
    ∙ take_all_first (map row_of) (λ all. run top rest (between false 2 (map row_of all))) (codes "verb") word (given_in rest (codes "name" ∷ codes "second" ∷ []) None) taken (more _ _ two))
plain_agrees word e no_long short look rest utf8 more _ _ two taken = rw (e, no_long, short, look) (pending_settles rest utf8 3 _ one taken (codes "name") word None (Some 2) refl
    ∙ take_all_first (map row_of) (λ all. run top rest (between false 3 (map row_of all))) (codes "name") word (given_in rest (codes "second" ∷ []) None) taken (more _ _ one))
plain_agrees word e no_long short look rest utf8 more _ _ one taken = rw (e, no_long, short, look) (pending_settles rest utf8 4 _ none taken (codes "second") word None (Some 3) refl
    ∙ take_all_first (map row_of) (λ all. run top rest (between false 4 (map row_of all))) (codes "second") word (given_in rest [] None) taken (more _ _ none))
plain_agrees word e no_long short look rest utf8 more _ _ none taken = rw (e, no_long, short, look) refl

kind_agrees : (word : Text) → Kind word → (rest : List Text) → AreUtf8 rest → Agrees rest → AgreesWaiting rest → Agrees (word ∷ rest)
unfolding run walked given_in flags_fault bundle_met
kind_agrees word (all_dashes e look) rest utf8 more waits position free left taken = rw (e, look) (trailing_agrees rest position free left taken)
kind_agrees word (with_text name text known e is_long look names) rest utf8 more waits position free left taken =
    with_text_agrees word name text known e is_long look names rest more position free left taken
kind_agrees word (without_text name known e is_long look names) rest utf8 more waits position free left taken =
    rw (e, is_long, names.found, look, names.named) (waits position free left taken known names.by_id)
kind_agrees word (no_option name (Some text) e is_long look names) rest utf8 more waits position free left taken = rw (e, is_long, names.found, look, names.named) refl
kind_agrees word (no_option name None e is_long look names) rest utf8 more waits position free left taken = rw (e, is_long, names.found, look, names.named) refl
kind_agrees word (some_flag c f flags e no_long short first look) rest utf8 more waits position free left taken = rw (e, no_long, short, first, look) refl
kind_agrees word (no_flag e no_long short look) rest utf8 more waits position free left taken = plain_agrees word e no_long short look rest utf8 more position free left taken

-- ---- where an option waits

-- at `--` it gets no text
waits_in_vain : (rest : List Text) (position : ℕ) (free : List Text) → Free position free → (taken : List Given) (known : Text) → IsOption known
    → run top rest (record (waiting_for position known (map row_of taken)) { is_trailing = true }) ≡ None
unfolding run walked
waits_in_vain [] position free left taken known is = rw is.found refl
waits_in_vain (word ∷ rest) _ _ three taken known is = rw (and-false (bytes_eq known (codes "verb")), is.found) refl
waits_in_vain (word ∷ rest) _ _ two taken known is = rw (and-false (bytes_eq known (codes "name")), is.found) refl
waits_in_vain (word ∷ rest) _ _ one taken known is = rw (and-false (bytes_eq known (codes "second")), is.found) refl
waits_in_vain (word ∷ rest) _ _ none taken known is = refl

kind_agrees_waiting : (word : Text) → Kind word → (rest : List Text) → AreUtf8 rest → Agrees rest → AgreesWaiting (word ∷ rest)
unfolding run walked given_in flags_fault bundle_met
kind_agrees_waiting word (all_dashes e look) rest utf8 more position free left taken known is = rw (e, look) (waits_in_vain rest position free left taken known is)
kind_agrees_waiting word (with_text name text other e is_long look names) rest utf8 more position free left taken known is = rw (e, is_long, names.found, look, is.found) refl
kind_agrees_waiting word (without_text name other e is_long look names) rest utf8 more position free left taken known is = rw (e, is_long, names.found, look, is.found) refl
kind_agrees_waiting word (no_option name (Some text) e is_long look names) rest utf8 more position free left taken known is = rw (e, is_long, names.found, look) refl
kind_agrees_waiting word (no_option name None e is_long look names) rest utf8 more position free left taken known is = rw (e, is_long, names.found, look) refl
kind_agrees_waiting word (some_flag c f flags e no_long short first look) rest utf8 more position free left taken known is = rw (e, no_long, short, first, look) refl
kind_agrees_waiting word (no_flag e no_long short look) rest utf8 more position free left taken known is = rw (e, no_long, short, look, is.found, is.itself)
    (pending_settles rest utf8 position free left taken known word (Some known) None is.found
    ∙ take_all_first (map row_of) (λ all. run top rest (between false position (map row_of all))) known word (given_in rest free None) taken (more position free left))

-- ---- all words

end_agrees : Agrees []
unfolding run given_in
end_agrees position free left taken = refl

end_agrees_waiting : AgreesWaiting []
unfolding run given_in
end_agrees_waiting position free left taken known is = rw is.found refl

all_agree : (words : List Text) → AreUtf8 words → Agrees words × AgreesWaiting words
all_agree [] utf8 = (end_agrees, end_agrees_waiting)
all_agree (word ∷ rest) utf8 =
    let more = all_agree rest utf8.1 in
    (kind_agrees word (kind_of_word word utf8.0) rest utf8.1 more.0 more.1, kind_agrees_waiting word (kind_of_word word utf8.0) rest utf8.1 more.0)

texts_mapped : (o : Option (List Given)) → option_map texts_of_rows (option_map (map row_of) o) ≡ option_map texts_given o
texts_mapped None = refl
texts_mapped (Some all) = ap (λ texts. Some texts) (texts_in_rows all)

texts_once : (o : Option (List Given)) → option_map texts_given (take_all o []) ≡ option_and_then (λ all. if are_once all then Some (texts_given all) else None) o
texts_once None = refl
texts_once (Some all) = ap (option_map texts_given) (take_each_from_none all) ∙ go (are_once all)
  where
    go : (b : Bool) → option_map texts_given (if b then Some all else None) ≡ (if b then Some (texts_given all) else None)
    go true = refl
    go false = refl

-- clap's reading of texts is the plain one
pub plain_is_clap : (words : List Text) → AreUtf8 words → clap_reading words ≡ plain_reading words
plain_is_clap words utf8 =
    let free = codes "verb" ∷ codes "name" ∷ codes "second" ∷ [] in
    clap_reading_run words ∙ ap (option_map texts_of_rows) ((all_agree words utf8).0 1 _ three [])
    ∙ texts_mapped (take_all (given_in words free None) []) ∙ texts_once (given_in words free None)

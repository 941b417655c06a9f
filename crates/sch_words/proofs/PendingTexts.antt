-- Before the word `--`, whatever comes next, a pending text becomes a row, unless its name was taken.
use Rattle.std.proofs.Common.{refl, codes, true, false, List, ℕ, [], ◌∷◌, Option, Some, None, ◌≡◌, ◌∙◌, map}
use Rattle.std.specs.Prelude.{option_and_then, slice_get}
use Rattle.std.specs.Option.{option_map_or}
use Rattle.std.specs.Str.{bytes_eq, chars}
use Rattle.clap.specs.Lexer.{long_of, short_of}
use Rattle.clap.specs.Words.{Kinds, Row}
use Rattle.clap.specs.Kinds.{or_else}
use Rattle.clap.specs.Walk.{Walk, arg_by_id, bundle_met, option, used, used_by_id, walked}
use Rattle.clap.specs.Faults.{flags_fault, use_fault}
use Rattle.sch_words.specs.GivenTexts.{Text}
use Rattle.sch_words.specs.PlainReading.{Given}
use Rattle.sch_words.proofs.AfterDashes.{Free, behind, between, never, none, one, three, trailing_settles, two}
use Rattle.std.proofs.Math.Bool.{and-false}
use Rattle.sch_words.proofs.GivenInTurn.{take_one}
use Rattle.sch_words.proofs.GivenRows.{pending_takes, row_of, rule_for}
use Rattle.sch_words.proofs.OneWalk.{passing, passing_or_else, run, top}
use Rattle.sch_words.proofs.WordKinds.{AreUtf8, Kind, Names, NamesNone, all_dashes, is_dashes, kind_of_word, no_flag, no_option, some_flag, with_text, without_text}

abbrev IsRule : (name : Text) → (long : Option Text) → (index : Option ℕ) → Type 0
IsRule name long index = arg_by_id top.rules name ≡ Some (rule_for name long index)

-- before these words any pending text does
abbrev Settles : (words : List Text) → (position : ℕ) → Type 0
Settles words position = (taken : List Given) (name text : Text) (long : Option Text) (index : Option ℕ) → IsRule name long index
    → run top words (behind false position name text (map row_of taken))
    ≡ option_and_then (λ all. run top words (between false position (map row_of all))) (take_one name text taken)

-- the fault of a pending text, and the rows with it
abbrev pending_fault : (name text : Text) → (taken : List Given) → Kinds
pending_fault name text taken = option_map_or (λ a. use_fault false a (text ∷ []) (map row_of taken)) (arg_by_id top.rules name) []

abbrev with_pending : (name text : Text) → (taken : List Given) → List Row
with_pending name text taken = used_by_id (arg_by_id top.rules name) (text ∷ []) (map row_of taken)

dashes_settle : (word : Text) → is_dashes word ≡ true → (rest : List Text) (position : ℕ) (free : List Text) → Free position free → Settles (word ∷ rest) position
unfolding run walked
dashes_settle word e rest position free left taken name text long index found = rw e (trailing_settles position free left rest taken name text long index found)

plain_settles : (word : Text) → is_dashes word ≡ false → long_of word ≡ None → short_of word ≡ None
    → (rest : List Text) (position : ℕ) (free : List Text) → Free position free → Settles (word ∷ rest) position
unfolding run walked flags_fault bundle_met
plain_settles word e no_long short rest _ _ three taken name text long index found = rw (e, no_long, short, and-false (bytes_eq name (codes "verb")))
    (pending_takes top.rules name text long index taken (λ rows. run top rest (behind false 2 (codes "verb") word rows)) found)
plain_settles word e no_long short rest _ _ two taken name text long index found = rw (e, no_long, short, and-false (bytes_eq name (codes "name")))
    (pending_takes top.rules name text long index taken (λ rows. run top rest (behind false 3 (codes "name") word rows)) found)
plain_settles word e no_long short rest _ _ one taken name text long index found = rw (e, no_long, short, and-false (bytes_eq name (codes "second")))
    (pending_takes top.rules name text long index taken (λ rows. run top rest (behind false 4 (codes "second") word rows)) found)
plain_settles word e no_long short rest _ _ none taken name text long index found = rw (e, no_long, short) (never (take_one name text taken) None refl)

flag_settles : (word : Text) (c f : ℕ) (flags : List ℕ) → is_dashes word ≡ false → long_of word ≡ None → short_of word ≡ Some (f ∷ flags) → slice_get (chars (f ∷ flags)) 0 ≡ Some c
    → (rest : List Text) (position : ℕ) → Settles (word ∷ rest) position
unfolding run walked flags_fault bundle_met
flag_settles word c f flags e no_long short first rest position taken name text long index found = rw (e, no_long, short, first) (never (take_one name text taken) None refl)

-- faults of the word itself come after those of the pending text
pending_takes_then : {X : Type 0} (name text : Text) (long : Option Text) (index : Option ℕ) (taken : List Given) (more : List Row → Kinds) (k : List Row → Option X) → IsRule name long index
    → passing (or_else (or_else (pending_fault name text taken) (more (with_pending name text taken))) [])
    (k (with_pending name text taken))
    ≡ option_and_then (λ all. passing (or_else (more (map row_of all)) []) (k (map row_of all))) (take_one name text taken)
pending_takes_then name text long index taken more k found =
    passing_or_else (pending_fault name text taken) (more (with_pending name text taken)) []
    (k (with_pending name text taken))
    ∙ pending_takes top.rules name text long index taken (λ rows. passing (or_else (more rows) []) (k rows)) found

pub passing_alone : {X : Type 0} (ks : Kinds) (o : Option X) → passing (or_else ks []) o ≡ passing ks o
passing_alone [] o = refl
passing_alone (k ∷ ks) o = refl

pending_takes_alone : {X : Type 0} (name text : Text) (long : Option Text) (index : Option ℕ) (taken : List Given) (k : List Row → Option X) → IsRule name long index
    → passing (or_else (pending_fault name text taken) []) (k (with_pending name text taken))
    ≡ option_and_then (λ all. k (map row_of all)) (take_one name text taken)
pending_takes_alone name text long index taken k found =
    passing_alone (pending_fault name text taken) (k (with_pending name text taken))
    ∙ pending_takes top.rules name text long index taken k found

option_with_text_settles : (word spelled value known : Text) → is_dashes word ≡ false → long_of word ≡ Some (spelled, Some value) → Names spelled known
    → (rest : List Text) (position : ℕ) → Settles (word ∷ rest) position
unfolding run walked
option_with_text_settles word spelled value known e is_long names rest position taken name text long index found = rw (e, is_long, names.found)
    (pending_takes_then name text long index taken (use_fault false (rule_for known (Some known) None) (value ∷ []))
    (λ rows. run top rest (between false position (used (rule_for known (Some known) None) (value ∷ []) rows))) found)

-- the walk where an option waits for its text
abbrev pub waiting_for : (position : ℕ) → (known : Text) → List Row → Walk
waiting_for position known rows = record {
  held = record { rows = rows; pending = Some (known, []); skip = 0 };
  waiting = option known;
  position = position;
  is_trailing = false;
  stopped = None;
}

option_settles : (word spelled known : Text) → is_dashes word ≡ false → long_of word ≡ Some (spelled, None) → Names spelled known
    → (rest : List Text) (position : ℕ) → Settles (word ∷ rest) position
unfolding run walked
option_settles word spelled known e is_long names rest position taken name text long index found =
    rw (e, is_long, names.found) (pending_takes_alone name text long index taken (λ rows. run top rest (waiting_for position known rows)) found)

no_option_settles : (word spelled : Text) (value : Option Text) → is_dashes word ≡ false → long_of word ≡ Some (spelled, value) → NamesNone spelled
    → (rest : List Text) (position : ℕ) → Settles (word ∷ rest) position
unfolding run walked
no_option_settles word spelled value e is_long names rest position taken name text long index found = rw (e, is_long, names.found) (never (take_one name text taken) None refl)

kind_settles : (word : Text) → Kind word → (rest : List Text) (position : ℕ) (free : List Text) → Free position free → Settles (word ∷ rest) position
kind_settles word (all_dashes e look) rest position free left = dashes_settle word e rest position free left
kind_settles word (with_text spelled value known e is_long look names) rest position free left = option_with_text_settles word spelled value known e is_long names rest position
kind_settles word (without_text spelled known e is_long look names) rest position free left = option_settles word spelled known e is_long names rest position
kind_settles word (no_option spelled value e is_long look names) rest position free left = no_option_settles word spelled value e is_long names rest position
kind_settles word (some_flag c f flags e no_long short first look) rest position free left = flag_settles word c f flags e no_long short first rest position
kind_settles word (no_flag e no_long short look) rest position free left = plain_settles word e no_long short rest position free left

pub pending_settles : (words : List Text) → AreUtf8 words → (position : ℕ) (free : List Text) → Free position free → Settles words position
unfolding run
pending_settles [] utf8 position free left taken name text long index found = pending_takes top.rules name text long index taken (λ rows. Some rows) found
pending_settles (word ∷ rest) utf8 position free left taken name text long index found =
    kind_settles word (kind_of_word word utf8.0) rest position free left taken name text long index found

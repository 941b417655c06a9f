-- What a word is, for clap and for the plain reading.
use Rattle.std.proofs.Common.{ap, refl, sym, codes, true, false, Bool, List, ℕ, [], ◌∷◌, ◌++◌, Option, Some, None, ◌≡◌, ◌∙◌, map, length, arith}
use Rattle.std.specs.Prelude.{if◌then◌else◌, slice_get, string_bytes, encode_utf8_all, ◌==◌, String}
use Rattle.std.specs.List.{after_first, before_first, list_any}
use Rattle.std.specs.Str.{IsUtf8, bytes_eq, chars}
use Rattle.std.proofs.lemmas.Bool.{eqb-true}
use Rattle.std.proofs.lemmas.Str.{IsUtf8-past_char, IsUtf8-string_bytes, encode_ascii, encodes-chars}
use Rattle.clap.specs.Lexer.{long_of, short_of}
use Rattle.clap.specs.Walk.{arg_by_id, arg_by_long}
use Rattle.sch_words.specs.GivenTexts.{Text}
use Rattle.sch_words.specs.PlainReading.{dashes, flag, is_equals, look_of, option, option_named, plain}
use Rattle.sch_words.proofs.GivenRows.{rule_for}
use Rattle.sch_words.proofs.OneWalk.{top}

abbrev pub is_dashes : Text → Bool
is_dashes word = bytes_eq word (45 ∷ 45 ∷ [])

-- the option is one of the command's
pub record IsOption (known : Text) : Type 0 where
  pub found : arg_by_id top.rules known ≡ Some (rule_for known (Some known) None)
  pub itself : bytes_eq known known ≡ true

-- the name is that of the option, or of none
pub record Names (name known : Text) : Type 0 where
  pub found : arg_by_long top.rules name ≡ Some (rule_for known (Some known) None)
  pub named : option_named name ≡ Some known
  pub by_id : IsOption known

pub record NamesNone (name : Text) : Type 0 where
  pub found : arg_by_long top.rules name ≡ None
  pub named : option_named name ≡ None

pub data Kind : Text → Type 0 where
  all_dashes : {word : Text} → is_dashes word ≡ true → look_of word ≡ dashes → Kind word
  with_text : {word : Text} (name text known : Text) → is_dashes word ≡ false → long_of word ≡ Some (name, Some text)
      → look_of word ≡ option name (Some text) → Names name known → Kind word
  without_text : {word : Text} (name known : Text) → is_dashes word ≡ false → long_of word ≡ Some (name, None) → look_of word ≡ option name None → Names name known → Kind word
  no_option : {word : Text} (name : Text) (text : Option Text) → is_dashes word ≡ false → long_of word ≡ Some (name, text)
      → look_of word ≡ option name text → NamesNone name → Kind word
  some_flag : {word : Text} (c f : ℕ) (flags : List ℕ) → is_dashes word ≡ false → long_of word ≡ None → short_of word ≡ Some (f ∷ flags)
      → slice_get (chars (f ∷ flags)) 0 ≡ Some c → look_of word ≡ flag → Kind word
  no_flag : {word : Text} → is_dashes word ≡ false → long_of word ≡ None → short_of word ≡ None → look_of word ≡ plain → Kind word

-- ---- flags

first_char : (b : ℕ) (bs cs : List ℕ) → encode_utf8_all cs ≡ b ∷ bs → (c : ℕ) × (slice_get cs 0 ≡ Some c)
first_char b bs [] e = let bad : 0 ≡ length (b ∷ bs) = ap length e in absurd (omega arith)
first_char b bs (c ∷ cs) e = (c, refl)

flag_kind : (a b : ℕ) (bytes : List ℕ) → IsUtf8 (a ∷ b ∷ bytes) → (a == 45) ≡ true → (b == 45) ≡ false → Kind (a ∷ b ∷ bytes)
flag_kind a b bytes utf8 first second =
    let is : a ∷ b ∷ bytes ≡ 45 ∷ b ∷ bytes = ap (λ x. x ∷ b ∷ bytes) (eqb-true a 45 first) in
    let rest = IsUtf8-past_char (a ∷ b ∷ bytes) (b ∷ bytes) 45 utf8 (is ∙ ap (λ e. e ++ b ∷ bytes) (sym (encode_ascii 45 (omega arith)))) in
    let c = first_char b bytes (chars (b ∷ bytes)) (encodes-chars (b ∷ bytes) rest) in
    some_flag c.0 b bytes (rw (first, second) refl) (rw (first, second) refl) (rw (first, second) refl) c.1 (rw (first, second) refl)

-- ---- options

named_kind : (word name : Text) (text : Option Text) → is_dashes word ≡ false → long_of word ≡ Some (name, text) → look_of word ≡ option name text
    → (known : Text) → Names name known → Kind word
named_kind word name (Some text) e long look known names = with_text name text known e long look names
named_kind word name None e long look known names = without_text name known e long look names

option_kind : (word name : Text) (text : Option Text) → is_dashes word ≡ false → long_of word ≡ Some (name, text) → look_of word ≡ option name text → (a b c d : Bool)
    → bytes_eq (codes "listing") name ≡ a → bytes_eq (codes "heap") name ≡ b → bytes_eq (codes "depth") name ≡ c → bytes_eq (codes "steps") name ≡ d → Kind word
option_kind word name text e long look true b c d is_a is_b is_c is_d =
    named_kind word name text e long look (codes "listing") (record { found = rw is_a refl; named = rw is_a refl; by_id = record { found = refl; itself = refl } })
option_kind word name text e long look false true c d is_a is_b is_c is_d =
    named_kind word name text e long look (codes "heap") (record { found = rw (is_a, is_b) refl; named = rw (is_a, is_b) refl; by_id = record { found = refl; itself = refl } })
option_kind word name text e long look false false true d is_a is_b is_c is_d =
    named_kind word name text e long look (codes "depth") (record { found = rw (is_a, is_b, is_c) refl; named = rw (is_a, is_b, is_c) refl; by_id = record { found = refl; itself = refl } })
option_kind word name text e long look false false false true is_a is_b is_c is_d =
    named_kind word name text e long look (codes "steps") (record {
      found = rw (is_a, is_b, is_c, is_d) refl;
      named = rw (is_a, is_b, is_c, is_d) refl;
      by_id = record { found = refl; itself = refl };
    })
option_kind word name text e long look false false false false is_a is_b is_c is_d =
    no_option name text e long look (record { found = rw (is_a, is_b, is_c, is_d) refl; named = rw (is_a, is_b, is_c, is_d) refl })

-- ---- all words

hyphens_kind : (a b : ℕ) (bytes : List ℕ) → (a == 45) ≡ true → (b == 45) ≡ true → Kind (a ∷ b ∷ bytes)
hyphens_kind a b [] first second = all_dashes (rw (first, second) refl) (rw (first, second) refl)
hyphens_kind a b (c ∷ bytes) first second =
    option_kind (a ∷ b ∷ c ∷ bytes) (before_first is_equals (c ∷ bytes)) (if list_any is_equals (c ∷ bytes) then Some (after_first is_equals (c ∷ bytes)) else None)
    (rw (first, second) refl) (rw (first, second) refl) (rw (first, second) refl) _ _ _ _ refl refl refl refl

second_kind : (a b : ℕ) (bytes : List ℕ) → IsUtf8 (a ∷ b ∷ bytes) → (a == 45) ≡ true → (hyphen : Bool) → (b == 45) ≡ hyphen → Kind (a ∷ b ∷ bytes)
second_kind a b bytes utf8 first true second = hyphens_kind a b bytes first second
second_kind a b bytes utf8 first false second = flag_kind a b bytes utf8 first second

first_kind : (a : ℕ) (bytes : List ℕ) → IsUtf8 (a ∷ bytes) → (hyphen : Bool) → (a == 45) ≡ hyphen → Kind (a ∷ bytes)
first_kind a bytes utf8 false first = no_flag (rw first refl) (rw first refl) (rw first refl) (rw first refl)
first_kind a [] utf8 true first = no_flag (rw first refl) (rw first refl) (rw first refl) (rw first refl)
first_kind a (b ∷ bytes) utf8 true first = second_kind a b bytes utf8 first (b == 45) refl

pub kind_of_word : (word : Text) → IsUtf8 word → Kind word
kind_of_word [] utf8 = no_flag refl refl refl refl
kind_of_word (a ∷ bytes) utf8 = first_kind a bytes utf8 (a == 45) refl

-- words are texts
abbrev pub AreUtf8 : (words : List Text) → Type 0
AreUtf8 [] = Unit {0}
AreUtf8 (word ∷ rest) = IsUtf8 word × AreUtf8 rest

pub strings_are_utf8 : {Z : Type 0} (words : List (String Z)) → AreUtf8 (map string_bytes words)
strings_are_utf8 [] = tt
strings_are_utf8 (word ∷ rest) = (IsUtf8-string_bytes word, strings_are_utf8 rest)

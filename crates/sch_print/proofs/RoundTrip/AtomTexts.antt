-- The text of an atom is one lexeme, and the token of it is the atom.
use Rattle.std.proofs.Common.{◌≡◌, ◌⊎◌, inl, inr, ℕ, List, [], ◌∷◌, ◌++◌, refl, ◌∙◌, ap, arith, Bool, true, false, append_assoc}
use Rattle.std.specs.Prelude.{◌==◌, ◌||◌, ◌&&◌, not, if◌then◌else◌, codes}
use Rattle.std.specs.List.{list_all}
use Rattle.std.proofs.lemmas.Bool.{and_right, or_parts}
use Rattle.std.proofs.lemmas.Bool.Decides.{nat_tests}
use Rattle.std.specs.Char.{is_ascii_alphabetic, is_ascii_digit}
use Rattle.sch_word.specs.trees.NumberSets.{has}
use Rattle.sch_read.specs.Lexer.Letters.{is_white, is_delimiter, is_word_byte, is_initial, is_subsequent}
use Rattle.sch_read.specs.Lexer.Lexeme.{is_lexeme, IsLongest}
use Rattle.sch_read.specs.Grammar.{Plain, Atom}
use Rattle.sch_read.specs.Lexer.Token.{token_at, word_at}
use Rattle.sch_read.proofs.Longest.{end-longest, byte-longest}
use Rattle.sch_word.proofs.facts.NumberSets.{each_passes}
use Rattle.sch_word.proofs.facts.Booleans.{and_parts, neither, not_true}
use Rattle.sch_read.proofs.Validity.{or-parts}

-- the rest begins with a delimiter, if at all
abbrev pub IsBroken : List ℕ → Type 0
IsBroken [] = Unit {0}
IsBroken (b ∷ bs) = is_delimiter b ≡ true

pub record IsAtomText (a : Atom) (bytes : List ℕ) : Type 0 where
  pub lexeme : is_lexeme bytes ≡ true
  pub longest : (rest : List ℕ) → IsBroken rest → IsLongest bytes rest
  pub token : (at : ℕ) → token_at at bytes ≡ Plain at a ∷ []

-- a byte that may begin a word: no delimiter, quote mark or `#`
abbrev pub is_plain : ℕ → Bool
is_plain b = is_word_byte b && (not (b == 39) && not (b == 35))

-- a byte that begins a name: neither a number nor a sign
abbrev pub begins_name : ℕ → Bool
begins_name b = is_plain b && (not (is_ascii_digit b) && not (has b (codes "+-.")))

plain-letter : (b : ℕ) → is_ascii_alphabetic b ≡ true → begins_name b ≡ true
plain-letter b h = grind (arith, nat_tests)

pub plain-digit : (b : ℕ) → is_ascii_digit b ≡ true → is_plain b ≡ true
plain-digit b h = grind (arith, nat_tests)

pub name-initial : (b : ℕ) → is_initial b ≡ true → begins_name b ≡ true
name-initial b h = go (or-parts (is_ascii_alphabetic b) _ h)
  where
    go : (is_ascii_alphabetic b ≡ true) ⊎ (has b (codes "!$%&*/:<=>?^_~") ≡ true) → begins_name b ≡ true
    go (inl e) = plain-letter b e
    go (inr e) = each_passes begins_name (codes "!$%&*/:<=>?^_~") refl b e

pub word-subsequent : (b : ℕ) → is_subsequent b ≡ true → is_word_byte b ≡ true
word-subsequent b h = go (or-parts (is_initial b) _ h)
  where
    last : (is_ascii_digit b ≡ true) ⊎ (has b (codes "+-.@") ≡ true) → is_word_byte b ≡ true
    last (inl e) = (and_parts (is_word_byte b) _ (plain-digit b e)).0
    last (inr e) = each_passes is_word_byte (codes "+-.@") refl b e

    go : (is_initial b ≡ true) ⊎ (is_ascii_digit b || has b (codes "+-.@") ≡ true) → is_word_byte b ≡ true
    go (inl e) = (and_parts (is_word_byte b) _ (and_parts (is_plain b) _ (name-initial b e)).0).0
    go (inr e) = last (or-parts (is_ascii_digit b) _ e)

all-ends : (ps : List ℕ) (b : ℕ) → is_delimiter b ≡ true → list_all is_word_byte (ps ++ b ∷ []) ≡ false
all-ends [] b h = ap (λ t. not t && true) h
all-ends (p ∷ ps) b h = and_right (is_word_byte p) (list_all is_word_byte (ps ++ b ∷ [])) (all-ends ps b h)

-- a lexeme that goes on with a word's bytes
pub tail-atom : (first ps : List ℕ) (a : Atom) → ((bs : List ℕ) → is_lexeme (first ++ bs) ≡ list_all is_word_byte bs) → list_all is_word_byte ps ≡ true →
    ((at : ℕ) → token_at at (first ++ ps) ≡ Plain at a ∷ []) → IsAtomText a (first ++ ps)
tail-atom first ps a starts all token = record {
  lexeme = starts ps ∙ all;
  longest = λ rest. longest rest;
  token = token;
}
  where
    longest : (rest : List ℕ) → IsBroken rest → IsLongest (first ++ ps) rest
    longest [] broken = end-longest (first ++ ps)
    longest (b ∷ bs) broken = byte-longest (first ++ ps) b bs (ap is_lexeme (append_assoc first ps (b ∷ [])) ∙ starts (ps ++ b ∷ []) ∙ all-ends ps b broken)

-- what a plain byte is not
pub record IsNoMark (b : ℕ) : Type 0 where
  pub white : is_white b ≡ false
  pub opening : (b == 40) ≡ false
  pub closing : (b == 41) ≡ false
  pub quote : (b == 34) ≡ false
  pub semicolon : (b == 59) ≡ false
  pub single : (b == 39) ≡ false
  pub hash : (b == 35) ≡ false
  pub delimiter : is_delimiter b ≡ false

pub no-mark : (b : ℕ) → is_plain b ≡ true → IsNoMark b
no-mark b h =
    let p = and_parts (is_word_byte b) _ h in
    let q = and_parts (not (b == 39)) (not (b == 35)) p.1 in
    let d = not_true (is_delimiter b) p.0 in
    let o1 = or_parts (is_white b) _ d in
    let o2 = or_parts (b == 40) _ o1.1 in
    let o3 = or_parts (b == 41) _ o2.1 in
    let o4 = or_parts (b == 34) (b == 59) o3.1 in
    record { white = o1.0; opening = o2.0; closing = o3.0; quote = o4.0; semicolon = o4.1; single = not_true (b == 39) q.0; hash = not_true (b == 35) q.1; delimiter = d }

pub skip : {A : Type 0} (t : Bool) (x y : A) → t ≡ false → (if t then x else y) ≡ y
skip true x y h = cc
skip false x y h = refl

plain-lexeme : (b : ℕ) (bs : List ℕ) → is_plain b ≡ true → is_lexeme (b ∷ bs) ≡ list_all is_word_byte bs
plain-lexeme b bs h =
    let m = no-mark b h in
    skip (b == 59) _ _ m.semicolon ∙ skip (b == 34) _ _ m.quote ∙ skip (b == 35) _ _ m.hash ∙ skip (is_delimiter b || b == 39) _ _ (neither (is_delimiter b) (b == 39) m.delimiter m.single)

plain-token : (at b : ℕ) (bs : List ℕ) → is_plain b ≡ true → token_at at (b ∷ bs) ≡ word_at at (b ∷ bs) ∷ []
plain-token at b bs h =
    let m = no-mark b h in
    skip (is_white b || b == 59) _ _ (neither (is_white b) (b == 59) m.white m.semicolon) ∙ skip (b == 40) _ _ m.opening ∙ skip (b == 41) _ _ m.closing ∙ skip (b == 39) _ _ m.single
    ∙ skip (b == 34) _ _ m.quote

pub word-atom : (b : ℕ) (bs : List ℕ) (a : Atom) → is_plain b ≡ true → list_all is_word_byte bs ≡ true → ((at : ℕ) → word_at at (b ∷ bs) ≡ Plain at a) → IsAtomText a (b ∷ bs)
word-atom b bs a h all word = tail-atom (b ∷ []) bs a (λ cs. plain-lexeme b cs h) all (λ at. plain-token at b bs h ∙ ap (λ t. t ∷ []) (word at))

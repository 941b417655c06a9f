-- Booleans, characters, symbols and strings are read back.
use Rattle.std.proofs.Common.{◌≡◌, ◌+◌, ◌⊎◌, inl, inr, ℕ, List, [], ◌∷◌, ◌++◌, refl, sym, ◌∙◌, ap, subst, Bool, true, false, append_assoc, eqb-true, eq-eqb}
use Rattle.std.specs.Prelude.{◌==◌, ◌||◌, ◌&&◌, not, if◌then◌else◌, codes, slice_index}
use Rattle.std.specs.List.{list_all}
use Rattle.std.specs.Char.{is_ascii_digit, to_ascii_lowercase}
use Rattle.std.specs.Str.{bytes_eq}
use Rattle.std.proofs.lemmas.Bool.{or_parts}
use Rattle.sch_word.specs.trees.NumberSets.{has}
use Rattle.sch_read.specs.Lexer.Letters.{folded, is_word_byte, is_initial, is_subsequent}
use Rattle.sch_read.specs.Lexer.Lexeme.{is_string_rest, is_lexeme}
use Rattle.sch_read.specs.Grammar.{Plain, boolean, character, text, symbol}
use Rattle.sch_read.specs.Lexer.Numerals.{is_number_like, has_base}
use Rattle.sch_read.specs.Lexer.Identifiers.{is_identifier}
use Rattle.sch_read.specs.Lexer.Letters.{is_escape, escaped}
use Rattle.sch_read.specs.Lexer.Token.{word_at, is_character, Whole, with_byte, content, string_of}
use Rattle.sch_print.specs.Printed.{atom_text, escaped_text}
use Rattle.std.proofs.lemmas.Slice.Eq.{bytes_eq-Decides}
use Rattle.sch_word.proofs.facts.Booleans.{and_parts, neither, never_true, not_true}
use Rattle.sch_read.proofs.Validity.{or-parts}
use Rattle.sch_print.proofs.RoundTrip.AtomTexts.{IsAtomText, is_plain, begins_name, name-initial, word-subsequent, skip, tail-atom, word-atom, no-mark}

pub boolean-text : (b : Bool) → IsAtomText (boolean b) (atom_text (boolean b))
boolean-text true = tail-atom (codes "#t") [] (boolean true) (λ bs. refl) refl (λ at. refl)
boolean-text false = tail-atom (codes "#f") [] (boolean false) (λ bs. refl) refl (λ at. refl)

abbrev CharacterText : ℕ → List ℕ → Type 0
CharacterText c name = IsAtomText (character c) (codes "#\\" ++ name)

pub character-text : (c : ℕ) → IsAtomText (character c) (atom_text (character c))
character-text c = space (c == 32) refl
  where
    line : (t : Bool) → (c == 10) ≡ t → CharacterText c (if t then codes "newline" else c ∷ [])
    line true e =
        let P : ℕ → Type 0 = λ v. CharacterText v (codes "newline") in
        subst P (sym (eqb-true c 10 e)) (tail-atom (codes "#\\n") (codes "ewline") (character 10) (λ bs. refl) refl (λ at. refl))
    line false e = tail-atom (35 ∷ 92 ∷ c ∷ []) [] (character c) (λ bs. refl) refl (λ at. refl)

    space : (t : Bool) → (c == 32) ≡ t → CharacterText c (if t then codes "space" else (if c == 10 then codes "newline" else c ∷ []))
    space true e =
        let P : ℕ → Type 0 = λ v. CharacterText v (codes "space") in
        subst P (sym (eqb-true c 32 e)) (tail-atom (codes "#\\s") (codes "pace") (character 32) (λ bs. refl) refl (λ at. refl))
    space false e = line (c == 10) refl

subsequent-word : (bs : List ℕ) → list_all is_subsequent bs ≡ true → list_all is_word_byte bs ≡ true
subsequent-word [] h = refl
subsequent-word (b ∷ bs) h =
    let p = and_parts (is_subsequent b) (list_all is_subsequent bs) h in
    ap (λ t. t && list_all is_word_byte bs) (word-subsequent b p.0) ∙ subsequent-word bs p.1

same-self : (c : ℕ) → (c == c) ≡ false → ⊥
same-self c h = let holds = eq-eqb c c refl in cc

-- the word begins with another byte than the text
pub other-start : (b c : ℕ) (bs cs : List ℕ) → (b == c) ≡ false → bytes_eq (b ∷ bs) (c ∷ cs) ≡ false
other-start b c bs cs h = never_true (bytes_eq (b ∷ bs) (c ∷ cs)) (λ e.
    let same = (bytes_eq-Decides (b ∷ bs) (c ∷ cs)).0 e in
    let first : b ≡ c = cc in
    let P : ℕ → Type 0 = λ v. (v == c) ≡ false in
    same-self c (subst P first h))

pub taken : {A : Type 0} (t : Bool) (x y : A) → t ≡ true → (if t then x else y) ≡ x
taken true x y h = refl
taken false x y h = cc

no-dot : (b : ℕ) (bs : List ℕ) → has b (codes "+-.") ≡ false → bytes_eq (b ∷ bs) (codes ".") ≡ false
no-dot b bs h = never_true (bytes_eq (b ∷ bs) (codes ".")) (λ e.
    let same = (bytes_eq-Decides (b ∷ bs) (codes ".")).0 e in
    let first : b ≡ 46 = cc in
    let P : ℕ → Type 0 = λ v. has v (codes "+-.") ≡ false in
    let none : true ≡ false = subst P first h in cc)

no-number : (b : ℕ) (bs : List ℕ) → (b == 35) ≡ false → is_ascii_digit b ≡ false → has b (codes "+-.") ≡ false → is_number_like (b ∷ bs) ≡ false
no-number b bs hash digit sign =
    neither (has_base (b ∷ bs)) _ (ap (λ t. t && has (to_ascii_lowercase (slice_index (b ∷ bs) 1)) (codes "bodx")) hash)
    (neither (is_ascii_digit b) _ digit (ap (λ t. t && is_ascii_digit (slice_index (b ∷ bs) 1)) sign))

start-name : (at b : ℕ) (bs : List ℕ) → begins_name b ≡ true → is_identifier (b ∷ bs) ≡ true → folded (b ∷ bs) ≡ b ∷ bs → word_at at (b ∷ bs) ≡ Plain at (symbol (b ∷ bs))
start-name at b bs h is low =
    let w = b ∷ bs in
    let p = and_parts (is_plain b) _ h in
    let m = no-mark b p.0 in
    let q = and_parts (not (is_ascii_digit b)) (not (has b (codes "+-."))) p.1 in
    let digit = not_true (is_ascii_digit b) q.0 in
    let sign = not_true (has b (codes "+-.")) q.1 in
    skip (bytes_eq w (codes "#(")) _ _ (other-start b 35 bs (40 ∷ []) m.hash)
    ∙ skip (is_character w) _ _ (ap (λ t. t && slice_index w 1 == 92) m.hash)
    ∙ skip (is_number_like w) _ _ (no-number b bs m.hash digit sign)
    ∙ skip (bytes_eq w (codes ".")) _ _ (no-dot b bs sign)
    ∙ skip (bytes_eq (folded w) (codes "#t")) _ _ (ap (λ v. bytes_eq v (codes "#t")) low ∙ other-start b 35 bs (116 ∷ []) m.hash)
    ∙ skip (bytes_eq (folded w) (codes "#f")) _ _ (ap (λ v. bytes_eq v (codes "#f")) low ∙ other-start b 35 bs (102 ∷ []) m.hash)
    ∙ taken (is_identifier w) _ _ is
    ∙ ap (λ v. Plain at (symbol v)) low

peculiar-text : (w : List ℕ) → bytes_eq w (codes "+") || (bytes_eq w (codes "-") || bytes_eq w (codes "...")) ≡ true → IsAtomText (symbol w) w
peculiar-text w h = go (or-parts (bytes_eq w (codes "+")) _ h)
  where
    last : (bytes_eq w (codes "-") ≡ true) ⊎ (bytes_eq w (codes "...") ≡ true) → IsAtomText (symbol w) w
    last (inl e) = let Q : List ℕ → Type 0 = λ v. IsAtomText (symbol v) v in subst Q (sym ((bytes_eq-Decides w (codes "-")).0 e)) (word-atom 45 [] (symbol (codes "-")) refl refl (λ at. refl))
    last (inr e) = let Q : List ℕ → Type 0 = λ v. IsAtomText (symbol v) v in subst Q (sym ((bytes_eq-Decides w (codes "...")).0 e)) (word-atom 46 (codes "..") (symbol (codes "...")) refl refl (λ at. refl))

    go : (bytes_eq w (codes "+") ≡ true) ⊎ (bytes_eq w (codes "-") || bytes_eq w (codes "...") ≡ true) → IsAtomText (symbol w) w
    go (inl e) = let Q : List ℕ → Type 0 = λ v. IsAtomText (symbol v) v in subst Q (sym ((bytes_eq-Decides w (codes "+")).0 e)) (word-atom 43 [] (symbol (codes "+")) refl refl (λ at. refl))
    go (inr e) = last (or-parts (bytes_eq w (codes "-")) _ e)

pub symbol-text : (w : List ℕ) → is_identifier w ≡ true → folded w ≡ w → IsAtomText (symbol w) (atom_text (symbol w))
symbol-text [] is low = cc
symbol-text (b ∷ bs) is low = go (or-parts (is_initial b && list_all is_subsequent bs) _ is)
  where
    go : (is_initial b && list_all is_subsequent bs ≡ true) ⊎ (bytes_eq (b ∷ bs) (codes "+") || (bytes_eq (b ∷ bs) (codes "-") || bytes_eq (b ∷ bs) (codes "...")) ≡ true) → IsAtomText (symbol (b ∷ bs)) (b ∷ bs)
    go (inl e) =
        let p = and_parts (is_initial b) (list_all is_subsequent bs) e in
        let begins = name-initial b p.0 in
        word-atom b bs (symbol (b ∷ bs)) (and_parts (is_plain b) _ begins).0 (subsequent-word bs p.1) (λ at. start-name at b bs begins is low)
    go (inr e) = peculiar-text (b ∷ bs) e

string-tail : (bs tail : List ℕ) → is_string_rest (escaped_text bs ++ tail) ≡ is_string_rest tail
string-tail [] tail = refl
string-tail (b ∷ bs) tail = go (b == 34 || b == 92) refl (string-tail bs tail)
  where
    go : (t : Bool) → b == 34 || b == 92 ≡ t → is_string_rest (escaped_text bs ++ tail) ≡ is_string_rest tail →
        is_string_rest ((if t then 92 ∷ b ∷ escaped_text bs else b ∷ escaped_text bs) ++ tail) ≡ is_string_rest tail
    go true e h = h
    go false e h = let o = or_parts (b == 34) (b == 92) e in skip (b == 34) _ _ o.0 ∙ skip (b == 92) _ _ o.1 ∙ h

escapes : (b : ℕ) → b == 34 || b == 92 ≡ true → (is_escape b ≡ true) × (escaped b ≡ b)
escapes b h = go (or-parts (b == 34) (b == 92) h)
  where
    go : (b == 34 ≡ true) ⊎ (b == 92 ≡ true) → (is_escape b ≡ true) × (escaped b ≡ b)
    go (inl e) = let P : ℕ → Type 0 = λ v. (is_escape v ≡ true) × (escaped v ≡ v) in subst P (sym (eqb-true b 34 e)) (refl, refl)
    go (inr e) = let P : ℕ → Type 0 = λ v. (is_escape v ≡ true) × (escaped v ≡ v) in subst P (sym (eqb-true b 92 e)) (refl, refl)

content-tail : (at : ℕ) (bs : List ℕ) → content at (escaped_text bs ++ 34 ∷ []) ≡ Whole bs
content-tail at [] = refl
content-tail at (b ∷ bs) = go (b == 34 || b == 92) refl (content-tail (at + 1) bs) (content-tail (at + 2) bs)
  where
    go : (t : Bool) → b == 34 || b == 92 ≡ t → content (at + 1) (escaped_text bs ++ 34 ∷ []) ≡ Whole bs → content (at + 2) (escaped_text bs ++ 34 ∷ []) ≡ Whole bs →
        content at ((if t then 92 ∷ b ∷ escaped_text bs else b ∷ escaped_text bs) ++ 34 ∷ []) ≡ Whole (b ∷ bs)
    go true e h k =
        let x = escapes b e in
        taken (is_escape b) _ _ x.0 ∙ ap (with_byte (escaped b)) k ∙ ap (λ v. Whole (v ∷ bs)) x.1
    go false e h k =
        let o = or_parts (b == 34) (b == 92) e in
        skip (b == 34) _ _ o.0 ∙ skip (b == 92) _ _ o.1 ∙ ap (with_byte b) h

pub string-text : (bs : List ℕ) → IsAtomText (text bs) (atom_text (text bs))
string-text bs = record {
  lexeme = string-tail bs (34 ∷ []);
  longest = λ rest broken. longest rest;
  token = λ at. ap (λ v. string_of at v ∷ []) (content-tail (at + 1) bs);
}
  where
    longest : (rest more others : List ℕ) → rest ≡ more ++ others → is_lexeme ((34 ∷ (escaped_text bs ++ 34 ∷ [])) ++ more) ≡ true → more ≡ []
    longest rest [] others e h = refl
    longest rest (m ∷ ms) others e h =
        let fails : is_string_rest ((escaped_text bs ++ 34 ∷ []) ++ m ∷ ms) ≡ false = ap is_string_rest (append_assoc (escaped_text bs) (34 ∷ []) (m ∷ ms)) ∙ string-tail bs (34 ∷ m ∷ ms) in
        cc

-- The code's cut is the one by the longest match, and there is one such cut.
use Rattle.std.proofs.Common.{◌≡◌, ◌⊎◌, ℕ, ◌+◌, List, [], ◌∷◌, ◌++◌, refl, sym, ◌∙◌, ap, subst, inl, inr, append_assoc, Bool, true, false, length}
use Rattle.std.specs.Prelude.{◌==◌, ◌&&◌, ◌||◌, not, if◌then◌else◌}
use Rattle.std.specs.List.{list_all}
use Rattle.std.proofs.lemmas.List.{append-nil}
use Rattle.sch_read.specs.Grammar.{Token}
use Rattle.sch_read.specs.Lexer.Letters.{is_delimiter, is_word_byte}
use Rattle.sch_read.specs.Lexer.Lexeme.{is_empty, is_string_rest, is_escape_rest, is_character_rest, is_hash_rest, is_lexeme, IsLongest}
use Rattle.sch_read.specs.Lexer.Token.{token_at}
use Rattle.sch_read.specs.Lexer.Cut.{Cuts, nothing, lexeme}
use Rattle.sch_read.specs.Lexer.Scan.{scan}
use Rattle.sch_read.proofs.FirstFault.{parted}

if-both : (t a b c d : Bool) → (a ≡ true → c ≡ true) → (b ≡ true → d ≡ true) → (if t then a else b) ≡ true → (if t then c else d) ≡ true
if-both true a b c d f g h = f h
if-both false a b c d f g h = g h

if-all : (t a b : Bool) → a ≡ true → b ≡ true → (if t then a else b) ≡ true
if-all true a b h k = h
if-all false a b h k = k

and-both : (a b c : Bool) → (b ≡ true → c ≡ true) → a && b ≡ true → a && c ≡ true
and-both true b c f h = f h
and-both false b c f h = h

all-front : (p : ℕ → Bool) (xs ys : List ℕ) → list_all p (xs ++ ys) ≡ true → list_all p xs ≡ true
all-front p [] ys h = refl
all-front p (x ∷ xs) ys h = and-both (p x) (list_all p (xs ++ ys)) (list_all p xs) (all-front p xs ys) h

empty-front : (xs ys : List ℕ) → is_empty (xs ++ ys) ≡ true → is_empty xs ≡ true
empty-front [] ys h = refl
empty-front (x ∷ xs) ys h = h

mutual
  string-front : (xs ys : List ℕ) → is_string_rest (xs ++ ys) ≡ true → is_string_rest xs ≡ true
  string-front [] ys h = refl
  string-front (x ∷ xs) ys h =
      if-both (x == 34) (is_empty (xs ++ ys)) (if x == 92 then is_escape_rest (xs ++ ys) else is_string_rest (xs ++ ys))
      (is_empty xs) (if x == 92 then is_escape_rest xs else is_string_rest xs) (empty-front xs ys)
      (if-both (x == 92) (is_escape_rest (xs ++ ys)) (is_string_rest (xs ++ ys)) (is_escape_rest xs) (is_string_rest xs) (escape-front xs ys) (string-front xs ys)) h

  escape-front : (xs ys : List ℕ) → is_escape_rest (xs ++ ys) ≡ true → is_escape_rest xs ≡ true
  escape-front [] ys h = refl
  escape-front (x ∷ xs) ys h = string-front xs ys h

character-front : (xs ys : List ℕ) → is_character_rest (xs ++ ys) ≡ true → is_character_rest xs ≡ true
character-front [] ys h = refl
character-front (x ∷ xs) ys h = all-front is_word_byte xs ys h

hash-front : (xs ys : List ℕ) → is_hash_rest (xs ++ ys) ≡ true → is_hash_rest xs ≡ true
hash-front [] ys h = refl
hash-front (x ∷ xs) ys h =
    if-both (x == 40) (is_empty (xs ++ ys)) (if x == 92 then is_character_rest (xs ++ ys) else is_word_byte x && list_all is_word_byte (xs ++ ys))
    (is_empty xs) (if x == 92 then is_character_rest xs else is_word_byte x && list_all is_word_byte xs) (empty-front xs ys)
    (if-both (x == 92) (is_character_rest (xs ++ ys)) (is_word_byte x && list_all is_word_byte (xs ++ ys)) (is_character_rest xs) (is_word_byte x && list_all is_word_byte xs)
    (character-front xs ys) (and-both (is_word_byte x) (list_all is_word_byte (xs ++ ys)) (list_all is_word_byte xs) (all-front is_word_byte xs ys))) h

-- each beginning of a lexeme is one
pub lexeme-front : (x : ℕ) (xs ys : List ℕ) → is_lexeme (x ∷ (xs ++ ys)) ≡ true → is_lexeme (x ∷ xs) ≡ true
lexeme-front x xs ys h =
    if-both (x == 59) _ _ _ _ (all-front (λ b. not (b == 10)) xs ys)
    (if-both (x == 34) _ _ _ _ (string-front xs ys)
    (if-both (x == 35) _ _ _ _ (hash-front xs ys)
    (if-both (is_delimiter x || x == 39) _ _ _ _ (empty-front xs ys) (all-front is_word_byte xs ys)))) h

-- each byte begins one
pub lexeme-one : (x : ℕ) → is_lexeme (x ∷ []) ≡ true
lexeme-one x = if-all (x == 59) _ _ refl (if-all (x == 34) _ _ refl (if-all (x == 35) _ _ refl (if-all (is_delimiter x || x == 39) _ _ refl refl)))

part-front : (part : List ℕ) (b : ℕ) (ys : List ℕ) → is_lexeme (part ++ b ∷ ys) ≡ true → is_lexeme (part ++ b ∷ []) ≡ true
part-front [] b ys h = lexeme-front b [] ys h
part-front (p ∷ ps) b ys h = lexeme-front p (ps ++ b ∷ []) ys (ap (λ v. is_lexeme (p ∷ v)) (append_assoc ps (b ∷ []) ys) ∙ h)

pub end-longest : (part : List ℕ) → IsLongest part []
end-longest part [] others e h = refl
end-longest part (m ∷ ms) others e h = cc

pub byte-longest : (part : List ℕ) (b : ℕ) (bs : List ℕ) → is_lexeme (part ++ b ∷ []) ≡ false → IsLongest part (b ∷ bs)
byte-longest part b bs fails [] others e h = refl
byte-longest part b bs fails (m ∷ ms) others e h =
    let same : m ≡ b = cc in
    let longer = part-front part m ms h in
    let P : ℕ → Type 0 = λ v. is_lexeme (part ++ v ∷ []) ≡ true in
    let also = subst P same longer in
    cc

abbrev ScanStep : ℕ → List ℕ → ℕ → List ℕ → Bool → Type 0
ScanStep start part b bs t = Cuts start (part ++ b ∷ bs) (if t then scan start (part ++ b ∷ []) bs else token_at start part ++ scan (start + length part) (b ∷ []) bs)

pub scan-cuts : (bs : List ℕ) (start : ℕ) (part : List ℕ) → is_lexeme part ≡ true → Cuts start (part ++ bs) (scan start part bs)
scan-cuts [] start part h = lexeme start (part ++ []) part [] [] (token_at start part) refl h (end-longest part) (nothing (start + length part)) (sym (append-nil (token_at start part)))
scan-cuts (b ∷ bs) start part h = go (is_lexeme (part ++ b ∷ [])) refl (λ e. scan-cuts bs start (part ++ b ∷ []) e) (scan-cuts bs (start + length part) (b ∷ []) (lexeme-one b))
  where
    go : (t : Bool) → is_lexeme (part ++ b ∷ []) ≡ t → (is_lexeme (part ++ b ∷ []) ≡ true → Cuts start ((part ++ b ∷ []) ++ bs) (scan start (part ++ b ∷ []) bs)) →
        Cuts (start + length part) (b ∷ bs) (scan (start + length part) (b ∷ []) bs) → ScanStep start part b bs t
    go true e f k = let P : List ℕ → Type 0 = λ v. Cuts start v (scan start (part ++ b ∷ []) bs) in subst P (append_assoc part (b ∷ []) bs) (f e)
    go false e f k = lexeme start (part ++ b ∷ bs) part (b ∷ bs) (scan (start + length part) (b ∷ []) bs) _ refl h (byte-longest part b bs e) k refl

-- the whole text
pub text-cuts : (text : List ℕ) → Cuts 0 text (scan 0 [] text)
text-cuts [] = nothing 0
text-cuts (b ∷ bs) =
    let P : Bool → Type 0 = λ t. Cuts 0 (b ∷ bs) (if t then scan 0 (b ∷ []) bs else scan 0 (b ∷ []) bs) in
    subst P (sym (lexeme-one b)) (scan-cuts bs 0 (b ∷ []) (lexeme-one b))

first-one : (first rest second others : List ℕ) → IsLongest first rest → is_lexeme second ≡ true → IsLongest second others → is_lexeme first ≡ true →
    first ++ rest ≡ second ++ others → (second ≡ first) × (others ≡ rest)
first-one first rest second others long holds also is e = go (parted first rest second others e)
  where
    go : ((m : List ℕ) × (second ≡ first ++ m) × (rest ≡ m ++ others)) ⊎ ((m : List ℕ) × (first ≡ second ++ m) × (others ≡ m ++ rest)) → (second ≡ first) × (others ≡ rest)
    go (inl (m, p, q)) =
        let none : m ≡ [] = long m others q (ap is_lexeme (sym p) ∙ holds) in
        (p ∙ ap (λ v. first ++ v) none ∙ append-nil first, sym (q ∙ ap (λ v. v ++ others) none))
    go (inr (m, p, q)) =
        let none : m ≡ [] = also m rest q (ap is_lexeme (sym p) ∙ is) in
        (sym (p ∙ ap (λ v. second ++ v) none ∙ append-nil second), q ∙ ap (λ v. v ++ rest) none)

-- there is one cut
pub cuts-one : (at : ℕ) (text : List ℕ) (ts us : List Token) → Cuts at text ts → Cuts at text us → ts ≡ us
cuts-one at text ts us (nothing _) (nothing _) = refl
cuts-one at text ts us (nothing _) (lexeme _ _ [] rest vs _ e h long c k) = cc
cuts-one at text ts us (nothing _) (lexeme _ _ (x ∷ xs) rest vs _ e h long c k) = cc
cuts-one at text ts us (lexeme _ _ [] rest vs _ e h long c k) (nothing _) = cc
cuts-one at text ts us (lexeme _ _ (x ∷ xs) rest vs _ e h long c k) (nothing _) = cc
cuts-one at text ts us (lexeme _ _ first rest vs _ e h long c k) (lexeme _ _ second others ws _ e' h' long' c' k') =
    let same = first-one first rest second others long h' long' h (sym e ∙ e') in
    let P : List ℕ → Type 0 = λ v. Cuts (at + length v) others ws in
    let Q : List ℕ → Type 0 = λ v. Cuts (at + length first) v ws in
    let tail = cuts-one (at + length first) rest vs ws c (subst Q same.1 (subst P same.0 c')) in
    k ∙ ap (λ v. token_at at first ++ v) tail ∙ ap (λ v. token_at at v ++ ws) (sym same.0) ∙ sym k'

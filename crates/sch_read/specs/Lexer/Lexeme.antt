-- The lexemes of a text: white space, comments and tokens (R5RS 7.1.1), also tokens that are ill
-- formed or cut short. What may follow depends on the first byte.
use Rattle.std.specs.Prelude.{◌==◌, ◌||◌, ◌&&◌, ◌≡◌, ◌++◌, ℕ, Bool, true, false, List, [], ◌∷◌, if◌then◌else◌, not}
use Rattle.std.specs.List.{list_all}
use Rattle.sch_read.specs.Lexer.Letters.{is_delimiter, is_word_byte}

abbrev pub is_empty : List ℕ → Bool
is_empty [] = true
is_empty (b ∷ bs) = false

-- the rest of a string: to its closing quote, or as far as it was written. A backslash takes the
-- byte after it along, so that an escaped quote does not close the string.
abbrev mutual
  pub is_string_rest : List ℕ → Bool
  is_string_rest [] = true
  is_string_rest (b ∷ bs) = if b == 34 then is_empty bs else (if b == 92 then is_escape_rest bs else is_string_rest bs)

  pub is_escape_rest : List ℕ → Bool
  is_escape_rest [] = true
  is_escape_rest (b ∷ bs) = is_string_rest bs

-- the rest of `#\`: any byte, then a word's bytes
abbrev pub is_character_rest : List ℕ → Bool
is_character_rest [] = true
is_character_rest (b ∷ bs) = list_all is_word_byte bs

-- the rest of `#`: a parenthesis, the rest of a character, or a word's bytes
abbrev pub is_hash_rest : List ℕ → Bool
is_hash_rest [] = true
is_hash_rest (b ∷ bs) =
    if b == 40 then is_empty bs
    else (if b == 92 then is_character_rest bs
    else is_word_byte b && list_all is_word_byte bs)

-- the rest of a comment
abbrev pub is_comment_rest : List ℕ → Bool
is_comment_rest bs = list_all (λ b. not (b == 10)) bs

-- `;` begins a comment, `"` a string, and `#` a vector, a character or a word. Other delimiters and
-- `'` stand alone, and any other byte begins a word.
abbrev pub is_lexeme : List ℕ → Bool
is_lexeme [] = false
is_lexeme (b ∷ bs) =
    if b == 59 then is_comment_rest bs
    else (if b == 34 then is_string_rest bs
    else (if b == 35 then is_hash_rest bs
    else (if is_delimiter b || b == 39 then is_empty bs
    else list_all is_word_byte bs)))

-- no longer beginning of the text is a lexeme: more of the rest cannot join the first one
abbrev pub IsLongest : List ℕ → List ℕ → Type 0
IsLongest first rest = (more others : List ℕ) → rest ≡ more ++ others → is_lexeme (first ++ more) ≡ true → more ≡ []

-- Worked rows of the reader (R5RS 2, 4.1.2, 6.3.4, 6.3.5 and 7.1): tokens, the cut of texts, and levels. Each computes.
use Rattle.std.proofs.Common.{◌≡◌, ℕ, List, [], ◌∷◌, ◌++◌, true, false, map, pos, codes, refl}
use Rattle.std.specs.Prelude.{neg_ℤ, Ok, Err}
use Rattle.sch_read.specs.Grammar.{Token, Open, Close, Dot, Plain, Huge, Bad, parenthesis, hash_parenthesis, quote_mark, bad_token, bad_number, bad_string}
use Rattle.sch_read.specs.Grammar.{Data, atom, list, dotted, vector, none, cons, one, quoted, with_tail, boolean, integer, character, text, symbol}
use Rattle.sch_read.specs.Grammar.{Reads, listed, elements, quotes, plain, end, more}
use Rattle.sch_read.specs.Fault.{Unclosed, StrayClose, DeepNesting, LiteralRange, Flawed, open_list, open_quote, open_after, IsFirstFault}
use Rattle.sch_read.specs.Text.{Spells, HasFault, max_nesting}
use Rattle.sch_read.specs.Lexer.Letters.{is_delimiter, is_initial, is_subsequent}
use Rattle.sch_read.specs.Lexer.Numerals.{is_number_like, base_of, numeral_of}
use Rattle.sch_read.specs.Lexer.Lexeme.{is_lexeme}
use Rattle.sch_read.specs.Lexer.Token.{token_at}
use Rattle.sch_read.specs.Lexer.Cut.{Cuts}
use Rattle.sch_read.specs.Lexer.Scan.{scan}
use Rattle.sch_read.specs.Parser.Stack.{run}
use Rattle.sch_read.proofs.Longest.{text-cuts}
use Rattle.sch_read.proofs.Runs.{accepts-forth, accepts-back}
use Rattle.sch_read.proofs.FirstFault.{first_fault}
use Rattle.sch_read.proofs.texts.TextAnswers.{fault-has}

-- the tokens of lexemes, each at place 4
abbrev tokens_of : List (List ℕ) → List (List Token)
tokens_of words = map (token_at 4) words

abbrev number : ℕ → List Token
number n = Plain 4 (integer (pos n)) ∷ []

abbrev named : List ℕ → List Token
named x = Plain 4 (symbol x) ∷ []

abbrev of_character : ℕ → List Token
of_character b = Plain 4 (character b) ∷ []

abbrev of_text : List ℕ → List Token
of_text bs = Plain 4 (text bs) ∷ []

abbrev no_token : List Token
no_token = Bad 4 bad_token ∷ []

abbrev no_number : List Token
no_number = Bad 4 bad_number ∷ []

-- ## Bytes (R5RS 2.1, 2.2 and 7.1.1; tab, carriage return and form feed are the project's own)

-- space, tab, line feed, carriage return, form feed, parentheses, double quote and semicolon; not vertical tab, `'`, `#`, a letter, and 160
delimiters : map is_delimiter (32 ∷ 9 ∷ 10 ∷ 13 ∷ 12 ∷ 40 ∷ 41 ∷ 34 ∷ 59 ∷ []) ≡ true ∷ true ∷ true ∷ true ∷ true ∷ true ∷ true ∷ true ∷ true ∷ []
delimiters = refl

no_delimiters : map is_delimiter (11 ∷ 39 ∷ 35 ∷ 97 ∷ 160 ∷ []) ≡ false ∷ false ∷ false ∷ false ∷ false ∷ []
no_delimiters = refl

-- the special initials
special_initials : map is_initial (codes "!$%&*/") ≡ true ∷ true ∷ true ∷ true ∷ true ∷ true ∷ []
special_initials = refl

more_initials : map is_initial (codes ":<=>?^_~") ≡ true ∷ true ∷ true ∷ true ∷ true ∷ true ∷ true ∷ true ∷ []
more_initials = refl

letters : map is_initial (codes "azAZ") ≡ true ∷ true ∷ true ∷ true ∷ []
letters = refl

-- the bytes beside the letters, and 224
no_initials : map is_initial (codes "`{@[" ++ 224 ∷ []) ≡ false ∷ false ∷ false ∷ false ∷ false ∷ []
no_initials = refl

-- the special subsequents, and digits
subsequents : map is_subsequent (codes "+-.@09z~") ≡ true ∷ true ∷ true ∷ true ∷ true ∷ true ∷ true ∷ true ∷ []
subsequents = refl

subsequents_alone : map is_initial (codes "+-.@09") ≡ false ∷ false ∷ false ∷ false ∷ false ∷ false ∷ []
subsequents_alone = refl

no_subsequents : map is_subsequent (codes "#',|[") ≡ false ∷ false ∷ false ∷ false ∷ false ∷ []
no_subsequents = refl

-- ## Words

-- identifiers, folded to lower case
identifiers : tokens_of (codes "aBc" ∷ codes "a+-.@1" ∷ codes "!" ∷ codes "<=?" ∷ codes "+" ∷ codes "-" ∷ codes "..." ∷ []) ≡
    named (codes "abc") ∷ named (codes "a+-.@1") ∷ named (codes "!") ∷ named (codes "<=?") ∷ named (codes "+") ∷ named (codes "-") ∷ named (codes "...") ∷ []
identifiers = refl

no_identifiers : tokens_of (codes "->x" ∷ codes "+a" ∷ codes "++" ∷ codes ".." ∷ codes "...." ∷ codes "@a" ∷ codes "a#" ∷ codes "a'b" ∷ []) ≡
    no_token ∷ no_token ∷ no_token ∷ no_token ∷ no_token ∷ no_token ∷ no_token ∷ no_token ∷ []
no_identifiers = refl

-- the dot, and the truths in either case
other_words : tokens_of (codes "." ∷ codes "#t" ∷ codes "#T" ∷ codes "#f" ∷ codes "#F" ∷ []) ≡
    (Dot 4 ∷ []) ∷ (Plain 4 (boolean true) ∷ []) ∷ (Plain 4 (boolean true) ∷ []) ∷ (Plain 4 (boolean false) ∷ []) ∷ (Plain 4 (boolean false) ∷ []) ∷ []
other_words = refl

no_words : tokens_of (codes "#" ∷ codes "#a" ∷ codes "#tt" ∷ codes "#e1" ∷ []) ≡ no_token ∷ no_token ∷ no_token ∷ no_token ∷ []
no_words = refl

-- ## Numerals (R5RS 7.1.1)

binary : tokens_of (codes "#b101" ∷ codes "#B101" ∷ codes "#b-11" ∷ []) ≡ number 5 ∷ number 5 ∷ (Plain 4 (integer (neg_ℤ (pos 3))) ∷ []) ∷ []
binary = refl

octal : tokens_of (codes "#o17" ∷ codes "#O17" ∷ []) ≡ number 15 ∷ number 15 ∷ []
octal = refl

decimal : tokens_of (codes "#d19" ∷ codes "#D19" ∷ codes "19" ∷ codes "007" ∷ codes "+7" ∷ []) ≡ number 19 ∷ number 19 ∷ number 19 ∷ number 7 ∷ number 7 ∷ []
decimal = refl

hexadecimal : tokens_of (codes "#x1F" ∷ codes "#X1f" ∷ codes "#xabcdef" ∷ []) ≡ number 31 ∷ number 31 ∷ number 11259375 ∷ []
hexadecimal = refl

-- digits that the base has not, and none
no_digits : tokens_of (codes "#b2" ∷ codes "#o8" ∷ codes "#da" ∷ codes "1a" ∷ codes "#xG" ∷ codes "#x" ∷ codes "#b+" ∷ []) ≡
    no_number ∷ no_number ∷ no_number ∷ no_number ∷ no_number ∷ no_number ∷ no_number ∷ []
no_digits = refl

-- words that are taken for numbers and are none
no_numbers : tokens_of (codes ".5" ∷ codes "1.5" ∷ codes "+5a" ∷ codes "-1-" ∷ codes "1/2" ∷ codes "#x1.8" ∷ []) ≡
    no_number ∷ no_number ∷ no_number ∷ no_number ∷ no_number ∷ no_number ∷ []
no_numbers = refl

number_like : map is_number_like (codes "7" ∷ codes "+7" ∷ codes "-7" ∷ codes ".5" ∷ codes "#b" ∷ codes "#X" ∷ []) ≡ true ∷ true ∷ true ∷ true ∷ true ∷ true ∷ []
number_like = refl

not_number_like : map is_number_like (codes "+" ∷ codes "-a" ∷ codes "..." ∷ codes "+.5" ∷ codes "#a" ∷ codes "a7" ∷ []) ≡ false ∷ false ∷ false ∷ false ∷ false ∷ false ∷ []
not_number_like = refl

bases : map base_of (codes "#b1" ∷ codes "#O1" ∷ codes "#d1" ∷ codes "#X1" ∷ codes "1" ∷ []) ≡ 2 ∷ 8 ∷ 10 ∷ 16 ∷ 10 ∷ []
bases = refl

numerals : map numeral_of (codes "#b1" ∷ codes "-1" ∷ []) ≡ codes "1" ∷ codes "-1" ∷ []
numerals = refl

-- the least and the greatest fixnum, and one beside each
fixnums : tokens_of (codes "1152921504606846975" ∷ codes "-1152921504606846976" ∷ codes "1152921504606846976" ∷ codes "-1152921504606846977" ∷ []) ≡
    number 1152921504606846975 ∷ (Plain 4 (integer (neg_ℤ (pos 1152921504606846976))) ∷ []) ∷ (Huge 4 ∷ []) ∷ (Huge 4 ∷ []) ∷ []
fixnums = refl

-- ## Characters (R5RS 6.3.4)

characters : tokens_of (codes "#\\a" ∷ codes "#\\A" ∷ codes "#\\ " ∷ codes "#\\(" ∷ codes "#\\\\" ∷ (35 ∷ 92 ∷ 233 ∷ []) ∷ []) ≡
    of_character 97 ∷ of_character 65 ∷ of_character 32 ∷ of_character 40 ∷ of_character 92 ∷ of_character 233 ∷ []
characters = refl

named_characters : tokens_of (codes "#\\space" ∷ codes "#\\SPACE" ∷ codes "#\\newline" ∷ codes "#\\Newline" ∷ []) ≡
    of_character 32 ∷ of_character 32 ∷ of_character 10 ∷ of_character 10 ∷ []
named_characters = refl

no_characters : tokens_of (codes "#\\" ∷ codes "#\\a1" ∷ codes "#\\ x" ∷ codes "#\\(x" ∷ codes "#\\spac" ∷ codes "#\\spaces" ∷ []) ≡
    no_token ∷ no_token ∷ no_token ∷ no_token ∷ no_token ∷ no_token ∷ []
no_characters = refl

-- ## Strings (R5RS 6.3.5)

-- an empty one; letters of either case; each escape: a double quote, a backslash, a line feed and a tab (the last two
-- the project's own)
strings : tokens_of (codes "\"\"" ∷ codes "\"aB;(\"" ∷ []) ≡ of_text [] ∷ of_text (codes "aB;(") ∷ []
strings = refl

escapes : tokens_of (codes "\"a\\\"b\"" ∷ codes "\"\\\\\"" ∷ codes "\"\\n\"" ∷ codes "\"\\t\"" ∷ []) ≡
    of_text (97 ∷ 34 ∷ 98 ∷ []) ∷ of_text (92 ∷ []) ∷ of_text (10 ∷ []) ∷ of_text (9 ∷ []) ∷ []
escapes = refl

-- another escape is bad at its backslash, and a string that does not end at its opening quote
bad_escapes : tokens_of (codes "\"\\r\"" ∷ codes "\"ab\\q\"" ∷ codes "\"\\N\"" ∷ []) ≡ (Bad 5 bad_string ∷ []) ∷ (Bad 7 bad_string ∷ []) ∷ (Bad 5 bad_string ∷ []) ∷ []
bad_escapes = refl

endless_strings : tokens_of (codes "\"" ∷ codes "\"ab" ∷ codes "\"ab\\" ∷ codes "\"\\\"" ∷ []) ≡
    (Bad 4 bad_string ∷ []) ∷ (Bad 4 bad_string ∷ []) ∷ (Bad 4 bad_string ∷ []) ∷ (Bad 4 bad_string ∷ []) ∷ []
endless_strings = refl

-- ## Other lexemes

marks : tokens_of (codes "(" ∷ codes ")" ∷ codes "'" ∷ codes "#(" ∷ []) ≡
    (Open 4 parenthesis ∷ []) ∷ (Close 4 ∷ []) ∷ (Open 4 quote_mark ∷ []) ∷ (Open 4 hash_parenthesis ∷ []) ∷ []
marks = refl

-- white space and comments are none
spaces : tokens_of (codes " " ∷ (9 ∷ []) ∷ (10 ∷ []) ∷ (13 ∷ []) ∷ (12 ∷ []) ∷ codes ";a" ∷ []) ≡ [] ∷ [] ∷ [] ∷ [] ∷ [] ∷ [] ∷ []
spaces = refl

lexemes : map is_lexeme (codes "a'b" ∷ codes "#\\(x" ∷ codes "#\\ x" ∷ codes "#(" ∷ codes "; (\"" ∷ codes "\"a\\\"" ∷ []) ≡ true ∷ true ∷ true ∷ true ∷ true ∷ true ∷ []
lexemes = refl

no_lexemes : map is_lexeme (codes "a(" ∷ codes "a;" ∷ codes "a\"" ∷ codes "'a" ∷ codes "#((" ∷ (59 ∷ 10 ∷ []) ∷ codes "\"\"a" ∷ codes "  " ∷ []) ≡
    false ∷ false ∷ false ∷ false ∷ false ∷ false ∷ false ∷ false ∷ []
no_lexemes = refl

-- ## Texts

-- a comment, a string and a vector end a word
cut_by_comment : Cuts 0 (codes "a;b") (Plain 0 (symbol (codes "a")) ∷ [])
cut_by_comment = text-cuts (codes "a;b")

cut_by_line : Cuts 0 (codes ";a" ++ 10 ∷ codes "b") (Plain 3 (symbol (codes "b")) ∷ [])
cut_by_line = text-cuts (codes ";a" ++ 10 ∷ codes "b")

cut_by_string : Cuts 0 (codes "a\"b\"c") (Plain 0 (symbol (codes "a")) ∷ Plain 1 (text (codes "b")) ∷ Plain 4 (symbol (codes "c")) ∷ [])
cut_by_string = text-cuts (codes "a\"b\"c")

cut_by_space : Cuts 0 (codes "a 1") (Plain 0 (symbol (codes "a")) ∷ Plain 2 (integer (pos 1)) ∷ [])
cut_by_space = text-cuts (codes "a 1")

cut_vector : Cuts 0 (codes "#('a)") (Open 0 hash_parenthesis ∷ Open 2 quote_mark ∷ Plain 3 (symbol (codes "a")) ∷ Close 4 ∷ [])
cut_vector = text-cuts (codes "#('a)")

cut_characters : Cuts 0 (codes "#\\((#\\)") (Plain 0 (character 40) ∷ Open 3 parenthesis ∷ Plain 4 (character 41) ∷ [])
cut_characters = text-cuts (codes "#\\((#\\)")

-- ## Data

-- a list after a dot is more of the list; a vector and an atom are not
b_list : Data
b_list = one (atom 6 (symbol (codes "b")))

tail_of_atom : with_tail 1 (one (atom 2 (integer (pos 5)))) (atom 6 (integer (pos 7))) ≡ dotted 1 (one (atom 2 (integer (pos 5)))) (atom 6 (integer (pos 7)))
tail_of_atom = refl

tail_of_list : with_tail 1 (one (atom 2 (integer (pos 5)))) (list 5 b_list) ≡ list 1 (cons (atom 2 (integer (pos 5))) (one (atom 6 (symbol (codes "b")))))
unfolding b_list
tail_of_list = refl

tail_of_dotted : with_tail 1 (one (atom 2 (integer (pos 5)))) (dotted 5 b_list (atom 9 (integer (pos 7)))) ≡
    dotted 1 (cons (atom 2 (integer (pos 5))) (one (atom 6 (symbol (codes "b"))))) (atom 9 (integer (pos 7)))
unfolding b_list
tail_of_dotted = refl

tail_of_vector : with_tail 1 (one (atom 2 (integer (pos 5)))) (vector 5 b_list) ≡ dotted 1 (one (atom 2 (integer (pos 5)))) (vector 5 b_list)
tail_of_vector = refl

-- a text spells the data to which its tokens are joined
spelled : (bytes : List ℕ) (xs : Data) → run max_nesting [] none (scan 0 [] bytes) ≡ Ok xs → Spells bytes xs
spelled bytes xs e = (scan 0 [] bytes, text-cuts bytes, accepts-back max_nesting _ xs e)

-- a quote and its symbol stand at the quote mark, and `(A . (b c))` is `(a b c)`
abbrev quoted_tail : Data
quoted_tail =
    one (list 0 (cons (atom 0 (symbol (codes "quote"))) (one (list 1
    (cons (atom 2 (symbol (codes "a"))) (cons (atom 7 (symbol (codes "b"))) (one (atom 9 (symbol (codes "c"))))))))))

spells_quoted_tail : Spells (codes "'(A . (b c))") quoted_tail
spells_quoted_tail = spelled (codes "'(A . (b c))") quoted_tail refl

-- ## Faults

-- what is not closed, at the innermost; a close of nothing
unclosed_list : HasFault (codes "(a (b)") (Unclosed 0)
unclosed_list = fault-has (codes "(a (b)") (Unclosed 0) refl

unclosed_inner : HasFault (codes "(a '(b") (Unclosed 4)
unclosed_inner = fault-has (codes "(a '(b") (Unclosed 4) refl

unclosed_quote : HasFault (codes "a '") (Unclosed 2)
unclosed_quote = fault-has (codes "a '") (Unclosed 2) refl

stray_close : HasFault (codes "(a))") (StrayClose 3)
stray_close = fault-has (codes "(a))") (StrayClose 3) refl

-- tokens that may not stand where they are: dots, closes, and a second datum after a dot
dot_at_top : HasFault (codes "a . b") (Flawed 2 bad_token)
dot_at_top = fault-has (codes "a . b") (Flawed 2 bad_token) refl

dot_first : HasFault (codes "( . b)") (Flawed 2 bad_token)
dot_first = fault-has (codes "( . b)") (Flawed 2 bad_token) refl

dot_in_vector : HasFault (codes "#(a . b)") (Flawed 4 bad_token)
dot_in_vector = fault-has (codes "#(a . b)") (Flawed 4 bad_token) refl

close_after_dot : HasFault (codes "(1 . )") (Flawed 5 bad_token)
close_after_dot = fault-has (codes "(1 . )") (Flawed 5 bad_token) refl

close_after_quote : HasFault (codes "(')") (Flawed 2 bad_token)
close_after_quote = fault-has (codes "(')") (Flawed 2 bad_token) refl

second_after_dot : HasFault (codes "(a . b c)") (Flawed 7 bad_token)
second_after_dot = fault-has (codes "(a . b c)") (Flawed 7 bad_token) refl

-- an integer that is no fixnum, a bad number and a bad string; the first fault is the one
huge_integer : IsFirstFault max_nesting (Open 0 parenthesis ∷ Huge 1 ∷ Bad 21 bad_number ∷ []) (LiteralRange 1)
huge_integer = first_fault max_nesting (Open 0 parenthesis ∷ Huge 1 ∷ Bad 21 bad_number ∷ []) (LiteralRange 1) refl

flawed_number : HasFault (codes "(a 1.5 \"b") (Flawed 3 bad_number)
flawed_number = fault-has (codes "(a 1.5 \"b") (Flawed 3 bad_number) refl

flawed_string : HasFault (codes "(a \"b") (Flawed 3 bad_string)
flawed_string = fault-has (codes "(a \"b") (Flawed 3 bad_string) refl

-- ## What is open

open_quote_in_list : open_after [] (Open 0 parenthesis ∷ Open 1 quote_mark ∷ []) ≡ open_quote 1 ∷ open_list 0 ∷ []
open_quote_in_list = refl

settled_quotes : open_after [] (Open 0 hash_parenthesis ∷ Open 2 quote_mark ∷ Open 3 quote_mark ∷ Plain 4 (boolean true) ∷ []) ≡ open_list 0 ∷ []
settled_quotes = refl

open_list_in_quote : open_after [] (Open 0 quote_mark ∷ Open 1 parenthesis ∷ Plain 2 (boolean true) ∷ Dot 5 ∷ []) ≡ open_list 1 ∷ open_quote 0 ∷ []
open_list_in_quote = refl

closed_in_quote : open_after [] (Open 0 quote_mark ∷ Open 1 parenthesis ∷ Close 2 ∷ []) ≡ []
closed_in_quote = refl

-- ## Levels: each opener takes one, and with none left nothing is read of it

-- a text has up to 1,000
most_levels : max_nesting ≡ 1000
most_levels = refl

-- `()`, `#()` and `'#t` in one level
list_level : Reads 1 (Open 0 parenthesis ∷ Close 1 ∷ []) (one (list 0 none))
list_level = more 1 _ [] _ none [] (listed 0 0 1 (Close 1 ∷ []) none [] (end 0 (Close 1 ∷ []))) (end 1 [])

vector_level : Reads 1 (Open 0 hash_parenthesis ∷ Close 2 ∷ []) (one (vector 0 none))
vector_level = more 1 _ [] _ none [] (elements 0 0 2 (Close 2 ∷ []) none [] (end 0 (Close 2 ∷ []))) (end 1 [])

quote_level : Reads 1 (Open 0 quote_mark ∷ Plain 1 (boolean true) ∷ []) (one (quoted 0 (atom 1 (boolean true))))
quote_level = more 1 _ [] _ none [] (quotes 0 0 (Plain 1 (boolean true) ∷ []) (atom 1 (boolean true)) [] (plain 0 1 (boolean true) [])) (end 1 [])

-- tokens that lead to this fault are read in no data
too_deep : (ts : List Token) (at : ℕ) → run 1 [] none ts ≡ Err (DeepNesting at) → (xs : Data) → Reads 1 ts xs → ⊥
too_deep ts at e xs r = let h = accepts-forth 1 ts xs r in cc

-- `(())`, `#(())`, `'()`, `(#())`, `('#t)` and `''#t` are not in one
list_too_deep : (xs : Data) → Reads 1 (Open 0 parenthesis ∷ Open 1 parenthesis ∷ Close 2 ∷ Close 3 ∷ []) xs → ⊥
list_too_deep = too_deep _ 1 refl

list_in_vector_too_deep : (xs : Data) → Reads 1 (Open 0 hash_parenthesis ∷ Open 2 parenthesis ∷ Close 3 ∷ Close 4 ∷ []) xs → ⊥
list_in_vector_too_deep = too_deep _ 2 refl

list_in_quote_too_deep : (xs : Data) → Reads 1 (Open 0 quote_mark ∷ Open 1 parenthesis ∷ Close 2 ∷ []) xs → ⊥
list_in_quote_too_deep = too_deep _ 1 refl

vector_too_deep : (xs : Data) → Reads 1 (Open 0 parenthesis ∷ Open 1 hash_parenthesis ∷ Close 3 ∷ Close 4 ∷ []) xs → ⊥
vector_too_deep = too_deep _ 1 refl

quote_too_deep : (xs : Data) → Reads 1 (Open 0 parenthesis ∷ Open 1 quote_mark ∷ Plain 2 (boolean true) ∷ Close 4 ∷ []) xs → ⊥
quote_too_deep = too_deep _ 1 refl

quotes_too_deep : (xs : Data) → Reads 1 (Open 0 quote_mark ∷ Open 1 quote_mark ∷ Plain 2 (boolean true) ∷ []) xs → ⊥
quotes_too_deep = too_deep _ 1 refl

-- Worked rows of printed data (R5RS 4.1.2, 6.3.2 and 6.6.3): each computes.
use Rattle.std.proofs.Common.{◌≡◌, ℕ, List, [], ◌∷◌, true, false, map, pos, codes, refl}
use Rattle.std.specs.Prelude.{neg_ℤ}
use Rattle.std.specs.Fmt.{digits}
use Rattle.sch_read.specs.Grammar.{Datum, Data, atom, list, dotted, vector, none, cons, one, quoted, with_tail, boolean, integer, character, text, symbol}
use Rattle.sch_print.specs.Printed.{datum_text, without_places}

abbrev named : ℕ → List ℕ → Datum
named at x = atom at (symbol x)

abbrev a : Datum
a = named 2 (codes "a")

abbrev b_and_c : Data
b_and_c = cons (named 7 (codes "b")) (one (named 9 (codes "c")))

-- the datum of `'(A . (b c))`, and that of `(a . 5)`
quoted_list : datum_text (quoted 0 (with_tail 1 (one a) (list 6 b_and_c))) ≡ codes "(quote (a b c))"
quoted_list = refl

pair : datum_text (with_tail 1 (one a) (atom 6 (integer (pos 5)))) ≡ codes "(a . 5)"
unfolding digits
pair = refl

long_pair : datum_text (dotted 0 (cons a b_and_c) (vector 9 b_and_c)) ≡ codes "(a b c . #(b c))"
long_pair = refl

empty : map datum_text (list 0 none ∷ vector 0 none ∷ []) ≡ codes "()" ∷ codes "#()" ∷ []
empty = refl

nested : datum_text (list 0 (cons (list 1 (one a)) (one (vector 5 (one (list 7 none)))))) ≡ codes "((a) #(()))"
nested = refl

truths : map datum_text (atom 0 (boolean true) ∷ atom 0 (boolean false) ∷ []) ≡ codes "#t" ∷ codes "#f" ∷ []
truths = refl

integers : map datum_text (atom 0 (integer (pos 0)) ∷ atom 0 (integer (pos 120)) ∷ atom 0 (integer (neg_ℤ (pos 7))) ∷ []) ≡ codes "0" ∷ codes "120" ∷ codes "-7" ∷ []
unfolding digits
integers = refl

-- the space and the line feed have names
characters : map datum_text (atom 0 (character 97) ∷ atom 0 (character 32) ∷ atom 0 (character 10) ∷ atom 0 (character 9) ∷ []) ≡
    codes "#\\a" ∷ codes "#\\space" ∷ codes "#\\newline" ∷ (35 ∷ 92 ∷ 9 ∷ []) ∷ []
characters = refl

-- a double quote and a backslash are escaped, and a line feed and a tab are not
texts : map datum_text (atom 0 (text (codes "a\"b\\c")) ∷ atom 0 (text (10 ∷ 9 ∷ [])) ∷ []) ≡ codes "\"a\\\"b\\\\c\"" ∷ (34 ∷ 10 ∷ 9 ∷ 34 ∷ []) ∷ []
texts = refl

-- the places alone are left out
placeless : without_places (dotted 3 (one (list 4 (one a))) (vector 8 (one a))) ≡
    dotted 0 (one (list 0 (one (named 0 (codes "a"))))) (vector 0 (one (named 0 (codes "a"))))
placeless = refl

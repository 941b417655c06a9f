-- Worked rows of the keywords (R5RS 4.1, 4.2, 5.2 and 7.1.1) and of the operations with the counts of operands that each
-- name admits (R5RS 6.1 to 6.4): each computes.
use Rattle.std.proofs.Common.{◌≡◌, ℕ, List, [], ◌∷◌, Option, Some, None, true, false, pos, map, codes, refl}
use Rattle.sch_word.specs.declared.primitive.Primitive.{Primitive}
use Rattle.sch_word.specs.declared.primitive.Primitive.TheVariants.{Eq, Eqv, IsBoolean, IsPair, IsNull, IsSymbol, IsInteger, IsChar, IsString, IsVector, IsProcedure, Cons, Car, Cdr, SetCar}
use Rattle.sch_word.specs.declared.primitive.Primitive.TheVariants.{SetCdr, Add, Subtract, Multiply, Quotient, Remainder, Modulo, Equal, Less, Greater, LessEqual, GreaterEqual, CharToInteger}
use Rattle.sch_word.specs.declared.primitive.Primitive.TheVariants.{IntegerToChar, MakeString, StringLength, StringRef, StringSet, MakeVector, VectorLength, VectorRef, VectorSet, Put, SymbolLength, SymbolRef}
use Rattle.sch_names.specs.declared.keyword.Keyword.TheVariants.{Quote, Lambda, If, Set, Cond, Case, And, Or, Let, LetStar, Letrec, Begin, Do, Define, Else, Arrow, LeftOut}
use Rattle.sch_names.specs.declared.operation.Operation.{Operation}
use Rattle.sch_names.specs.declared.operation.Operation.TheVariants.{Exact, Unit, UnitAnd, Nested, Chained, Filled, Not}
use Rattle.sch_names.specs.Words.{keyword_of}
use Rattle.sch_names.specs.Operations.{operation_of, unit_of}

-- ## Keywords

-- the primitive expressions (R5RS 4.1.2, 4.1.4 to 4.1.6)
primitive_words : map keyword_of (codes "quote" ∷ codes "lambda" ∷ codes "if" ∷ codes "set!" ∷ []) ≡ Some Quote ∷ Some Lambda ∷ Some If ∷ Some Set ∷ []
unfolding keyword_of
primitive_words = refl

-- conditionals (R5RS 4.2.1)
conditional_words : map keyword_of (codes "cond" ∷ codes "case" ∷ codes "and" ∷ codes "or" ∷ codes "else" ∷ codes "=>" ∷ []) ≡
    Some Cond ∷ Some Case ∷ Some And ∷ Some Or ∷ Some Else ∷ Some Arrow ∷ []
unfolding keyword_of
conditional_words = refl

-- bindings, sequences, iteration and definitions (R5RS 4.2.2 to 4.2.4 and 5.2)
binding_words : map keyword_of (codes "let" ∷ codes "let*" ∷ codes "letrec" ∷ codes "begin" ∷ codes "do" ∷ codes "define" ∷ []) ≡
    Some Let ∷ Some LetStar ∷ Some Letrec ∷ Some Begin ∷ Some Do ∷ Some Define ∷ []
unfolding keyword_of
binding_words = refl

-- those that are left out (R5RS 4.2.5, 4.2.6, 4.3 and 5.3)
quasiquote_words : map keyword_of (codes "quasiquote" ∷ codes "unquote" ∷ codes "unquote-splicing" ∷ codes "delay" ∷ []) ≡
    Some LeftOut ∷ Some LeftOut ∷ Some LeftOut ∷ Some LeftOut ∷ []
unfolding keyword_of
quasiquote_words = refl

syntax_words : map keyword_of (codes "define-syntax" ∷ codes "let-syntax" ∷ codes "letrec-syntax" ∷ codes "syntax-rules" ∷ []) ≡
    Some LeftOut ∷ Some LeftOut ∷ Some LeftOut ∷ Some LeftOut ∷ []
unfolding keyword_of
syntax_words = refl

-- other words: the name of a procedure, a keyword's beginning, one that goes on, and none
other_words : map keyword_of (codes "car" ∷ codes "lambd" ∷ codes "quoted" ∷ [] ∷ []) ≡ None ∷ None ∷ None ∷ None ∷ []
unfolding keyword_of
other_words = refl

-- ## Operations

-- what a name is with none to four operands, in the text of a program
abbrev at_counts : List ℕ → List (Option Operation)
at_counts name = map (operation_of false name) (0 ∷ 1 ∷ 2 ∷ 3 ∷ 4 ∷ [])

-- admitted with one, with two or with three operands alone
abbrev of_one : Primitive → List (Option Operation)
of_one p = None ∷ Some (Exact p) ∷ None ∷ None ∷ None ∷ []

abbrev of_two : Primitive → List (Option Operation)
of_two p = None ∷ None ∷ Some (Exact p) ∷ None ∷ None ∷ []

abbrev of_three : Primitive → List (Option Operation)
of_three p = None ∷ None ∷ None ∷ Some (Exact p) ∷ None ∷ []

-- `+` and `*` of any number, `-` of at least one, a comparison of at least two, and a maker of one or two
abbrev of_any : Primitive → List (Option Operation)
of_any p = Some (Unit p) ∷ Some (UnitAnd p) ∷ Some (Exact p) ∷ Some (Nested p) ∷ Some (Nested p) ∷ []

abbrev of_some : Primitive → List (Option Operation)
of_some p = None ∷ Some (UnitAnd p) ∷ Some (Exact p) ∷ Some (Nested p) ∷ Some (Nested p) ∷ []

abbrev of_several : Primitive → List (Option Operation)
of_several p = None ∷ None ∷ Some (Exact p) ∷ Some (Chained p) ∷ Some (Chained p) ∷ []

abbrev of_one_or_two : Primitive → List (Option Operation)
of_one_or_two p = None ∷ Some (Filled p) ∷ Some (Exact p) ∷ None ∷ None ∷ []

-- equivalence (R5RS 6.1)
equivalences : map at_counts (codes "eq?" ∷ codes "eqv?" ∷ []) ≡ map of_two (Eq ∷ Eqv ∷ [])
unfolding operation_of
equivalences = refl

-- the predicates of types (R5RS 3.2, 6.2.5 and 6.3.2)
predicates : map at_counts (codes "boolean?" ∷ codes "pair?" ∷ codes "null?" ∷ codes "symbol?" ∷ codes "integer?" ∷ []) ≡
    map of_one (IsBoolean ∷ IsPair ∷ IsNull ∷ IsSymbol ∷ IsInteger ∷ [])
unfolding operation_of
predicates = refl

more_predicates : map at_counts (codes "char?" ∷ codes "string?" ∷ codes "vector?" ∷ codes "procedure?" ∷ []) ≡
    map of_one (IsChar ∷ IsString ∷ IsVector ∷ IsProcedure ∷ [])
unfolding operation_of
more_predicates = refl

-- numbers (R5RS 6.2.5)
sums : map at_counts (codes "+" ∷ codes "*" ∷ []) ≡ map of_any (Add ∷ Multiply ∷ [])
unfolding operation_of
sums = refl

differences : at_counts (codes "-") ≡ of_some Subtract
unfolding operation_of
differences = refl

comparisons : map at_counts (codes "=" ∷ codes "<" ∷ codes ">" ∷ codes "<=" ∷ codes ">=" ∷ []) ≡
    map of_several (Equal ∷ Less ∷ Greater ∷ LessEqual ∷ GreaterEqual ∷ [])
unfolding operation_of
comparisons = refl

quotients : map at_counts (codes "quotient" ∷ codes "remainder" ∷ codes "modulo" ∷ []) ≡ map of_two (Quotient ∷ Remainder ∷ Modulo ∷ [])
unfolding operation_of
quotients = refl

-- pairs (R5RS 6.3.2)
pairs : map at_counts (codes "cons" ∷ codes "set-car!" ∷ codes "set-cdr!" ∷ []) ≡ map of_two (Cons ∷ SetCar ∷ SetCdr ∷ [])
unfolding operation_of
pairs = refl

parts_of_pairs : map at_counts (codes "car" ∷ codes "cdr" ∷ []) ≡ map of_one (Car ∷ Cdr ∷ [])
unfolding operation_of
parts_of_pairs = refl

-- characters and strings (R5RS 6.3.4 and 6.3.5)
characters : map at_counts (codes "char->integer" ∷ codes "integer->char" ∷ []) ≡ map of_one (CharToInteger ∷ IntegerToChar ∷ [])
unfolding operation_of
characters = refl

strings : map at_counts (codes "make-string" ∷ codes "string-length" ∷ codes "string-ref" ∷ codes "string-set!" ∷ []) ≡
    of_one_or_two MakeString ∷ of_one StringLength ∷ of_two StringRef ∷ of_three StringSet ∷ []
unfolding operation_of
strings = refl

-- vectors (R5RS 6.3.6)
vectors : map at_counts (codes "make-vector" ∷ codes "vector-length" ∷ codes "vector-ref" ∷ codes "vector-set!" ∷ []) ≡
    of_one_or_two MakeVector ∷ of_one VectorLength ∷ of_two VectorRef ∷ of_three VectorSet ∷ []
unfolding operation_of
vectors = refl

-- `not` (R5RS 6.3.1)
denials : at_counts (codes "not") ≡ None ∷ Some Not ∷ None ∷ None ∷ None ∷ []
unfolding operation_of
denials = refl

-- other names: a procedure of the library, a keyword, a primitive's beginning, and none
other_names : map (λ name. operation_of false name 1) (codes "list" ∷ codes "if" ∷ codes "ca" ∷ [] ∷ []) ≡ None ∷ None ∷ None ∷ None ∷ []
unfolding operation_of
other_names = refl

-- names that the text of a library alone means an operation by; the others it has as well
hidden : map (operation_of false (codes "%put")) (0 ∷ 1 ∷ 2 ∷ []) ≡ None ∷ None ∷ None ∷ []
unfolding operation_of
hidden = refl

hidden_lengths : map (operation_of false (codes "%symbol-length")) (0 ∷ 1 ∷ 2 ∷ []) ≡ None ∷ None ∷ None ∷ []
unfolding operation_of
hidden_lengths = refl

hidden_references : map (operation_of false (codes "%symbol-ref")) (1 ∷ 2 ∷ 3 ∷ []) ≡ None ∷ None ∷ None ∷ []
unfolding operation_of
hidden_references = refl

internal_puts : map (operation_of true (codes "%put")) (0 ∷ 1 ∷ 2 ∷ []) ≡ None ∷ Some (Exact Put) ∷ None ∷ []
unfolding operation_of
internal_puts = refl

internal_lengths : map (operation_of true (codes "%symbol-length")) (0 ∷ 1 ∷ 2 ∷ []) ≡ None ∷ Some (Exact SymbolLength) ∷ None ∷ []
unfolding operation_of
internal_lengths = refl

internal_references : map (operation_of true (codes "%symbol-ref")) (1 ∷ 2 ∷ 3 ∷ []) ≡ None ∷ Some (Exact SymbolRef) ∷ None ∷ []
unfolding operation_of
internal_references = refl

internal_text : map (operation_of true (codes "car")) (0 ∷ 1 ∷ 2 ∷ []) ≡ None ∷ Some (Exact Car) ∷ None ∷ []
unfolding operation_of
internal_text = refl

-- what a sum, a difference and a product begin with (R5RS 6.2.5): `(+)` is 0, `(- a)` is 0 less a, and `(*)` is 1
units : map unit_of (Add ∷ Subtract ∷ Multiply ∷ []) ≡ pos 0 ∷ pos 0 ∷ pos 1 ∷ []
units = refl

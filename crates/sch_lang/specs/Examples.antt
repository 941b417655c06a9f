-- Small programs as core trees; proofs/Examples.antt says what each of them does.
use Rattle.std.specs.Prelude.{ℕ, zero, suc, Bool, true, false, ℤ, pos, negsuc, List, [], ◌∷◌, Some, None, codes, replicate}
use Rattle.sch_word.specs.declared.constant.Const.TheVariants.{Fixnum, Character, Boolean, Nil, Symbol}
use Rattle.sch_word.specs.declared.primitive.Primitive.{Primitive}
use Rattle.sch_word.specs.declared.primitive.Primitive.TheVariants.{Eq, Cons, Car, Cdr, SetCar, Add, Subtract, Quotient, Modulo, Equal, StringSet, MakeVector, VectorRef, Put, SymbolLength}
use Rattle.sch_word.specs.values.Literals.{text, list, elements, no_literals, and_literal}
use Rattle.sch_word.specs.values.Literals as literals
use Rattle.sch_word.specs.runs.Runs.{Run, going}
use Rattle.sch_word.specs.runs.Orders.{in_text_order}
use Rattle.sch_lang.specs.Tree.{Expression, constant, literal, local, global, set_local, set_global, define, branch, sequence, bind, fix, letrec, lambda, call, operation, no_lambdas, and_lambda, expressions, Source}
use Rattle.sch_lang.specs.Run.{run}

-- ## Ways to write a program

abbrev pub number : ℤ → Expression
number n = constant (Fixnum n)

abbrev pub minus : ℕ → ℤ
minus zero = pos zero
minus (suc n) = negsuc n

abbrev pub boolean : Bool → Expression
boolean b = constant (Boolean b)

abbrev pub one : (site : ℕ) → Primitive → Expression → Expression
one site which a = operation site which (expressions (a ∷ []))

abbrev pub two : (site : ℕ) → Primitive → Expression → Expression → Expression
two site which a b = operation site which (expressions (a ∷ (b ∷ [])))

abbrev pub put : (site : ℕ) → Expression → Expression
put site e = one site Put e

abbrev pub function : (formals : ℕ) → Expression → Expression
function formals e = lambda [] formals false e

abbrev pub apply : (site : ℕ) → Expression → List Expression → Expression
apply site f es = call site f (expressions es)

-- a program of forms, with a number of globals, which are unset
abbrev pub program : (globals : ℕ) → (sites : List ℕ) → List Expression → Source
program globals sites forms = record {
  statics = record { symbols = []; literals = no_literals; globals = replicate globals None };
  library = no_lambdas;
  forms = expressions forms;
  sites = sites;
}

-- ## Ways to run it

-- in the order of the text, with a heap of 4,096 bytes and a kernel that takes all
abbrev pub plain_run : Source → (depth entries : ℕ) → Run
plain_run p depth entries = run p (in_text_order p.sites) 4096 depth [] entries

-- the same with another heap
abbrev pub heap_run : Source → (heap depth entries : ℕ) → Run
heap_run p heap depth entries = run p (in_text_order p.sites) heap depth [] entries

abbrev pub goes_on : (output : List ℕ) → (entries charged : ℕ) → Run
goes_on output entries charged = record { output = output; entries = entries; charged = charged; answers = 0; end = going }

-- ## Arithmetic and its stops

-- (%put (+ 1 2)) (%put #\newline)
abbrev pub sum_line : Source
sum_line = program 0 (1 ∷ 2 ∷ 1 ∷ []) (put 0 (two 1 Add (number (pos 1)) (number (pos 2))) ∷ put 2 (constant (Character 10)) ∷ [])

-- (%put n)
abbrev pub put_number : ℤ → Source
put_number n = program 0 (1 ∷ []) (put 0 (number n) ∷ [])

-- (%put (+ n 1))
abbrev pub put_next : ℤ → Source
put_next n = program 0 (1 ∷ 2 ∷ []) (put 0 (two 1 Add (number n) (number (pos 1))) ∷ [])

-- (%put (quotient (- 0 7) 2)) (%put (modulo -7 2))
abbrev pub divisions : Source
divisions = program 0 (1 ∷ 2 ∷ 2 ∷ 1 ∷ 2 ∷ [])
    (put 0 (two 1 Quotient (two 2 Subtract (number (pos 0)) (number (pos 7))) (number (pos 2)))
    ∷ put 3 (two 4 Modulo (number (minus 7)) (number (pos 2))) ∷ [])

-- (quotient 1 0)
abbrev pub divide_by_zero : Source
divide_by_zero = program 0 (2 ∷ []) (two 0 Quotient (number (pos 1)) (number (pos 0)) ∷ [])

-- (car 1)
abbrev pub car_of_number : Source
car_of_number = program 0 (1 ∷ []) (one 0 Car (number (pos 1)) ∷ [])

-- (vector-ref (make-vector 2 0) 2)
abbrev pub past_the_end : Source
past_the_end = program 0 (2 ∷ 2 ∷ []) (two 0 VectorRef (two 1 MakeVector (number (pos 2)) (number (pos 0))) (number (pos 2)) ∷ [])

-- ## Calls

-- (1 2)
abbrev pub call_of_number : Source
call_of_number = program 0 (2 ∷ []) (apply 0 (number (pos 1)) (number (pos 2) ∷ []) ∷ [])

-- ((lambda (x) x))
abbrev pub wrong_count : Source
wrong_count = program 0 (1 ∷ []) (apply 0 (function 1 (local 0)) [] ∷ [])

-- ((lambda () 1)) ((lambda (x) x))
abbrev pub right_then_wrong_count : Source
right_then_wrong_count = program 0 (1 ∷ 1 ∷ []) (apply 0 (function 0 (number (pos 1))) [] ∷ apply 1 (function 1 (local 0)) [] ∷ [])

-- (define (loop i) (if (= i 0) (%put "ok") (loop (- i 1)))) (loop n)
abbrev pub loop_of : ℕ → Source
loop_of n = record {
  statics = record { symbols = []; literals = and_literal (text (codes "ok")) no_literals; globals = None ∷ [] };
  library = no_lambdas;
  forms = expressions
      (define 0 (function 1 (branch (two 0 Equal (local 0) (number (pos 0))) (put 1 (literal 0))
      (apply 2 (global 0) (two 3 Subtract (local 0) (number (pos 1)) ∷ []))))
      ∷ apply 4 (global 0) (number (pos n) ∷ []) ∷ []);
  sites = 2 ∷ 1 ∷ 2 ∷ 2 ∷ 2 ∷ [];
}

-- (define (d n) (if (= n 0) 0 (+ 1 (d (- n 1))))) (%put (d 9))
abbrev pub nested_nine : Source
nested_nine = program 1 (2 ∷ 2 ∷ 2 ∷ 2 ∷ 1 ∷ 2 ∷ [])
    (define 0 (function 1 (branch (two 0 Equal (local 0) (number (pos 0))) (number (pos 0))
    (two 1 Add (number (pos 1)) (apply 2 (global 0) (two 3 Subtract (local 0) (number (pos 1)) ∷ [])))))
    ∷ put 4 (apply 5 (global 0) (number (pos 9) ∷ [])) ∷ [])

-- (define p (cons 1 2)) (define x 10) (define (f a b) a)
-- (%put (f (+ x (car p)) (begin (set! x 20) (set-car! p 5) 0)))
abbrev pub two_orders : Source
two_orders = program 3 (2 ∷ 1 ∷ 3 ∷ 2 ∷ 1 ∷ 2 ∷ [])
    (define 0 (two 0 Cons (number (pos 1)) (number (pos 2)))
    ∷ define 1 (number (pos 10))
    ∷ define 2 (function 2 (local 1))
    ∷ put 1 (apply 2 (global 2)
    (two 3 Add (global 1) (one 4 Car (global 0))
    ∷ sequence (expressions (set_global 1 (number (pos 20)) ∷ two 5 SetCar (global 0) (number (pos 5)) ∷ number (pos 0) ∷ []))
    ∷ []))
    ∷ [])

-- a table for it with this order of the call's operator and operands
abbrev pub two_orders_table : List ℕ → List (List ℕ)
two_orders_table order = (0 ∷ 1 ∷ []) ∷ (0 ∷ []) ∷ order ∷ (0 ∷ 1 ∷ []) ∷ (0 ∷ []) ∷ (0 ∷ 1 ∷ []) ∷ []

-- (define (swap a b n) (if (= n 0) (%put a) (swap b a (- n 1)))) (swap 1 2 3)
abbrev pub swap_thrice : Source
swap_thrice = program 1 (2 ∷ 1 ∷ 4 ∷ 2 ∷ 4 ∷ [])
    (define 0 (function 3 (branch (two 0 Equal (local 0) (number (pos 0))) (put 1 (local 2))
    (apply 2 (global 0) (local 1 ∷ local 2 ∷ two 3 Subtract (local 0) (number (pos 1)) ∷ []))))
    ∷ apply 4 (global 0) (number (pos 1) ∷ number (pos 2) ∷ number (pos 3) ∷ []) ∷ [])

-- (define (f) (f)) (f)
abbrev pub endless : Source
endless = program 1 (1 ∷ 1 ∷ []) (define 0 (function 0 (apply 0 (global 0) [])) ∷ apply 1 (global 0) [] ∷ [])

-- ((lambda (x . r) (%put (car (cdr r)))) 1 2 3)
abbrev pub rest_list : Source
rest_list = program 0 (4 ∷ 1 ∷ 1 ∷ 1 ∷ [])
    (apply 0 (lambda [] 2 true (put 1 (one 2 Car (one 3 Cdr (local 0))))) (number (pos 1) ∷ number (pos 2) ∷ number (pos 3) ∷ []) ∷ [])

-- a library with (define (car a) (car a)), whose procedure the one global holds at the start: (car 1)
abbrev pub library_call : Source
library_call = record {
  statics = record { symbols = []; literals = no_literals; globals = Some 0 ∷ [] };
  library = and_lambda (codes "car") 1 false (one 0 Car (local 0)) no_lambdas;
  forms = expressions (apply 1 (global 0) (number (pos 1) ∷ []) ∷ []);
  sites = 1 ∷ 2 ∷ [];
}

-- ## Variables

-- (letrec ((a b) (b 1)) a)
abbrev pub unset_init : Source
unset_init = program 0 (2 ∷ []) (letrec 0 (expressions (local 0 ∷ number (pos 1) ∷ [])) (local 1) ∷ [])

-- (%put x) (define x 1)
abbrev pub unset_global : Source
unset_global = program 1 (1 ∷ []) (put 0 (global 0) ∷ define 0 (number (pos 1)) ∷ [])

-- (letrec ((even (lambda (n) (if (= n 0) #t (odd (- n 1))))) (odd ..)) (%put (even n)))
abbrev pub even_odd : ℕ → Source
even_odd n = program 0 (1 ∷ 2 ∷ 2 ∷ 2 ∷ 2 ∷ 2 ∷ 2 ∷ 2 ∷ [])
    (fix (and_lambda [] 1 false (half 1 true (local 1)) (and_lambda [] 1 false (half 4 false (local 2)) no_lambdas))
    (put 0 (apply 7 (local 1) (number (pos n) ∷ []))) ∷ [])
  where
    half : (site : ℕ) → Bool → Expression → Expression
    half site answer other = branch (two site Equal (local 0) (number (pos 0))) (boolean answer)
        (apply (suc site) other (two (suc (suc site)) Subtract (local 0) (number (pos 1)) ∷ []))

-- (let ((x 1) (y 2)) (set! x 5) (%put (+ x y)))
abbrev pub assigned_local : Source
assigned_local = program 0 (2 ∷ 1 ∷ 2 ∷ [])
    (bind 0 (expressions (number (pos 1) ∷ number (pos 2) ∷ []))
    (sequence (expressions (set_local 1 (number (pos 5)) ∷ put 1 (two 2 Add (local 1) (local 0)) ∷ []))) ∷ [])

-- (letrec ((a 7) (b (lambda () a))) (%put (b))) where a is assigned nowhere
abbrev pub recursive_inits : Source
recursive_inits = program 0 (2 ∷ 1 ∷ 1 ∷ [])
    (letrec 0 (expressions (number (pos 7) ∷ function 0 (local 1) ∷ [])) (put 1 (apply 2 (local 0) [])) ∷ [])

-- (define (make) (let ((n 0)) (lambda () (set! n (+ n 1)) n))) (define c (make)) (c) (%put (c))
abbrev pub counter : Source
counter = program 2 (1 ∷ 2 ∷ 1 ∷ 1 ∷ 1 ∷ 1 ∷ [])
    (define 0 (function 0 (bind 0 (expressions (number (pos 0) ∷ []))
    (function 0 (sequence (expressions (set_local 0 (two 1 Add (local 0) (number (pos 1))) ∷ local 0 ∷ []))))))
    ∷ define 1 (apply 2 (global 0) [])
    ∷ apply 3 (global 1) []
    ∷ put 4 (apply 5 (global 1) []) ∷ [])

-- (%put (eq? (lambda () 1) (lambda () 1)))
abbrev pub two_procedures : Source
two_procedures = program 0 (1 ∷ 2 ∷ []) (put 0 (two 1 Eq (function 0 (number (pos 1))) (function 0 (number (pos 1)))) ∷ [])

-- ## Heap

abbrev pub pairs_from : (site count : ℕ) → List Expression
pairs_from site zero = []
pairs_from site (suc count) = two site Cons (number (pos 1)) (number (pos 2)) ∷ pairs_from (suc site) count

-- n forms (cons 1 2)
abbrev pub pairs : ℕ → Source
pairs count = program 0 (replicate count 2) (pairs_from 0 count)

abbrev pub calls_from : (site count : ℕ) → List Expression
calls_from site zero = []
calls_from site (suc count) = apply site (global 0) (number (pos 0) ∷ []) ∷ calls_from (suc site) count

-- (define (f n) (set! n 1)) and a number of forms (f 0)
abbrev pub assigned_formals : ℕ → Source
assigned_formals count = program 1 (replicate count 2) (define 0 (function 1 (set_local 0 (number (pos 1)))) ∷ calls_from 0 count)

-- ## Literals and output

-- (%put "abc") (%put "d")
abbrev pub put_texts : Source
put_texts = record {
  statics = record { symbols = []; literals = and_literal (text (codes "abc")) (and_literal (text (codes "d")) no_literals); globals = [] };
  library = no_lambdas;
  forms = expressions (put 0 (literal 0) ∷ put 1 (literal 1) ∷ []);
  sites = 1 ∷ 1 ∷ [];
}

-- '((1 . 2) #(sym "x")), of which the parts are put: 2, sym, x, and the length of sym's name
abbrev pub nested_literal : Source
nested_literal = record {
  statics = record {
    symbols = codes "sym" ∷ [];
    literals = and_literal (list (and_literal (list (and_literal (literals.constant (Fixnum (pos 1))) no_literals) (literals.constant (Fixnum (pos 2))))
        (and_literal (elements (and_literal (literals.constant (Symbol 0)) (and_literal (text (codes "x")) no_literals))) no_literals))
        (literals.constant Nil)) no_literals;
    globals = [];
  };
  library = no_lambdas;
  forms = expressions
      (put 0 (one 1 Cdr (one 2 Car (literal 0)))
      ∷ put 3 (two 4 VectorRef (one 5 Car (one 6 Cdr (literal 0))) (number (pos 0)))
      ∷ put 7 (two 8 VectorRef (one 9 Car (one 10 Cdr (literal 0))) (number (pos 1)))
      ∷ put 11 (one 12 SymbolLength (constant (Symbol 0))) ∷ []);
  sites = 1 ∷ 1 ∷ 1 ∷ 1 ∷ 2 ∷ 1 ∷ 1 ∷ 1 ∷ 2 ∷ 1 ∷ 1 ∷ 1 ∷ 1 ∷ [];
}

-- a literal is one object, which keeps what is written to it: (define (f) "ab") (string-set! (f) 0 #\c) (%put (f))
abbrev pub written_literal : Source
written_literal = record {
  statics = record { symbols = []; literals = and_literal (text (codes "ab")) no_literals; globals = None ∷ [] };
  library = no_lambdas;
  forms = expressions
      (define 0 (function 0 (literal 0))
      ∷ operation 0 StringSet (expressions (apply 1 (global 0) [] ∷ number (pos 0) ∷ constant (Character 99) ∷ []))
      ∷ put 2 (apply 3 (global 0) []) ∷ []);
  sites = 3 ∷ 1 ∷ 1 ∷ 1 ∷ [];
}

-- What is counted of small programs by the shapes of their nodes, and their bodies in order, by hand and
-- computed.
use Rattle.std.proofs.Common.{◌≡◌, ℕ, refl, true, false, [], ◌∷◌, map, pos, Some}
use Rattle.std.specs.Prelude.{codes}
use Rattle.sch_word.specs.declared.primitive.Primitive.TheVariants.{Car}
use Rattle.sch_word.specs.values.Literals.{text, no_literals, and_literal}
use Rattle.sch_lang.specs.Tree.{Expression, Source, expressions, literal, local, global, set_local, set_global, define, branch, sequence, bind, fix, letrec, lambda, no_lambdas, and_lambda}
use Rattle.sch_lang.specs.Measures.{tests_of, dropped_of, call_sites_of, sites_of}
use Rattle.sch_lang.specs.Bodies.{bodies_of}
use Rattle.sch_lang.specs.Examples.{number, apply, one, put, loop_of, counter, even_odd, assigned_local, recursive_inits}
use Rattle.sch_lang.specs.Valid.{is_valid}

-- ## Tests, dropped atoms and sites

-- a library with (define (f x) (if x (begin 1 x (car x) (car x)) 2)), and (begin "t" f (f 1) 3)
abbrev mixed : Source
mixed = record {
  statics = record { symbols = []; literals = and_literal (text (codes "t")) no_literals; globals = Some 0 ∷ [] };
  library = and_lambda (codes "f") 1 false
      (branch (local 0) (sequence (expressions (number (pos 1) ∷ local 0 ∷ one 0 Car (local 0) ∷ one 1 Car (local 0) ∷ []))) (number (pos 2)))
      no_lambdas;
  forms = expressions (sequence (expressions (literal 0 ∷ global 0 ∷ apply 2 (global 0) (number (pos 1) ∷ []) ∷ number (pos 3) ∷ [])) ∷ []);
  sites = 1 ∷ 1 ∷ 2 ∷ [];
}

mixed_valid : is_valid mixed ≡ true
mixed_valid = refl

mixed_tests : tests_of mixed ≡ 1
mixed_tests = refl

-- 1 and x, and the text; a reference to a global is no atom, and the last part is not dropped
mixed_dropped : dropped_of mixed ≡ 3
mixed_dropped = refl

loop_tests : tests_of (loop_of 7) ≡ 1
loop_tests = refl

group_tests : tests_of (even_odd 6) ≡ 2
group_tests = refl

-- the assignment is no atom
assigned_dropped : dropped_of assigned_local ≡ 0
assigned_dropped = refl

-- a Let and a Rec have sites, which are no sites of calls
mixed_call_sites : call_sites_of mixed ≡ 0 ∷ 1 ∷ 2 ∷ []
mixed_call_sites = refl

let_call_sites : call_sites_of assigned_local ≡ 1 ∷ 2 ∷ []
let_call_sites = refl

letrec_call_sites : call_sites_of recursive_inits ≡ 1 ∷ 2 ∷ []
letrec_call_sites = refl

letrec_sites : sites_of recursive_inits ≡ (0, 2) ∷ (1, 1) ∷ (2, 1) ∷ []
letrec_sites = refl

-- ## Bodies

-- a lambda of a name of one byte, and one with another inside it
abbrev named : ℕ → Expression
named n = lambda (n ∷ []) 0 false (number (pos 1))

abbrev around : ℕ → Expression → Expression
around n e = lambda (n ∷ []) 0 false e

-- lambdas in each place where an expression may stand, numbered in the order of the text
abbrev places : Source
places = record {
  statics = record { symbols = []; literals = no_literals; globals = Some 0 ∷ [] };
  library = and_lambda (1 ∷ []) 0 false (named 2) (and_lambda (3 ∷ []) 0 false (number (pos 1)) no_lambdas);
  forms = expressions
      (branch (around 4 (named 5)) (bind 0 (expressions (named 6 ∷ named 7 ∷ [])) (named 8)) (apply 1 (named 9) (named 10 ∷ named 11 ∷ []))
      ∷ letrec 2 (expressions (named 12 ∷ [])) (sequence (expressions (named 13 ∷ set_local 0 (named 14) ∷ put 3 (named 15) ∷ [])))
      ∷ fix (and_lambda (16 ∷ []) 0 false (named 17) (and_lambda (18 ∷ []) 0 false (number (pos 1)) no_lambdas)) (named 19)
      ∷ define 0 (named 20) ∷ set_global 0 (named 21) ∷ []);
  sites = 2 ∷ 3 ∷ 1 ∷ 1 ∷ [];
}

places_valid : is_valid places ≡ true
places_valid = refl

-- each form, whose name is `form`, is followed by the bodies inside it
names_in_order : map (λ p. p.name) (bodies_of places) ≡
    (1 ∷ []) ∷ (2 ∷ []) ∷ (3 ∷ [])
    ∷ codes "form" ∷ (4 ∷ []) ∷ (5 ∷ []) ∷ (6 ∷ []) ∷ (7 ∷ []) ∷ (8 ∷ []) ∷ (9 ∷ []) ∷ (10 ∷ []) ∷ (11 ∷ [])
    ∷ codes "form" ∷ (12 ∷ []) ∷ (13 ∷ []) ∷ (14 ∷ []) ∷ (15 ∷ [])
    ∷ codes "form" ∷ (16 ∷ []) ∷ (17 ∷ []) ∷ (18 ∷ []) ∷ (19 ∷ [])
    ∷ codes "form" ∷ (20 ∷ []) ∷ codes "form" ∷ (21 ∷ []) ∷ []
names_in_order = refl

-- of a form with a definition the value counts one; of `make` the assigned n two; of the inner lambda the
-- part before the last, the sum and the reference to n, which is free there
counter_variables : map (λ p. p.variables) (bodies_of counter) ≡ 1 ∷ 2 ∷ 3 ∷ 2 ∷ 1 ∷ 2 ∷ []
counter_variables = refl

counter_free : map (λ p. p.free) (bodies_of counter) ≡ 0 ∷ 0 ∷ 1 ∷ 0 ∷ 0 ∷ 0 ∷ []
counter_free = refl

-- the form; then of each lambda the formal, the operator and the difference, and the other one as free
group_variables : map (λ p. p.variables) (bodies_of (even_odd 6)) ≡ 3 ∷ 3 ∷ 3 ∷ []
group_variables = refl

group_free : map (λ p. p.free) (bodies_of (even_odd 6)) ≡ 0 ∷ 1 ∷ 1 ∷ []
group_free = refl

group_formals : map (λ p. p.formals) (bodies_of (even_odd 6)) ≡ 0 ∷ 1 ∷ 1 ∷ []
group_formals = refl

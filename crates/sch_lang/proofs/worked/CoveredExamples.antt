-- Worked rows of covered programs: a form, and a library, of any nodes.
use Rattle.std.proofs.Common.{◌≡◌, refl, true, false, [], ◌∷◌, pos}
use Rattle.sch_word.specs.declared.constant.Const.TheVariants.{Fixnum, Symbol}
use Rattle.sch_word.specs.declared.primitive.Primitive.TheVariants.{Cons}
use Rattle.sch_lang.specs.Tree.{Expression, constant, local, global, set_local, define, bind, fix, lambda, literal, call, operation, expressions, no_lambdas, and_lambda}
use Rattle.sch_lang.specs.Covered.{is_covered, is_covered_library}

abbrev one : Expression
one = constant (Fixnum (pos 1))

-- (define x (let ((y 1)) (set! y (cons 'a '(1)))))
assigned_row : is_covered (define 0 (bind 1 (expressions (one ∷ [])) (set_local 0 (operation 2 Cons (expressions (constant (Symbol 0) ∷ literal 0 ∷ [])))))) ≡ true
assigned_row = refl

-- (lambda () (lambda l l)), called
list_row : is_covered (call 3 (lambda [] 0 false (lambda [] 1 true (local 0))) (expressions (global 0 ∷ []))) ≡ true
list_row = refl

library_row : is_covered_library (and_lambda [] 1 false (local 0) (and_lambda [] 1 true (fix (and_lambda [] 0 false one no_lambdas) (local 0)) no_lambdas)) ≡ true
library_row = refl

-- The bodies of a small program before and after all passes: their names in order, and how many variables and sequences each
-- has.
use Rattle.std.proofs.Common.{◌≡◌, ℕ, refl, true, false, List, Some, None, [], ◌∷◌, map, pos}
use Rattle.std.specs.Prelude.{codes}
use Rattle.sch_word.specs.declared.primitive.Primitive.TheVariants.{Car}
use Rattle.sch_word.specs.values.Literals.{no_literals}
use Rattle.sch_lang.specs.Tree as lang
use Rattle.sch_lang.specs.Tree.{expressions, local, global, define, set_local, sequence, fix, lambda, no_lambdas, and_lambda}
use Rattle.sch_lang.specs.Bodies.{bodies_of, most_variables}
use Rattle.sch_lang.specs.Examples.{number, apply, one, put}
use Rattle.sch_lang.specs.Valid.{is_valid}
use Rattle.sch_control.specs.declared.operation.Operation.TheVariants as operation
use Rattle.sch_control.specs.Tree.{Expression, perform, bind, end}
use Rattle.sch_control.specs.Sizes as sizes
use Rattle.sch_control.specs.OrderTable.{given_table}
use Rattle.sch_passes.specs.Chain.{control_of}

-- a library with (define (f x) (lambda (y) (x (car y)))), and three forms: (define make (lambda (n) (set! n 1) (lambda () n))),
-- (%put 1), and a group of `even` and `odd`, of which each calls the other, round (lambda () even)
abbrev small : lang.Source
small = record {
  statics = record { symbols = []; literals = no_literals; globals = Some 0 ∷ None ∷ [] };
  library = and_lambda (codes "f") 1 false (lambda (codes "g") 1 false (apply 0 (local 1) (one 1 Car (local 0) ∷ []))) no_lambdas;
  forms = expressions
      (define 1 (lambda (codes "make") 1 false (sequence (expressions (set_local 0 (number (pos 1)) ∷ lambda (codes "get") 0 false (local 0) ∷ []))))
      ∷ put 2 (number (pos 1))
      ∷ fix (and_lambda (codes "even") 1 false (apply 3 (local 1) (local 0 ∷ [])) (and_lambda (codes "odd") 1 false (apply 4 (local 2) (local 0 ∷ [])) no_lambdas)) (lambda (codes "last") 0 false (local 1))
      ∷ []);
  sites = 2 ∷ 1 ∷ 1 ∷ 2 ∷ 2 ∷ [];
}

small_valid : is_valid small ≡ true
small_valid = refl

names_before : map (λ b. b.name) (bodies_of small) ≡
    codes "f" ∷ codes "g" ∷ codes "form" ∷ codes "make" ∷ codes "get" ∷ codes "form" ∷ codes "form" ∷ codes "even" ∷ codes "odd" ∷ codes "last" ∷ []
names_before = refl

names_after : map (λ c. c.name) (control_of small).bodies ≡
    codes "f" ∷ codes "g" ∷ codes "form" ∷ codes "make" ∷ codes "get" ∷ codes "form" ∷ codes "form" ∷ codes "even" ∷ codes "odd" ∷ codes "last" ∷ []
unfolding control_of
names_after = refl

-- of g the formal, the operator, which is free there, and the operand; of make two for the formal, which is assigned, and
-- the assignment
variables_before : map (λ b. b.variables) (bodies_of small) ≡ 1 ∷ 3 ∷ 1 ∷ 3 ∷ 0 ∷ 0 ∷ 2 ∷ 2 ∷ 2 ∷ 0 ∷ []
variables_before = refl

-- two more each, but one more in make, whose assignment is bound to no variable
variables_after : map (λ c. c.variables) (control_of small).bodies ≡ 3 ∷ 5 ∷ 3 ∷ 4 ∷ 2 ∷ 2 ∷ 4 ∷ 4 ∷ 4 ∷ 2 ∷ []
unfolding control_of
variables_after = refl

-- the assignment in make stands in a sequence, before what makes the closure
sequences_after : map (λ c. sizes.sequences_in c.expression) (control_of small).bodies ≡ 0 ∷ 0 ∷ 0 ∷ 1 ∷ 0 ∷ 0 ∷ 0 ∷ 0 ∷ 0 ∷ 0 ∷ []
unfolding control_of
sequences_after = refl

most_variables_row : (most_variables small ∷ sizes.most_variables (control_of small).bodies ∷ []) ≡ 3 ∷ 5 ∷ []
unfolding control_of
most_variables_row = refl

-- ## The order in which parts are bound

-- (f a b), of three globals: each is read at its turn, since it may be unset
abbrev read_each : lang.Source
read_each = record {
  statics = record { symbols = []; literals = no_literals; globals = None ∷ None ∷ None ∷ [] };
  library = no_lambdas;
  forms = expressions (apply 0 (global 0) (global 1 ∷ global 2 ∷ []) ∷ []);
  sites = 3 ∷ [];
}

-- the globals that the first bindings of an expression read
abbrev reads : Expression → List ℕ
reads (bind x (perform (operation.Global g)) e) = g ∷ reads e
reads (end e) = reads e
reads _ = []

-- the operands from left to right and then the operator, in the tree and in the table
read_in_order : (is_valid read_each ≡ true) × ((map (λ c. reads c.expression) (control_of read_each).bodies ≡ (1 ∷ 2 ∷ 0 ∷ []) ∷ [])
    × ((control_of read_each).bound ≡ (1 ∷ 2 ∷ 0 ∷ []) ∷ []) × (given_table (control_of read_each) ≡ (1 ∷ 2 ∷ 0 ∷ []) ∷ []))
unfolding control_of
read_in_order = (refl, (refl, refl, refl))

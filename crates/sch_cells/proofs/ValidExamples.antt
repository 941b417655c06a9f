-- Programs that are not valid, one for each reason.
use Rattle.std.proofs.Common.{◌≡◌, refl, ℕ, zero, suc, true, false, [], ◌∷◌, Some, None}
use Rattle.std.specs.Prelude.{replicate}
use Rattle.sch_word.specs.declared.constant.Const.TheVariants.{Character}
use Rattle.sch_word.specs.declared.primitive.Primitive.TheVariants.{Car}
use Rattle.sch_word.specs.trees.Shape.{Procedure, procedure_fits, max_variables}
use Rattle.sch_cells.specs.Tree.{Tree, Source, constant, variable, global, literal, set_variable, branch, sequence, bind, fix, lambda, call, new_cells, cell_get, no_lambdas, and_lambda, trees}
use Rattle.sch_cells.specs.Valid.{is_valid}
use Rattle.sch_cells.specs.Examples.{number, put, two, function, apply, new_cell, program, let_of, assigned_formal, assigned_formal_boxed, unset_init}

-- a number that two variables have, one inside the other
twice : is_valid false (let_of 0) ≡ false
twice = refl

-- and in two forms, which know nothing of one another
twice_apart : is_valid false (program 1 [] (function 0 1 (number 1) ∷ (function 0 1 (number 2) ∷ []))) ≡ false
twice_apart = refl

-- a number that is not below the program's
too_great : is_valid false (program 0 [] (function 0 1 (number 1) ∷ [])) ≡ false
too_great = refl

unbound : is_valid false (program 1 [] (variable 0 ∷ [])) ≡ false
unbound = refl

-- the variable of a let in its own init
own_init : is_valid false (program 1 (1 ∷ []) (bind 0 0 (trees (variable 0 ∷ [])) (number 1) ∷ [])) ≡ false
own_init = refl

-- an assignment where variables hold their cells, and a Rec
assigned_in_boxed : is_valid true assigned_formal ≡ false
assigned_in_boxed = refl

rec_in_boxed : is_valid true unset_init ≡ false
rec_in_boxed = refl

-- cells where variables may be assigned
cells_in_unboxed : is_valid false assigned_formal_boxed ≡ false
cells_in_unboxed = refl

unbound_cell : is_valid true (program 1 [] (cell_get 0 ∷ [])) ≡ false
unbound_cell = refl

-- a new cell that holds the value of a variable of its own group
own_content : is_valid true (program 2 [] (new_cells (new_cell 0 None ∷ (new_cell 1 (Some 0) ∷ [])) (number 1) ∷ [])) ≡ false
own_content = refl

-- a variable of a Fix that is assigned
assigned_fix : is_valid false (program 1 [] (fix 0 (and_lambda [] 1 0 false (set_variable 0 (number 1)) no_lambdas) (variable 0) ∷ [])) ≡ false
assigned_fix = refl

empty_sequence : is_valid false (program 0 [] (sequence (trees []) ∷ [])) ≡ false
empty_sequence = refl

-- (car 1 2)
wrong_operands : is_valid false (program 0 (2 ∷ []) (two 0 Car (number 1) (number 2) ∷ [])) ≡ false
wrong_operands = refl

-- a call that spreads an operand that it has not
spread_nothing : is_valid false (program 0 (1 ∷ []) (call 0 true (number 1) (trees []) ∷ [])) ≡ false
spread_nothing = refl

spread_one : is_valid false (program 0 (2 ∷ []) (call 0 true (number 1) (trees (number 2 ∷ [])) ∷ [])) ≡ true
spread_one = refl

-- a rest variable where there is no formal
rest_without_formal : is_valid false (program 0 [] (lambda [] 0 0 true (number 1) ∷ [])) ≡ false
rest_without_formal = refl

-- a character that is no byte
no_byte : is_valid false (program 0 [] (constant (Character 256) ∷ [])) ≡ false
no_byte = refl

unknown_global : is_valid false (program 0 [] (global 0 ∷ [])) ≡ false
unknown_global = refl

unknown_literal : is_valid false (program 0 [] (literal 0 ∷ [])) ≡ false
unknown_literal = refl

-- a site that stands twice, one that stands nowhere, and one that is listed with another number of parts
site_twice : is_valid false (program 0 (1 ∷ []) (put 0 (number 1) ∷ (put 0 (number 2) ∷ []))) ≡ false
site_twice = refl

site_nowhere : is_valid false (program 0 (1 ∷ (1 ∷ [])) (put 0 (number 1) ∷ [])) ≡ false
site_nowhere = refl

site_of_other_width : is_valid false (program 0 (2 ∷ []) (put 0 (number 1) ∷ [])) ≡ false
site_of_other_width = refl

-- ## Limits

two_hundred_formals : is_valid false (program 200 [] (function 0 200 (number 1) ∷ [])) ≡ true
two_hundred_formals = refl

more_formals : is_valid false (program 201 [] (function 0 201 (number 1) ∷ [])) ≡ false
more_formals = refl

abbrev call_of : ℕ → Source
call_of operands = program 0 (suc operands ∷ []) (apply 0 (number 1) (replicate operands (number 1)) ∷ [])

two_hundred_operands : is_valid false (call_of 200) ≡ true
two_hundred_operands = refl

more_operands : is_valid false (call_of 201) ≡ false
more_operands = refl

abbrev bind_of : ℕ → Source
bind_of inits = program inits (inits ∷ []) (bind 0 0 (trees (replicate inits (number 1))) (number 1) ∷ [])

two_hundred_inits : is_valid false (bind_of 200) ≡ true
two_hundred_inits = refl

more_inits : is_valid false (bind_of 201) ≡ false
more_inits = refl

-- lambdas without formals in a sequence, each of which but the last counts one variable
abbrev sequence_of : ℕ → Tree
sequence_of parts = sequence (trees (replicate parts (function 0 0 (number 1))))

thousand_variables : is_valid false (program 0 [] (sequence_of 1001 ∷ [])) ≡ true
thousand_variables = refl

more_variables : is_valid false (program 0 [] (sequence_of 1002 ∷ [])) ≡ false
more_variables = refl

-- the same in the body of a lambda
body_variables : is_valid false (program 0 [] (function 0 0 (sequence_of 1002) ∷ [])) ≡ false
body_variables = refl

-- of free variables
abbrev with_free : ℕ → Procedure
with_free n = record { name = []; formals = 0; rest = false; free = n; variables = 0 }

thousand_free : procedure_fits max_variables (with_free 1000) ≡ true
thousand_free = refl

more_free : procedure_fits max_variables (with_free 1001) ≡ false
more_free = refl

abbrev tests_of : ℕ → Source
tests_of levels = program 0 [] (nest levels ∷ [])
  where
    nest : ℕ → Tree
    nest zero = number 1
    nest (suc n) = branch (number 1) (nest n) (number 2)

two_thousand_levels : is_valid false (tests_of 1999) ≡ true
two_thousand_levels = refl

more_levels : is_valid false (tests_of 2000) ≡ false
more_levels = refl

-- cells may add levels
more_levels_boxed : is_valid true (tests_of 2000) ≡ true
more_levels_boxed = refl

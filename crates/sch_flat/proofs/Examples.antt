-- What the small programs do and what is counted of them, and why others are not valid. Each statement is computed.
use Rattle.std.proofs.Common.{◌≡◌, refl, true, false, [], ◌∷◌}
use Rattle.std.specs.Prelude.{codes}
use Rattle.std.specs.Fmt.{digits}
use Rattle.sch_flat.specs.Tree.{bound, free, variable, make_closure, bind, trees}
use Rattle.sch_flat.specs.Run.{run}
use Rattle.sch_flat.specs.Measures.{sites_of, tests_of, program_size, body_variables, levels}
use Rattle.sch_flat.specs.Valid.{in_order}
use Rattle.sch_word.specs.runs.WorkedRuns.{ends, plain_orders, call_orders}
use Rattle.sch_flat.specs.Examples.{number, made, body, program, is_valid, nested_with, nested, even_odd_with, even_odd, assigned_with, assigned}

nested_runs : run nested call_orders 4096 3 [] 9 ≡ ends (codes "7") 0 3 48
unfolding digits
nested_runs = refl

-- a record is charged before it is made
nested_stops : run nested call_orders 47 3 [] 9 ≡ ends [] 71 2 32
unfolding digits
nested_stops = refl

even_odd_runs : run even_odd plain_orders 4096 1 [] 9 ≡ ends (codes "1") 0 4 32
unfolding digits
even_odd_runs = refl

-- the records of a group are charged before the first is made
even_odd_stops : run even_odd plain_orders 31 1 [] 9 ≡ ends [] 71 0 16
unfolding digits
even_odd_stops = refl

assigned_runs : run assigned plain_orders 4096 1 [] 9 ≡ ends (codes "5") 0 1 32
unfolding digits
assigned_runs = refl

assigned_stops : run assigned plain_orders 31 1 [] 9 ≡ ends [] 71 1 16
unfolding digits
assigned_stops = refl

-- ## What is valid

nested_is : is_valid nested ≡ true
nested_is = refl

even_odd_is : is_valid even_odd ≡ true
even_odd_is = refl

assigned_is : is_valid assigned ≡ true
assigned_is = refl

-- a record with a field too few, one too many, and one that takes what its body has not
too_few : is_valid (nested_with [] (variable (free 0))) ≡ false
too_few = refl

too_many : is_valid (nested_with (free 0 ∷ (free 0 ∷ [])) (variable (free 0))) ≡ false
too_many = refl

no_such_field : is_valid (nested_with (free 1 ∷ []) (variable (free 0))) ≡ false
no_such_field = refl

-- a variable of the body around it
free_in_a_body : is_valid (nested_with (free 0 ∷ []) (variable (bound 0))) ≡ false
free_in_a_body = refl

unbound_in_a_group : is_valid (even_odd_with (bound 2)) ≡ false
unbound_in_a_group = refl

-- the variable of a cell that is bound already
bound_twice : is_valid (assigned_with 0) ≡ false
bound_twice = refl

-- a body that is not there
no_such_body : is_valid (program [] [] (make_closure (made 0 []))) ≡ false
no_such_body = refl

-- bodies that would begin after the last
late_start : in_order (record { statics = nested.statics; library = []; bodies = []; forms = nested.forms; starts = 1 ∷ []; sites = nested.sites }) ≡ false
late_start = refl

-- ## What is counted

even_odd_tests : tests_of even_odd ≡ 2
even_odd_tests = refl

-- as of the program of the cell language that it comes from
even_odd_size : program_size even_odd ≡ 34
even_odd_size = refl

nested_sites : sites_of nested ≡ (0, 1) ∷ ((1, 1) ∷ ((2, 1) ∷ ((3, 3) ∷ [])))
nested_sites = refl

-- a formal and the variable of a Let
two_variables : body_variables (body 2 1 1 (bind 0 3 (trees (number 1 ∷ [])) (variable (free 0)))) ≡ 2
two_variables = refl

one_level : levels (make_closure (made 0 [])) ≡ 1
one_level = refl

-- Sizes of the small programs, counted by hand and computed: the variables of the largest body, the
-- size of the program, and its levels.
use Rattle.std.proofs.Common.{◌≡◌, refl, false, [], ◌∷◌, pos}
use Rattle.sch_lang.specs.Tree.{Source, expressions, local, bind, fix, letrec, no_lambdas, and_lambda}
use Rattle.sch_lang.specs.Bodies.{most_variables}
use Rattle.sch_lang.specs.Measures.{program_size, nodes_and_bound, variables_bound, levels, levels_each, levels_lambdas, sites_of}
use Rattle.sch_lang.specs.Examples.{sum_line, loop_of, assigned_local, unset_init, counter, even_odd, rest_list, library_call, program, number, function, apply, recursive_inits, assigned_formals, unset_global}

-- the sum is an operand, and its operands are constants
sum_line_variables : most_variables sum_line ≡ 1
sum_line_variables = refl

-- four nodes and two, and two forms
sum_line_size : program_size sum_line ≡ 8
sum_line_size = refl

-- the formal, the operator of the call, and the difference
loop_variables : most_variables (loop_of 7) ≡ 3
loop_variables = refl

-- fourteen nodes but for the definition and its lambda, these two, the lambda and its formal, two forms
loop_size : program_size (loop_of 7) ≡ 20
loop_size = refl

-- the definition, the lambda, the test, the call, the difference, its operand
loop_levels : levels_each (loop_of 7).forms ≡ 6
loop_levels = refl

-- the Fix, a lambda of it, the test, the call, the difference, its operand
fix_levels : levels_each (even_odd 6).forms ≡ 6
fix_levels = refl

-- (letrec ((f (lambda () 1))) 2) as a Fix and as a Rec: the group, the lambda, its body
small_fix_levels : levels (fix (and_lambda [] 0 false (number (pos 1)) no_lambdas) (number (pos 2))) ≡ 3
small_fix_levels = refl

small_letrec_levels : levels (letrec 0 (expressions (function 0 (number (pos 1)) ∷ [])) (number (pos 2))) ≡ 3
small_letrec_levels = refl

-- the lambda, the operation, its operand
library_levels : levels_lambdas library_call.library ≡ 3
library_levels = refl

-- x twice and y once, the part before the last, the sum, and the reference to x
assigned_variables : most_variables assigned_local ≡ 6
assigned_variables = refl

-- two variables of a Rec, whose inits are no operands
letrec_variables : most_variables unset_init ≡ 6
letrec_variables = refl

-- two variables of a Rec, the call as operand, and its operator, which is one of them and so counts
recursive_variables : most_variables recursive_inits ≡ 8
recursive_variables = refl

-- a formal that is assigned, to a constant; in a form the lambda that is defined, or the operator
formal_variables : most_variables (assigned_formals 1) ≡ 2
formal_variables = refl

-- the reference to a global is an operand; a constant that is defined counts nothing
global_variables : most_variables unset_global ≡ 1
global_variables = refl

-- in the inner body: the part before the last, the value that is set, and n, which is free there
counter_variables : most_variables counter ≡ 3
counter_variables = refl

counter_size : program_size counter ≡ 27
counter_size = refl

-- two variables of a Fix and the operand of the put; or in a body the formal, the operator, which is
-- free there, and the difference
fix_variables : most_variables (even_odd 6) ≡ 3
fix_variables = refl

-- nodes: one Fix, ten in each body, four; two variables bound; two lambdas, each with a formal and a
-- free variable; one form
fix_size : program_size (even_odd 6) ≡ 34
fix_size = refl

-- a library lambda counts with its formal: three, its body of two nodes, a form of three nodes
library_size : program_size library_call ≡ 8
library_size = refl

-- the rest variable is a formal; in the form the operator counts
rest_variables : most_variables rest_list ≡ 4
rest_variables = refl

-- (let ((x 1)) ((lambda (y) x) x)): the reference in the inner body is to a variable of another body
abbrev outer_reference : Source
outer_reference = program 0 (1 ∷ 2 ∷ []) (bind 0 (expressions (number (pos 1) ∷ [])) (apply 1 (function 1 (local 1)) (local 0 ∷ [])) ∷ [])

-- x, and the lambda as operator; the operand is x itself
outer_reference_variables : most_variables outer_reference ≡ 2
outer_reference_variables = refl

-- the sites of the loop in the order of the text, each with its parts
loop_sites : sites_of (loop_of 7) ≡ (0, 2) ∷ (1, 1) ∷ (2, 2) ∷ (3, 2) ∷ (4, 2) ∷ []
loop_sites = refl

-- ## Nodes and bound variables

-- four nodes and two
sum_line_nodes : nodes_and_bound sum_line ≡ 6
sum_line_nodes = refl

-- sixteen nodes and a formal
loop_nodes : nodes_and_bound (loop_of 7) ≡ 17
loop_nodes = refl

-- nodes: one Fix, ten in each body, four; its two variables, and a formal of each lambda
fix_nodes : nodes_and_bound (even_odd 6) ≡ 29
fix_nodes = refl

-- a Rec with its two inits and its body, and two variables
letrec_nodes : nodes_and_bound unset_init ≡ 6
letrec_nodes = refl

-- a Let, its two inits, a sequence, the assignment of two nodes, the put of four; and two variables
let_nodes : nodes_and_bound assigned_local ≡ 12
let_nodes = refl

-- a library lambda with its formal, its body of two nodes, a form of three
library_nodes : nodes_and_bound library_call ≡ 7
library_nodes = refl

-- ## Bound variables

-- the two of a group, and a formal of each
group_bound : variables_bound (even_odd 6) ≡ 4
group_bound = refl

-- the formal of the library's procedure
library_bound : variables_bound library_call ≡ 1
library_bound = refl

-- n, which a Let binds
counter_bound : variables_bound counter ≡ 1
counter_bound = refl

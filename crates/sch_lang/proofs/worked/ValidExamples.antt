-- Programs that are not valid, one for each reason, and tables that are no order tables.
use Rattle.std.proofs.Common.{◌≡◌, refl, ℕ, zero, suc, [], ◌∷◌, List, pos, true, false, Some}
use Rattle.std.specs.Prelude.{replicate}
use Rattle.sch_word.specs.declared.constant.Const.TheVariants.{Fixnum, Character, Nil, Symbol}
use Rattle.sch_word.specs.declared.primitive.Primitive.TheVariants.{Car, Cons}
use Rattle.sch_word.specs.values.Literals as literals
use Rattle.sch_word.specs.values.Literals.{Literal, no_literals, and_literal}
use Rattle.sch_word.specs.runs.Orders.{is_order_table}
use Rattle.sch_lang.specs.Tree.{Expression, Source, expressions, constant, literal, local, global, set_local, sequence, bind, fix, lambda, no_lambdas, and_lambda, branch}
use Rattle.sch_lang.specs.Valid.{is_valid}
use Rattle.sch_lang.specs.Examples.{program, number, minus, function, apply, one, two}

-- a variable that nothing binds
unbound : is_valid (program 0 [] (local 0 ∷ [])) ≡ false
unbound = refl

-- the variable of a let in its own init
own_init : is_valid (program 0 (1 ∷ []) (bind 0 (expressions (local 0 ∷ [])) (number (pos 1)) ∷ [])) ≡ false
own_init = refl

unknown_global : is_valid (program 1 [] (global 1 ∷ [])) ≡ false
unknown_global = refl

unknown_literal : is_valid (program 0 [] (literal 0 ∷ [])) ≡ false
unknown_literal = refl

unknown_symbol : is_valid (program 0 [] (constant (Symbol 0) ∷ [])) ≡ false
unknown_symbol = refl

-- a symbol that only a literal names
symbol_of_literal : is_valid (record {
  statics = record { symbols = []; literals = and_literal (literals.elements (and_literal (literals.constant (Symbol 0)) no_literals)) no_literals; globals = [] };
  library = no_lambdas;
  forms = expressions [];
  sites = [];
}) ≡ false
symbol_of_literal = refl

-- a global that holds a procedure that the library has not
unknown_procedure : is_valid (record {
  statics = record { symbols = []; literals = no_literals; globals = Some 0 ∷ [] };
  library = no_lambdas;
  forms = expressions [];
  sites = [];
}) ≡ false
unknown_procedure = refl

-- ## Constants, texts and names that there are not

greatest_number : is_valid (program 0 [] (number (pos 1152921504606846975) ∷ [])) ≡ true
greatest_number = refl

number_too_great : is_valid (program 0 [] (number (pos 1152921504606846976) ∷ [])) ≡ false
number_too_great = refl

least_number : is_valid (program 0 [] (number (minus 1152921504606846976) ∷ [])) ≡ true
least_number = refl

number_too_small : is_valid (program 0 [] (number (minus 1152921504606846977) ∷ [])) ≡ false
number_too_small = refl

last_character : is_valid (program 0 [] (constant (Character 255) ∷ [])) ≡ true
last_character = refl

no_character : is_valid (program 0 [] (constant (Character 300) ∷ [])) ≡ false
no_character = refl

-- in the body of a library's procedure
number_in_library : is_valid (record {
  statics = record { symbols = []; literals = no_literals; globals = [] };
  library = and_lambda [] 0 false (constant (Character 256)) no_lambdas;
  forms = expressions [];
  sites = [];
}) ≡ false
number_in_library = refl

-- a program of these symbols and this literal, and nothing else
abbrev ready : List (List ℕ) → Literal → Source
ready symbols l = record {
  statics = record { symbols = symbols; literals = and_literal l no_literals; globals = [] };
  library = no_lambdas;
  forms = expressions [];
  sites = [];
}

bytes_of_text : is_valid (ready [] (literals.text (0 ∷ 255 ∷ []))) ≡ true
bytes_of_text = refl

no_byte_of_text : is_valid (ready [] (literals.text (0 ∷ 256 ∷ []))) ≡ false
no_byte_of_text = refl

no_byte_of_name : is_valid (ready ((255 ∷ []) ∷ (97 ∷ 256 ∷ []) ∷ []) (literals.text [])) ≡ false
no_byte_of_name = refl

-- a number inside a vector in a list
no_number_of_literal : is_valid (ready [] (literals.list (and_literal (literals.elements (and_literal (literals.constant (Fixnum (pos 1152921504606846976))) no_literals)) no_literals)
    (literals.constant Nil))) ≡ false
no_number_of_literal = refl

-- ## Parts

empty_sequence : is_valid (program 0 [] (sequence (expressions []) ∷ [])) ≡ false
empty_sequence = refl

-- (car 1 2)
wrong_operands : is_valid (program 0 (2 ∷ []) (two 0 Car (number (pos 1)) (number (pos 2)) ∷ [])) ≡ false
wrong_operands = refl

-- a variable of a Fix that is assigned
assigned_fix : is_valid (program 0 [] (fix (and_lambda [] 0 false (set_local 0 (number (pos 1))) no_lambdas) (local 0) ∷ [])) ≡ false
assigned_fix = refl

-- a rest variable where there is no formal
rest_without_formal : is_valid (program 0 [] (lambda [] 0 true (number (pos 1)) ∷ [])) ≡ false
rest_without_formal = refl

-- one site at two nodes
site_twice : is_valid (program 0 (1 ∷ []) (one 0 Car (number (pos 1)) ∷ one 0 Car (number (pos 1)) ∷ [])) ≡ false
site_twice = refl

-- a site that stands nowhere, one that is not listed, and one with another count of parts
site_missing : is_valid (program 0 (1 ∷ 1 ∷ []) (one 0 Car (number (pos 1)) ∷ [])) ≡ false
site_missing = refl

site_not_listed : is_valid (program 0 [] (one 0 Car (number (pos 1)) ∷ [])) ≡ false
site_not_listed = refl

site_too_wide : is_valid (program 0 (2 ∷ []) (one 0 Car (number (pos 1)) ∷ [])) ≡ false
site_too_wide = refl

-- sites in another order than that of the text
sites_in_any_order : is_valid (program 0 (1 ∷ 2 ∷ []) (two 1 Cons (one 0 Car (number (pos 1))) (number (pos 1)) ∷ [])) ≡ true
sites_in_any_order = refl

-- ## Limits

abbrev call_of : ℕ → Source
call_of operands = program 1 (suc operands ∷ []) (apply 0 (global 0) (replicate operands (number (pos 1))) ∷ [])

two_hundred_operands : is_valid (call_of 200) ≡ true
two_hundred_operands = refl

more_operands : is_valid (call_of 201) ≡ false
more_operands = refl

two_hundred_formals : is_valid (program 0 [] (function 200 (number (pos 1)) ∷ [])) ≡ true
two_hundred_formals = refl

more_formals : is_valid (program 0 [] (function 201 (number (pos 1)) ∷ [])) ≡ false
more_formals = refl

abbrev let_of : ℕ → Source
let_of inits = program 0 (inits ∷ []) (bind 0 (expressions (replicate inits (number (pos 1)))) (number (pos 1)) ∷ [])

two_hundred_inits : is_valid (let_of 200) ≡ true
two_hundred_inits = refl

more_inits : is_valid (let_of 201) ≡ false
more_inits = refl

-- n expressions, of which each but the last counts one variable
abbrev sequence_of : ℕ → Source
sequence_of parts = program 1 [] (sequence (expressions (replicate parts (global 0))) ∷ [])

thousand_variables : is_valid (sequence_of 1001) ≡ true
thousand_variables = refl

more_variables : is_valid (sequence_of 1002) ≡ false
more_variables = refl

-- the same in the body of a lambda
body_variables : is_valid (program 1 [] (function 0 (sequence (expressions (replicate 1002 (global 0)))) ∷ [])) ≡ false
body_variables = refl

-- a lambda of one formal inside five lets of 200 variables, and in it a lambda with a number of free variables
abbrev locals_from : (k count : ℕ) → List Expression
locals_from k zero = []
locals_from k (suc count) = local k ∷ locals_from (suc k) count

abbrev inside_lets : (site lets : ℕ) → Expression → Expression
inside_lets site zero e = e
inside_lets site (suc lets) e = bind site (expressions (replicate 200 (number (pos 1)))) (inside_lets (suc site) lets e)

abbrev free_of : ℕ → Source
free_of variables =
    let inner = function 0 (sequence (expressions (locals_from 0 variables))) in
    program 0 (replicate 5 200) (inside_lets 0 5 (function 1 inner) ∷ [])

thousand_free : is_valid (free_of 1000) ≡ true
thousand_free = refl

more_free : is_valid (free_of 1001) ≡ false
more_free = refl

abbrev tests_of : ℕ → Expression
tests_of zero = number (pos 1)
tests_of (suc n) = branch (number (pos 1)) (tests_of n) (number (pos 2))

two_thousand_levels : is_valid (program 0 [] (tests_of 1999 ∷ [])) ≡ true
two_thousand_levels = refl

more_levels : is_valid (program 0 [] (tests_of 2000 ∷ [])) ≡ false
more_levels = refl

-- groups of one procedure, each in the body of the one before, round an expression: two levels each
abbrev groups_of : ℕ → Expression → Expression
groups_of zero e = e
groups_of (suc n) e = fix (and_lambda [] 0 false (groups_of n e) no_lambdas) (number (pos 2))

many_groups : is_valid (program 0 [] (groups_of 10 (tests_of 1979) ∷ [])) ≡ true
many_groups = refl

more_groups : is_valid (program 0 [] (groups_of 10 (tests_of 1980) ∷ [])) ≡ false
more_groups = refl

-- ## Order tables

either_order : is_order_table (2 ∷ 1 ∷ []) ((1 ∷ 0 ∷ []) ∷ (0 ∷ []) ∷ []) ≡ true
either_order = refl

no_parts : is_order_table (0 ∷ []) ([] ∷ []) ≡ true
no_parts = refl

part_left_out : is_order_table (2 ∷ []) ((1 ∷ []) ∷ []) ≡ false
part_left_out = refl

part_twice : is_order_table (2 ∷ []) ((1 ∷ 1 ∷ []) ∷ []) ≡ false
part_twice = refl

no_such_part : is_order_table (2 ∷ []) ((1 ∷ 2 ∷ []) ∷ []) ≡ false
no_such_part = refl

site_left_out : is_order_table (1 ∷ 1 ∷ []) ((0 ∷ []) ∷ []) ≡ false
site_left_out = refl

-- Worked rows of covered code: of nodes, calls alone are looked at.
use Rattle.std.proofs.Common.{◌≡◌, refl, Bool, true, false, [], ◌∷◌}
use Rattle.sch_word.specs.declared.constant.Const.TheVariants.{Symbol}
use Rattle.sch_word.specs.declared.primitive.Primitive.TheVariants.{Cons}
use Rattle.sch_word.specs.trees.Shape.{Procedure, constant, literal, set_variable, fix, lambda, call, operation, new_cells}
use Rattle.sch_word.specs.trees.Covered.{is_covered_node}

-- a procedure of two formals, the last a rest variable or none
abbrev taking : Bool → Procedure
taking rest = record { name = []; formals = 2; rest = rest; free = 0; variables = 2 }

node_rows : (is_covered_node (constant (Symbol 0)) ≡ true) × (is_covered_node (literal 0) ≡ true) × (is_covered_node (operation 0 Cons 2) ≡ true)
node_rows = (refl, refl, refl)

-- code may assign, make cells and procedures, and take lists
made_rows : (is_covered_node set_variable ≡ true) × (is_covered_node (new_cells 2) ≡ true) × (is_covered_node (lambda (taking true)) ≡ true)
    × (is_covered_node (fix 2 (taking false ∷ taking true ∷ [])) ≡ true)
made_rows = (refl, refl, refl, refl)

-- it calls, and no call spreads its last operand
called_rows : (is_covered_node (call 0 1 false) ≡ true) × (is_covered_node (call 0 1 true) ≡ false)
called_rows = (refl, refl)

-- Covered code: what the back end takes. It is all code but calls that spread their last operand, of which the core
-- language has none.
use Rattle.std.specs.Prelude.{Bool, true, ◌||◌, not}
use Rattle.sch_word.specs.declared.constant.Const.{Const}
use Rattle.sch_word.specs.declared.primitive.Primitive.{Primitive}
use Rattle.sch_word.specs.trees.Shape.{Shape, call}

-- ## What is taken whatever it is

abbrev pub are_literals_covered : Bool
are_literals_covered = true

-- the lists of operands that rest variables have
abbrev pub are_lists_covered : Bool
are_lists_covered = true

abbrev pub is_covered_primitive : Primitive → Bool
is_covered_primitive _ = true

abbrev pub is_covered_constant : Const → Bool
is_covered_constant _ = true

-- formals with a rest variable or without
abbrev pub is_covered_rest : Bool → Bool
is_covered_rest rest = are_lists_covered || not rest

-- ## Nodes

-- a node of covered code, where no call spreads its last operand
abbrev pub is_covered_node : Shape → Bool
is_covered_node (call site operands spread) = not spread
is_covered_node _ = true

-- Worked rows: what nodes add to the work.
use Rattle.std.proofs.Common.{◌≡◌, refl, false, [], ◌∷◌, map}
use Rattle.sch_word.specs.declared.constant.Const.TheVariants.{Nil}
use Rattle.sch_word.specs.declared.primitive.Primitive.TheVariants.{Add}
use Rattle.sch_word.specs.trees.NodeWeights.{weight_of}
use Rattle.sch_word.specs.trees.Shape.{Made, Procedure, constant, literal, variable, global, set_variable, set_global, define, branch, sequence, bind, fix, letrec, lambda, call, operation, new_cells, cell_get, cell_set, field, make_closure, fix_closures}

abbrev of_two : Procedure
of_two = record { name = []; formals = 2; rest = false; free = 3; variables = 2 }

abbrev made : Made
made = record { label = 0; fields = 3 }

plain_weights : map weight_of (constant Nil ∷ literal 0 ∷ variable ∷ field ∷ global 0 ∷ set_variable ∷ set_global 0 ∷ define 0 ∷ branch ∷ cell_get ∷ cell_set ∷ []) ≡ 2 ∷ 2 ∷ 2 ∷ 2 ∷ 1 ∷ 2 ∷ 3
    ∷ 3 ∷ 6 ∷ 2 ∷ 4 ∷ []
plain_weights = refl

counted_weights : map weight_of (sequence 0 0 ∷ sequence 1 0 ∷ sequence 3 1 ∷ bind 0 2 ∷ letrec 0 2 ∷ call 0 2 false ∷ operation 0 Add 2 ∷ new_cells 2 ∷ []) ≡ 2 ∷ 0 ∷ 2 ∷ 2 ∷ 2 ∷ 16 ∷ 5 ∷ 6 ∷ []
counted_weights = refl

procedure_weights : map weight_of (lambda of_two ∷ fix 2 (of_two ∷ of_two ∷ []) ∷ make_closure made ∷ fix_closures 2 (made ∷ made ∷ []) ∷ []) ≡ 10 ∷ 21 ∷ 4 ∷ 9 ∷ []
procedure_weights = refl

-- Worked rows of covered programs, which hold whatever is covered.
use Rattle.std.proofs.Common.{◌≡◌, refl, Bool, true, false, [], ◌∷◌, Some}
use Rattle.sch_word.specs.declared.primitive.Primitive.TheVariants.{Cons}
use Rattle.sch_word.specs.trees.Covered.{are_literals_covered, are_lists_covered, is_covered_primitive}
use Rattle.sch_control.specs.declared.operation.Source.TheVariants as source
use Rattle.sch_control.specs.declared.operation.Atom.TheVariants.{Literal, Variable}
use Rattle.sch_control.specs.declared.operation.Operation.TheVariants as operation
use Rattle.sch_control.specs.Tree.{perform, bind, call, return, end, Source}
use Rattle.sch_control.specs.Covered.{is_covered, is_covered_program}
use Rattle.sch_control.proofs.Examples.{number, held_in, form, lambda, program, straight_program}

-- a cell that is made and read, in a form; a procedure that returns a number, and its closure
cell_row : is_covered (end (bind 0 (perform operation.UnsetCell) (perform (operation.CellGet (source.Atom (Variable 0)))))) ≡ true
cell_row = refl

procedure_row : is_covered_program (program [] (form 1 (end (perform (operation.MakeClosure (record { label = 1; fields = source.Field 0 3 ∷ [] }))))
    ∷ lambda 0 0 2 (return (perform (operation.Operand (number 1)))) ∷ []) [] []) ≡ true
procedure_row = refl

straight_row : is_covered_program straight_program ≡ true
straight_row = refl

-- a call in the body of a procedure, which may not spread its last operand
abbrev calling : Bool → Source
calling spread = program [] (form 1 (end (perform (operation.Operand (number 1))))
    ∷ lambda 0 0 2 (return (call (record { site = 0; spread = spread; operator = held_in 1; operands = held_in 1 ∷ [] }) [])) ∷ []) [] []

called_row : is_covered_program (calling false) ≡ true
called_row = refl

spread_row : is_covered_program (calling true) ≡ false
spread_row = refl

-- a procedure that takes a list
rest_row : is_covered_program (program [] (record {
  name = [];
  entry = Some (record { formals = 1; rest = true; fields = 0 });
  variables = 3;
  expression = return (perform (operation.Operand (number 1)));
} ∷ []) [] []) ≡ are_lists_covered
rest_row = refl

-- a pair, and a literal that is captured
pair_row : is_covered (end (perform (operation.Prim 0 Cons (number 1 ∷ number 2 ∷ [])))) ≡ is_covered_primitive Cons
pair_row = refl

literal_row : is_covered (end (perform (operation.NewCell (source.Atom (Literal 0))))) ≡ are_literals_covered
literal_row = refl

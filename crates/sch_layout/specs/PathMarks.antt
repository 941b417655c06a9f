-- The marks of a path of an expression, as a layout leaves them.
use Rattle.std.specs.Prelude.{ℕ, zero, suc, true, false, cond, List, [], ◌∷◌, ◌++◌, Option, Some, None}
use Rattle.sch_word.specs.declared.mark.MarkKind.{MarkKind}
use Rattle.sch_word.specs.declared.mark.MarkKind.TheVariants as mark
use Rattle.sch_word.specs.declared.place.Place.{Place}
use Rattle.sch_control.specs.declared.body.Entry.{Entry}
use Rattle.sch_control.specs.declared.operation.Atom.TheVariants.{Variable}
use Rattle.sch_control.specs.declared.operation.Operand.{Operand}
use Rattle.sch_control.specs.declared.operation.Operand.TheVariants as operand
use Rattle.sch_control.specs.flow.Paths.{Event, Binds, References, Saves, Calls, Tails, Returns, Ends}
use Rattle.std.specs.Option.{option_to_list}
use Rattle.sch_word.specs.values.Places.{same_place, is_slot}
use Rattle.sch_layout.specs.BodyLayout.{Plan, spill, move_mark}
use Rattle.sch_control.specs.flow.Places.{variable_arrival}
use Rattle.sch_layout.specs.Moves.{Move}

-- a move leaves its mark, where it is one
abbrev pub left_by : (to : Place) → Option MarkKind → Operand Place → List MarkKind
left_by to m (operand.Atom (Variable p)) = cond (same_place to p) [] (option_to_list m)
left_by to m o = option_to_list m

abbrev pub move_marks : List Move → List MarkKind
move_marks [] = []
move_marks (m ∷ moves) = left_by m.to (move_mark m) m.from ++ move_marks moves

module _ (plan : Plan) where
  -- what lives in registers is restored
  abbrev pub restore_marks : List ℕ → List MarkKind
  restore_marks [] = []
  restore_marks (x ∷ xs) = cond (is_slot (plan.place x)) (restore_marks xs) (mark.Restore x ∷ restore_marks xs)

  -- the marks of an event
  abbrev pub marks_of : Event → List MarkKind
  marks_of (Binds x) = option_to_list (spill plan x)
  marks_of (References x) = []
  marks_of (Saves x) = cond (is_slot (plan.place x)) [] (mark.Save x ∷ [])
  marks_of (Calls a restores) = move_marks (plan.moves false a) ++ (mark.Call a.site ∷ restore_marks restores)
  marks_of (Tails a) = move_marks (plan.moves true a) ++ (mark.Tail a.site ∷ [])
  marks_of Returns = mark.Return ∷ []
  marks_of Ends = []

  -- the marks of a path
  abbrev pub path_marks : List Event → List MarkKind
  path_marks [] = []
  path_marks (e ∷ es) = marks_of e ++ path_marks es

  -- the marks of the variables with which a procedure is entered, from one on
  abbrev pub arrival_marks : (from count : ℕ) → List MarkKind
  arrival_marks from zero = []
  arrival_marks from (suc count) =
      cond (same_place (plan.place from) (variable_arrival from)) [] (option_to_list (spill plan from)) ++ arrival_marks (suc from) count

  abbrev pub entry_marks : Option Entry → List MarkKind
  entry_marks None = []
  entry_marks (Some e) = arrival_marks 1 (suc e.formals)

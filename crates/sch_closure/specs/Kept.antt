-- What closing keeps of what is counted. The nodes of a flat program stand in another order: the bodies first,
-- each without those inside it.
use Rattle.std.specs.Prelude.{◌≡◌, Bool, false, List, [], ◌∷◌, ◌++◌}
use Rattle.std.specs.List.{count_by}
use Rattle.sch_word.specs.trees.Shape.{Procedure}
use Rattle.sch_cells.specs.Tree as from
use Rattle.sch_cells.specs.Bodies.{bodies_lambdas, bodies_each, form, form_name}
use Rattle.sch_flat.specs.Tree as to
use Rattle.sch_flat.specs.Measures.{variables, body_variables}

-- the same items, each as often
abbrev pub SameItems : {A : Type 0} → List A → List A → Type 0
SameItems {A} xs ys = (test : A → Bool) → count_by test ys ≡ count_by test xs

-- a body with what is counted of it
abbrev pub procedure_of : to.Body → Procedure
procedure_of b = record { name = b.name; formals = b.formals; rest = b.rest; free = b.fields; variables = body_variables b }

-- the procedures of a program, the library's first, outer before inner
abbrev pub procedures_in : from.Source → List Procedure
procedures_in p = bodies_lambdas p.library ++ bodies_each p.forms

-- the top-level forms with what is counted of them
abbrev pub forms_in : from.Trees → List Procedure
forms_in from.no_trees = []
forms_in (from.and_tree e es) = form e ∷ forms_in es

abbrev pub flat_forms : to.Trees → List Procedure
flat_forms to.no_trees = []
flat_forms (to.and_tree e es) = record { name = form_name; formals = 0; rest = false; free = 0; variables = variables e } ∷ flat_forms es

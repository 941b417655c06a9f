-- How many variables and sequences the bodies of a program of the language Control have.
use Rattle.std.specs.Prelude.{ℕ, ◌-◌, IsTrue, List, [], ◌∷◌, ◌++◌, map, take, drop}
use Rattle.sch_flat.specs.Tree as flat
use Rattle.sch_flat.specs.Measures.{variables, body_variables}
use Rattle.sch_control.specs.Sizes.{bind_within, sequences_within}
use Rattle.sch_control.specs.Tree as control

-- What is said of bodies and of forms, in the order of the bodies that are made of them: each form stands before what
-- is said of its procedures' bodies.
abbrev pub in_order : {A : Type 0} → (before : ℕ) → (bodies forms : List A) → (places : List ℕ) → List A
in_order before bodies [] places = bodies
in_order before bodies (form ∷ forms) [] = form ∷ in_order before bodies forms []
in_order before bodies (form ∷ forms) (place ∷ places) =
    take (place - before) bodies ++ form ∷ in_order place (drop (place - before) bodies) forms places

abbrev pub form_variables : flat.Trees → List ℕ
form_variables flat.no_trees = []
form_variables (flat.and_tree e es) = variables e ∷ form_variables es

-- for each body, how many variables it may need beside the return address and the closure
abbrev pub most_variables : flat.Source → List ℕ
most_variables p = in_order 0 (map body_variables p.bodies) (form_variables p.forms) p.starts

-- no body of a program has more variables than its flat body may need
abbrev pub BindNoMore : flat.Source → control.Source → Type 0
BindNoMore p q = IsTrue (bind_within q.bodies (most_variables p))

-- no body of a program has more sequences than the variables that its flat body may need
abbrev pub FewSequences : flat.Source → control.Source → Type 0
FewSequences p q = IsTrue (sequences_within q.bodies (most_variables p))

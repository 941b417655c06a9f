-- The rows of forms that bind variables (R5RS 4.2.2 and 4.2.4).
use Rattle.std.specs.Prelude.{ℕ, Bool, true, false, cond, ◌&&◌, List, [], ◌∷◌, Some}
use Rattle.sch_read.specs.Grammar.{Data, atom, list, none, cons, symbol}
use Rattle.sch_read.specs.Parts.{how_many, offset}
use Rattle.sch_names.specs.Scope.{Scope, onto, VariableNames}
use Rattle.sch_sketch.specs.declared.fault.Fault.TheVariants.{BadForm}
use Rattle.sch_sketch.specs.declared.sketch.Row.TheVariants.{Body, Nest}
use Rattle.sch_sketch.specs.Draft.{local}
use Rattle.sch_sketch.specs.Sketch.{Sketch, text, rest, wrong, leaf, node, limited, no_sketch, and_sketch, binding, recurring, abstracting, calling}
use Rattle.sch_sketch.specs.Small.{two}
use Rattle.sch_sketch.specs.Distinct.{are_distinct}
use Rattle.sch_sketch.specs.BodyHeads.{is_body, body}
use Rattle.sch_sketch.specs.Groups.{group}
use Rattle.sch_form_bindings.specs.Bindings.{bound, inits, are_bindings}

-- the variables are distinct, and the body is one
abbrev pub is_binding_form : Scope → Data → Data → Bool
is_binding_form s bs es = are_bindings bs && (are_distinct (bound bs) && is_body (onto (bound bs) s) es)

-- the procedure of a `let` with a name, in the scope of that name
abbrev pub looping : ℕ → List ℕ → VariableNames → Data → Sketch
looping at f vs es = node (recurring (Some f ∷ []) true) at (two (node (abstracting vs false) at (body at es)) (leaf at (local 0)))

abbrev pub row_named : Scope → ℕ → List ℕ → Data → Sketch
row_named s at f (cons (list q bs) es) =
    cond (is_binding_form (Some f ∷ s) bs es) (node (calling (bound bs)) at (and_sketch (looping at f (bound bs) es) (inits bs no_sketch)))
    (wrong (BadForm at))
row_named s at f _ = wrong (BadForm at)

abbrev pub row_let : Scope → ℕ → Data → Sketch
row_let s at (cons (list q bs) es) = cond (is_binding_form s bs es) (node (binding (bound bs)) at (inits bs (body at es))) (wrong (BadForm at))
row_let s at (cons (atom q (symbol f)) xs) = row_named s at f xs
row_let s at _ = wrong (BadForm at)

abbrev pub letrec_form : Scope → ℕ → Data → Data → Sketch
letrec_form s at bs es = cond (is_binding_form s bs es) (group s (bound bs) at (inits bs) (rest Body at es none)) (wrong (BadForm at))

abbrev pub row_letrec : Scope → ℕ → Data → Sketch
row_letrec s at (cons (list q bs) es) = letrec_form s at bs es
row_letrec s at _ = wrong (BadForm at)

-- ## `let*`: one binding inside the other

abbrev pub starred : ℕ → Data → Data → Sketch
starred at none es = node (binding []) at (body at es)
starred at (cons b bs) es = limited at (how_many (cons b bs)) (rest (Nest at) at (cons b bs) es)

abbrev pub row_let_star : Scope → ℕ → Data → Sketch
row_let_star s at (cons (list q bs) es) = cond (are_bindings bs && is_body (onto (bound bs) s) es) (starred at bs es) (wrong (BadForm at))
row_let_star s at _ = wrong (BadForm at)

-- the bindings of a `let*` whose place is `form`, from one on
abbrev pub row_nest : (form at : ℕ) → Data → Data → Sketch
row_nest outer at (cons (list q (cons (atom p (symbol v)) (cons i none))) none) es =
    node (binding (Some v ∷ [])) at (two (text i) (rest Body outer es none))
row_nest outer at (cons (list q (cons (atom p (symbol v)) (cons i none))) (cons b bs)) es =
    node (binding (Some v ∷ [])) at (two (text i) (rest (Nest outer) (offset b) (cons b bs) es))
row_nest outer at _ es = wrong (BadForm at)

-- Worked rows: where bodies save what.
use Rattle.std.proofs.Common.{◌≡◌, refl, true, false, [], ◌∷◌}
use Rattle.std.specs.Prelude.{nat_eq}
use Rattle.sch_word.specs.declared.primitive.Primitive.TheVariants.{Subtract, Multiply, Equal, Eq}
use Rattle.sch_control.specs.declared.operation.Atom.TheVariants.{Variable}
use Rattle.sch_control.specs.declared.operation.Source.TheVariants as source
use Rattle.sch_control.specs.declared.operation.Operation.TheVariants as operation
use Rattle.sch_control.specs.Tree.{Expression, perform, bind, sequence, branch, fix, call, tail_call, return, end, save}
use Rattle.sch_control.proofs.Examples.{number, truth, held_in, applied, value_of, global}
use Rattle.sch_saves.specs.LazyRegions.{outermost, lazily_saved}

-- ## (define (g x y) (if (and x (h y)) y (not (h x)))), where x is variable 2 and y is 3

-- after (h y), the return address, x and y are live
abbrev test_arm : Expression
test_arm = bind 4 global (call (applied 0 (held_in 4) (held_in 3 ∷ [])) (0 ∷ 2 ∷ 3 ∷ []))

abbrev last_arm : Expression
last_arm = bind 5 global (bind 6 (call (applied 1 (held_in 5) (held_in 2 ∷ [])) (0 ∷ []))
    (return (perform (operation.Prim 2 Eq (held_in 6 ∷ truth false ∷ [])))))

abbrev chosen : (arm : Expression) → Expression
chosen arm = branch (branch (value_of 2) arm (perform (operation.Operand (truth false)))) (return (value_of 3)) last_arm

-- the return address at the entry, as both ways through the body call; x and y in the arm of (h y) alone
chosen_saves : lazily_saved 7 (chosen test_arm) ≡ save (0 ∷ []) (chosen (save (2 ∷ 3 ∷ []) test_arm))
chosen_saves = refl

-- ## (define (fact n) (if (= n 0) 1 (* n (fact (- n 1)))))

abbrev factorial : (again : Expression) → Expression
factorial again = branch (perform (operation.Prim 0 Equal (held_in 2 ∷ number 0 ∷ []))) (return (perform (operation.Operand (number 1)))) again

abbrev again : Expression
again = bind 3 global (bind 4 (perform (operation.Prim 1 Subtract (held_in 2 ∷ number 1 ∷ [])))
    (bind 5 (call (applied 2 (held_in 3) (held_in 4 ∷ [])) (0 ∷ 2 ∷ [])) (return (perform (operation.Prim 3 Multiply (held_in 2 ∷ held_in 5 ∷ []))))))

factorial_saves : lazily_saved 6 (factorial again) ≡ factorial (save (0 ∷ 2 ∷ []) again)
factorial_saves = refl

-- ## An arm that is never taken adds nothing outside, and nothing is saved in it, as nothing is live after its calls

abbrev never : Expression
never = branch (perform (operation.Operand (truth true))) (bind 3 (call (applied 0 (held_in 2) []) (0 ∷ [])) (return (value_of 3)))
    (bind 4 (call (applied 1 (held_in 2) []) []) (return (value_of 2)))

never_saves : lazily_saved 5 never ≡ save (0 ∷ []) never
never_saves = refl

-- ## A variable that is bound inside its region, in a group

abbrev grouped : Expression
grouped = fix (record { at = 3; closure = record { label = 1; fields = source.Atom (Variable 4) ∷ [] } }
    ∷ record { at = 4; closure = record { label = 2; fields = [] } } ∷ [])
    (sequence (value_of 2) (bind 5 (call (applied 0 (held_in 3) []) (0 ∷ 4 ∷ [])) (tail_call (applied 1 (held_in 4) []))))

grouped_saves : lazily_saved 6 grouped ≡ save (0 ∷ 4 ∷ []) grouped
grouped_saves = refl

-- a call of a form, after which no return address is live, and a body without calls
form_saves : lazily_saved 3 (end (call (applied 0 (held_in 2) []) (2 ∷ []))) ≡ save (2 ∷ []) (end (call (applied 0 (held_in 2) []) (2 ∷ [])))
form_saves = refl

leaf_saves : lazily_saved 3 (return (value_of 2)) ≡ return (value_of 2)
leaf_saves = refl

-- ## Regions inside one another

nested_regions : outermost (λ x. nat_eq x 7) (save (7 ∷ 2 ∷ []) (save (2 ∷ []) (save (2 ∷ 3 ∷ []) (value_of 2)))) ≡ save (2 ∷ []) (save (3 ∷ []) (value_of 2))
nested_regions = refl

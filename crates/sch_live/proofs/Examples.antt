-- Worked rows: to which calls some path comes, what is live at them, and what variables are read.
use Rattle.std.proofs.Common.{◌≡◌, ◌≢◌, refl, ℕ, Bool, true, false, List, [], ◌∷◌, ◌⊎◌}
use Rattle.std.specs.Prelude.{◌↔◌, ◌<◌}
use Rattle.sch_word.specs.trees.NumberSets.{has}
use Rattle.sch_control.specs.declared.operation.Operation.TheVariants as operation
use Rattle.sch_control.specs.Tree.{Expression, perform, bind, branch, call, return}
use Rattle.sch_control.specs.flow.Live.{Perhaps, nothing_later}
use Rattle.sch_control.proofs.Examples.{truth, held_in, applied, value_of}
use Rattle.sch_live.specs.BackwardSets.{ListsAllLive}
use Rattle.sch_live.specs.LiveListed.{lists_in_order, live_listed}
use Rattle.sch_live.specs.Reached.{gives, where_reached}
use Rattle.sch_control.specs.flow.Reads.{VariablesBelow}

abbrev constant : Bool → Expression
constant b = perform (operation.Operand (truth b))

-- ## Results: a constant gives its own, anything else both

results : gives (constant true) true ∷ gives (constant true) false ∷ gives (constant false) true ∷ gives (constant false) false ∷ gives (value_of 2) true
    ∷ gives (value_of 2) false ∷ []
    ≡ true ∷ false ∷ false ∷ true ∷ true ∷ true ∷ []
results = refl

-- (if x2 #f x3) may be true by its second arm alone, and (if #t #f x3) is never true
arms : gives (branch (value_of 2) (constant false) (value_of 3)) true ∷ gives (branch (constant true) (constant false) (value_of 3)) true ∷ [] ≡ true ∷ false ∷ []
arms = refl

-- ## Calls in arms: one is never taken, and it lists nothing; inside it nothing is

-- variable 5 is what the call of 2 gives
abbrev called : ℕ → (listed : List ℕ) → Expression
called site listed = bind 5 (call (applied site (held_in 2) []) listed) (return (value_of 3))

never : where_reached true (branch (constant false) (called 0 (0 ∷ 3 ∷ [])) (called 1 (0 ∷ 3 ∷ [])))
    ≡ branch (constant false) (called 0 []) (called 1 (0 ∷ 3 ∷ []))
never = refl

inside_never : where_reached true (branch (constant true) (called 0 (3 ∷ [])) (branch (value_of 4) (called 1 (3 ∷ [])) (called 2 (3 ∷ []))))
    ≡ branch (constant true) (called 0 (3 ∷ [])) (branch (value_of 4) (called 1 []) (called 2 []))
inside_never = refl

-- ## What is live after a call, whether or not a path comes to it

lists : ListsAllLive (called 0 (0 ∷ 3 ∷ [])) nothing_later
    ≡ (((x : ℕ) → (has x (0 ∷ 3 ∷ []) ≡ true) ↔ Perhaps (λ t. (x ≢ 5) × ((has x (3 ∷ []) ≡ true) ⊎ Perhaps (λ t. x ≡ 0)))) × Unit {0})
lists = refl

-- ## The sets as lists: (if (begin (x2) x3) (begin (x2) x3) x4), in a body with six variables

abbrev tested : (listed later : List ℕ) → Expression
tested listed later = branch (bind 5 (call (applied 0 (held_in 2) []) listed) (value_of 3)) (called 1 later) (return (value_of 4))

-- the first call is followed by the test and by one of the arms, and what it gives is bound behind it
both_live : live_listed 6 (tested [] []) ≡ tested (0 ∷ 2 ∷ 3 ∷ 4 ∷ []) (0 ∷ 3 ∷ [])
both_live = refl

-- the arm that is never taken has nothing, and its variables are live nowhere
one_live : live_listed 6 (branch (constant false) (called 0 []) (called 1 [])) ≡ branch (constant false) (called 0 []) (called 1 (0 ∷ 3 ∷ []))
one_live = refl

in_numbers : lists_in_order 6 (called 1 (3 ∷ 7 ∷ 0 ∷ [])) ≡ called 1 (0 ∷ 3 ∷ [])
in_numbers = refl

-- ## The variables that are read or bound

below : VariablesBelow 6 (called 0 []) ≡ ((5 < 6) × ((true ≡ true) × (true ≡ true)))
below = refl

not_below : VariablesBelow 3 (called 0 []) ≡ ((5 < 3) × ((true ≡ true) × (false ≡ true)))
not_below = refl

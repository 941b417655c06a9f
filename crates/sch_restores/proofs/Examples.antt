-- Worked rows: what calls restore. Each call lists what is live after it.
use Rattle.std.proofs.Common.{◌≡◌, refl, ℕ, true, false, List, [], ◌∷◌}
use Rattle.sch_control.specs.declared.operation.Atom.TheVariants.{Variable}
use Rattle.sch_control.specs.declared.operation.Operation.TheVariants as operation
use Rattle.sch_control.specs.declared.operation.Source.TheVariants as source
use Rattle.sch_control.specs.Tree.{Expression, perform, bind, branch, fix, call, tail_call, return, end, save}
use Rattle.sch_control.proofs.Examples.{applied, held_in, truth, value_of}
use Rattle.sch_restores.specs.Restores.{eagerly_restored}

abbrev calls_one : (site operator : ℕ) → List ℕ → Expression
calls_one site operator listed = call (applied site (held_in operator) []) listed

-- ## One call after another

-- Variable 2 is live after both calls and read behind the second one: it is restored there alone, as the return address is.
abbrev two_calls : (first second : List ℕ) → Expression
two_calls first second = save (0 ∷ 2 ∷ []) (bind 5 (calls_one 0 3 first) (bind 6 (calls_one 1 1 second) (return (value_of 2))))

second_alone : eagerly_restored 7 (two_calls (0 ∷ 1 ∷ 2 ∷ []) (0 ∷ 2 ∷ [])) ≡ two_calls [] (0 ∷ 2 ∷ [])
second_alone = refl

-- what the second call itself reads is restored behind the first
abbrev called_later : (first second : List ℕ) → Expression
called_later first second = save (0 ∷ 2 ∷ 3 ∷ []) (bind 5 (calls_one 0 3 first) (bind 6 (calls_one 1 3 second) (return (value_of 2))))

operator_too : eagerly_restored 7 (called_later (3 ∷ 2 ∷ 0 ∷ []) (2 ∷ 0 ∷ [])) ≡ called_later (3 ∷ []) (0 ∷ 2 ∷ [])
operator_too = refl

-- what is not saved is not restored, nor what is not live
not_saved : eagerly_restored 7 (bind 5 (calls_one 0 3 (0 ∷ 2 ∷ [])) (return (value_of 2))) ≡ bind 5 (calls_one 0 3 []) (return (value_of 2))
not_saved = refl

not_live : eagerly_restored 7 (two_calls [] []) ≡ two_calls [] []
not_live = refl

-- ## Saved again

-- The test is an `if` whose first arm saves variables 0 and 2 and calls; the arm that follows saves them again before its own
-- call. So both are restored behind the first call, though only their saves want them.
abbrev saved_again : (first second : List ℕ) → Expression
saved_again first second =
    branch (branch (value_of 3) (save (0 ∷ 2 ∷ []) (bind 5 (calls_one 0 3 first) (value_of 5))) (perform (operation.Operand (truth false))))
    (save (0 ∷ 2 ∷ []) (bind 6 (calls_one 1 1 second) (return (value_of 2)))) (tail_call (applied 2 (held_in 1) []))

for_their_saves : eagerly_restored 7 (saved_again (0 ∷ 1 ∷ 2 ∷ []) (0 ∷ 2 ∷ [])) ≡ saved_again (0 ∷ 2 ∷ []) (0 ∷ 2 ∷ [])
for_their_saves = refl

-- A variable that is bound inside a region is saved there as it is bound, so its save does not want it before.
abbrev bound_inside : (first second : List ℕ) → Expression
bound_inside first second =
    branch (bind 5 (calls_one 0 3 first) (value_of 5)) (save (4 ∷ []) (bind 4 (value_of 2) (bind 6 (calls_one 1 1 second) (return (value_of 4)))))
    (return (value_of 2))

not_for_its_own : eagerly_restored 7 (save (0 ∷ 2 ∷ 4 ∷ []) (bound_inside (0 ∷ 2 ∷ 4 ∷ []) (0 ∷ 4 ∷ [])))
    ≡ save (0 ∷ 2 ∷ 4 ∷ []) (bound_inside (0 ∷ 2 ∷ []) (0 ∷ 4 ∷ []))
not_for_its_own = refl

-- ## Tests

-- A test that is a call: what either arm wants is restored behind it. The second arm calls first, so it does not want
-- variable 4, which it reads behind that call.
abbrev tested : (first second : List ℕ) → Expression
tested first second =
    save (0 ∷ 2 ∷ 3 ∷ 4 ∷ []) (branch (calls_one 0 3 first) (return (value_of 2)) (bind 5 (calls_one 1 3 second) (return (value_of 4))))

by_either_arm : eagerly_restored 7 (tested (0 ∷ 2 ∷ 3 ∷ 4 ∷ []) (0 ∷ 4 ∷ [])) ≡ tested (0 ∷ 2 ∷ 3 ∷ []) (0 ∷ 4 ∷ [])
by_either_arm = refl

-- An arm that is never taken wants nothing, though what it reads were live; at a call to which no path comes nothing is live.
abbrev never_taken : (first second : List ℕ) → Expression
never_taken first second =
    save (0 ∷ 2 ∷ 3 ∷ []) (bind 5 (calls_one 0 1 first) (branch (perform (operation.Operand (truth true))) (return (value_of 2))
    (bind 6 (calls_one 1 3 second) (return (value_of 3)))))

by_one_arm : eagerly_restored 7 (never_taken (0 ∷ 2 ∷ 3 ∷ []) []) ≡ never_taken (0 ∷ 2 ∷ []) []
by_one_arm = refl

-- ## Loops and groups

-- A loop by a tail call saves nothing, and has no call that restores.
abbrev looping : Expression
looping = branch (value_of 2) (return (value_of 3)) (bind 4 (value_of 3) (tail_call (applied 0 (held_in 1) (held_in 4 ∷ []))))

nothing_restored : eagerly_restored 5 looping ≡ looping
nothing_restored = refl

-- before it, a call restores what it hands over, and where to return
abbrev then_looping : List ℕ → Expression
then_looping listed = save (0 ∷ 1 ∷ 2 ∷ []) (bind 3 (calls_one 0 2 listed) (tail_call (applied 1 (held_in 1) (held_in 3 ∷ []))))

for_the_loop : eagerly_restored 4 (then_looping (0 ∷ 1 ∷ [])) ≡ then_looping (0 ∷ 1 ∷ [])
for_the_loop = refl

-- A group wants what its closures capture, but not its own members.
abbrev grouped : List ℕ → Expression
grouped listed =
    save (0 ∷ 2 ∷ 4 ∷ []) (bind 3 (calls_one 0 1 listed)
    (fix (record { at = 4; closure = record { label = 0; fields = source.Atom (Variable 2) ∷ source.Atom (Variable 4) ∷ [] } } ∷ []) (return (value_of 4))))

for_the_group : eagerly_restored 5 (grouped (0 ∷ 2 ∷ 4 ∷ [])) ≡ grouped (0 ∷ 2 ∷ [])
for_the_group = refl

-- at the end of a form there is no return address to restore
form_end : eagerly_restored 4 (save (0 ∷ 2 ∷ []) (bind 3 (calls_one 0 2 (0 ∷ 2 ∷ [])) (end (value_of 2))))
    ≡ save (0 ∷ 2 ∷ []) (bind 3 (calls_one 0 2 (2 ∷ [])) (end (value_of 2)))
form_end = refl

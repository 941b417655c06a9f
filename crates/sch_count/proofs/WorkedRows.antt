-- Rows of small runs, computed.
use Rattle.std.specs.Prelude.{◌≡◌, List, [], ◌∷◌, ◌++◌, refl}
use Rattle.sch_word.specs.declared.mark.MarkKind.{MarkKind}
use Rattle.sch_word.specs.declared.mark.MarkKind.TheVariants.{Enter, Save, Restore, Call, Return, Tail}
use Rattle.sch_count.specs.ActivationCounts.{row_of}
use Rattle.sch_count.proofs.RowSums.{row_from as row}

-- (define (fact n) (if (= n 0) 1 (* n (fact (- n 1))))) (display (fact 5)): `display` is body 0, the forms are 1 and 3, and
-- `fact` is 2. Each activation that calls saves n and where it returns; the one that does not saves nothing.
abbrev down : List MarkKind
down = Enter 2 ∷ Save 1 ∷ Save 0 ∷ Call 1 ∷ []

abbrev up : List MarkKind
up = Restore 1 ∷ Restore 0 ∷ Return ∷ []

abbrev factorial : List MarkKind
factorial = Enter 1 ∷ Enter 3 ∷ Call 0 ∷ [] ++ down ++ down ++ down ++ down ++ down ++ Enter 2 ∷ Return ∷ [] ++ up ++ up ++ up ++ up ++ up ++ Call 2 ∷ Enter 0 ∷ Return ∷ []

display_row : row_of factorial 0 ≡ row 1 1 0 0
display_row = refl

first_form_row : row_of factorial 1 ≡ row 1 0 0 0
first_form_row = refl

factorial_row : row_of factorial 2 ≡ row 6 1 10 0
factorial_row = refl

second_form_row : row_of factorial 3 ≡ row 1 0 0 0
second_form_row = refl

-- a leaf that saves
leaf_that_saves : row_of (Enter 0 ∷ Save 1 ∷ Return ∷ []) 0 ≡ row 1 1 1 1
leaf_that_saves = refl

-- one that an entry ends is no leaf, and its saves are its own
ended_by_entry : row_of (Enter 0 ∷ Save 1 ∷ Enter 1 ∷ Save 2 ∷ Save 3 ∷ []) 0 ≡ row 1 0 1 0
ended_by_entry = refl

-- what is saved while a call is on its way is not the caller's
saved_by_callee : row_of (Enter 0 ∷ Call 0 ∷ Enter 1 ∷ Save 1 ∷ Return ∷ Save 2 ∷ Return ∷ []) 0 ≡ row 1 0 1 0
saved_by_callee = refl

-- behind a tail call that enters no body the caller goes on
tail_without_entry : row_of (Enter 0 ∷ Call 0 ∷ Enter 1 ∷ Tail 1 ∷ Save 2 ∷ []) 0 ≡ row 1 0 1 0
tail_without_entry = refl

-- behind one that enters a body this body's activation goes on
tail_with_entry : row_of (Enter 0 ∷ Call 0 ∷ Enter 1 ∷ Tail 1 ∷ Enter 2 ∷ Save 2 ∷ Return ∷ []) 2 ≡ row 1 1 1 1
tail_with_entry = refl

-- marks while none is open are nobody's
none_open : row_of (Save 1 ∷ Call 0 ∷ Return ∷ Save 2 ∷ Tail 0 ∷ Save 3 ∷ Enter 0 ∷ Return ∷ Return ∷ []) 0 ≡ row 1 1 0 0
none_open = refl

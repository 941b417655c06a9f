-- Worked rows: the tables that are listed, and the calls of trees.
use Rattle.std.proofs.Common.{◌≡◌, ℕ, cond, refl, true, false, List, [], ◌∷◌}
use Rattle.sch_control.specs.declared.operation.Application.{Application}
use Rattle.sch_control.specs.Tree.{bind, branch, call, save, tail_call}
use Rattle.sch_control.proofs.Examples.{applied, number}
use Rattle.sch_orders.specs.ListedCalls.{listed_calls}
use Rattle.sch_orders.specs.declared.listed_call.ListedCall.{ListedCall}
use Rattle.sch_orders.specs.ListedTable.{call_fits, evaluated, with_calls}

-- a call at a site whose parts are moved in this order
abbrev moved : (site : ℕ) → (order : List ℕ) → ListedCall
moved site order = record { site = site; order = order; cycles = [] }

-- of four parts the third and then the first are bound, and of the others the last is moved before the second
evaluated_row : evaluated (2 ∷ 0 ∷ []) (3 ∷ 2 ∷ 1 ∷ 0 ∷ []) ≡ 2 ∷ 0 ∷ 3 ∷ 1 ∷ []
evaluated_row = refl

-- a call with nothing bound and one with its first operand bound; the site between them keeps what is given
table_row : with_calls ([] ∷ [] ∷ (1 ∷ []) ∷ []) ((0 ∷ 1 ∷ []) ∷ (0 ∷ 1 ∷ []) ∷ (1 ∷ 0 ∷ 2 ∷ []) ∷ []) (moved 2 (2 ∷ 0 ∷ 1 ∷ []) ∷ moved 0 (1 ∷ 0 ∷ []) ∷ [])
    ≡ (1 ∷ 0 ∷ []) ∷ (0 ∷ 1 ∷ []) ∷ (1 ∷ 2 ∷ 0 ∷ []) ∷ []
table_row = refl

-- a call moves each of its parts first, as many as its site has
fits_row : call_fits (2 ∷ 3 ∷ []) (moved 1 (2 ∷ 0 ∷ 1 ∷ [])) ≡ true
fits_row = refl

few_row : call_fits (2 ∷ 3 ∷ []) (moved 1 (1 ∷ 0 ∷ [])) ≡ false
few_row = refl

twice_row : call_fits (2 ∷ 3 ∷ []) (moved 0 (1 ∷ 1 ∷ [])) ≡ false
twice_row = refl

nowhere_row : call_fits (2 ∷ 3 ∷ []) (moved 2 (0 ∷ 1 ∷ [])) ≡ false
nowhere_row = refl

-- ## Calls

abbrev call_at : ℕ → Application ℕ
call_at site = applied site (number 0) []

-- in the order of a tree: those of a test, and then those of each arm; a call in tail position is told as one
calls_row : listed_calls (λ tail a. moved a.site (cond tail (1 ∷ []) []))
    (branch (call (call_at 4) []) (save (2 ∷ []) (bind 3 (call (call_at 1) (2 ∷ [])) (tail_call (call_at 6)))) (tail_call (call_at 2)))
    ≡ moved 4 [] ∷ moved 1 [] ∷ moved 6 (1 ∷ []) ∷ moved 2 (1 ∷ []) ∷ []
calls_row = refl

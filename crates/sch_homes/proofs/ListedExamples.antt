-- Worked rows: what is listed of the moves of calls.
use Rattle.std.proofs.Common.{◌≡◌, ℕ, refl, false, true, Bool, cond, List, [], ◌∷◌}
use Rattle.sch_word.specs.declared.place.Place.{Place}
use Rattle.sch_word.specs.declared.place.Place.TheVariants.{Reg}
use Rattle.sch_control.specs.declared.operation.Application.{Application}
use Rattle.sch_control.specs.Tree.{Expression, branch, call, tail_call}
use Rattle.sch_control.proofs.Examples.{applied, held_in, number}
use Rattle.sch_orders.specs.declared.listed_call.ListedCall.{ListedCall}
use Rattle.sch_orders.specs.ListedCalls.{listed_calls}
use Rattle.sch_homes.specs.HomeTable.{place_in}
use Rattle.sch_homes.specs.ListedMoves.{listed_call, straight_call}

-- variables 2 to 4 live where the first three operands arrive
abbrev lives : ℕ → Place
lives = place_in (Reg 15 ∷ Reg 14 ∷ Reg 3 ∷ Reg 8 ∷ Reg 9 ∷ [])

abbrev listed : (site : ℕ) → (order : List ℕ) → List (List Place) → ListedCall
listed site order cycles = record { site = site; order = order; cycles = cycles }

-- each operand stands where it is wanted: it is a straight call, and listed as one
standing_row : listed_call 5 lives false (applied 7 (held_in 1) (held_in 2 ∷ held_in 3 ∷ [])) ≡ listed 7 (0 ∷ 1 ∷ 2 ∷ []) []
standing_row = refl

straight_row : straight_call (applied 7 (held_in 1) (held_in 2 ∷ held_in 3 ∷ [])) ≡ listed 7 (0 ∷ 1 ∷ 2 ∷ []) []
straight_row = refl

-- the operator stands where the operand is wanted, and goes first: it is a straight call too
handed_row : listed_call 5 lives false (applied 7 (held_in 2) (number 7 ∷ [])) ≡ straight_call (applied 7 (held_in 2) (number 7 ∷ []))
handed_row = refl

-- two operands that change places: one cycle
swap_row : listed_call 5 lives true (applied 7 (held_in 1) (held_in 3 ∷ held_in 2 ∷ [])) ≡ listed 7 (0 ∷ 1 ∷ 2 ∷ []) ((Reg 3 ∷ Reg 8 ∷ []) ∷ [])
swap_row = refl

-- the second operand goes first, since it stands where the first is wanted
turned_row : listed_call 5 lives false (applied 7 (held_in 1) (held_in 4 ∷ held_in 2 ∷ [])) ≡ listed 7 (0 ∷ 2 ∷ 1 ∷ []) []
turned_row = refl

-- three go round: RBX gets what R8 holds, R8 what R9 holds, and R9 what RBX holds
round_row : listed_call 5 lives true (applied 7 (held_in 1) (held_in 3 ∷ held_in 4 ∷ held_in 2 ∷ [])) ≡ listed 7 (0 ∷ 1 ∷ 2 ∷ 3 ∷ []) ((Reg 3 ∷ Reg 8 ∷ Reg 9 ∷ []) ∷ [])
round_row = refl

-- calls stand in the order of their tree, and it is told which are tail calls
abbrev shown : (tail : Bool) → Application ℕ → ListedCall
shown tail a = listed a.site (cond tail (1 ∷ []) []) []

abbrev tree : Expression
tree = branch (call (applied 5 (held_in 1) []) []) (call (applied 6 (held_in 1) []) []) (tail_call (applied 4 (held_in 1) []))

tree_row : listed_calls shown tree ≡ listed 5 [] [] ∷ listed 6 [] [] ∷ listed 4 (1 ∷ []) [] ∷ []
tree_row = refl

-- Worked rows: order tables, and which of them fit.
use Rattle.std.proofs.Common.{◌≡◌, refl, true, false, [], ◌∷◌}
use Rattle.sch_control.specs.Fits.{fits}
use Rattle.sch_control.specs.OrderTable.{given_order, given_orders}

order_row : given_order 4 (2 ∷ 0 ∷ []) ≡ 2 ∷ 0 ∷ 1 ∷ 3 ∷ []
order_row = refl

-- (display x), (f (car (cons -8 8))) with its operand and then its operator bound, and its operands
table_row : given_orders (1 ∷ 2 ∷ 1 ∷ 2 ∷ []) ([] ∷ (1 ∷ 0 ∷ []) ∷ (0 ∷ []) ∷ [] ∷ []) ≡ (0 ∷ []) ∷ (1 ∷ 0 ∷ []) ∷ (0 ∷ []) ∷ (0 ∷ 1 ∷ []) ∷ []
table_row = refl

fitting_row : fits (1 ∷ 2 ∷ 1 ∷ 2 ∷ []) ([] ∷ (1 ∷ 0 ∷ []) ∷ (0 ∷ []) ∷ [] ∷ []) ((0 ∷ []) ∷ (1 ∷ 0 ∷ []) ∷ (0 ∷ []) ∷ (1 ∷ 0 ∷ []) ∷ []) ≡ true
fitting_row = refl

-- one that evaluates the operator first does not fit
other_row : fits (1 ∷ 2 ∷ 1 ∷ 2 ∷ []) ([] ∷ (1 ∷ 0 ∷ []) ∷ (0 ∷ []) ∷ [] ∷ []) ((0 ∷ []) ∷ (0 ∷ 1 ∷ []) ∷ (0 ∷ []) ∷ (0 ∷ 1 ∷ []) ∷ []) ≡ false
other_row = refl

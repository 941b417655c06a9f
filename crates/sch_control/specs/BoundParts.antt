-- Which parts a program binds: each is a variable, and they are bound one after the other, as they are listed.
use Rattle.std.specs.Prelude.{ℕ, Bool, true, false, ◌&&◌, cond, nat_eq, List, [], ◌∷◌, ◌++◌, slice_get, map, Option, Some}
use Rattle.std.specs.List.{list_all}
use Rattle.sch_word.specs.runs.Orders.{order_at}
use Rattle.sch_control.specs.declared.operation.Atom.TheVariants.{Variable}
use Rattle.sch_control.specs.declared.operation.Operand.{Operand}
use Rattle.sch_control.specs.declared.operation.Operand.TheVariants as operand
use Rattle.sch_control.specs.declared.operation.Operation.{Operation}
use Rattle.sch_control.specs.declared.operation.Operation.TheVariants as operation
use Rattle.sch_control.specs.declared.operation.Application.{Application}
use Rattle.sch_control.specs.Tree.{Expression, perform, bind, sequence, branch, fix, call, tail_call, return, end, save, Source}

-- ## Sites, each with its parts

abbrev pub Site : Type 0
Site = ℕ × List (Operand ℕ)

abbrev pub operand_parts : Operand ℕ → List Site
operand_parts (operand.Atom a) = []
operand_parts (operand.Read site which atoms) = (site, map operand.Atom atoms) ∷ []

abbrev pub operands_parts : List (Operand ℕ) → List Site
operands_parts [] = []
operands_parts (o ∷ operands) = operand_parts o ++ operands_parts operands

abbrev pub operation_parts : Operation ℕ → List Site
operation_parts (operation.Operand o) = operand_parts o
operation_parts (operation.Prim site which operands) = (site, operands) ∷ operands_parts operands
operation_parts (operation.SetGlobal g o) = operand_parts o
operation_parts (operation.CellSet c o) = operand_parts o
operation_parts _ = []

-- part 0 of a call is its operator
abbrev pub application_parts : Application ℕ → List Site
application_parts a = (a.site, a.operator ∷ a.operands) ∷ operands_parts (a.operator ∷ a.operands)

-- ## What is bound

abbrev pub is_variable : ℕ → Option (Operand ℕ) → Bool
is_variable x (Some (operand.Atom (Variable y))) = nat_eq x y
is_variable x _ = false

-- the parts of these numbers are variables, which are bound in this order among those that are bound before
abbrev pub in_turn : (parts : List (Operand ℕ)) → (numbers before : List ℕ) → Bool
in_turn parts [] before = true
in_turn parts (k ∷ ks) [] = false
in_turn parts (k ∷ ks) (x ∷ before) = cond (is_variable x (slice_get parts k)) (in_turn parts ks before) (in_turn parts (k ∷ ks) before)

module _ (bound : List (List ℕ)) where
  -- what is listed as bound at these sites is so, behind these variables
  abbrev pub sites_in_turn : (before : List ℕ) → List Site → Bool
  sites_in_turn before sites = list_all (λ s. in_turn s.1 (order_at bound s.0) before) sites

  -- The same at each call and primitive of an expression. A value is bound behind what is bound in it, which is out of
  -- sight there.
  abbrev pub parts_in_turn : Expression → (before : List ℕ) → Bool
  parts_in_turn (perform o) before = sites_in_turn before (operation_parts o)
  parts_in_turn (bind x a b) before = parts_in_turn a before && parts_in_turn b (before ++ x ∷ [])
  parts_in_turn (sequence a b) before = parts_in_turn a before && parts_in_turn b before
  parts_in_turn (branch a b c) before = parts_in_turn a before && (parts_in_turn b before && parts_in_turn c before)
  parts_in_turn (fix members e) before = parts_in_turn e before
  parts_in_turn (call a restores) before = sites_in_turn before (application_parts a)
  parts_in_turn (tail_call a) before = sites_in_turn before (application_parts a)
  parts_in_turn (return e) before = parts_in_turn e before
  parts_in_turn (end e) before = parts_in_turn e before
  parts_in_turn (save saves e) before = parts_in_turn e before

-- each part that a program binds is a variable, and they are bound in the order in which they are listed
abbrev pub parts_bound : Source → Bool
parts_bound p = list_all (λ c. parts_in_turn p.bound c.expression []) p.bodies

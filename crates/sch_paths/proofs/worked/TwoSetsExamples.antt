-- Worked rows: what is needed, by the two sets.
use Rattle.std.proofs.Common.{◌≡◌, ℕ, true, false, List, [], ◌∷◌, refl}
use Rattle.sch_word.specs.declared.constant.Const.TheVariants.{Boolean, Nil}
use Rattle.sch_control.specs.declared.operation.Atom.TheVariants.{Constant, Literal, Variable}
use Rattle.sch_control.specs.declared.operation.Operand.{Operand}
use Rattle.sch_control.specs.declared.operation.Operand.TheVariants as operand
use Rattle.sch_control.specs.declared.operation.Operation.TheVariants as operation
use Rattle.sch_control.specs.declared.operation.Application.{Application}
use Rattle.sch_control.specs.Tree.{Expression, perform, bind, branch, fix, call, tail_call, return, end, save}
use Rattle.sch_control.proofs.Examples.{value_of}
use Rattle.sch_paths.specs.Table.{saved_by, needs}

at : ℕ → Operand ℕ
at x = operand.Atom (Variable x)

abbrev application : ℕ → List (Operand ℕ) → Application ℕ
application operator operands = record { site = 0; spread = false; operator = operand.Atom (Variable operator); operands = operands }

-- Of `(define (g x y) (if (and x (h y)) y (not (h x))))`: both ways through the body reach a call after which the return address
-- is live, and only the arm of `(h y)` needs x and y.
abbrev arm : Expression
arm = bind 4 (perform (operation.Global 0)) (call (application 4 (operand.Atom (Variable 3) ∷ [])) (0 ∷ 2 ∷ 3 ∷ []))

abbrev chosen : Expression
chosen =
    branch (branch (value_of 2) arm (perform (operation.Operand (operand.Atom (Constant (Boolean false))))))
    (return (value_of 3))
    (bind 5 (perform (operation.Global 0)) (bind 6 (call (application 5 (operand.Atom (Variable 2) ∷ [])) (0 ∷ [])) (return (value_of 6))))

return_needed : needs 0 chosen ≡ true
return_needed = refl

arguments_not : needs 2 chosen ∷ needs 3 chosen ∷ [] ≡ false ∷ false ∷ []
arguments_not = refl

arm_needs : needs 0 arm ∷ needs 2 arm ∷ needs 3 arm ∷ needs 4 arm ∷ [] ≡ true ∷ true ∷ true ∷ false ∷ []
arm_needs = refl

-- ## Tests that are constants: `#f` takes the second arm, and any other constant the first

abbrev constant : Operand ℕ → Expression
constant o = perform (operation.Operand o)

abbrev tested : Expression → Expression
tested test = branch test arm (return (value_of 3))

never_taken : needs 0 (tested (constant (operand.Atom (Constant (Boolean false))))) ≡ false
never_taken = refl

always_taken : needs 0 (tested (constant (operand.Atom (Constant (Boolean true))))) ∷ needs 0 (tested (constant (operand.Atom (Constant Nil)))) ∷ [] ≡ true ∷ true ∷ []
always_taken = refl

-- of a literal it is not known, though it is never `#f`
literal_test : needs 0 (tested (constant (operand.Atom (Literal 0)))) ≡ false
literal_test = refl

-- no path of the constant has the other result, so that every variable is in that set
constant_sets : saved_by 7 (constant (operand.Atom (Constant Nil))) true ∷ saved_by 7 (constant (operand.Atom (Constant Nil))) false ∷ [] ≡ false ∷ true ∷ []
constant_sets = refl

-- ## A test that is a call, a tail call, a group, a region

call_test : needs 2 (branch (call (application 4 []) (0 ∷ 2 ∷ [])) (return (value_of 3)) (return (value_of 2))) ≡ true
call_test = refl

tail_needs_nothing : needs 0 (tail_call (application 4 [])) ∷ needs 0 (end (call (application 4 []) (0 ∷ []))) ∷ [] ≡ false ∷ true ∷ []
tail_needs_nothing = refl

group_needs : needs 2 (fix (record { at = 7; closure = record { label = 1; fields = [] } } ∷ []) (return arm)) ≡ true
group_needs = refl

-- 4 is bound inside its region, and a call lists it
region_needs : needs 4 (save (4 ∷ []) (bind 4 (value_of 2) (bind 5 (call (application 2 []) (0 ∷ 4 ∷ [])) (return (value_of 4))))) ≡ true
region_needs = refl

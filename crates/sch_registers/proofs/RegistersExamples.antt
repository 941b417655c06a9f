-- Worked rows: the trees of bodies with regions and restores, and the words of their frames.
use Rattle.std.proofs.Common.{◌≡◌, refl, ℕ, List, [], ◌∷◌, false}
use Rattle.sch_word.specs.declared.primitive.Primitive.TheVariants.{Add, Subtract, Multiply, Equal, Eq}
use Rattle.sch_control.specs.declared.operation.Operation.TheVariants as operation
use Rattle.sch_control.specs.Tree.{Expression, perform, bind, branch, call, return, save}
use Rattle.sch_control.proofs.Examples.{applied, held_in, lambda, number, truth, value_of, global}
use Rattle.sch_registers.specs.Registers.{registers_code, registers_tree, registers_words}

-- ## (define (g x y) (if (and x (h y)) y (not (h x)))), where x is variable 2 and y is 3

-- (h y), and (not (h x)), with what is listed at their calls
abbrev second : List ℕ → Expression
second listed = bind 4 global (call (applied 0 (held_in 4) (held_in 3 ∷ [])) listed)

abbrev last : List ℕ → Expression
last listed = bind 5 global (bind 6 (call (applied 1 (held_in 5) (held_in 2 ∷ [])) listed)
    (return (perform (operation.Prim 2 Eq (held_in 6 ∷ truth false ∷ [])))))

abbrev chosen : (second last : Expression) → Expression
chosen second last = branch (branch (value_of 2) second (perform (operation.Operand (truth false)))) (return (value_of 3)) last

-- The return address is saved at the entry, x and y in the arm of (h y). All three are restored behind it, and behind (h x)
-- the return address alone.
chosen_tree : registers_tree 7 (chosen (second []) (last []))
    ≡ save (0 ∷ []) (chosen (save (2 ∷ 3 ∷ []) (second (0 ∷ 2 ∷ 3 ∷ []))) (last (0 ∷ [])))
unfolding registers_tree
chosen_tree = refl

-- ## (define (fact n) (if (= n 0) 1 (* n (fact (- n 1)))))

abbrev again : List ℕ → Expression
again listed = bind 3 global (bind 4 (perform (operation.Prim 1 Subtract (held_in 2 ∷ number 1 ∷ [])))
    (bind 5 (call (applied 2 (held_in 3) (held_in 4 ∷ [])) listed) (return (perform (operation.Prim 3 Multiply (held_in 2 ∷ held_in 5 ∷ []))))))

abbrev factorial : (again : Expression) → Expression
factorial again = branch (perform (operation.Prim 0 Equal (held_in 2 ∷ number 0 ∷ []))) (return (perform (operation.Operand (number 1)))) again

factorial_tree : registers_tree 6 (factorial (again [])) ≡ factorial (save (0 ∷ 2 ∷ []) (again (0 ∷ 2 ∷ [])))
unfolding registers_tree
factorial_tree = refl

-- Its frame has the homes of the return address and of n: the operand goes to its register at once.
factorial_words : registers_words (lambda 1 0 6 (factorial (again [])) ∷ []) ≡ 2
unfolding registers_code registers_tree
factorial_words = refl

-- ## (define (k x) (g 1) (g 2) (+ x 1)), where x is variable 2

abbrev calls : (first second : List ℕ) → Expression
calls first second =
    bind 3 global (bind 4 (call (applied 0 (held_in 3) (number 1 ∷ [])) first)
    (bind 5 global (bind 6 (call (applied 1 (held_in 5) (number 2 ∷ [])) second)
    (return (perform (operation.Prim 2 Add (held_in 2 ∷ number 1 ∷ [])))))))

-- The return address and x are saved once, and restored behind the second call alone, as nothing wants them before it.
calls_tree : registers_tree 7 (calls [] []) ≡ save (0 ∷ 2 ∷ []) (calls [] (0 ∷ 2 ∷ []))
unfolding registers_tree
calls_tree = refl

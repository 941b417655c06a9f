-- What is counted of expressions: how much there is to do, how many tests and sequences there are, and how many atoms are
-- dropped; and how many variables and sequences bodies have.
use Rattle.std.specs.Prelude.{ℕ, suc, ◌+◌, Bool, true, false, ◌&&◌, cond, max, nat_le, List, [], ◌∷◌, length}
use Rattle.sch_control.specs.declared.operation.Operand.{Operand}
use Rattle.sch_control.specs.declared.operation.Operand.TheVariants as operand
use Rattle.sch_control.specs.declared.operation.Operation.{Operation}
use Rattle.sch_control.specs.declared.operation.Operation.TheVariants as operation
use Rattle.sch_control.specs.AtomsAndSites.{operation_atoms, application_atoms, member_atoms}
use Rattle.sch_control.specs.Tree.{Expression, perform, bind, sequence, branch, fix, call, tail_call, return, end, save, Code}

-- one for each atom, and one for a primitive that is an operand
abbrev pub operand_size : {V : Type 0} → Operand V → ℕ
operand_size (operand.Atom a) = 1
operand_size (operand.Read site which atoms) = suc (length atoms)

abbrev pub operands_size : {V : Type 0} → List (Operand V) → ℕ
operands_size [] = 0
operands_size (o ∷ operands) = operand_size o + operands_size operands

abbrev pub operation_size : {V : Type 0} → Operation V → ℕ
operation_size (operation.Operand o) = operand_size o
operation_size (operation.Prim site which operands) = operands_size operands
operation_size (operation.SetGlobal g o) = operand_size o
operation_size o = length (operation_atoms o)

-- one for each node, with what its operation has
abbrev pub expression_size : Expression → ℕ
expression_size (perform o) = suc (operation_size o)
expression_size (bind x a b) = suc (expression_size a + expression_size b)
expression_size (sequence a b) = suc (expression_size a + expression_size b)
expression_size (branch a b c) = suc (expression_size a + (expression_size b + expression_size c))
expression_size (fix members e) = suc (length (member_atoms members) + expression_size e)
expression_size (call a restores) = suc (length (application_atoms a))
expression_size (tail_call a) = suc (length (application_atoms a))
expression_size (return e) = suc (expression_size e)
expression_size (end e) = suc (expression_size e)
expression_size (save saves e) = suc (expression_size e)

abbrev pub expressions_size : List Code → ℕ
expressions_size [] = 0
expressions_size (c ∷ codes) = expression_size c.expression + expressions_size codes

-- ## Tests

abbrev pub tests_in : Expression → ℕ
tests_in (bind x a b) = tests_in a + tests_in b
tests_in (sequence a b) = tests_in a + tests_in b
tests_in (branch a b c) = suc (tests_in a + (tests_in b + tests_in c))
tests_in (fix members e) = tests_in e
tests_in (return e) = tests_in e
tests_in (end e) = tests_in e
tests_in (save saves e) = tests_in e
tests_in _ = 0

abbrev pub tests_of : List Code → ℕ
tests_of [] = 0
tests_of (c ∷ codes) = tests_in c.expression + tests_of codes

-- ## Dropped atoms

-- an atom, or a field of the closure, which is a variable too
abbrev pub is_bare_atom : Expression → Bool
is_bare_atom (perform (operation.Operand (operand.Atom a))) = true
is_bare_atom (perform (operation.Field v k)) = true
is_bare_atom _ = false

-- how many parts of sequences before the last are atoms
abbrev pub dropped_in : Expression → ℕ
dropped_in (bind x a b) = dropped_in a + dropped_in b
dropped_in (sequence a b) = cond (is_bare_atom a) 1 0 + (dropped_in a + dropped_in b)
dropped_in (branch a b c) = dropped_in a + (dropped_in b + dropped_in c)
dropped_in (fix members e) = dropped_in e
dropped_in (return e) = dropped_in e
dropped_in (end e) = dropped_in e
dropped_in (save saves e) = dropped_in e
dropped_in _ = 0

abbrev pub dropped_of : List Code → ℕ
dropped_of [] = 0
dropped_of (c ∷ codes) = dropped_in c.expression + dropped_of codes

-- ## Sequences

-- how many nodes are sequences, each of which has one part before the last
abbrev pub sequences_in : Expression → ℕ
sequences_in (bind x a b) = sequences_in a + sequences_in b
sequences_in (sequence a b) = suc (sequences_in a + sequences_in b)
sequences_in (branch a b c) = sequences_in a + (sequences_in b + sequences_in c)
sequences_in (fix members e) = sequences_in e
sequences_in (return e) = sequences_in e
sequences_in (end e) = sequences_in e
sequences_in (save saves e) = sequences_in e
sequences_in _ = 0

-- ## Bodies

-- the most variables of a body, with its return address and its closure, and 0 where there is no body
abbrev pub most_variables : List Code → ℕ
most_variables [] = 0
most_variables (c ∷ codes) = max c.variables (most_variables codes)

-- as many bodies as numbers, and a test that each body passes with its number
abbrev pub all_with : (test : Code → ℕ → Bool) → List Code → List ℕ → Bool
all_with test [] [] = true
all_with test (c ∷ codes) (n ∷ ns) = test c n && all_with test codes ns
all_with test _ _ = false

-- as many bodies as numbers, each with no more variables than its number beside the return address and the closure
abbrev pub bind_within : List Code → List ℕ → Bool
bind_within = all_with (λ c n. nat_le c.variables (2 + n))

-- as many bodies as numbers, each with no more sequences than its number
abbrev pub sequences_within : List Code → List ℕ → Bool
sequences_within = all_with (λ c n. nat_le (sequences_in c.expression) n)

-- Worked rows of what is counted of bodies.
use Rattle.std.proofs.Common.{◌≡◌, ◌+◌, refl, true, false, [], ◌∷◌, map}
use Rattle.sch_control.specs.declared.operation.Operation.TheVariants as operation
use Rattle.sch_control.specs.RegisterWork.{code_copies, code_done, expression_copies, expression_done}
use Rattle.sch_control.specs.Sizes.{bind_within, dropped_in, dropped_of, most_variables, sequences_in, sequences_within, tests_in, tests_of}
use Rattle.sch_control.specs.Tree as tree
use Rattle.sch_control.specs.Work.{code_work, codes_work, expression_work}
use Rattle.sch_control.proofs.Examples.{around, looping, number, shown, taking}

-- a form with a group of two closures of one field each (5), a call of one operand (9) that is bound (1) and shown (3);
-- and two procedures of one formal (4), each with a branch (5) over 3, 3 and 14
looping_work : (map code_work looping.bodies) ≡ 18 ∷ 29 ∷ 29 ∷ []
looping_work = refl

-- a cell (2), a closure (2), an assignment (3) and a call as above, in a sequence (1) and bound (3); and a procedure
taking_work : codes_work taking.bodies ≡ 23 + 11
taking_work = refl

saved_work : expression_work (around []) ≡ 10
saved_work = refl

-- ## With variables in registers

-- a form with a group of two (5), a call of one operand (8), what is shown (2) and its end (1); and two procedures (1), each
-- with a branch (3) over 3, 3 and 12, in which is a tail call of one operand (7)
looping_done : (map code_done looping.bodies) ≡ 16 ∷ 22 ∷ 22 ∷ []
looping_done = refl

-- a group of two, a call of one operand (4) with eight restored, which is bound (2); and two procedures of one formal, with
-- eight saved at the entry and at each arm, two bindings and a tail call of one operand
looping_copies : (map code_copies looping.bodies) ≡ 16 ∷ 34 ∷ 34 ∷ []
looping_copies = refl

-- a region is counted where it stands, by how many may be saved there, not by what is
around_copies : (expression_copies (around []) ∷ expression_copies (around (0 ∷ 2 ∷ [])) ∷ expression_done (around []) ∷ []) ≡ 12 ∷ 12 ∷ 7 ∷ []
around_copies = refl

-- the form has five variables, its procedure four
most_row : most_variables taking.bodies ≡ 5
most_row = refl

none_row : most_variables [] ≡ 0
none_row = refl

-- the form has five variables and its procedure four, the return address and the closure among them
within_row : bind_within taking.bodies (3 ∷ 2 ∷ []) ≡ true
within_row = refl

too_few_row : bind_within taking.bodies (2 ∷ 2 ∷ []) ≡ false
too_few_row = refl

one_more_row : bind_within taking.bodies (3 ∷ 2 ∷ 0 ∷ []) ≡ false
one_more_row = refl

one_fewer_row : bind_within taking.bodies (3 ∷ []) ≡ false
one_fewer_row = refl

-- ## Tests and dropped atoms

-- each procedure has one test, and the form none
tests_row : tests_of looping.bodies ≡ 2
tests_row = refl

abbrev one : tree.Expression
one = tree.perform (operation.Operand (number 1))

abbrev field_read : tree.Expression
field_read = tree.perform (operation.Field 1 0)

-- (if (if 1 1 1) 1 (if 1 1 1)), with a field for one of the atoms
nested_tests : tests_in (tree.branch (tree.branch one one one) field_read (tree.branch one one one)) ≡ 3
nested_tests = refl

-- 1 and a field are dropped where they stand before a last part; what is shown is not
dropped_row : dropped_in (tree.sequence one (tree.sequence (shown 0 (number 2)) (tree.sequence field_read one))) ≡ 2
dropped_row = refl

none_dropped : dropped_of taking.bodies ≡ 0
none_dropped = refl

-- ## Sequences

abbrev two : tree.Expression
two = tree.sequence one one

-- a sequence is itself one, with those of its first part and of the rest
inner_sequences : sequences_in (tree.sequence two (tree.sequence one two)) ≡ 4
inner_sequences = refl

-- one counts wherever it stands: as the value and the body of a binding, as each part of a branch, in a group, before what
-- ends a body, and in a region
placed_sequences : map sequences_in (tree.bind 2 two one ∷ tree.bind 2 one two ∷ tree.branch two one one ∷ tree.branch one two one
    ∷ tree.branch one one two ∷ tree.fix [] two ∷ tree.return two ∷ tree.end two ∷ tree.save [] two ∷ one ∷ [])
    ≡ 1 ∷ 1 ∷ 1 ∷ 1 ∷ 1 ∷ 1 ∷ 1 ∷ 1 ∷ 1 ∷ 0 ∷ []
placed_sequences = refl

-- the form has one sequence, whose first part sets a cell, and its procedure none
few_sequences_row : sequences_within taking.bodies (1 ∷ 0 ∷ []) ≡ true
few_sequences_row = refl

too_many_row : sequences_within taking.bodies (0 ∷ 0 ∷ []) ≡ false
too_many_row = refl

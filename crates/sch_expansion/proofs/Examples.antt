-- Worked rows of levels and of the order of faults (R5RS 7.3): a node at level 2,000 may stand, its parts may not.
use Rattle.std.proofs.Common.{◌≡◌, ℕ, pos, true, false, [], Some, codes, refl}
use Rattle.sch_word.specs.declared.constant.Const.TheVariants.{Fixnum}
use Rattle.sch_names.specs.Scope.{Globals}
use Rattle.sch_sketch.specs.declared.fault.Fault.TheVariants.{KeywordDefined, BadForm, Unbound, Operands, Core}
use Rattle.sch_sketch.specs.declared.sketch.Position.TheVariants.{Value, Test}
use Rattle.sch_sketch.specs.Draft.{Draft, constant, branch}
use Rattle.sch_sketch.specs.Sketch.{Sketch, leaf, node, limited, choosing}
use Rattle.sch_sketch.specs.Small.{three}
use Rattle.sch_expansion.specs.FaultOrder.{reported}
use Rattle.sch_expansion.specs.Expands.{Expands, a_leaf, a_node, within, no_part, and_part}
use Rattle.sch_expansion.specs.Faults.{HasFault, leaf_deep, node_deep, in_node, too_many, here, there}

none : Globals
none = record { bound = []; own = []; internal = false }

number : ℕ → Draft
number n = constant (Fixnum (pos n))

choice : Sketch
choice = node choosing 1 (three (leaf 5 (number 5)) (leaf 6 (number 6)) (leaf 7 (number 7)))

-- at level 1,999 a choice is one of its parts at level 2,000
choice_row : Expands none 1999 [] Value choice (branch (number 5) (number 6) (number 7))
unfolding choice
choice_row =
    a_node 1999 [] Value choosing 1 _ _ refl refl
    (and_part choosing true 2000 [] Value _ _ _ _ (a_leaf 2000 [] Test 5 (number 5) refl)
    (and_part choosing false 2000 [] Value _ _ _ _ (a_leaf 2000 [] Value 6 (number 6) refl)
    (and_part choosing false 2000 [] Value _ _ _ _ (a_leaf 2000 [] Value 7 (number 7) refl) (no_part choosing false 2000 [] Value))))

-- at level 2,000 its parts are too deep, and at level 2,001 the choice itself
deep_part_row : HasFault none 2000 [] Value choice (Core 6)
unfolding choice
deep_part_row =
    in_node 2000 [] Value choosing 1 _ (Core 6) refl
    (there choosing true 2001 [] Value _ _ (Core 6) (here choosing false 2001 [] Value _ _ (Core 6) (leaf_deep 2001 [] Value 6 (number 6) refl)))

deep_row : HasFault none 2001 [] Value choice (Core 1)
unfolding choice
deep_row = node_deep 2001 [] Value choosing 1 _ refl

-- 200 bindings of a `let*` may stand, and 201 may not
many_row : Expands none 1 [] Value (limited 1 200 (leaf 5 (number 5))) (number 5)
many_row = within 1 [] Value 1 200 _ _ refl (a_leaf 1 [] Value 5 (number 5) refl)

too_many_row : HasFault none 1 [] Value (limited 1 201 (leaf 5 (number 5))) (Operands 1)
too_many_row = too_many 1 [] Value 1 201 _ refl

-- The first place counts, and at one place the cause; of two names that are unbound at one place the first stays.
place_row : reported (Core 3) (Some (BadForm 4)) ≡ Some (Core 3)
place_row = refl

keyword_first_row : reported (KeywordDefined 3) (Some (BadForm 3)) ≡ Some (KeywordDefined 3)
keyword_first_row = refl

bad_first_row : reported (Unbound 3 (codes "x")) (Some (BadForm 3)) ≡ Some (BadForm 3)
bad_first_row = refl

unbound_first_row : reported (Operands 3) (Some (Unbound 3 (codes "x"))) ≡ Some (Unbound 3 (codes "x"))
unbound_first_row = refl

operands_first_row : reported (Core 3) (Some (Operands 3)) ≡ Some (Operands 3)
operands_first_row = refl

first_name_row : reported (Unbound 3 (codes "y")) (Some (Unbound 3 (codes "x"))) ≡ Some (Unbound 3 (codes "x"))
first_name_row = refl

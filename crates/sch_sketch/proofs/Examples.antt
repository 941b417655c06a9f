-- Worked rows of kinds of sketches (R5RS 4.2.2 and 7.3): where a part of each stands, and what is made of the parts.
use Rattle.std.proofs.Common.{◌≡◌, ℕ, pos, true, false, [], ◌∷◌, Some, None, refl}
use Rattle.sch_word.specs.declared.constant.Const.TheVariants.{Fixnum}
use Rattle.sch_word.specs.declared.primitive.Primitive.TheVariants.{Add}
use Rattle.sch_sketch.specs.declared.sketch.Position.TheVariants.{Value, Test}
use Rattle.sch_names.specs.Scope.{VariableNames}
use Rattle.sch_sketch.specs.Draft.{Draft, Drafts, constant, branch, sequence, bind, letrec, lambda, call, operation, set_local, no_drafts, and_draft}
use Rattle.sch_sketch.specs.Sketch.{choosing, sequencing, binding, recurring, abstracting, calling, operating, setting, scope_in, position_in, width, assemble}
use Rattle.sch_sketch.proofs.WorkedData.{x, y}

vs : VariableNames
vs = Some x ∷ Some y ∷ []

-- `(let ((x x) (y x)) x)` in the scope of another x: its inits stand outside, its body has y nearest
init_row : scope_in (binding vs) true false (Some x ∷ []) ≡ Some x ∷ []
init_row = refl

second_init_row : scope_in (binding vs) false false (Some x ∷ []) ≡ Some x ∷ []
second_init_row = refl

let_body_row : scope_in (binding vs) false true (Some x ∷ []) ≡ Some y ∷ Some x ∷ Some x ∷ []
unfolding vs
let_body_row = refl

-- a `let` without bindings has a body alone
empty_let_row : scope_in (binding []) true true (Some x ∷ []) ≡ Some x ∷ []
empty_let_row = refl

-- the inits of a `letrec` stand inside, and so does the body of a procedure
letrec_row : scope_in (recurring vs true) true false [] ≡ Some y ∷ Some x ∷ []
unfolding vs
letrec_row = refl

procedure_row : scope_in (abstracting vs false) true true (None ∷ []) ≡ Some y ∷ Some x ∷ None ∷ []
unfolding vs
procedure_row = refl

operand_row : scope_in (calling []) false true (None ∷ []) ≡ None ∷ []
operand_row = refl

-- Only the truth is asked for of a test, and of what a tested form ends with; all else has its value.
test_row : position_in choosing true false Value ≡ Test
test_row = refl

arm_row : position_in choosing false true Test ≡ Test
arm_row = refl

end_row : position_in sequencing false true Test ≡ Test
end_row = refl

part_row : position_in sequencing true false Test ≡ Value
part_row = refl

let_init_row : position_in (binding vs) true false Test ≡ Value
let_init_row = refl

let_end_row : position_in (binding vs) false true Test ≡ Test
let_end_row = refl

procedure_end_row : position_in (abstracting vs false) true true Test ≡ Value
procedure_end_row = refl

-- what is limited to 200: bindings, formals, operands without the operator
let_width_row : width (binding vs) 3 ≡ 2
let_width_row = refl

formals_row : width (abstracting vs true) 1 ≡ 2
unfolding vs
formals_row = refl

call_row : width (calling []) 3 ≡ 2
call_row = refl

operation_row : width (operating Add) 2 ≡ 2
operation_row = refl

-- ## What is made of 5, 6 and 7

number : ℕ → Draft
number n = constant (Fixnum (pos n))

numbers : Drafts
numbers = and_draft (number 5) (and_draft (number 6) (and_draft (number 7) no_drafts))

choice_row : assemble choosing numbers ≡ branch (number 5) (number 6) (number 7)
unfolding numbers
choice_row = refl

sequence_row : assemble sequencing numbers ≡ sequence numbers
sequence_row = refl

bound_row : assemble (binding vs) numbers ≡ bind vs (and_draft (number 5) (and_draft (number 6) no_drafts)) (number 7)
unfolding numbers
bound_row = refl

recurring_row : assemble (recurring vs true) numbers ≡ letrec vs true (and_draft (number 5) (and_draft (number 6) no_drafts)) (number 7)
unfolding numbers
recurring_row = refl

lambda_row : assemble (abstracting vs true) (and_draft (number 5) no_drafts) ≡ lambda 2 true (number 5)
unfolding vs
lambda_row = refl

called_row : assemble (calling vs) numbers ≡ call vs (number 5) (and_draft (number 6) (and_draft (number 7) no_drafts))
unfolding numbers
called_row = refl

operated_row : assemble (operating Add) (and_draft (number 5) (and_draft (number 6) no_drafts)) ≡ operation Add (and_draft (number 5) (and_draft (number 6) no_drafts))
operated_row = refl

set_row : assemble (setting 1) (and_draft (number 5) no_drafts) ≡ set_local 1 (number 5)
set_row = refl

-- Which programs are covered, with what they keep to beside; and how bodies begin.
use Rattle.sch_word.specs.runs.Activations.{is_enter}
use Rattle.std.specs.Prelude.{Bool, true, false, ◌&&◌, not, nat_le, nat_lt, List, [], ◌∷◌, length}
use Rattle.std.specs.List.{list_all}
use Rattle.sch_word.specs.declared.place.Place.{Place}
use Rattle.sch_word.specs.trees.Shape.{max_free_variables, max_library}
use Rattle.sch_control.specs.declared.operation.Closure.{Closure}
use Rattle.sch_control.specs.declared.operation.Member.{Member}
use Rattle.sch_control.specs.declared.operation.Operation.{Operation}
use Rattle.sch_control.specs.declared.operation.Operation.TheVariants as operation
use Rattle.sch_control.specs.declared.operation.Source.{Source as Captured}
use Rattle.sch_control.specs.declared.operation.Source.TheVariants as captured
use Rattle.sch_control.specs.Covered.{is_covered_member, is_covered_operation, has_covered_formals}
use Rattle.sch_control.specs.CoveredOperands.{is_form}
use Rattle.sch_frames.specs.declared.instruction.Instruction.{Instruction}
use Rattle.sch_frames.specs.declared.instruction.Instruction.TheVariants.{Do, Fix, Call, Tail, End, Label, Mark}
use Rattle.sch_frames.specs.Tree.{Code, Source}

-- its operations and operands are covered, and no list is spread
abbrev pub is_covered_instruction : Instruction → Bool
is_covered_instruction (Do o) = is_covered_operation o
is_covered_instruction (Fix members spills) = list_all is_covered_member members
is_covered_instruction (Call spread count) = not spread
is_covered_instruction (Tail spread count) = not spread
is_covered_instruction _ = true

-- ## Fields: each has a number that a field may have

abbrev pub source_low : Captured Place → Bool
source_low (captured.Atom a) = true
source_low (captured.Field p k) = nat_lt k max_free_variables

abbrev pub closure_low : Closure Place → Bool
closure_low c = list_all source_low c.fields

abbrev pub member_low : Member Place → Bool
member_low m = closure_low m.closure

abbrev pub operation_low : Operation Place → Bool
operation_low (operation.Field p k) = nat_lt k max_free_variables
operation_low (operation.NewCell c) = source_low c
operation_low (operation.CellGet c) = source_low c
operation_low (operation.CellSet c o) = source_low c
operation_low (operation.MakeClosure c) = closure_low c
operation_low _ = true

abbrev pub instruction_low : Instruction → Bool
instruction_low (Do o) = operation_low o
instruction_low (Fix members spills) = list_all member_low members
instruction_low _ = true

-- ## Marks: each has an instruction behind it, and no label between. One may wait for the first instruction.

abbrev pub marks_settled : (waiting : Bool) → List Instruction → Bool
marks_settled waiting [] = not waiting
marks_settled waiting (Mark m ∷ instructions) = marks_settled true instructions
marks_settled waiting (Label l ∷ instructions) = not waiting && marks_settled false instructions
marks_settled waiting (_ ∷ instructions) = marks_settled false instructions

-- ## Ends: those of forms stand only where a form may end

abbrev pub may_stand : (ends : Bool) → Instruction → Bool
may_stand ends End = ends
may_stand ends _ = true

-- ## Marks of entries: none stands among instructions, since that of a body stands in front of it

abbrev pub plain_instruction : Instruction → Bool
plain_instruction (Mark m) = not (is_enter m)
plain_instruction _ = true

-- ## Bodies

-- The mark of a body waits for its first instruction.
abbrev pub is_covered_code : Code → Bool
is_covered_code c =
    has_covered_formals c.entry
    && (list_all is_covered_instruction c.instructions
    && (list_all instruction_low c.instructions
    && (list_all (may_stand (is_form c.entry)) c.instructions
    && (list_all plain_instruction c.instructions && marks_settled true c.instructions))))

-- with no more procedures in the library than it may have
abbrev pub is_covered_program : Source → Bool
is_covered_program p = nat_le (length p.library) max_library && list_all is_covered_code p.bodies

-- Behind the marks with which it begins something is done, so that the mark of a body has its instruction behind it, and no
-- label between.
abbrev pub begins : List Instruction → Bool
begins [] = false
begins (Label l ∷ instructions) = false
begins (Mark m ∷ instructions) = begins instructions
begins (i ∷ instructions) = true

abbrev pub code_begins : Code → Bool
code_begins c = begins c.instructions

abbrev pub each_begins : Source → Bool
each_begins p = list_all code_begins p.bodies

-- Worked rows: what frame programs do, which are valid and which covered, and what is counted of them.
use Rattle.std.proofs.Common.{◌≡◌, refl, ℕ, true, false, List, [], ◌∷◌, Option, Some, None, map}
use Rattle.std.specs.Prelude.{codes, ◌&&◌}
use Rattle.std.specs.List.{list_all}
use Rattle.sch_word.specs.declared.constant.Const.TheVariants.{Boolean}
use Rattle.sch_word.specs.declared.place.Place.{Place}
use Rattle.sch_word.specs.declared.place.Place.TheVariants.{Reg, Slot}
use Rattle.sch_word.specs.declared.primitive.Primitive.TheVariants.{Put}
use Rattle.sch_word.specs.trees.Covered.{are_literals_covered}
use Rattle.sch_word.specs.values.Literals.{no_literals}
use Rattle.sch_word.specs.runs.Runs.{Run, ended, going}
use Rattle.sch_word.specs.declared.mark.MarkKind.TheVariants as mark
use Rattle.sch_control.specs.declared.operation.Atom.TheVariants.{Constant, Literal, Variable}
use Rattle.sch_control.specs.declared.operation.Member.{Member}
use Rattle.sch_control.specs.declared.operation.Operand.{Operand}
use Rattle.sch_control.specs.declared.operation.Operand.TheVariants as operand
use Rattle.sch_control.specs.declared.operation.Source.TheVariants as source
use Rattle.sch_control.specs.declared.operation.Operation.TheVariants as operation
use Rattle.sch_control.proofs.Examples.{number, held_in, seen}
use Rattle.sch_frames.specs.declared.instruction.Instruction.{Instruction}
use Rattle.sch_frames.specs.declared.instruction.Instruction.TheVariants.{Do, Store, Copy, Pass, Fix, Call, Tail, Return, End, IfFalse, Jump, Label, Mark}
use Rattle.sch_frames.specs.Covered.{begins, is_covered_code, is_covered_instruction, is_covered_program, plain_instruction}
use Rattle.sch_frames.specs.Run.{run}
use Rattle.sch_control.specs.RegisterWork.{entry_done}
use Rattle.sch_frames.specs.Sizes.{copies_of, frame_words, grouped, instructions_size, largest_frame, program_copies, program_size}
use Rattle.sch_frames.specs.Standing.{Other, marks_stand}
use Rattle.sch_frames.specs.Tree.{Code, Source}
use Rattle.sch_frames.specs.Valid.{code_valid, instruction_placed, is_valid, placed, forward}

-- ## Words for the rows

abbrev form : (words labels : ℕ) → List Instruction → Code
form words labels instructions = record { entry = None; words = words; labels = labels; instructions = instructions }

abbrev lambda : (formals fields words labels : ℕ) → List Instruction → Code
lambda formals fields words labels instructions =
    record { entry = Some (record { formals = formals; rest = false; fields = fields }); words = words; labels = labels; instructions = instructions }

abbrev program : List (Option ℕ) → List Code → (words : ℕ) → Source
program globals bodies words = record {
  statics = record { symbols = []; literals = no_literals; globals = globals };
  library = [];
  bodies = bodies;
  words = words;
}

-- the run of a program with 4,096 bytes of heap, no kernel answers, and limits of depth and entries
abbrev runs : Source → (depth entries : ℕ) → Option Run
runs p depth entries = run p 4096 depth [] entries

-- ## Calls: seven operands, of which the last is passed in a slot; what a call leaves in a register

-- a procedure that gives its seventh operand, with the field of its closure where there is none of it
abbrev seventh : Code
seventh = lambda 7 1 1 1
    (Do (operation.Operand (held_in (Slot 0))) ∷ IfFalse 0 ∷ Mark mark.Return ∷ Return
    ∷ Label 0 ∷ Do (operation.Field (Reg 14) 0) ∷ Mark mark.Return ∷ Return ∷ [])

abbrev load : Place → Operand Place → List Instruction → List Instruction
load p o rest = Do (operation.Operand o) ∷ Store p ∷ rest

abbrev load_six : List Instruction → List Instruction
load_six rest =
    load (Reg 3) (number 1) (load (Reg 8) (number 2) (load (Reg 9) (number 3) (load (Reg 10) (number 4) (load (Reg 6) (number 5) (load (Reg 7) (number 6) rest)))))

-- the closure is kept in a slot, and what `last` has is shown of the first register of a variable
abbrev calling : Operand Place → Instruction → Source
calling passed last = program []
    (form 1 0 (Do (operation.MakeClosure (record { label = 1; fields = source.Atom (Constant (Boolean true)) ∷ [] })) ∷ Store (Slot 0) ∷ Copy (Reg 14) (Slot 0)
    ∷ load_six (Do (operation.Operand passed) ∷ Pass 0 ∷ Mark (mark.Call 0) ∷ Call false 7 ∷ last ∷ Do (operation.Prim 1 Put (held_in (Reg 3) ∷ [])) ∷ End ∷ []))
    ∷ seventh ∷ []) 1

calling_runs : runs (calling (operand.Atom (Constant (Boolean false))) (Store (Reg 3))) 1 1 ≡ seen (codes "#t") 1 16 (ended 0)
calling_runs = refl

calling_valid : (is_valid (calling (number 7) (Store (Reg 3))) && list_all code_valid (calling (number 7) (Store (Reg 3))).bodies) ≡ true
calling_valid = refl

-- without depth it stops with 72, without an entry it goes on
calling_stops : runs (calling (number 7) (Store (Reg 3))) 0 1 ≡ seen [] 0 16 (ended 72)
calling_stops = refl

calling_goes_on : runs (calling (number 7) (Store (Reg 3))) 1 0 ≡ seen [] 0 16 going
calling_goes_on = refl

-- what the call left in the register is no value
junk_read : runs (calling (number 7) (Label 0)) 1 1 ≡ None
junk_read = refl

-- a tail call needs no depth
abbrev tail_calling : Source
tail_calling = program []
    (form 1 0 (Do (operation.MakeClosure (record { label = 1; fields = [] })) ∷ Store (Slot 0) ∷ Copy (Reg 14) (Slot 0) ∷ Mark (mark.Call 0) ∷ Call false 0
    ∷ Store (Reg 3) ∷ Do (operation.Prim 1 Put (held_in (Reg 3) ∷ [])) ∷ End ∷ [])
    ∷ lambda 0 0 1 0 (Do (operation.MakeClosure (record { label = 2; fields = [] })) ∷ Store (Reg 14) ∷ load (Reg 3) (operand.Atom (Constant (Boolean false))) (Mark (mark.Tail 2) ∷ Tail false 1 ∷ []))
    ∷ lambda 1 0 1 0 (Do (operation.Operand (held_in (Reg 3))) ∷ Mark mark.Return ∷ Return ∷ [])
    ∷ []) 1

tail_calling_runs : runs tail_calling 1 2 ≡ seen (codes "#f") 2 32 (ended 0)
tail_calling_runs = refl

-- a tail call where the return address is lost is wrong
link_lost : runs (program [] (form 1 0 (Do (operation.MakeClosure (record { label = 1; fields = [] })) ∷ Store (Reg 14) ∷ Call false 0 ∷ End ∷ [])
    ∷ lambda 0 0 1 0 (Do (operation.Operand (number 1)) ∷ Store (Reg 15) ∷ Return ∷ []) ∷ []) 1) 1 1 ≡ None
link_lost = refl

-- a group: each closure has the other as its field
abbrev group : Source
group = program []
    (form 2 0 (Fix (record { at = Slot 0; closure = record { label = 1; fields = source.Atom (Variable (Slot 1)) ∷ [] } }
    ∷ record { at = Slot 1; closure = record { label = 2; fields = source.Atom (Variable (Slot 0)) ∷ [] } } ∷ []) (5 ∷ 6 ∷ [])
    ∷ Copy (Reg 14) (Slot 0) ∷ Call false 0 ∷ Store (Reg 3) ∷ Do (operation.Prim 0 Put (held_in (Reg 3) ∷ [])) ∷ End ∷ [])
    ∷ lambda 0 1 1 0 (Do (operation.Field (Reg 14) 0) ∷ Store (Reg 14) ∷ Tail false 0 ∷ [])
    ∷ lambda 0 1 1 0 (Do (operation.Operand (operand.Atom (Constant (Boolean true)))) ∷ Return ∷ [])
    ∷ []) 2

group_runs : runs group 1 2 ≡ seen (codes "#t") 2 32 (ended 0)
group_runs = refl

-- ## The largest frame, which stands in the middle

largest_of_three : largest_frame (form 2 0 [] ∷ form 5 0 [] ∷ form 3 0 [] ∷ []) ≡ 5
largest_of_three = refl

largest_of_none : largest_frame [] ≡ 0
largest_of_none = refl

-- it counts with 216 words at least where a call or a tail call spreads its last operand
counted_rows :
    (frame_words [] ≡ 0)
    × (frame_words (form 2 0 (Call false 1 ∷ []) ∷ form 5 0 (Tail false 1 ∷ []) ∷ []) ≡ 5)
    × (frame_words (form 2 0 (Label 0 ∷ Call true 1 ∷ []) ∷ form 5 0 [] ∷ []) ≡ 216)
    × (frame_words (form 2 0 [] ∷ form 5 0 (Tail true 1 ∷ []) ∷ []) ≡ 216)
    × (frame_words (form 300 0 [] ∷ form 5 0 (Call true 1 ∷ []) ∷ []) ≡ 300)
counted_rows = (refl, refl, refl, refl, refl)

-- ## What is not valid

-- a slot past the frame, a slot past it that is passed, and a register that no variable lives in
past_frame : placed None 1 (Store (Slot 1) ∷ []) ≡ false
past_frame = refl

passed_past_frame : placed None 1 (Pass 1 ∷ []) ≡ false
passed_past_frame = refl

no_register : placed None 1 (Store (Reg 12) ∷ []) ≡ false
no_register = refl

too_large : placed None 2049 [] ≡ false
too_large = refl

-- a jump back, a label that stands twice
jump_back : forward 1 (Label 0 ∷ Jump 0 ∷ []) ≡ false
jump_back = refl

label_twice : forward 1 (Jump 0 ∷ Label 0 ∷ Label 0 ∷ []) ≡ false
label_twice = refl

-- ## Covered code: no body is that begins with a label, has nothing or is a procedure's with the end of a form

abbrev shows : List Instruction
shows = Do (operation.Prim 0 Put (number 7 ∷ [])) ∷ End ∷ []

covered_rows :
    (is_covered_code (form 2 0 shows) ≡ true)
    × (is_covered_code (form 2 1 (Label 0 ∷ shows)) ≡ false)
    × (is_covered_code (form 2 0 []) ≡ false)
    × (is_covered_code (lambda 0 0 2 0 shows) ≡ false)
    × (is_covered_program (program (None ∷ []) (form 2 0 shows ∷ []) 2) ≡ true)
covered_rows = (refl, refl, refl, refl, refl)

-- a list is spread, an operand is a literal
instruction_rows :
    (map is_covered_instruction (Do (operation.Operand (operand.Atom (Literal 0))) ∷ Call true 1 ∷ Tail true 1 ∷ []) ≡ are_literals_covered ∷ false ∷ false ∷ [])
    × (map is_covered_instruction (Do (operation.Operand (number 0)) ∷ Pass 0 ∷ Call false 1 ∷ Tail false 1 ∷ []) ≡ true ∷ true ∷ true ∷ true ∷ [])
instruction_rows = (refl, refl)

-- a form ends only in its own body, and the mark of a call has the call behind it, with no label between
settled_rows :
    (map is_covered_code (form 2 1 (Copy (Reg 3) (Slot 1) ∷ End ∷ []) ∷ lambda 0 0 2 1 (Copy (Reg 3) (Slot 1) ∷ End ∷ []) ∷ []) ≡ true ∷ false ∷ [])
    × (map is_covered_code (lambda 0 0 2 1 (Copy (Reg 3) (Slot 1) ∷ Mark (mark.Tail 0) ∷ Tail false 0 ∷ [])
    ∷ lambda 0 0 2 1 (Copy (Reg 3) (Slot 1) ∷ Mark (mark.Tail 0) ∷ Label 0 ∷ Tail false 0 ∷ []) ∷ []) ≡ true ∷ false ∷ [])
settled_rows = (refl, refl)

-- no mark of an entry stands among instructions
plain_rows :
    (map plain_instruction (Mark (mark.Enter 0) ∷ Mark (mark.Call 0) ∷ Mark (mark.Tail 0) ∷ Mark mark.Return ∷ Return ∷ []) ≡ false ∷ true ∷ true ∷ true ∷ true ∷ [])
    × (map is_covered_code (lambda 0 0 2 1 (Copy (Reg 3) (Slot 1) ∷ Mark mark.Return ∷ Return ∷ []) ∷ lambda 0 0 2 1 (Copy (Reg 3) (Slot 1) ∷ Mark (mark.Enter 0) ∷ Return ∷ []) ∷ [])
    ≡ true ∷ false ∷ [])
plain_rows = (refl, refl)

-- a label or a mark is nothing that is done, but a body may begin with marks
begins_rows :
    (begins [] ≡ false)
    × (begins (Label 0 ∷ Return ∷ []) ≡ false)
    × (begins (Mark (mark.Save 0) ∷ []) ≡ false)
    × (begins (Mark (mark.Save 0) ∷ Label 0 ∷ Copy (Slot 0) (Reg 15) ∷ []) ≡ false)
    × (begins (Mark (mark.Save 0) ∷ Copy (Slot 0) (Reg 15) ∷ []) ≡ true)
begins_rows = (refl, refl, refl, refl, refl)

-- ## Marks

-- a write of a slot stands behind its mark, and a write of a register behind none but that of a value that is set aside
store_rows :
    (map (marks_stand Other)
    ((Mark (mark.Spill 2) ∷ Store (Slot 0) ∷ []) ∷ (Mark (mark.Save 2) ∷ Copy (Slot 0) (Reg 3) ∷ []) ∷ (Mark mark.Argument ∷ Pass 0 ∷ []) ∷ (Mark mark.Temp ∷ Store (Reg 3) ∷ []) ∷ (Store (Reg 3) ∷ []) ∷ [])
    ≡ true ∷ true ∷ true ∷ true ∷ true ∷ [])
    × (map (marks_stand Other)
    ((Store (Slot 0) ∷ []) ∷ (Copy (Slot 0) (Reg 3) ∷ []) ∷ (Pass 0 ∷ []) ∷ (Mark (mark.Spill 2) ∷ Store (Reg 3) ∷ []) ∷ (Mark (mark.Save 2) ∷ Copy (Reg 3) (Slot 0) ∷ []) ∷ [])
    ≡ false ∷ false ∷ false ∷ false ∷ false ∷ [])
store_rows = (refl, refl)

-- one mark alone stands at a write, a call or a return, with nothing between
single_rows :
    map (marks_stand Other)
    ((Mark (mark.Spill 2) ∷ Mark (mark.Save 2) ∷ Store (Slot 0) ∷ []) ∷ (Mark (mark.Spill 2) ∷ []) ∷ (Mark (mark.Spill 2) ∷ Label 0 ∷ Store (Slot 0) ∷ []) ∷ (Return ∷ []) ∷ (Mark mark.Return ∷ End ∷ []) ∷ [])
    ≡ false ∷ false ∷ false ∷ false ∷ false ∷ []
single_rows = refl

-- a restore loads from a slot, directly behind a call or another restore
restore_rows :
    map (marks_stand Other)
    ((Mark (mark.Call 0) ∷ Call false 0 ∷ Mark (mark.Restore 2) ∷ Copy (Reg 3) (Slot 0) ∷ Mark (mark.Restore 3) ∷ Copy (Reg 8) (Slot 1) ∷ [])
    ∷ (Mark (mark.Call 0) ∷ Call false 0 ∷ Store (Reg 9) ∷ Mark (mark.Restore 2) ∷ Copy (Reg 3) (Slot 0) ∷ [])
    ∷ (Mark (mark.Restore 2) ∷ Copy (Reg 3) (Slot 0) ∷ []) ∷ (Mark (mark.Call 0) ∷ Call false 0 ∷ Mark (mark.Restore 2) ∷ Copy (Reg 3) (Reg 8) ∷ []) ∷ [])
    ≡ true ∷ false ∷ false ∷ false ∷ []
restore_rows = refl

-- ## Sizes

size_rows :
    (instructions_size (Label 0 ∷ shows) ≡ 3)
    × (program_size (program [] (form 2 0 shows ∷ (form 2 1 (Label 0 ∷ shows) ∷ [])) 2) ≡ 6)
    × (map entry_done (seventh.entry ∷ None ∷ []) ≡ 1 ∷ 0 ∷ [])
size_rows = (refl, refl, refl)

-- copies are counted apart
abbrev copying : List Instruction
copying = Copy (Reg 3) (Reg 8) ∷ Mark (mark.Spill 2) ∷ Store (Slot 0) ∷ Mark mark.Argument ∷ Pass 0 ∷ shows

copies_rows :
    (instructions_size copying ≡ 3)
    × (copies_of copying ≡ 3)
    × (program_copies (program [] (form 2 0 copying ∷ (form 2 1 (Label 0 ∷ copying) ∷ [])) 2) ≡ 6)
copies_rows = (refl, refl, refl)

abbrev member : Member Place
member = record { at = Slot 2; closure = record { label = 1; fields = [] } }

-- a group of two, a call, which is no tail call, and a group of one
grouped_row : grouped (Fix (member ∷ member ∷ []) (1 ∷ 2 ∷ []) ∷ Call false 0 ∷ Tail false 0 ∷ Fix (member ∷ []) (3 ∷ []) ∷ []) ≡ 4
grouped_row = refl

-- a group names what it spills, once for each member that comes into a slot
spilled_rows :
    (map (instruction_placed 3) (Fix (member ∷ member ∷ []) (1 ∷ 2 ∷ []) ∷ Fix (member ∷ []) [] ∷ []) ≡ true ∷ false ∷ [])
    × (map (instruction_placed 3) (Copy (Slot 1) (Slot 0) ∷ Copy (Slot 1) (Reg 3) ∷ Copy (Reg 3) (Slot 1) ∷ Copy (Reg 3) (Reg 8) ∷ []) ≡ false ∷ true ∷ true ∷ true ∷ [])
spilled_rows = (refl, refl)

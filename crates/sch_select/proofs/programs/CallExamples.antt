-- Small frame programs with calls and their routines, run by the machine.
use Rattle.std.proofs.Common.{◌≡◌, ℕ, ◌+◌, ◌*◌, List, [], ◌∷◌, ◌++◌, Bool, Option, Some, None, true, false, refl}
use Rattle.std.specs.List.{flat_map}
use Rattle.std.specs.Prelude.{codes, pos, replicate}
use Rattle.sch_word.specs.declared.constant.Const.TheVariants.{Fixnum}
use Rattle.sch_word.specs.declared.place.Place.{Place}
use Rattle.sch_word.specs.declared.place.Place.TheVariants.{Reg, Slot}
use Rattle.sch_word.specs.declared.primitive.Primitive.TheVariants as prim
use Rattle.sch_word.specs.declared.stop.Stop.TheVariants.{WrongCount}
use Rattle.sch_word.specs.runs.Runs.{ended, going}
use Rattle.sch_word.specs.values.Literals.{no_literals}
use Rattle.sch_control.specs.declared.operation.Atom.TheVariants.{Constant, Variable}
use Rattle.sch_control.specs.declared.operation.Operand.{Operand}
use Rattle.sch_control.specs.declared.operation.Operand.TheVariants as operand
use Rattle.sch_control.specs.declared.operation.Operation.TheVariants as operation
use Rattle.sch_control.specs.declared.operation.Source.TheVariants as source
use Rattle.sch_frames.specs.declared.instruction.Instruction.{Instruction}
use Rattle.sch_frames.specs.declared.instruction.Instruction.TheVariants.{Do, Store, Copy, Pass, Call, Tail, Mark}
use Rattle.sch_frames.specs.declared.instruction.Instruction.TheVariants.{Return, End as Ended, IfFalse, Jump, Label, Mark}
use Rattle.sch_word.specs.declared.mark.MarkKind.TheVariants as mark
use Rattle.sch_frames.specs.Run.{entries_of, run}
use Rattle.sch_frames.specs.Tree.{Code, Source}
use Rattle.sch_insn.specs.Behaves.{exit_of, start, zeros}
use Rattle.sch_insn.specs.Decode.{escaped_of, long_of, narrow_of, operand_of, rexed_of, wide_of}
use Rattle.sch_insn.specs.Machine.{test_of}
use Rattle.sch_insn.specs.Step.{mach}
use Rattle.sch_insn.specs.declared.condition.TheConstants.{NE}
use Rattle.sch_insn.specs.declared.insn.Arg.TheVariants as register
use Rattle.sch_insn.specs.declared.insn.Insn.TheVariants.{CmpNumber, JumpTo}
use Rattle.sch_asm.specs.declared.item.Item.TheVariants as item
use Rattle.sch_asm.specs.Codes.{bytes_of, instructions_in}
use Rattle.sch_asm.specs.Data.{data_at}
use Rattle.sch_asm.specs.Views.{text_at}
use Rattle.sch_runtime.specs.Code.{all_routines}
use Rattle.sch_frames.specs.Covered.{is_covered_program}
use Rattle.sch_select.specs.Marks.{enters_procedure, marks_passed}
use Rattle.sch_select_data.specs.Data.{heap_of, program_words}
use Rattle.sch_select.specs.Program.{form_code, frames_bytes, program_code, program_zeros, stack_bytes}
use Rattle.sch_select_memory.specs.Addresses.{body_label, stop_label}
use Rattle.sch_frames.specs.Sizes.{closures_in, instructions_size}
use Rattle.sch_select.specs.Sizes.{kinds_in, kinds_of, steps_bound}
use Rattle.sch_select.proofs.programs.Examples.{text_of, number}

-- how a program ends within 600 steps, with 16 bytes of heap and this depth
abbrev ends_at : (depth : ℕ) → Source → Option (ℕ × List ℕ)
ends_at depth p =
    exit_of (mach 600 (start 0x400000 (text_at (text_of (program_code p 16 depth ++ all_routines (heap_of p + 16))) ∷ data_at
    (flat_map (bytes_of (λ l. 0)) (program_words p) ++ replicate (program_zeros p 16 depth) 0) ∷ []) zeros []))

-- a form that makes a closure with the field 5 of a procedure, and the procedure's body
abbrev calling : (formals : ℕ) → (form body : List Instruction) → Source
calling formals form body = record {
  statics = record { symbols = []; literals = no_literals; globals = [] };
  library = [];
  bodies =
      record {
        entry = None;
        words = 3;
        labels = 0;
        instructions = Do
            (operation.MakeClosure (record { label = 1; fields = source.Atom (Constant (Fixnum (pos 5))) ∷ [] })) ∷
            Store (Reg 14) ∷ form;
      }
      ∷ record {
        entry = Some (record { formals = formals; rest = false; fields = 1 });
        words = 3;
        labels = 2;
        instructions = body;
      } ∷ [];
  words = 3;
}

abbrev at : Place → Operand Place
at p = operand.Atom (Variable p)

abbrev put : Operand Place → List Instruction → List Instruction
put o rest = Do (operation.Prim 0 prim.Put (o ∷ [])) ∷ rest

-- what a call gives is put
abbrev shown : List Instruction
shown = Store (Slot 1) ∷ put (at (Slot 1)) (Ended ∷ [])

-- an operand's value into a place, and into a slot of the next frame
abbrev load : Place → Operand Place → List Instruction → List Instruction
load p o rest = Do (operation.Operand o) ∷ Store p ∷ rest

abbrev pass : (slot : ℕ) → Operand Place → List Instruction → List Instruction
pass k o rest = Do (operation.Operand o) ∷ Pass k ∷ rest

-- ## Operands and what a call leaves

-- eight operands, of which the last two are in slots of the next frame; slot 0 has 9 before the call and after it
abbrev eight : (formals : ℕ) → List Instruction → Source
eight formals body = calling formals (
    load (Slot 0) (number (pos 9)) (load (Reg 3) (number (pos 1)) (load (Reg 8) (number (pos 2)) (load (Reg 9)
    (number (pos 3)) (load (Reg 10) (number (pos 4)) (load (Reg 6) (number (pos 5)) (load (Reg 7) (number (pos 6))
    (pass 0 (number (pos 7)) (pass 1 (number (pos 8)) (Call false 8 ∷ Store (Slot 1) ∷ put (at (Slot 1))
    (put (at (Slot 0)) (Ended ∷ [])))))))))))
    ) body

abbrev given : Place → List Instruction
given p = load (Slot 2) (number (pos 0)) (Do (operation.Operand (at p)) ∷ Return ∷ [])

operands :
    (is_covered_program (eight 8 (given (Slot 1))) ≡ true)
    × (ends_at 1 (eight 8 (given (Reg 3))) ≡ Some (0, codes "19"))
    × (ends_at 1 (eight 8 (given (Reg 8))) ≡ Some (0, codes "29"))
    × (ends_at 1 (eight 8 (given (Reg 7))) ≡ Some (0, codes "69"))
    × (ends_at 1 (eight 8 (given (Slot 0))) ≡ Some (0, codes "79"))
    × (ends_at 1 (eight 8 (given (Slot 1))) ≡ Some (0, codes "89"))
    × (ends_at 1 (eight 8 (Do (operation.Field (Reg 14) 0) ∷ Return ∷ [])) ≡ Some (0, codes "59"))
    × (ends_at 1 (eight 7 (given (Reg 3))) ≡ Some (68, []))
    × (ends_at 1 (eight 9 (given (Reg 3))) ≡ Some (68, []))
unfolding escaped_of narrow_of operand_of rexed_of wide_of long_of test_of
operands = (refl, refl, refl, refl, refl, refl, refl, refl, refl)

-- ## The order of the checks: 67, then 72, then 68

-- at the depth 1 the procedure itself may make no call that is no tail call
abbrev inside : List Instruction → Source
inside body = calling 0 (Call false 0 ∷ shown) body

checks :
    (ends_at 1 (calling 0 (load (Reg 14) (number (pos 1)) (Call false 1 ∷ shown)) []) ≡ Some (67, []))
    × (ends_at 1 (inside (load (Reg 14) (number (pos 1)) (Call false 1 ∷ Return ∷ []))) ≡ Some (67, []))
    × (ends_at 1 (inside (load (Reg 14) (number (pos 1)) (Tail false 1 ∷ []))) ≡ Some (67, []))
    × (ends_at 1 (inside (load (Reg 3) (number (pos 1)) (Call false 1 ∷ Return ∷ []))) ≡ Some (72, []))
    × (ends_at 2 (inside (load (Reg 3) (number (pos 1)) (Call false 1 ∷ Return ∷ []))) ≡ Some (68, []))
    × (ends_at 1 (inside (load (Reg 3) (number (pos 1)) (Tail false 1 ∷ []))) ≡ Some (68, []))
unfolding escaped_of narrow_of operand_of rexed_of wide_of long_of test_of
checks = (refl, refl, refl, refl, refl, refl)

-- ## Calls of itself

-- a procedure of n calls itself with n - 1, and of 0 gives 7
abbrev counting : List Instruction → Source
counting again = calling 1 (load (Reg 3) (number (pos 2)) (Call false 1 ∷ shown))
    (Copy (Slot 0) (Reg 15) ∷ Do (operation.Prim 0 prim.Equal (at (Reg 3) ∷ number (pos 0) ∷ [])) ∷ IfFalse 0 ∷ Do
    (operation.Operand (number (pos 7))) ∷ Jump 1
    ∷ Label 0 ∷ Do (operation.Prim 1 prim.Subtract (at (Reg 3) ∷ number (pos 1) ∷ [])) ∷ Store (Reg 3) ∷ again)

abbrev deeper : Source
deeper = counting (Call false 1 ∷ Label 1 ∷ Copy (Reg 15) (Slot 0) ∷ Return ∷ [])

abbrev looping : Source
looping = counting (Tail false 1 ∷ Label 1 ∷ Return ∷ [])

-- a tail call of itself without an end
abbrev endless : Source
endless = inside (Tail false 0 ∷ [])

depths :
    (is_covered_program deeper ≡ true)
    × (ends_at 3 deeper ≡ Some (0, codes "7"))
    × (ends_at 2 deeper ≡ Some (72, []))
    × (ends_at 1 looping ≡ Some (0, codes "7"))
    × (ends_at 1 endless ≡ None)
unfolding escaped_of narrow_of operand_of rexed_of wide_of long_of test_of
depths = (refl, refl, refl, refl, refl)

-- what the runs of the frame programs are
runs :
    (run deeper 16 3 [] 2 ≡ Some (record { output = []; entries = 2; charged = 16; answers = 0; end = going }))
    × (run deeper 16 2 [] 9 ≡ Some (record { output = []; entries = 2; charged = 16; answers = 0; end = ended 72 }))
    × (run endless 16 1 [] 4 ≡ Some (record { output = []; entries = 4; charged = 16; answers = 0; end = going }))
runs = (refl, refl, refl)

-- ## Which programs with calls are covered

-- a procedure of one formal, which may take a list
abbrev taking : (rest : Bool) → (form body : List Instruction) → Source
taking rest form body = record {
  statics = record { symbols = []; literals = no_literals; globals = [] };
  library = [];
  bodies = record { entry = None; words = 3; labels = 0; instructions = form } ∷ record { entry = Some (record { formals = 1; rest = rest; fields = 0 }); words = 3; labels = 0; instructions = body } ∷ [];
  words = 3;
}

-- there may be rest lists; there are no lists that are spread, no procedures that end as a form does, and no marks of entries
-- among instructions
covered :
    (is_covered_program (taking false (Call false 1 ∷ Ended ∷ []) (Return ∷ [])) ≡ true)
    × (is_covered_program (taking false (Call true 1 ∷ Ended ∷ []) (Return ∷ [])) ≡ false)
    × (is_covered_program (taking false (Call false 1 ∷ Ended ∷ []) (Ended ∷ [])) ≡ false)
    × (is_covered_program (taking true (Call false 1 ∷ Ended ∷ []) (Return ∷ [])) ≡ true)
    × (is_covered_program (taking true (Ended ∷ []) (Return ∷ [])) ≡ true)
    × (is_covered_program (taking false (Ended ∷ []) (Tail false 1 ∷ [])) ≡ true)
    × (is_covered_program (taking false (Mark (mark.Enter 0) ∷ Ended ∷ []) (Return ∷ [])) ≡ false)
covered = (refl, refl, refl, refl, refl, refl, refl)

-- ## Marks and bounds

abbrev with_marks : Source
with_marks = calling 0 (Mark (mark.Call 3) ∷ Call false 0 ∷ Ended ∷ []) (Do (operation.Operand (number (pos 7))) ∷ Mark mark.Return ∷ Return ∷ [])

-- the mark of a call is passed before it is known whether an entry is left
marks :
    (marks_passed with_marks 16 1 [] 5 ≡ Some (mark.Enter 0 ∷ mark.Call 3 ∷ mark.Enter 1 ∷ mark.Return ∷ []))
    × (marks_passed with_marks 16 1 [] 0 ≡ Some (mark.Enter 0 ∷ mark.Call 3 ∷ []))
    × (marks_passed with_marks 16 0 [] 5 ≡ Some (mark.Enter 0 ∷ mark.Call 3 ∷ []))
    × (enters_procedure (entries_of with_marks.bodies) (mark.Enter 1) ≡ true)
    × (enters_procedure (entries_of with_marks.bodies) (mark.Enter 0) ≡ false)
    × (is_covered_program with_marks ≡ true)
    × (kinds_of 0 with_marks.bodies ≡ mark.Enter 0 ∷ mark.Call 3 ∷ mark.Enter 1 ∷ mark.Return ∷ [])
    × (kinds_in (program_code with_marks 16 1) ≡ kinds_of 0 with_marks.bodies)
marks = (refl, refl, refl, refl, refl, refl, refl, refl)

-- a procedure is jumped over, and its mark stands behind the check of its operands' count
abbrev returning : Code
returning = record { entry = Some (record { formals = 2; rest = false; fields = 0 }); words = 3; labels = 0; instructions = Return ∷ [] }

entered : form_code 3 0 0 1 2000 returning [] ≡
    item.Jump 2000 ∷ item.Label (body_label 1) ∷ item.Plain (CmpNumber (register.Reg 0) (pos 2)) ∷ item.JumpIf NE (stop_label WrongCount) ∷ item.Mark (mark.Enter 1) ∷ item.Plain (JumpTo (register.Reg 15)) ∷ item.Label 2000 ∷ []
entered = refl

-- with the body there are three units for one instruction
abbrev seven : Code
seven = record { entry = None; words = 3; labels = 0; instructions = Do (operation.Operand (number (pos 7))) ∷ [] }

-- frames for the form, for each depth, and one more; the bound of steps grows with entries and answers
bounds :
    (frames_bytes 3 10 ≡ 264)
    × (stack_bytes 3 10 ≡ 288)
    × (program_zeros with_marks 16 10 ≡ 304)
    × (closures_in with_marks.bodies ≡ 2)
    × (steps_bound with_marks 2 1 48 ≡ 256 * 12 * 3 + 26 + 8 * 48)
    × (instructions_in (form_code 3 0 0 1 2000 returning []) ≡ 4)
    × (instructions_size seven.instructions ≡ 2)
    × (instructions_in (form_code 3 0 0 0 2000 seven []) ≡ 1)
bounds = (refl, refl, refl, refl, refl, refl, refl, refl)

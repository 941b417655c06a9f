-- Small programs joined with the routines, run by the machine.
use Rattle.std.proofs.Common.{◌≡◌, ℕ, List, [], ◌∷◌, ◌++◌, Option, Some, true, refl}
use Rattle.std.specs.List.{flat_map}
use Rattle.std.specs.Prelude.{codes, pos, negsuc, replicate, slice_index, ℤ}
use Rattle.sch_word.specs.runs.ProgramLayout.{text_address}
use Rattle.sch_word.specs.declared.answer.Answer.{Answer}
use Rattle.sch_word.specs.declared.answer.Answer.TheVariants.{Took, Failed}
use Rattle.sch_word.specs.declared.stop.Stop.TheVariants.{DivideByZero}
use Rattle.sch_insn.specs.declared.insn.Arg.TheVariants.{Reg}
use Rattle.sch_insn.specs.declared.insn.Insn.TheVariants.{MovNumber, MovWord}
use Rattle.sch_word.specs.declared.registers.TheConstants.{RAX, RCX, RDX, R11}
use Rattle.sch_insn.specs.Decode.{escaped_of, narrow_of, operand_of, rexed_of, wide_of}
use Rattle.sch_insn.specs.Machine.{test_of}
use Rattle.sch_insn.specs.Behaves.{exit_of, start, zeros}
use Rattle.sch_insn.specs.Spelling.{spelling}
use Rattle.sch_insn.specs.Step.{mach}
use Rattle.sch_asm.specs.declared.item.Item.{Item}
use Rattle.sch_asm.specs.declared.item.Item.TheVariants.{Label, Plain, Jump, LoadLabel}
use Rattle.sch_asm.specs.declared.routine.Routine.{Routine}
use Rattle.sch_asm.specs.declared.routine.Routine.TheVariants.{End, Stop, Put, PutFixnum, FillWords, FillBytes}
use Rattle.sch_asm.specs.Routines.{label_of}
use Rattle.sch_asm.specs.Codes.{text_size}
use Rattle.sch_asm.specs.Data.{data_at}
use Rattle.sch_asm.specs.Layout.{emitted_from}
use Rattle.sch_asm.specs.Pieces.{skeleton}
use Rattle.sch_jumps.specs.Sizes.{Set, placed_from}
use Rattle.sch_asm.specs.Views.{text_at}
use Rattle.sch_runtime.specs.Code.{routine_items}

-- the routines take this many bytes at most
routine_bytes : text_size routine_items ≡ 447
routine_bytes = refl

-- a program's text, with all jumps long
abbrev pub all_long : Set
all_long = λ k. true

abbrev text_of : List Item → List ℕ
text_of items =
    let all = items ++ routine_items in
    let places = placed_from all_long 0 text_address (skeleton all) (replicate 1030 0) in
    flat_map spelling (emitted_from (slice_index places) all_long 0 text_address all)

-- how it ends within 400 steps, where some bytes stand behind the routines' own words
abbrev ends : List Item → List ℕ → List Answer → Option (ℕ × List ℕ)
ends items bytes answers = exit_of (mach 400 (start text_address (text_at (text_of items) ∷ data_at (replicate 512 0 ++ bytes) ∷ []) zeros answers))

abbrev fixnum_program : ℤ → List Item
fixnum_program word = Plain (MovWord RAX word) ∷ LoadLabel R11 1024 ∷ Jump (label_of PutFixnum) ∷ Label 1024 ∷ Jump (label_of End) ∷ []

abbrev piece_program : List Item
piece_program = Plain (MovNumber (Reg RAX) (pos 0x10000200)) ∷ Plain (MovNumber (Reg RDX) (pos 3)) ∷ LoadLabel R11 1024 ∷ Jump (label_of Put) ∷ Label 1024 ∷ Jump (label_of End) ∷ []

fixnums :
    (ends (fixnum_program (pos 0)) [] [] ≡ Some (0, codes "0"))
    × (ends (fixnum_program (negsuc 335)) [] [] ≡ Some (0, codes "-42"))
    × (ends (fixnum_program (pos 9223372036854775800)) [] [] ≡ Some (0, codes "1152921504606846975"))
    × (ends (fixnum_program (negsuc 9223372036854775807)) [] [] ≡ Some (0, codes "-1152921504606846976"))
unfolding escaped_of narrow_of operand_of rexed_of wide_of test_of
fixnums = (refl, refl, refl, refl)

-- short writes go on, and a write that takes nothing or fails is stop 74
pieces :
    (ends piece_program (codes "abc") [] ≡ Some (0, codes "abc"))
    × (ends piece_program (codes "abc") (Took 1 ∷ Took 5 ∷ []) ≡ Some (0, codes "abc"))
    × (ends piece_program (codes "abc") (Took 1 ∷ Took 1 ∷ Failed ∷ []) ≡ Some (74, codes "ab"))
    × (ends piece_program (codes "abc") (Took 0 ∷ []) ≡ Some (74, []))
unfolding escaped_of narrow_of operand_of rexed_of wide_of test_of
pieces = (refl, refl, refl, refl)

-- An element is filled in behind eight of forty bytes, which are then put.
abbrev fill_program : Routine → ℕ → ℕ → List Item
fill_program routine n element =
    Plain (MovNumber (Reg RAX) (pos 0x10000208))
    ∷ Plain (MovNumber (Reg RDX) (pos n))
    ∷ Plain (MovWord RCX (pos element))
    ∷ LoadLabel R11 1024
    ∷ Jump (label_of routine)
    ∷ Label 1024
    ∷ Plain (MovNumber (Reg RAX) (pos 0x10000200))
    ∷ Plain (MovNumber (Reg RDX) (pos 40))
    ∷ LoadLabel R11 1025
    ∷ Jump (label_of Put)
    ∷ Label 1025
    ∷ Jump (label_of End)
    ∷ []

abbrev after_fill : Routine → ℕ → ℕ → Option (ℕ × List ℕ)
after_fill routine n element = ends (fill_program routine n element) (codes "abcdefgh........................01234567") []

-- the word of "ABCDEFGH"
filled_words :
    (after_fill FillWords 0 0x4847464544434241 ≡ Some (0, codes "abcdefgh........................01234567"))
    × (after_fill FillWords 1 0x4847464544434241 ≡ Some (0, codes "abcdefghABCDEFGH................01234567"))
    × (after_fill FillWords 3 0x4847464544434241 ≡ Some (0, codes "abcdefghABCDEFGHABCDEFGHABCDEFGH01234567"))
unfolding escaped_of narrow_of operand_of rexed_of wide_of test_of
filled_words = (refl, refl, refl)

-- only the low byte of rcx counts
filled_bytes :
    (after_fill FillBytes 0 0x4142 ≡ Some (0, codes "abcdefgh........................01234567"))
    × (after_fill FillBytes 1 0x4142 ≡ Some (0, codes "abcdefghB.......................01234567"))
    × (after_fill FillBytes 3 0x4142 ≡ Some (0, codes "abcdefghBBB.....................01234567"))
unfolding escaped_of narrow_of operand_of rexed_of wide_of test_of
filled_bytes = (refl, refl, refl)

stops : ends (Jump (label_of (Stop DivideByZero)) ∷ []) [] [] ≡ Some (69, [])
unfolding escaped_of narrow_of operand_of rexed_of wide_of test_of
stops = refl

-- Small frame programs with their routines, run by the machine.
use Rattle.std.proofs.Common.{◌≡◌, ℕ, ◌+◌, List, [], ◌∷◌, ◌++◌, Option, Some, None, true, false, refl}
use Rattle.std.specs.List.{flat_map}
use Rattle.std.specs.Prelude.{codes, pos, negsuc, replicate, slice_index, ℤ}
use Rattle.sch_word.specs.declared.answer.Answer.{Answer}
use Rattle.sch_word.specs.declared.answer.Answer.TheVariants.{Took, Failed}
use Rattle.sch_word.specs.declared.constant.Const.{Const}
use Rattle.sch_word.specs.declared.constant.Const.TheVariants.{Fixnum, Character, Boolean, Nil, Unspecified, Symbol}
use Rattle.sch_word.specs.declared.place.Place.{Place}
use Rattle.sch_word.specs.declared.place.Place.TheVariants.{Reg, Slot}
use Rattle.sch_word.specs.declared.primitive.Primitive.{Primitive}
use Rattle.sch_word.specs.declared.primitive.Primitive.TheVariants as prim
use Rattle.sch_word.specs.values.Literals.{no_literals, literals, constant, text, list}
use Rattle.sch_control.specs.declared.operation.Atom.TheVariants.{Constant, Literal, Variable}
use Rattle.sch_control.specs.declared.operation.Operand.{Operand}
use Rattle.sch_control.specs.declared.operation.Operand.TheVariants as operand
use Rattle.sch_control.specs.declared.operation.Operation.TheVariants as operation
use Rattle.sch_frames.specs.declared.instruction.Instruction.{Instruction}
use Rattle.sch_frames.specs.declared.instruction.Instruction.TheVariants.{Do, Store, Fix, Return, End, IfFalse, Jump, Label}
use Rattle.sch_control.specs.declared.operation.Source as closure
use Rattle.sch_control.specs.declared.operation.Source.TheVariants as source
use Rattle.sch_frames.specs.Covered.{is_covered_program}
use Rattle.sch_frames.specs.Tree.{Source}
use Rattle.sch_insn.specs.Decode.{escaped_of, long_of, narrow_of, operand_of, rexed_of, wide_of}
use Rattle.sch_insn.specs.Machine.{test_of}
use Rattle.sch_insn.specs.Behaves.{exit_of, start, zeros}
use Rattle.sch_insn.specs.Spelling.{spelling}
use Rattle.sch_insn.specs.Step.{mach}
use Rattle.sch_asm.specs.declared.item.Item.{Item}
use Rattle.sch_asm.specs.Codes.{bytes_of}
use Rattle.sch_asm.specs.Data.{data_at}
use Rattle.sch_asm.specs.Layout.{emitted_from}
use Rattle.sch_asm.specs.Pieces.{skeleton}
use Rattle.sch_jumps.specs.Sizes.{placed_from}
use Rattle.sch_asm.specs.Views.{text_at}
use Rattle.sch_runtime.specs.Code.{all_routines}
use Rattle.sch_runtime.proofs.Examples.{all_long}
use Rattle.sch_select_data.specs.Data.{heap_of, program_words}
use Rattle.sch_select.specs.Program.{labels_of, own_labels, program_code, program_zeros}
use Rattle.sch_select.specs.Reach.{names_below}

-- a program of one form, with one global
abbrev one_form : (labels : ℕ) → List Instruction → Source
one_form labels instructions = record {
  statics = record { symbols = []; literals = no_literals; globals = None ∷ [] };
  library = [];
  bodies = record { entry = None; words = 2; labels = labels; instructions = instructions } ∷ [];
  words = 2;
}

-- its zeros: a heap of 64 bytes, the frame of the one call that may be pending, and two more
form_zeros : program_zeros (one_form 0 []) 64 1 ≡ 112
form_zeros = refl

-- the items, with a limit of the heap
abbrev items_of : (heap : ℕ) → Source → List Item
items_of heap p = program_code p heap 1 ++ all_routines (heap_of p + heap)

-- their text, with all jumps long
abbrev pub text_of : List Item → List ℕ
text_of items =
    let places = placed_from all_long 0 0x400000 (skeleton items) (replicate 1600 0) in
    flat_map spelling (emitted_from (slice_index places) all_long 0 0x400000 items)

-- how a program ends within 400 steps, with a limit of the heap
abbrev ends_in : (heap : ℕ) → Source → List Answer → Option (ℕ × List ℕ)
ends_in heap p answers = exit_of
    (mach 400 (start 0x400000 (text_at (text_of (items_of heap p)) ∷ data_at
    (flat_map (bytes_of (λ l. 0)) (program_words p) ++ replicate (program_zeros p heap 1) 0) ∷ []) zeros answers))

abbrev ends : Source → List Answer → Option (ℕ × List ℕ)
ends = ends_in 16

abbrev pub number : ℤ → Operand Place
number n = operand.Atom (Constant (Fixnum n))

-- a value is put, and so is what a primitive of two numbers gives
abbrev puts : Operand Place → List Instruction
puts o = Do (operation.Prim 0 prim.Put (o ∷ [])) ∷ End ∷ []

abbrev shows : Primitive → ℤ → ℤ → Source
shows which a b = one_form 0 (Do (operation.Prim 1 which (number a ∷ number b ∷ [])) ∷ Store (Slot 1) ∷ puts
    (operand.Atom (Variable (Slot 1))))

products :
    (is_covered_program (shows prim.Multiply (pos 6) (negsuc 6)) ≡ true)
    × (ends (shows prim.Multiply (pos 6) (negsuc 6)) [] ≡ Some (0, codes "-42"))
    × (ends (shows prim.Multiply (pos 1073741824) (pos 1073741824)) [] ≡ Some (70, []))
    × (ends (shows prim.Add (pos 1152921504606846975) (pos 1)) [] ≡ Some (70, []))
    × (ends (shows prim.Subtract (pos 1) (pos 3)) [] ≡ Some (0, codes "-2"))
unfolding escaped_of narrow_of operand_of rexed_of wide_of long_of test_of
products = (refl, refl, refl, refl, refl)

divisions :
    (ends (shows prim.Quotient (negsuc 1152921504606846975) (negsuc 0)) [] ≡ Some (70, []))
    × (ends (shows prim.Quotient (pos 7) (pos 0)) [] ≡ Some (69, []))
    × (ends (shows prim.Remainder (negsuc 6) (pos 2)) [] ≡ Some (0, codes "-1"))
    × (ends (shows prim.Modulo (negsuc 6) (pos 2)) [] ≡ Some (0, codes "1"))
    × (ends (shows prim.Modulo (pos 7) (negsuc 1)) [] ≡ Some (0, codes "-1"))
unfolding escaped_of narrow_of operand_of rexed_of wide_of long_of test_of
divisions = (refl, refl, refl, refl, refl)

-- a comparison, and the two arms of a test of it
abbrev chooses : ℤ → ℤ → Source
chooses a b = one_form 2 (Do (operation.Prim 0 prim.Less (number a ∷ number b ∷ [])) ∷ IfFalse 0 ∷ Do
    (operation.Prim 1 prim.Put (number (pos 1) ∷ [])) ∷ Jump 1 ∷ Label 0 ∷ Do
    (operation.Prim 2 prim.Put (number (pos 2) ∷ [])) ∷ Label 1 ∷ End ∷ [])

tests : (ends (chooses (negsuc 0) (pos 0)) [] ≡ Some (0, codes "1"))
    × (ends (chooses (pos 0) (pos 0)) [] ≡ Some (0, codes "2"))
unfolding escaped_of narrow_of operand_of rexed_of wide_of long_of test_of
tests = (refl, refl)

-- labels: two of jumps, one behind the body and one for a list, twelve for each primitive, and the one at which it begins
labels : (labels_of (chooses (pos 0) (pos 1)).bodies ≡ 41)
    × (own_labels [] ≡ 0)
    × (names_below 5 7 (Label 1) ≡ true)
    × (names_below 5 7 (Label 2) ≡ false)
    × (names_below 5 7 End ≡ true)
labels = (refl, refl, refl, refl, refl)

-- what is put of each kind of value
abbrev put_of : Const → Source
put_of c = one_form 0 (puts (operand.Atom (Constant c)))

texts :
    (ends (put_of (Boolean true)) [] ≡ Some (0, codes "#t"))
    × (ends (put_of (Boolean false)) [] ≡ Some (0, codes "#f"))
    × (ends (put_of Nil) [] ≡ Some (0, codes "()"))
    × (ends (put_of Unspecified) [] ≡ Some (0, codes "#<unspecified>"))
    × (ends (put_of (Character 255)) [] ≡ Some (0, 255 ∷ []))
    × (ends (put_of Nil) (Took 1 ∷ Failed ∷ []) ≡ Some (74, codes "("))
unfolding escaped_of narrow_of operand_of rexed_of wide_of long_of test_of
texts = (refl, refl, refl, refl, refl, refl)

-- stops: a type before a zero divisor, a range, and a global that is unset
abbrev one_of : Primitive → Const → Source
one_of which c = one_form 0 (Do (operation.Prim 0 which (operand.Atom (Constant c) ∷ [])) ∷ End ∷ [])

stops :
    (ends (one_form 0 (Do (operation.Prim 0 prim.Quotient (operand.Atom (Constant Nil) ∷ number (pos 0) ∷ [])) ∷ End ∷
    [])) [] ≡ Some (65, []))
    × (ends (one_of prim.IntegerToChar (Fixnum (pos 256))) [] ≡ Some (66, []))
    × (ends (one_of prim.IntegerToChar (Fixnum (negsuc 0))) [] ≡ Some (66, []))
    × (ends (one_of prim.CharToInteger (Boolean true)) [] ≡ Some (65, []))
    × (ends (one_form 0 (Do (operation.Global 0) ∷ End ∷ [])) [] ≡ Some (73, []))
unfolding escaped_of narrow_of operand_of rexed_of wide_of long_of test_of
stops = (refl, refl, refl, refl, refl)

-- ---- cells

abbrev slot : ℕ → closure.Source Place
slot k = source.Atom (Variable (Slot k))

abbrev fixed : ℤ → closure.Source Place
fixed n = source.Atom (Constant (Fixnum n))

-- what a slot has is put
abbrev shown : ℕ → List Instruction
shown k = puts (operand.Atom (Variable (Slot k)))

-- two cells with 1 and 2; the first is set to 3, and the cell in this slot is read
abbrev two_cells : ℕ → Source
two_cells k = one_form 0 (Do (operation.NewCell (fixed (pos 1))) ∷ Store (Slot 0) ∷ Do
    (operation.NewCell (fixed (pos 2))) ∷ Store (Slot 1) ∷ Do (operation.CellSet (slot 0) (number (pos 3))) ∷ Do
    (operation.CellGet (slot k)) ∷ Store (Slot 0) ∷ shown 0)

-- a cell that is unset, and no cell
abbrev unset : Source
unset = one_form 0 (Do operation.UnsetCell ∷ Store (Slot 0) ∷ Do (operation.CellGet (slot 0)) ∷ End ∷ [])

abbrev no_cell : Source
no_cell = one_form 0 (Do (operation.CellGet (fixed (pos 1))) ∷ End ∷ [])

-- the limit of the heap is met before anything is written
cells :
    (is_covered_program (two_cells 0) ≡ true)
    × (ends_in 32 (two_cells 0) [] ≡ Some (0, codes "3"))
    × (ends_in 32 (two_cells 1) [] ≡ Some (0, codes "2"))
    × (ends_in 16 (two_cells 1) [] ≡ Some (71, []))
    × (ends_in 16 unset [] ≡ Some (73, []))
    × (ends_in 0 unset [] ≡ Some (71, []))
    × (ends_in 16 no_cell [] ≡ Some (73, []))
unfolding escaped_of narrow_of operand_of rexed_of wide_of long_of test_of
cells = (refl, refl, refl, refl, refl, refl, refl)

-- ---- closures

-- a form, and a procedure that it does not enter, which is in the library and in the global
abbrev with_procedure : List Instruction → Source
with_procedure instructions = record {
  statics = record { symbols = []; literals = no_literals; globals = Some 0 ∷ [] };
  library = 1 ∷ [];
  bodies = record { entry = None; words = 2; labels = 0; instructions = instructions } ∷ record {
    entry = Some (record { formals = 0; rest = false; fields = 2 });
    words = 2;
    labels = 0;
    instructions = Do
        (operation.Field (Reg 14) 1) ∷ Return ∷ [];
  } ∷ [];
  words = 2;
}

-- a closure with two fields, of which this one is put
abbrev captures : ℕ → Source
captures k = with_procedure
    (Do (operation.MakeClosure (record { label = 1; fields = fixed (pos 5) ∷ fixed (pos 6) ∷ [] })) ∷ Store (Slot 0) ∷
    Do (operation.Field (Slot 0) k) ∷ Store (Slot 1) ∷ shown 1)

-- two that know one another: the second field of the first's first field
abbrev group : Source
group = with_procedure (Fix
    (record { at = Slot 0; closure = record { label = 1; fields = slot 1 ∷ fixed (pos 3) ∷ [] } } ∷ record
    { at = Slot 1; closure = record { label = 1; fields = slot 0 ∷ fixed (pos 4) ∷ [] } } ∷ []) (7 ∷ 8 ∷ []) ∷ Do
    (operation.Field (Slot 0) 0) ∷ Store (Slot 0) ∷ Do (operation.Field (Slot 0) 1) ∷ Store (Slot 1) ∷ shown 1)

abbrev library : Source
library = with_procedure (Do (operation.Global 0) ∷ Store (Slot 1) ∷ shown 1)

closures :
    (is_covered_program group ≡ true)
    × (ends_in 32 (captures 0) [] ≡ Some (0, codes "5"))
    × (ends_in 32 (captures 1) [] ≡ Some (0, codes "6"))
    × (ends_in 16 (captures 0) [] ≡ Some (71, []))
    × (ends_in 64 group [] ≡ Some (0, codes "4"))
    × (ends_in 48 group [] ≡ Some (71, []))
    × (ends library [] ≡ Some (0, codes "#<procedure>"))
unfolding escaped_of narrow_of operand_of rexed_of wide_of long_of test_of
closures = (refl, refl, refl, refl, refl, refl, refl)

-- ---- literals and symbols

-- a string, a pair and a symbol, of which one is put
abbrev with_statics : Operand Place → Source
with_statics o = record (one_form 0 (puts o)) {
  statics = record {
    symbols = codes "a" ∷ codes "long-name" ∷ [];
    literals = literals (text (codes "nine byte") ∷ list (literals (constant (Fixnum (pos 1)) ∷ [])) (constant Nil) ∷ text [] ∷ constant (Fixnum (pos 7)) ∷ []);
    globals = None ∷ [];
  };
}

abbrev literal : ℕ → Operand Place
literal n = operand.Atom (Literal n)

puts_of_statics :
    (ends (with_statics (literal 0)) [] ≡ Some (0, codes "nine byte"))
    × (ends (with_statics (literal 1)) [] ≡ Some (65, []))
    × (ends (with_statics (literal 2)) [] ≡ Some (0, []))
    × (ends (with_statics (literal 3)) [] ≡ Some (0, codes "7"))
    × (ends (with_statics (operand.Atom (Constant (Symbol 0)))) [] ≡ Some (0, codes "a"))
    × (ends (with_statics (operand.Atom (Constant (Symbol 1)))) [] ≡ Some (0, codes "long-name"))
unfolding escaped_of narrow_of operand_of rexed_of wide_of long_of test_of
puts_of_statics = (refl, refl, refl, refl, refl, refl)

-- a literal list, a string and a symbol are taken apart
takes_parts :
    (ends (with_statics (operand.Read 0 prim.Car (Literal 1 ∷ []))) [] ≡ Some (0, codes "1"))
    × (ends (with_statics (operand.Read 0 prim.Cdr (Literal 1 ∷ []))) [] ≡ Some (0, codes "()"))
    × (ends (with_statics (operand.Read 0 prim.StringLength (Literal 0 ∷ []))) [] ≡ Some (0, codes "9"))
    × (ends (with_statics (operand.Read 0 prim.StringRef (Literal 0 ∷ (Constant (Fixnum (pos 8)) ∷ [])))) [] ≡ Some (0, codes "e"))
    × (ends (with_statics (operand.Read 0 prim.SymbolLength (Constant (Symbol 1) ∷ []))) [] ≡ Some (0, codes "9"))
    × (ends (with_statics (operand.Read 0 prim.VectorLength (Literal 1 ∷ []))) [] ≡ Some (65, []))
unfolding escaped_of narrow_of operand_of rexed_of wide_of long_of test_of
takes_parts = (refl, refl, refl, refl, refl, refl)

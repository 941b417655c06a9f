-- The items of the run-time routines: those that know nothing of values but fixnums, and in front of them those that do. Each
-- returns by a jump through r11. A call of the kernel overwrites r11, so it is kept in a word of the data meanwhile.
use Rattle.std.specs.Prelude.{ℕ, ◌+◌, ◌%◌, List, [], ◌∷◌, ◌++◌, map, pos}
use Rattle.sch_insn.specs.declared.insn.Arg.TheVariants.{Reg, Base}
use Rattle.sch_insn.specs.declared.insn.Insn.{Insn}
use Rattle.sch_insn.specs.declared.insn.Insn.TheVariants.{MovTo, MovNumber, StoreByte, AddTo, SubTo, AddNumber8, SubNumber8, CmpNumber8, Neg, Idiv, Sar, JumpTo, Syscall}
use Rattle.sch_insn.specs.declared.condition.TheConstants.{E, NE, GE, LE}
use Rattle.sch_word.specs.declared.registers.TheConstants.{RAX, RCX, RDX, RSI, RDI, R11}
use Rattle.sch_insn.specs.declared.system_call.TheConstants.{STDOUT, SYS_EXIT, SYS_WRITE}
use Rattle.sch_word.specs.runs.ProgramLayout.{data_address}
use Rattle.sch_word.specs.runs.Stops.{all_stops, status_of}
use Rattle.sch_word.specs.declared.stop.Stop.TheVariants.{OutputFailed}
use Rattle.sch_asm.specs.declared.item.Item.{Item}
use Rattle.sch_asm.specs.declared.item.Item.TheVariants.{Label, Plain, Jump, JumpIf, LoadWord, StoreWord}
use Rattle.sch_asm.specs.declared.routine.TheConstants.{FIRST_INNER_LABEL}
use Rattle.sch_asm.specs.declared.routine.Routine.TheVariants.{Stop, Put, PutFixnum, FillWords, FillBytes}
use Rattle.sch_asm.specs.Narrow.{narrowed}
use Rattle.sch_asm.specs.Routines.{label_of}
use Rattle.sch_select_memory.specs.Encoded.{fixnum_shift}
use Rattle.sch_select_memory.specs.ValueCode.{value_code}

-- ---- labels

abbrev pub failed_label : ℕ
failed_label = label_of (Stop OutputFailed)

abbrev pub put_label : ℕ
put_label = label_of Put

abbrev pub fixnum_label : ℕ
fixnum_label = label_of PutFixnum

abbrev pub words_label : ℕ
words_label = label_of FillWords

abbrev pub bytes_label : ℕ
bytes_label = label_of FillBytes

-- Inside the routines:

abbrev pub write_label : ℕ
write_label = FIRST_INNER_LABEL

abbrev pub loop_label : ℕ
loop_label = 65

abbrev pub done_label : ℕ
done_label = 66

abbrev pub positive_label : ℕ
positive_label = 67

abbrev pub digit_label : ℕ
digit_label = 68

abbrev pub ready_label : ℕ
ready_label = 69

abbrev pub words_turn : ℕ
words_turn = 70

abbrev pub words_test : ℕ
words_test = 71

abbrev pub bytes_turn : ℕ
bytes_turn = 72

abbrev pub bytes_test : ℕ
bytes_test = 73

-- ---- exits

abbrev pub exit_code : ℕ → List Item
exit_code status = Plain (MovNumber (Reg RDI) (pos status)) ∷ Plain (MovNumber (Reg RAX) (pos SYS_EXIT)) ∷ Plain Syscall ∷ []

-- The statuses: of a program's end, and of its stops.
abbrev pub statuses : List ℕ
statuses = 0 ∷ map status_of all_stops

-- An exit for each status, with the label of the status modulo 64, and then other items.
abbrev pub exits : List ℕ → List Item → List Item
exits [] rest = rest
exits (s ∷ ss) rest = Label (s % 64) ∷ (exit_code s ++ exits ss rest)

-- ---- a put: rax has the address of a piece and rdx its size

-- Words of the data keep r11, rsi and rdi.
abbrev pub kept_r11 : ℕ
kept_r11 = data_address

abbrev pub kept_rsi : ℕ
kept_rsi = data_address + 8

abbrev pub kept_rdi : ℕ
kept_rdi = data_address + 16

abbrev pub done_code : List Item
done_code = LoadWord RSI kept_rsi ∷ LoadWord RDI kept_rdi ∷ LoadWord R11 kept_r11 ∷ Plain (JumpTo (Reg R11)) ∷ []

-- what is left is counted
abbrev pub next_code : List Item
next_code = Plain (AddTo (Reg RSI) RAX) ∷ Plain (SubTo (Reg RDX) RAX) ∷ Jump loop_label ∷ []

abbrev pub count_code : List Item
count_code = Plain (CmpNumber8 (Reg RAX) (pos 0)) ∷ JumpIf LE failed_label ∷ next_code

-- the kernel is asked
abbrev pub ask_code : List Item
ask_code = Plain (MovNumber (Reg RAX) (pos SYS_WRITE)) ∷ Plain (MovNumber (Reg RDI) (pos STDOUT)) ∷ Plain Syscall ∷ count_code

abbrev pub loop_code : List Item
loop_code = Plain (CmpNumber8 (Reg RDX) (pos 0)) ∷ JumpIf E done_label ∷ ask_code

-- From here on rsi has the address of what is left and rdx its size.
abbrev pub write_code : List Item
write_code = StoreWord kept_r11 R11 ∷ Label loop_label ∷ loop_code

abbrev pub put_code : List Item
put_code = StoreWord kept_rsi RSI ∷ StoreWord kept_rdi RDI ∷ Plain (MovTo (Reg RSI) RAX) ∷ Label write_label ∷ write_code

-- ---- a put of a fixnum: rax has its word

-- Its digits end before this address.
abbrev pub digits_end : ℕ
digits_end = data_address + 64

abbrev pub ready_code : List Item
ready_code = Plain (MovNumber (Reg RDX) (pos digits_end)) ∷ Plain (SubTo (Reg RDX) RSI) ∷ Jump write_label ∷ []

-- a sign stands before the digits of a number below zero
abbrev pub minus_code : List Item
minus_code = Plain (SubNumber8 (Reg RSI) (pos 1)) ∷ Plain (MovNumber (Reg RDX) (pos 45)) ∷ Plain (StoreByte (Base RSI) RDX) ∷ Label ready_label ∷ ready_code

abbrev pub sign_code : List Item
sign_code = Plain (CmpNumber8 (Reg RDI) (pos 0)) ∷ JumpIf GE ready_label ∷ minus_code

-- The last digit of rax goes before rsi, and rax loses it.
abbrev pub digit_code : List Item
digit_code =
    Plain (MovNumber (Reg RDX) (pos 0)) ∷ Plain (Idiv (Reg RCX)) ∷ Plain (AddNumber8 (Reg RDX) (pos 48))
    ∷ Plain (SubNumber8 (Reg RSI) (pos 1)) ∷ Plain (StoreByte (Base RSI) RDX) ∷ Plain (CmpNumber8 (Reg RAX) (pos 0)) ∷ JumpIf NE digit_label ∷ sign_code

abbrev pub positive_code : List Item
positive_code = Plain (MovNumber (Reg RSI) (pos digits_end)) ∷ Plain (MovNumber (Reg RCX) (pos 10)) ∷ Label digit_label ∷ digit_code

-- rdi has the fixnum, and rax its absolute value
abbrev pub absolute_code : List Item
absolute_code = Plain (CmpNumber8 (Reg RAX) (pos 0)) ∷ JumpIf GE positive_label ∷ Plain (Neg (Reg RAX)) ∷ Label positive_label ∷ positive_code

abbrev pub fixnum_code : List Item
fixnum_code = StoreWord kept_rsi RSI ∷ StoreWord kept_rdi RDI ∷ Plain (Sar (Reg RAX) fixnum_shift) ∷ Plain (MovTo (Reg RDI) RAX) ∷ absolute_code

-- ---- fills: rax has the address of what is left, and rdx how many elements that is

-- the fill ends where none is left
abbrev pub test_code : ℕ → List Item
test_code turn = Plain (CmpNumber8 (Reg RDX) (pos 0)) ∷ JumpIf NE turn ∷ Plain (JumpTo (Reg R11)) ∷ []

-- An element of this size is written by a store of rcx.
abbrev pub turn_code : Insn → ℕ → ℕ → ℕ → List Item
turn_code store size turn test = Plain store ∷ Plain (AddNumber8 (Reg RAX) (pos size)) ∷ Plain (SubNumber8 (Reg RDX) (pos 1)) ∷ Label test ∷ test_code turn

abbrev pub fill_code : Insn → ℕ → ℕ → ℕ → List Item
fill_code store size turn test = Jump test ∷ Label turn ∷ turn_code store size turn test

abbrev pub word_store : Insn
word_store = MovTo (Base RAX) RCX

abbrev pub byte_store : Insn
byte_store = StoreByte (Base RAX) RCX

abbrev pub words_code : List Item
words_code = fill_code word_store 8 words_turn words_test

abbrev pub bytes_code : List Item
bytes_code = fill_code byte_store 1 bytes_turn bytes_test

-- ---- all of them

abbrev pub bytes_items : List Item
bytes_items = Label bytes_label ∷ (bytes_code ++ [])

abbrev pub fill_items : List Item
fill_items = Label words_label ∷ (words_code ++ bytes_items)

abbrev pub fixnum_items : List Item
fixnum_items = Label fixnum_label ∷ (fixnum_code ++ fill_items)

abbrev pub put_items : List Item
put_items = Label put_label ∷ (put_code ++ Label done_label ∷ (done_code ++ fixnum_items))

abbrev pub routine_items : List Item
routine_items = exits statuses put_items

-- In front stand those that know how values are in the machine, each instruction in its shortest form. These name where the heap
-- ends.
abbrev pub all_routines : (heap_end : ℕ) → List Item
all_routines heap_end = narrowed (value_code heap_end) ++ routine_items

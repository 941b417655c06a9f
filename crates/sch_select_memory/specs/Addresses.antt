-- Where a program's data lie, the labels of its code, and places as operands.
use Rattle.std.specs.Prelude.{ℕ, ◌+◌, ◌-◌, ◌*◌, ◌^◌, pos}
use Rattle.sch_word.specs.declared.place.Place.{Place}
use Rattle.sch_word.specs.declared.place.Place.TheVariants as place
use Rattle.sch_word.specs.declared.stop.Stop.{Stop}
use Rattle.sch_word.specs.runs.ProgramLayout.{data_address}
use Rattle.sch_word.specs.declared.registers.TheConstants.{FRAME_REGISTER, HEAP_REGISTER}
use Rattle.sch_insn.specs.declared.insn.Arg.{Arg}
use Rattle.sch_insn.specs.declared.insn.Arg.TheVariants.{Reg, Base32}
use Rattle.sch_asm.specs.declared.routine.TheConstants.{FIRST_LABEL}
use Rattle.sch_asm.specs.declared.routine.Routine.TheVariants as routine
use Rattle.sch_asm.specs.Routines.{label_of}
use Rattle.sch_asm.specs.Effects.{own_size}

abbrev pub stop_label : Stop → ℕ
stop_label why = label_of (routine.Stop why)

-- ## Data: the routines' words, all bytes in their order, the texts of constants, the words of literals, and the globals

abbrev pub bytes_address : ℕ
bytes_address = data_address + own_size

-- behind the 256 bytes
abbrev pub texts_address : ℕ
texts_address = bytes_address + 256

-- the address of the names of symbols stands behind the texts, which have 32 bytes
abbrev pub table_address : ℕ
table_address = texts_address + 32

-- the words of literals follow, and then those of globals
abbrev pub literals_address : ℕ
literals_address = table_address + 8

abbrev pub literal_address : ℕ → ℕ
literal_address n = literals_address + 8 * n

abbrev pub globals_address : (literals : ℕ) → ℕ
globals_address literals = literals_address + 8 * literals

abbrev pub global_address : (literals g : ℕ) → ℕ
global_address literals g = globals_address literals + 8 * g

-- the names of symbols stand behind the globals
abbrev pub names_address : (literals globals : ℕ) → ℕ
names_address literals globals = globals_address literals + 8 * globals

-- ## The end of the heap

-- Items test the end of the heap by its offset from where the data begin, which is a number of 31 bits.
abbrev pub max_heap_end : ℕ
max_heap_end = data_address + 0x7FFFFFFF

abbrev pub heap_offset : (heap_end : ℕ) → ℕ
heap_offset heap_end = heap_end - data_address

-- ## Labels

-- of the routines that put any value, and make vectors and strings
abbrev pub put_label : ℕ
put_label = label_of routine.PutValue

abbrev pub vector_label : ℕ
vector_label = label_of routine.NewVector

abbrev pub string_label : ℕ
string_label = label_of routine.NewString

-- The most labels of bodies. They are numbered from FIRST_LABEL on, and 12 numbers of 32 bits are left behind them, so that each
-- instruction may be given the most labels that one needs.
abbrev pub max_labels : ℕ
max_labels = 2 ^ 32 - 1036

-- where the code of a body begins
abbrev pub body_label : ℕ → ℕ
body_label label = FIRST_LABEL + label

-- ## Places

abbrev pub place_operand : Place → Arg
place_operand (place.Reg r) = Reg r
place_operand (place.Slot j) = Base32 FRAME_REGISTER (pos (8 * j))

-- the operand at an offset from the address of the next part
abbrev pub part_operand : (offset : ℕ) → Arg
part_operand offset = Base32 HEAP_REGISTER (pos offset)

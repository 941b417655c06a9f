-- Which instructions and bodies items can be made for.
use Rattle.std.specs.Prelude.{ℕ, ◌+◌, Bool, true, ◌&&◌, nat_le, nat_lt, length, Option, Some, None}
use Rattle.std.specs.List.{list_all}
use Rattle.sch_word.specs.trees.Shape.{max_operands}
use Rattle.sch_control.specs.declared.body.Entry.{Entry}
use Rattle.sch_frames.specs.declared.instruction.Instruction.{Instruction}
use Rattle.sch_frames.specs.declared.instruction.Instruction.TheVariants.{Do, Store, Copy, Pass, Fix, Call, Tail, IfFalse, Jump, Label}
use Rattle.sch_frames.specs.Tree.{Code}
use Rattle.sch_frames.specs.Valid.{max_words}
use Rattle.sch_select_memory.specs.Reach.{is_reached_place}
use Rattle.sch_select_operations.specs.Reach.{is_reached_member, is_reached_operation}

abbrev pub is_reached_instruction : Instruction → Bool
is_reached_instruction (Do o) = is_reached_operation o
is_reached_instruction (Store p) = is_reached_place p
is_reached_instruction (Copy to from) = is_reached_place to && is_reached_place from
is_reached_instruction (Pass k) = nat_lt k max_words
is_reached_instruction (Fix members spills) = nat_le (length members) max_operands && list_all is_reached_member members
is_reached_instruction (Call spread count) = nat_le count max_operands
is_reached_instruction (Tail spread count) = nat_le count max_operands
is_reached_instruction _ = true

-- the labels of a body, numbered from `base` on, that an instruction names are below the one behind the body
abbrev pub names_below : (base out : ℕ) → Instruction → Bool
names_below base out (IfFalse l) = nat_lt (base + l) out
names_below base out (Jump l) = nat_lt (base + l) out
names_below base out (Label l) = nat_lt (base + l) out
names_below base out _ = true

abbrev pub is_reached_entry : Option Entry → Bool
is_reached_entry None = true
is_reached_entry (Some e) = nat_le e.formals max_operands

abbrev pub is_reached_code : Code → Bool
is_reached_code c = is_reached_entry c.entry && list_all is_reached_instruction c.instructions

-- The forms of the direct jumps of a code: of each, in their order, whether it is long.
use Rattle.std.specs.Prelude.{List, [], ◌∷◌, Bool, true, false}
use Rattle.sch_insn.specs.declared.insn.Insn.{Insn}
use Rattle.sch_insn.specs.declared.insn.Insn.TheVariants as insn

abbrev pub jump_forms : List Insn → List Bool
jump_forms [] = []
jump_forms (insn.Jump d ∷ is) = true ∷ jump_forms is
jump_forms (insn.JumpIf c d ∷ is) = true ∷ jump_forms is
jump_forms (insn.Jump8 d ∷ is) = false ∷ jump_forms is
jump_forms (insn.JumpIf8 c d ∷ is) = false ∷ jump_forms is
jump_forms (_ ∷ is) = jump_forms is

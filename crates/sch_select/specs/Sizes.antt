-- How many steps a program takes at most, and which marks its items have.
use Rattle.std.specs.Prelude.{ℕ, suc, ◌+◌, ◌*◌, List, [], ◌∷◌, ◌++◌, length, map}
use Rattle.sch_frames.specs.declared.instruction.Instruction.{Instruction}
use Rattle.sch_frames.specs.declared.instruction.Instruction.TheVariants.{Fix, Mark}
use Rattle.sch_frames.specs.Sizes.{program_copies, program_work}
use Rattle.sch_frames.specs.Tree.{Code, Source}
use Rattle.sch_asm.specs.declared.item.Item.{Item}
use Rattle.sch_asm.specs.declared.item.Item.TheVariants as item
use Rattle.sch_word.specs.declared.mark.MarkKind.{MarkKind}
use Rattle.sch_word.specs.declared.mark.MarkKind.TheVariants.{Enter, Spill}

-- ## Steps

-- What the bound of steps counts of a program: what there is to do in it, one for each copy, and one for each body.
abbrev pub steps_size : Source → ℕ
steps_size p = program_work p + (program_copies p + length p.bodies)

-- how many steps a machine takes at most for a run with a number of procedure entries, of used answers and of charged
-- bytes
abbrev pub steps_bound : Source → (entries answers charged : ℕ) → ℕ
steps_bound p entries answers charged = 256 * steps_size p * suc entries + (10 * answers + 8 * charged + 16)

-- ## Marks

-- the marks that stand among items, in their order
abbrev pub kinds_in : List Item → List MarkKind
kinds_in [] = []
kinds_in (item.Mark m ∷ is) = m ∷ kinds_in is
kinds_in (_ ∷ is) = kinds_in is

-- the marks that stand among instructions, as items have them: those of a group are its own
abbrev pub kinds_among : List Instruction → List MarkKind
kinds_among [] = []
kinds_among (Fix members spills ∷ instructions) = map Spill spills ++ kinds_among instructions
kinds_among (Mark m ∷ instructions) = m ∷ kinds_among instructions
kinds_among (_ ∷ instructions) = kinds_among instructions

-- the marks of bodies: for each that of its entry, with its number, and then those among its instructions
abbrev pub kinds_of : (label : ℕ) → List Code → List MarkKind
kinds_of label [] = []
kinds_of label (c ∷ codes) = Enter label ∷ (kinds_among c.instructions ++ kinds_of (suc label) codes)

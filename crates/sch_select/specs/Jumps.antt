-- Jumps to the own labels of bodies go forward.
use Rattle.std.specs.Prelude.{ℕ, Bool, true, ◌&&◌, ◌||◌, nat_lt, List, [], ◌∷◌}
use Rattle.sch_word.specs.trees.NumberSets.{has}
use Rattle.sch_asm.specs.declared.item.Item.{Item}
use Rattle.sch_asm.specs.declared.item.Item.TheVariants.{Jump, JumpIf, LoadLabel}
use Rattle.sch_asm.specs.declared.routine.TheConstants.{FIRST_LABEL}
use Rattle.sch_asm.specs.Items.{labels_in}

-- a label is below the first, or stands behind
abbrev pub goes_ahead : (first label : ℕ) → (behind : List Item) → Bool
goes_ahead first label is = nat_lt label first || has label (labels_in is)

-- Jumps to bodies' labels go forward. So does what is loaded to be jumped to later, where it is not the label at
-- which a body begins: these are numbered below `own`.
abbrev pub jumps_ahead : (own : ℕ) → List Item → Bool
jumps_ahead own [] = true
jumps_ahead own (Jump l ∷ is) = goes_ahead FIRST_LABEL l is && jumps_ahead own is
jumps_ahead own (JumpIf c l ∷ is) = goes_ahead FIRST_LABEL l is && jumps_ahead own is
jumps_ahead own (LoadLabel r l ∷ is) = goes_ahead own l is && jumps_ahead own is
jumps_ahead own (_ ∷ is) = jumps_ahead own is

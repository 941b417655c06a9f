-- The routine of lists leaves the address of a slot in RCX: what items have of it is overwritten before an item reads it. Where RCX may
-- have such an address is followed through the items. It may where control comes from elsewhere: at the start, at the label of a body, and
-- at a label whose address was loaded to be come back to; from there on, until RCX is set, and at each label to which a jump goes from
-- where it may. Jumps to labels inside bodies go forward (Jumps), so one walk sees them all. A jump to a routine leaves the items: to one
-- that is handed a word in RCX it goes only where RCX has been set, and all others set it before they read it (HandedWord of sch_runtime). No
-- label of a routine that is handed such a word is loaded, to be jumped to later. That no jump goes to a label inside a routine is told by the
-- clause `own` of `select`; where a jump through a register goes is not looked at.
use Rattle.std.specs.Prelude.{ℕ, nat_eq, nat_lt, Bool, true, false, cond, ◌&&◌, ◌||◌, not, List, [], ◌∷◌}
use Rattle.sch_word.specs.trees.NumberSets.{has}
use Rattle.sch_word.specs.declared.registers.TheConstants.{RCX}
use Rattle.sch_asm.specs.declared.item.Item.{Item}
use Rattle.sch_asm.specs.declared.item.Item.TheVariants as item
use Rattle.sch_asm.specs.declared.routine.TheConstants.{FIRST_LABEL}
use Rattle.sch_runtime.specs.HandedWord.{is_handed, reads_register, sets_register}

-- ## All items

-- the labels at which RCX may have such an address, with that of a jump from where it may
abbrev pub reached_labels : (may : Bool) (label : ℕ) → (labels : List ℕ) → List ℕ
reached_labels may l labels = cond (nat_lt l FIRST_LABEL) labels (cond may (l ∷ labels) labels)

-- the labels of bodies are below `own`
module _ (own : ℕ) where
  abbrev pub overwrites_slot : (may : Bool) (labels : List ℕ) → List Item → Bool
  overwrites_slot may labels [] = true
  overwrites_slot may labels (item.Label l ∷ is) = overwrites_slot (may || (nat_lt l own || has l labels)) labels is
  -- what stands behind a jump is come to by a label alone
  overwrites_slot may labels (item.Jump l ∷ is) = (not (is_handed l) || not may) && overwrites_slot false (reached_labels may l labels) is
  overwrites_slot may labels (item.JumpIf c l ∷ is) = (not (is_handed l) || not may) && overwrites_slot may (reached_labels may l labels) is
  overwrites_slot may labels (item.LoadLabel r l ∷ is) = not (is_handed l) && overwrites_slot (not (nat_eq r RCX) && may) (l ∷ labels) is
  overwrites_slot may labels (item.LoadWord r a ∷ is) = overwrites_slot (not (nat_eq r RCX) && may) labels is
  overwrites_slot may labels (item.StoreWord a r ∷ is) = (not (nat_eq r RCX) || not may) && overwrites_slot may labels is
  overwrites_slot may labels (item.Plain i ∷ is) =
      (not (reads_register RCX i) || not may) && overwrites_slot (not (sets_register RCX i) && may) labels is
  overwrites_slot may labels (item.Mark m ∷ is) = overwrites_slot may labels is

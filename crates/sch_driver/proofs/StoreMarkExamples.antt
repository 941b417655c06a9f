-- Rows of where stores are marked: the frame's register is number 5, and what an instruction writes is an operand in memory.
use Rattle.std.proofs.Common.{◌≡◌, [], ◌∷◌, true, false, cond, ◌==◌, refl, inl, inr, ⊎_elim, map}
use Rattle.std.specs.Prelude.{pos}
use Rattle.sch_word.specs.declared.mark.MarkKind.TheVariants.{Enter, Save, Spill, Temp, Argument, Restore, Call, Return}
use Rattle.sch_insn.specs.declared.insn.Arg.TheVariants.{Reg, Base, Base8, Base32}
use Rattle.sch_insn.specs.declared.insn.Insn.TheVariants.{MovTo, MovFrom, AddNumber8, OrNumber8, AndNumber8, SubNumber8, XorNumber8, CmpNumber8}
use Rattle.sch_driver.specs.LazySaves.{AreLazy}
use Rattle.sch_driver.specs.StoreMarks.{HasStoreMark, StoresMarked}
use Rattle.sch_select.specs.MarkedStores.{writes_at}

-- a variable is saved, as the body is entered
saved_at_entry : HasStoreMark (MovTo (Base 5) 15) (Enter 3 ∷ Save 0 ∷ [])
saved_at_entry = record { written = λ t. (Save 0, refl); unwritten = λ f. absurd cc }

-- an operand is set aside in a slot, and one in a register
aside_in_slot : HasStoreMark (MovTo (Base32 5 (pos 1024)) 0) (Temp ∷ [])
aside_in_slot = record { written = λ t. (Temp, refl); unwritten = λ f. absurd cc }

aside_in_register : HasStoreMark (MovTo (Reg 3) 0) (Temp ∷ [])
aside_in_register = record { written = λ t. absurd cc; unwritten = λ f. inr refl }

-- a load has none, also where it restores
restored : HasStoreMark (MovFrom 15 (Base 5)) (Restore 0 ∷ [])
restored = record { written = λ t. absurd cc; unwritten = λ f. inl refl }

-- a write without a mark, and one with two
unmarked_store : HasStoreMark (MovTo (Base8 5 (pos 8)) 0) [] → ⊥
unmarked_store h = let one = (h.written refl).1 in absurd cc

unmarked_sum : HasStoreMark (AddNumber8 (Base8 5 (pos 8)) (pos 1)) (Call 2 ∷ []) → ⊥
unmarked_sum h = let one = (h.written refl).1 in absurd cc

marked_twice : HasStoreMark (MovTo (Base8 5 (pos 8)) 0) (Spill 2 ∷ Argument ∷ []) → ⊥
marked_twice h = let one = (h.written refl).1 in absurd cc

-- a mark of a save where nothing is written
saves_nothing : HasStoreMark (MovFrom 15 (Base 5)) (Save 0 ∷ []) → ⊥
saves_nothing h = ⊎_elim (λ e. absurd cc) (λ e. absurd cc) (h.unwritten refl)

-- what has a number of one byte writes its operand, but where it compares
short_numbers : map (writes_at 5) (AddNumber8 (Base 5) (pos 1) ∷ OrNumber8 (Base8 5 (pos 8)) (pos 1) ∷ AndNumber8 (Base32 5 (pos 8)) (pos 1)
    ∷ SubNumber8 (Base 5) (pos 1) ∷ XorNumber8 (Base 5) (pos 1) ∷ CmpNumber8 (Base 5) (pos 1) ∷ SubNumber8 (Base 4) (pos 1) ∷ [])
    ≡ true ∷ true ∷ true ∷ true ∷ true ∷ false ∷ false ∷ []
short_numbers = refl

-- two instructions, the second one at the first address but three: both are looked at
two_stores : StoresMarked (λ a. cond (a == 100) (Save 0 ∷ []) (Spill 4 ∷ [])) 100 (MovTo (Base 5) 15 ∷ MovTo (Base 5) 3 ∷ [])
two_stores = (record { written = λ t. (Save 0, refl); unwritten = λ f. absurd cc }, (record { written = λ t. (Spill 4, refl); unwritten = λ f. absurd cc }, tt))

second_unmarked : StoresMarked (λ a. cond (a == 100) (Save 0 ∷ []) []) 100 (MovTo (Base 5) 15 ∷ MovTo (Base 5) 3 ∷ []) → ⊥
second_unmarked h = let one = (h.1.0.written refl).1 in absurd cc

-- an activation that saves and does not call, behind one that calls
saves_alone : AreLazy ((Enter 1 ∷ Save 0 ∷ Call 2 ∷ Restore 0 ∷ Return ∷ []) ∷ (Enter 2 ∷ Save 0 ∷ Return ∷ []) ∷ []) → ⊥
saves_alone h = let called = h.1.0.0.0 in absurd cc

-- Worked rows: the marks of a path and of an entry, and what is promised of the marks of an activation.
use Rattle.std.proofs.Common.{◌≡◌, refl, true, false, [], ◌∷◌, None}
use Rattle.sch_word.specs.declared.mark.MarkKind.TheVariants as mark
use Rattle.sch_control.specs.flow.Paths.{Binds, References, Saves, Calls, Tails, Returns, Ends}
use Rattle.sch_control.proofs.Examples.{applied, held_in, number}
use Rattle.sch_layout.specs.OwnMarks.{RestoresAfterCalls, SavesThenCalls}
use Rattle.sch_layout.specs.PathMarks.{entry_marks, path_marks}
use Rattle.sch_layout.proofs.LayoutExamples.{placed, twice}
use Rattle.sch_layout.proofs.SlotPlan.{slots_for}

-- ## Paths: variables 4 and 5 live in slots, the others in registers

-- what lives in a slot is spilled where it is bound, and neither saved nor restored; the operator is set aside
path_row : path_marks placed
    (Saves 0 ∷ Saves 4 ∷ Saves 2 ∷ References 4 ∷ Calls (applied 0 (held_in 4) []) (2 ∷ 4 ∷ 0 ∷ []) ∷ Binds 5 ∷ Binds 3 ∷ Returns ∷ [])
    ≡ mark.Save 0 ∷ mark.Save 2 ∷ mark.Temp ∷ mark.Call 0 ∷ mark.Restore 2 ∷ mark.Restore 0 ∷ mark.Spill 5 ∷ mark.Return ∷ []
path_row = refl

-- the end of a form leaves none, and a tail call its own behind those of its arguments
end_rows : (path_marks placed (References 2 ∷ Ends ∷ []) ≡ []) × (path_marks placed (Tails (applied 7 (held_in 4) (number 1 ∷ [])) ∷ []) ≡ mark.Temp ∷ mark.Temp ∷ mark.Tail 7 ∷ [])
end_rows = (refl, refl)

-- a procedure spills its closure and its formals, and a form nothing
entry_rows : (entry_marks (slots_for twice) twice.entry ≡ mark.Spill 1 ∷ mark.Spill 2 ∷ mark.Spill 3 ∷ []) × (entry_marks (slots_for twice) None ≡ [])
entry_rows = (refl, refl)

-- ## Activations

-- a call follows each save, at any distance
saves_row : SavesThenCalls (mark.Enter 0 ∷ mark.Save 0 ∷ mark.Save 2 ∷ mark.Temp ∷ mark.Call 0 ∷ mark.Return ∷ [])
saves_row = (refl, (refl, tt))

late_save : SavesThenCalls (mark.Enter 0 ∷ mark.Call 0 ∷ mark.Save 0 ∷ mark.Tail 1 ∷ []) → ⊥
late_save s = let bad : false ≡ true = s.0 in cc

-- restores come behind a call, one after the other
restores_row : RestoresAfterCalls false (mark.Enter 0 ∷ mark.Call 0 ∷ mark.Restore 2 ∷ mark.Restore 3 ∷ mark.Spill 4 ∷ mark.Return ∷ [])
restores_row = (refl, (refl, tt))

restore_first : RestoresAfterCalls false (mark.Enter 0 ∷ mark.Restore 2 ∷ mark.Call 0 ∷ []) → ⊥
restore_first r = let bad : false ≡ true = r.0 in cc

restore_late : RestoresAfterCalls false (mark.Call 0 ∷ mark.Spill 4 ∷ mark.Restore 2 ∷ []) → ⊥
restore_late r = let bad : false ≡ true = r.0 in cc

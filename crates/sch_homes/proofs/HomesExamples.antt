-- Worked rows: what lies where in the frame of a body, and its layout.
use Rattle.std.proofs.Common.{◌≡◌, refl, false, List, [], ◌∷◌, Option, None, Some, arith}
use Rattle.std.specs.Prelude.{◌&&◌, slice_get}
use Rattle.sch_word.specs.declared.mark.MarkKind.TheVariants as mark
use Rattle.sch_word.specs.declared.place.Place.{Place}
use Rattle.sch_word.specs.declared.place.Place.TheVariants.{Reg, Slot}
use Rattle.sch_word.specs.declared.primitive.Primitive.TheVariants.{Subtract}
use Rattle.sch_control.specs.declared.body.Entry.{Entry}
use Rattle.sch_control.specs.declared.operation.Operation.TheVariants as operation
use Rattle.sch_control.specs.Tree.{Expression, perform, bind, call, return, save}
use Rattle.sch_control.proofs.Examples.{applied, held_in, number}
use Rattle.sch_layout.proofs.SharedExamples.{two_formals}
use Rattle.sch_frames.specs.declared.instruction.Instruction.TheVariants.{Do, Store, Copy, Call, Return, Mark}
use Rattle.sch_homes.specs.FewKept.{BodyKeepsFew}
use Rattle.sch_homes.specs.Homes.{home, homes_code, homes_words, is_saved, place, has_register}
use Rattle.sch_homes.specs.HomeTable.{home_of, home_slots, place_in, table_plan}

-- ## A procedure of eight formals: two arrive in slots, and they stay there

abbrev eight : Option Entry
eight = Some (record { formals = 8; rest = false; fields = 0 })

-- variable 10 has a slot, and the return address is saved
abbrev body : Expression
body =
    save (0 ∷ []) (bind 10 (perform (operation.Operand (number 5)))
    (bind 11 (call (applied 0 (held_in 2) (held_in 10 ∷ held_in 8 ∷ [])) (0 ∷ []))
    (return (perform (operation.Prim 1 Subtract (held_in 11 ∷ held_in 10 ∷ []))))))

abbrev places : List Place
places = Reg 15 ∷ Reg 14 ∷ Reg 3 ∷ Reg 8 ∷ Reg 9 ∷ Reg 10 ∷ Reg 6 ∷ Reg 7 ∷ Slot 0 ∷ Slot 1 ∷ Slot 2 ∷ Reg 3 ∷ []

-- the slots 0 and 1 of arguments, 2 for variable 10, and 3 for the return address; no call sets anything aside
places_rows :
    (place eight body places 8 ≡ Slot 0) × (place eight body places 9 ≡ Slot 1) × (place eight body places 10 ≡ Slot 2) × (place eight body places 11 ≡ Reg 3)
    × (home eight body places 0 ≡ Slot 3) × (homes_words eight body places ≡ 4)
places_rows = (refl, refl, refl, refl, refl, refl)

layout_row : (homes_code eight body places).instructions ≡
    Mark (mark.Save 0) ∷ Copy (Slot 3) (Reg 15)
    ∷ Do (operation.Operand (number 5)) ∷ Mark (mark.Spill 10) ∷ Store (Slot 2)
    ∷ Copy (Reg 14) (Reg 3) ∷ Copy (Reg 3) (Slot 2) ∷ Copy (Reg 8) (Slot 0) ∷ Mark (mark.Call 0) ∷ Call false 2
    ∷ Mark (mark.Restore 0) ∷ Copy (Reg 15) (Slot 3) ∷ Store (Reg 3)
    ∷ Do (operation.Prim 1 Subtract (held_in (Reg 3) ∷ held_in (Slot 2) ∷ [])) ∷ Mark mark.Return ∷ Return ∷ []
layout_row = refl

-- a formal that arrives in R8 and has a slot is stored there under its mark
spilled_row : (homes_code (Some (record { formals = 2; rest = false; fields = 0 })) (return (perform (operation.Operand (held_in 3)))) (Reg 15 ∷ Reg 14 ∷ Reg 3 ∷ Slot 0 ∷ [])).instructions ≡
    Mark (mark.Spill 3) ∷ Copy (Slot 0) (Reg 8) ∷ Do (operation.Operand (held_in (Slot 0))) ∷ Mark mark.Return ∷ Return ∷ []
spilled_row = refl

-- ## Homes are in the order of the variables, and only of those that are saved

abbrev two_saved : Expression
two_saved = save (3 ∷ 0 ∷ []) (bind 4 (call (applied 0 (held_in 2) (held_in 3 ∷ [])) (0 ∷ 3 ∷ [])) (return (perform (operation.Prim 1 Subtract (held_in 4 ∷ held_in 3 ∷ [])))))

abbrev five_places : List Place
five_places = Reg 15 ∷ Reg 14 ∷ Reg 3 ∷ Reg 8 ∷ Reg 3 ∷ []

homes_rows : (home two_formals two_saved five_places 0 ≡ Slot 0) × (home two_formals two_saved five_places 3 ≡ Slot 1) × (home two_formals two_saved five_places 4 ≡ Slot 2052) × (homes_words two_formals two_saved five_places ≡ 2)
homes_rows = (refl, refl, refl, refl)

-- a body that saves nothing and calls nothing needs no frame
leaf_row : homes_words two_formals (return (perform (operation.Operand (held_in 3)))) five_places ≡ 0
leaf_row = refl

-- ## The same places and homes, read in tables

-- variables 0 and 3 of five have homes, in the slots from 1 on
homes_listed : home_slots 1 (λ x. has_register (slice_get five_places x) && is_saved two_saved x) 5 ≡ Some 1 ∷ None ∷ None ∷ Some 2 ∷ None ∷ []
homes_listed = refl

-- what has no home would have its own behind the largest frame
homes_read : (home_of 3 (Some (Some 2)) ≡ Slot 2) × (home_of 4 (Some None) ≡ Slot 2052) × (home_of 9 None ≡ Slot 2057)
homes_read = (refl, refl, refl)

-- what is no variable lives in no slot of the frame
places_read : (place_in (Reg 15 ∷ Slot 5 ∷ []) 1 ≡ Slot 5) × (place_in (Reg 15 ∷ Slot 5 ∷ []) 2 ≡ Slot 4096)
places_read = (refl, refl)

tables_row :
    ((table_plan 3 five_places (Some 1 ∷ None ∷ None ∷ Some 2 ∷ None ∷ [])).place 3 ≡ Reg 8)
    × ((table_plan 3 five_places (Some 1 ∷ None ∷ None ∷ Some 2 ∷ None ∷ [])).home 3 ≡ Slot 2)
tables_row = (refl, refl)

-- ## A body that keeps few variables

-- two are saved round the body and restored behind its call
few_row : BodyKeepsFew two_formals two_saved five_places
few_row = (omega arith, (omega arith, tt))

-- a form has nothing to save at its head
form_row : BodyKeepsFew None two_saved five_places → ⊥
form_row k = omega (arith, k.0)

-- no region stands round what is bound
bound_row : BodyKeepsFew two_formals (bind 4 two_saved (return (perform (operation.Operand (held_in 3))))) five_places → ⊥
bound_row k = k.0.0

-- Worked rows: which places variables have.
use Rattle.std.proofs.Common.{◌≡◌, ℕ, Bool, true, false, List, [], ◌∷◌, Option, Some, None, refl, ap, inl, inr, arith}
use Rattle.std.proofs.lemmas.Bool.{false≢true}
use Rattle.sch_word.specs.trees.NumberSets.{has}
use Rattle.sch_word.specs.declared.place.Place.{Place}
use Rattle.sch_word.specs.declared.place.Place.TheVariants.{Reg, Slot}
use Rattle.sch_word.specs.runs.Computation.{gives}
use Rattle.sch_word.specs.values.Values.{procedure}
use Rattle.sch_control.specs.declared.body.Entry.{Entry}
use Rattle.sch_control.specs.declared.operation.Operation.TheVariants as operation
use Rattle.sch_control.specs.Meaning.{Callee, Environment, Reading, Result, do_body, entry_environment}
use Rattle.sch_control.specs.Tree.{Expression, perform, bind, sequence, branch, call, tail_call, return, end, save}
use Rattle.sch_control.proofs.Examples.{truth, held_in, applied, at_start, value_of}
use Rattle.sch_control.specs.flow.Live.{Live}
use Rattle.sch_control.specs.flow.LiveTests.{is_live}
use Rattle.sch_control.specs.flow.Middle.{restoring, silent}
use Rattle.sch_word.specs.values.Places.{is_slot}
use Rattle.sch_control.specs.flow.Places.{place_of}
use Rattle.sch_regs.specs.PlaceChoice.{Table, place_in, held, choose_each, live_first, arrived, places}
use Rattle.sch_regs.specs.Promises.{KeepsRuns}
use Rattle.sch_regs.specs.Spills.{Full, SlotsWhenFull}

-- ## A group

-- five formals are live, in five registers; of a group of two the second is live and the first is not
abbrev five : Table
five = arrived 5

abbrev live : ℕ → Bool
live x = has x (2 ∷ 3 ∷ 4 ∷ 5 ∷ 6 ∷ 8 ∷ [])

-- As they come, both get the last register, and the second is live there.
first_as_they_come : place_in (choose_each live (7 ∷ 8 ∷ []) five) 7 ≡ Reg 7
first_as_they_come = refl

second_as_they_come : place_in (choose_each live (7 ∷ 8 ∷ []) five) 8 ≡ Reg 7
second_as_they_come = refl

-- Were what is not live counted too, the second would get a slot, though the last register holds nothing that is live.
holds_nothing : held live (choose_each live (7 ∷ []) five) 7 ≡ false
holds_nothing = refl

-- With the live one first it has the register, and the other one a slot, where all six hold what is live.
live_one : place_in (choose_each live (live_first live (7 ∷ 8 ∷ [])) five) 8 ≡ Reg 7
live_one = refl

other_one : place_in (choose_each live (live_first live (7 ∷ 8 ∷ [])) five) 7 ≡ Slot 0
other_one = refl

-- ## Bodies

abbrev nothing : Expression
nothing = perform operation.UnsetCell

abbrev with_formals : ℕ → Option Entry
with_formals n = Some (record { formals = n; rest = false; fields = 0 })

-- An arm to which no way comes: the formal is read in that arm alone, so it is not live at the binding of variable 3, and
-- both have one place, though both are live as that arm begins.
abbrev arm : Expression
arm = sequence (value_of 2) (return (value_of 3))

abbrev never : Expression
never = bind 3 nothing (branch (perform (operation.Operand (truth true))) (return (value_of 3)) arm)

never_places : places (with_formals 1) 4 never ≡ Reg 15 ∷ Reg 14 ∷ Reg 3 ∷ Reg 3 ∷ []
never_places = refl

both_live : (is_live 2 arm (λ t. false) ≡ true) × (is_live 3 arm (λ t. false) ≡ true)
both_live = (refl, refl)

-- Seven variables are live at once: one of them has a slot. The eighth has a register again, as the first is not live behind it.
abbrev behind_seven : Expression
behind_seven =
    bind 9 (value_of 2) (tail_call (applied 0 (held_in 3) (held_in 4 ∷ held_in 5 ∷ held_in 6 ∷ held_in 7 ∷ held_in 8 ∷ held_in 9 ∷ [])))

abbrev seven : Expression
seven = bind 2 nothing (bind 3 nothing (bind 4 nothing (bind 5 nothing (bind 6 nothing (bind 7 nothing (bind 8 nothing behind_seven))))))

seven_places : places (with_formals 0) 10 seven
    ≡ Reg 15 ∷ Reg 14 ∷ Reg 3 ∷ Reg 8 ∷ Reg 9 ∷ Reg 10 ∷ Reg 6 ∷ Reg 7 ∷ Slot 0 ∷ Reg 3 ∷ []
seven_places = refl

-- The operands past the sixth arrive in slots; what is bound while all six registers hold what is live has the next one.
-- Number 11 is bound nowhere.
abbrev many : Expression
many = bind 10 nothing (tail_call (applied 0 (held_in 2) (held_in 3 ∷ held_in 4 ∷ held_in 5 ∷ held_in 6 ∷ held_in 7 ∷ held_in 10 ∷ [])))

many_places : places (with_formals 8) 12 many
    ≡ Reg 15 ∷ Reg 14 ∷ Reg 3 ∷ Reg 8 ∷ Reg 9 ∷ Reg 10 ∷ Reg 6 ∷ Reg 7 ∷ Slot 0 ∷ Slot 1 ∷ Slot 2 ∷ Reg 3 ∷ []
many_places = refl

-- A formal that is not read any more leaves its register; of a call nothing is in the way but what is live behind it.
abbrev after_call : Expression
after_call = bind 4 (call (applied 0 (held_in 2) (held_in 3 ∷ [])) (0 ∷ 3 ∷ [])) (tail_call (applied 1 (held_in 4) (held_in 3 ∷ [])))

after_call_places : places (with_formals 2) 5 after_call ≡ Reg 15 ∷ Reg 14 ∷ Reg 3 ∷ Reg 8 ∷ Reg 3 ∷ []
after_call_places = refl

-- a form has no formals
form_places : places None 4 (bind 2 nothing (bind 3 (value_of 2) (end (value_of 3)))) ≡ Reg 15 ∷ Reg 14 ∷ Reg 3 ∷ Reg 3 ∷ []
form_places = refl

-- ## Slots

-- variable 8 of `seven` has a slot, and each of the six registers holds another variable that is live there
abbrev seven_place : ℕ → Place
seven_place = place_of (places (with_formals 0) 10 seven)

seven_full : SlotsWhenFull seven_place seven
seven_full =
    (λ h. absurd (false≢true h), (tt, (λ h. absurd (false≢true h), (tt, (λ h. absurd (false≢true h), (tt, (λ h. absurd (false≢true h), (tt, (λ h. absurd (false≢true h), (tt, (λ h. absurd (false≢true h), (tt, (full, (tt, (λ h. absurd (false≢true h), (tt, tt)))))))))))))))) where
      full : is_slot (seven_place 8) ≡ true → Full seven_place (λ x. Live x behind_seven (λ t. ⊥)) 8
      full h = (
        (2, ((λ e. omega (arith, e)), (inl refl, refl))),
        (
          (3, ((λ e. omega (arith, e)), (inr (inl ((λ e. omega (arith, e)), inr refl)), refl))),
          (
            (4, ((λ e. omega (arith, e)), (inr (inl ((λ e. omega (arith, e)), inr refl)), refl))),
            (
              (5, ((λ e. omega (arith, e)), (inr (inl ((λ e. omega (arith, e)), inr refl)), refl))),
              (
                (6, ((λ e. omega (arith, e)), (inr (inl ((λ e. omega (arith, e)), inr refl)), refl))),
                ((7, ((λ e. omega (arith, e)), (inr (inl ((λ e. omega (arith, e)), inr refl)), refl))), tt),
              ),
            ),
          ),
        ),
      )

-- a slot is refused to a variable while a register is free
free_register : SlotsWhenFull (λ x. Slot 0) (bind 2 nothing (end (value_of 2))) → ⊥
free_register h =
    let w = (h.0 refl).0 in
    let e : Slot 0 ≡ Reg 3 = w.1.1.1 in
    absurd (cc)

-- ## Calls

-- A form that reads variable 2 behind a call, which overwrites it. The called procedure gives itself.
abbrev read_behind : (restores : List ℕ) → Expression
read_behind restores = save (2 ∷ []) (bind 3 (call (applied 0 (held_in 2) []) restores) (end (value_of 2)))

abbrev callee : Callee
callee self p vs depth w = Some (gives self w)

abbrev entry : Environment
entry = entry_environment (procedure 0) (procedure 0 ∷ [])

abbrev ends : Result → Bool
ends (Some (gives v w)) = true
ends _ = false

abbrev in_a_slot : List Place
in_a_slot = Reg 15 ∷ Reg 14 ∷ Slot 0 ∷ Reg 3 ∷ []

abbrev by_slots : Reading
by_slots = silent (λ x. is_slot (place_of in_a_slot x))

-- it ends where the call restores the variable, and where the variable lives in a slot
restored_ends : ends (do_body restoring callee 1 (read_behind (2 ∷ [])) entry at_start) ≡ true
restored_ends = refl

slot_ends : ends (do_body by_slots callee 1 (read_behind []) entry at_start) ≡ true
slot_ends = refl

-- and is wrong where neither is so
overwritten : ends (do_body restoring callee 1 (read_behind []) entry at_start) ≡ false
overwritten = refl

-- so its runs are kept where enough is restored, and not where nothing is
kept : do_body restoring callee 1 (read_behind (2 ∷ [])) entry at_start ≡ do_body by_slots callee 1 (read_behind (2 ∷ [])) entry at_start
kept = refl

not_kept : KeepsRuns (read_behind []) (read_behind []) in_a_slot → ⊥
not_kept h =
    let e : false ≡ true = ap ends (h callee 1 entry at_start) in
    absurd (cc)

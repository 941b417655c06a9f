-- Worked rows: the layouts of bodies, and what programs do that are laid out.
use Rattle.std.proofs.Common.{◌≡◌, refl, arith, ℕ, zero, suc, ◌+◌, ◌<◌, ◌≤◌, Bool, true, false, List, [], ◌∷◌, Option, Some, None, map, pos, negsuc}
use Rattle.std.specs.Prelude.{codes, cond, nat_eq, ◌&&◌}
use Rattle.std.specs.Fmt.{signed_decimal}
use Rattle.std.specs.List.{list_all}
use Rattle.std.proofs.lemmas.Bool.{lt-ltb, ne_eqb}
use Rattle.sch_word.specs.declared.constant.Const.TheVariants.{Fixnum, Boolean}
use Rattle.sch_word.specs.declared.place.Place.{Place}
use Rattle.sch_word.specs.declared.place.Place.TheVariants.{Reg, Slot}
use Rattle.sch_word.specs.declared.primitive.Primitive.TheVariants.{Eq, Equal, Less, Multiply, Put, Subtract}
use Rattle.sch_word.specs.trees.Covered.{are_literals_covered, are_lists_covered}
use Rattle.sch_word.specs.runs.Computation.{gives}
use Rattle.sch_word.specs.runs.Runs.{Run, ended, going}
use Rattle.sch_word.specs.values.Values.{Value, procedure, unspecified}
use Rattle.sch_word.specs.declared.mark.MarkKind.{MarkKind}
use Rattle.sch_word.specs.declared.mark.MarkKind.TheVariants as mark
use Rattle.sch_control.specs.declared.operation.Atom.TheVariants.{Constant, Literal, Variable}
use Rattle.sch_control.specs.declared.operation.Operand.{Operand}
use Rattle.sch_control.specs.declared.operation.Operand.TheVariants as operand
use Rattle.sch_control.specs.declared.operation.Source.TheVariants as source
use Rattle.sch_control.specs.declared.operation.Operation.TheVariants as operation
use Rattle.sch_control.specs.Covered as control_covered
use Rattle.sch_control.specs.Run as control_run
use Rattle.sch_control.specs.Sizes.{expression_size, most_variables}
use Rattle.sch_control.specs.Tree as control
use Rattle.sch_control.specs.Meaning.{Callee, Environment, Result, World, do_body, no_region}
use Rattle.sch_control.specs.Tree.{Expression, perform, bind, sequence, branch, fix, call, tail_call, return, end, save}
use Rattle.sch_control.specs.Valid as control_valid
use Rattle.sch_control.proofs.Examples.{applied, form, held_in, lambda, number, program, seen, straight_program, value_and_marks}
use Rattle.sch_frames.specs.declared.instruction.Instruction.{Instruction}
use Rattle.sch_frames.specs.declared.instruction.Instruction.TheVariants.{Do, Store, Copy, Pass, Fix, Call, Tail, Return, End, IfFalse, Jump, Label, Mark}
use Rattle.sch_frames.specs.Covered.{is_covered_code, is_covered_program, each_begins}
use Rattle.sch_frames.specs.Meaning.{Cell, Frame, Is, Junk, Link, execute_each}
use Rattle.sch_word.specs.values.Places.{same_place, is_slot}
use Rattle.sch_frames.specs.Run.{run}
use Rattle.sch_frames.specs.Sizes.{copies_of, instructions_size}
use Rattle.sch_frames.specs.Tree.{Source}
use Rattle.sch_frames.specs.Valid.{code_valid, is_valid}
use Rattle.sch_layout.specs.BodyLayout.{Plan, lay, unmarked_reading}
use Rattle.sch_layout.specs.SharedPlaces.{HomeApart, Homes}
use Rattle.sch_layout.proofs.SlotPlan.{aside_moves, most_operands, most_words, saved_tree, slots_code, slots_layout, slots_words}

-- ## Words for the rows

-- the frame program of a program
abbrev pub framed : control.Source → Source
framed p = record { statics = p.statics; library = p.library; bodies = map slots_code p.bodies; words = most_words p.bodies }

-- a program and its frame program both have a run, with limits of depth and entries
abbrev Both : control.Source → (depth entries : ℕ) → Option Run → Type 0
Both p depth entries r = (control_run.run p 4096 depth [] entries ≡ r) × (run (framed p) 4096 depth [] entries ≡ r)

abbrev framed_valid : control.Source → Bool
framed_valid p = is_valid (framed p) && (list_all code_valid (framed p).bodies && each_begins (framed p))

abbrev both_valid : control.Source → Bool
both_valid p = control_valid.is_valid p && (list_all control_valid.code_valid p.bodies && framed_valid p)

-- ## Straight code and a test: (define x 7) (let ((y (* x 6))) (if (< y 40) (display 0) (display (- y 50))))

straight_layouts : map slots_layout straight_program.bodies ≡
    (Do (operation.SetGlobal 0 (number 7)) ∷ End ∷ [])
    ∷ (Do (operation.Global 0) ∷ Mark (mark.Spill 2) ∷ Store (Slot 2)
    ∷ Do (operation.Prim 0 Multiply (held_in (Slot 2) ∷ number 6 ∷ [])) ∷ Mark (mark.Spill 3) ∷ Store (Slot 3)
    ∷ Do (operation.Prim 1 Less (held_in (Slot 3) ∷ number 40 ∷ [])) ∷ IfFalse 0
    ∷ Do (operation.Prim 2 Put (number 0 ∷ [])) ∷ End
    ∷ Jump 1 ∷ Label 0
    ∷ Do (operation.Prim 3 Subtract (held_in (Slot 3) ∷ number 50 ∷ [])) ∷ Mark (mark.Spill 4) ∷ Store (Slot 4)
    ∷ Do (operation.Prim 4 Put (held_in (Slot 4) ∷ [])) ∷ End
    ∷ Label 1 ∷ [])
    ∷ []
straight_layouts = refl

straight_does : run (framed straight_program) 4096 1 [] 0 ≡ seen (signed_decimal (negsuc 7)) 0 0 (ended 0)
straight_does = refl

straight_lays : framed_valid straight_program ≡ true
straight_lays = refl

-- ## Entries and groups

-- a procedure has its return address, its closure and its formals in slots; the seventh stays in the one in which it arrives
entering_layout : slots_layout (lambda 7 0 9 (return (perform (operation.Operand (held_in 8))))) ≡
    Mark (mark.Spill 1) ∷ Copy (Slot 2) (Reg 14) ∷ Mark (mark.Spill 2) ∷ Copy (Slot 3) (Reg 3) ∷ Mark (mark.Spill 3)
    ∷ Copy (Slot 4) (Reg 8) ∷ Mark (mark.Spill 4) ∷ Copy (Slot 5) (Reg 9) ∷ Mark (mark.Spill 5) ∷ Copy (Slot 6) (Reg 10)
    ∷ Mark (mark.Spill 6) ∷ Copy (Slot 7) (Reg 6) ∷ Mark (mark.Spill 7) ∷ Copy (Slot 8) (Reg 7) ∷ Mark (mark.Save 0)
    ∷ Copy (Slot 1) (Reg 15) ∷ Do (operation.Operand (held_in (Slot 0))) ∷ Mark mark.Return ∷ Return ∷ []
entering_layout = refl

-- the members of a group are bound where they are put, each under its mark, and what follows reads them there
group_layout : slots_layout (form 4 (fix (record { at = 2; closure = record { label = 1; fields = source.Atom (Variable 3) ∷ [] } } ∷ record { at = 3; closure = record { label = 2; fields = source.Atom (Variable 2) ∷ [] } } ∷ []) (end (perform (operation.Operand (held_in 3)))))) ≡
    Fix (record { at = Slot 2; closure = record { label = 1; fields = source.Atom (Variable (Slot 3)) ∷ [] } } ∷ record { at = Slot 3; closure = record { label = 2; fields = source.Atom (Variable (Slot 2)) ∷ [] } } ∷ []) (2 ∷ 3 ∷ [])
    ∷ Do (operation.Operand (held_in (Slot 3))) ∷ End ∷ []
group_layout = refl

-- ## Calls

-- (lambda (f x) (f (f x))): the operator and the operand are set aside behind the variables and handed over; the return
-- address is back behind the call that is not in tail position
abbrev pub twice : control.Code
twice = lambda 2 0 5 (bind 4 (call (applied 0 (held_in 2) (held_in 3 ∷ [])) []) (tail_call (applied 1 (held_in 2) (held_in 4 ∷ []))))

twice_layout : slots_layout twice ≡
    Mark (mark.Spill 1) ∷ Copy (Slot 1) (Reg 14) ∷ Mark (mark.Spill 2) ∷ Copy (Slot 2) (Reg 3) ∷ Mark (mark.Spill 3)
    ∷ Copy (Slot 3) (Reg 8) ∷ Mark (mark.Save 0) ∷ Copy (Slot 0) (Reg 15) ∷ Do (operation.Operand (held_in (Slot 2)))
    ∷ Mark mark.Temp ∷ Store (Slot 5) ∷ Do (operation.Operand (held_in (Slot 3))) ∷ Mark mark.Temp ∷ Store (Slot 6)
    ∷ Copy (Reg 14) (Slot 5) ∷ Copy (Reg 3) (Slot 6) ∷ Mark (mark.Call 0) ∷ Call false 1 ∷ Mark (mark.Restore 0)
    ∷ Copy (Reg 15) (Slot 0) ∷ Mark (mark.Spill 4) ∷ Store (Slot 4) ∷ Do (operation.Operand (held_in (Slot 2))) ∷ Mark mark.Temp
    ∷ Store (Slot 5) ∷ Do (operation.Operand (held_in (Slot 4))) ∷ Mark mark.Temp ∷ Store (Slot 6) ∷ Copy (Reg 14) (Slot 5)
    ∷ Copy (Reg 3) (Slot 6) ∷ Mark (mark.Tail 1) ∷ Tail false 1 ∷ []
twice_layout = refl

abbrev eight : List (Operand ℕ)
eight = number 0 ∷ number 1 ∷ number 2 ∷ number 3 ∷ number 4 ∷ number 5 ∷ number 6 ∷ held_in 2 ∷ []

-- the operator and these operands in the slots from 4 on, and then in registers
abbrev eight_aside : (operator last : Operand Place) → List Instruction → List Instruction
eight_aside operator last rest =
    Do (operation.Operand operator) ∷ Mark mark.Temp ∷ Store (Slot 4) ∷ Do (operation.Operand (number 0)) ∷ Mark mark.Temp
    ∷ Store (Slot 5) ∷ Do (operation.Operand (number 1)) ∷ Mark mark.Temp ∷ Store (Slot 6) ∷ Do (operation.Operand (number 2))
    ∷ Mark mark.Temp ∷ Store (Slot 7) ∷ Do (operation.Operand (number 3)) ∷ Mark mark.Temp ∷ Store (Slot 8)
    ∷ Do (operation.Operand (number 4)) ∷ Mark mark.Temp ∷ Store (Slot 9) ∷ Do (operation.Operand (number 5)) ∷ Mark mark.Temp
    ∷ Store (Slot 10) ∷ Do (operation.Operand (number 6)) ∷ Mark mark.Temp ∷ Store (Slot 11) ∷ Do (operation.Operand last)
    ∷ Mark mark.Temp ∷ Store (Slot 12) ∷ Copy (Reg 14) (Slot 4) ∷ Copy (Reg 3) (Slot 5) ∷ Copy (Reg 8) (Slot 6)
    ∷ Copy (Reg 9) (Slot 7) ∷ Copy (Reg 10) (Slot 8) ∷ Copy (Reg 6) (Slot 9) ∷ Copy (Reg 7) (Slot 10) ∷ rest

-- the last two are read from the slots in which they have been set aside
abbrev reads : ℕ → List Instruction → List Instruction
reads j rest = Do (operation.Operand (held_in (Slot j))) ∷ Mark mark.Argument ∷ rest

-- the seventh operand and the eighth of a call go into the frame that it opens; a form keeps no return address
call_layout : slots_layout (form 4 (bind 2 (perform (operation.MakeClosure (record { label = 1; fields = [] }))) (end (branch (call (applied 0 (held_in 2) eight) []) (perform (operation.Operand (number 0))) (perform (operation.Operand (number 1))))))) ≡
    Do (operation.MakeClosure (record { label = 1; fields = [] })) ∷ Mark (mark.Spill 2) ∷ Store (Slot 2)
    ∷ eight_aside (held_in (Slot 2)) (held_in (Slot 2)) (reads 11 (Pass 0 ∷ reads 12 (Pass 1 ∷ Mark (mark.Call 0) ∷ Call false 8 ∷ IfFalse 0
    ∷ Do (operation.Operand (number 0)) ∷ Jump 1 ∷ Label 0 ∷ Do (operation.Operand (number 1)) ∷ Label 1 ∷ End ∷ [])))
call_layout = refl

-- those of a tail call go where the own arguments arrive
tail_layout : slots_layout (lambda 1 0 4 (tail_call (applied 0 (held_in 2) eight))) ≡
    Mark (mark.Spill 1) ∷ Copy (Slot 1) (Reg 14) ∷ Mark (mark.Spill 2) ∷ Copy (Slot 2) (Reg 3) ∷ Mark (mark.Save 0)
    ∷ Copy (Slot 0) (Reg 15)
    ∷ eight_aside (held_in (Slot 2)) (held_in (Slot 2)) (reads 11 (Store (Slot 0) ∷ reads 12 (Store (Slot 1) ∷ Mark (mark.Tail 0) ∷ Tail false 8 ∷ [])))
tail_layout = refl

-- ## Regions and restores

-- Variables 2 and 3 live in registers that calls use, RBX and R14, beside the return address; each is saved in a slot of
-- its own. Variable 4 is left in slot 0, where the seventh argument arrives, and arguments are set aside behind it.
abbrev pub in_registers : ℕ → Place
in_registers zero = Reg 15
in_registers (suc zero) = Slot 21
in_registers (suc (suc zero)) = Reg 3
in_registers (suc (suc (suc zero))) = Reg 14
in_registers (suc (suc (suc (suc zero)))) = Slot 0
in_registers x = Slot 25

abbrev pub placed : Plan
placed = record { place = in_registers; home = λ x. Slot (10 + x); limit = 40; moves = aside_moves 1 in_registers 40 }

none_lives : (j : ℕ) → 1 ≤ j → j < 20 → (y : ℕ) → same_place (Slot j) (in_registers y) ≡ false
none_lives j low lt zero = refl
none_lives j low lt (suc zero) = ne_eqb j 21 (λ e. omega (arith, e, lt))
none_lives j low lt (suc (suc zero)) = refl
none_lives j low lt (suc (suc (suc zero))) = refl
none_lives j low lt (suc (suc (suc (suc zero)))) = ne_eqb j 0 (λ e. omega (arith, e, low))
none_lives j low lt (suc (suc (suc (suc (suc y))))) = ne_eqb j 25 (λ e. omega (arith, e, lt))

-- what lives in registers has homes as the laws ask for them
placed_homes : Homes placed
placed_homes = record { link = refl; home = home } where
  home_apart : (x : ℕ) → x < 10 → HomeApart placed x
  home_apart x few = record {
    in_slot = refl;
    own = lt-ltb (10 + x) 40 (omega (arith, few));
    places = none_lives (10 + x) (omega arith) (omega (arith, few));
    homes = λ y s n. ne_eqb (10 + x) (10 + y) (λ e. n (omega (arith, e)));
  }

  home : (x : ℕ) → is_slot (in_registers x) ≡ false → HomeApart placed x
  home zero s = home_apart 0 (omega arith)
  home (suc zero) s = absurd (cc)
  home (suc (suc zero)) s = home_apart 2 (omega arith)
  home (suc (suc (suc zero))) s = home_apart 3 (omega arith)
  home (suc (suc (suc (suc zero)))) s = absurd (cc)
  home (suc (suc (suc (suc (suc x))))) s = absurd (cc)

-- what lives in registers is stored at the head, and what is restored is loaded behind the call; variable 4 lives in a slot
abbrev saving : Expression
saving = save (0 ∷ 2 ∷ 4 ∷ 3 ∷ []) (sequence (call (applied 0 (held_in 4) []) (2 ∷ 4 ∷ 0 ∷ [])) (return (perform (operation.Operand (held_in 2)))))

saving_layout : lay placed saving no_region 0 None [] ≡
    Mark (mark.Save 0) ∷ Copy (Slot 10) (Reg 15) ∷ Mark (mark.Save 2) ∷ Copy (Slot 12) (Reg 3) ∷ Mark (mark.Save 3)
    ∷ Copy (Slot 13) (Reg 14) ∷ Do (operation.Operand (held_in (Slot 0))) ∷ Mark mark.Temp ∷ Store (Slot 1)
    ∷ Copy (Reg 14) (Slot 1) ∷ Mark (mark.Call 0) ∷ Call false 0 ∷ Mark (mark.Restore 2) ∷ Copy (Reg 3) (Slot 12)
    ∷ Mark (mark.Restore 0) ∷ Copy (Reg 15) (Slot 10) ∷ Do (operation.Operand (held_in (Reg 3))) ∷ Mark mark.Return ∷ Return ∷ []
saving_layout = refl

-- variable 3 is bound inside the region, and stored there and not at the head; 4 lives in a slot, and 5 is in no region
bound_layout : lay placed (save (3 ∷ 2 ∷ 4 ∷ []) (bind 3 (perform (operation.Operand (number 1))) (bind 4 (perform (operation.Operand (number 2))) (bind 5 (perform (operation.Operand (number 3))) (perform (operation.Operand (held_in 3))))))) no_region 0 None [] ≡
    Mark (mark.Save 2) ∷ Copy (Slot 12) (Reg 3)
    ∷ Do (operation.Operand (number 1)) ∷ Store (Reg 14) ∷ Mark (mark.Save 3) ∷ Copy (Slot 13) (Reg 14)
    ∷ Do (operation.Operand (number 2)) ∷ Mark (mark.Spill 4) ∷ Store (Slot 0) ∷ Do (operation.Operand (number 3)) ∷ Mark (mark.Spill 5) ∷ Store (Slot 25) ∷ Do (operation.Operand (held_in (Reg 14))) ∷ []
bound_layout = refl

-- behind the region nothing is stored where it is bound
behind_layout : lay placed (sequence (save (3 ∷ []) (perform (operation.Operand (held_in 3)))) (bind 3 (perform (operation.Operand (number 1))) (perform (operation.Operand (held_in 3))))) no_region 0 None [] ≡
    Mark (mark.Save 3) ∷ Copy (Slot 13) (Reg 14) ∷ Do (operation.Operand (held_in (Reg 14)))
    ∷ Do (operation.Operand (number 1)) ∷ Store (Reg 14) ∷ Do (operation.Operand (held_in (Reg 14))) ∷ []
behind_layout = refl

-- the members of a group that are in a region of their own or round it are stored behind the group
abbrev grouped : Expression → Expression
grouped = fix (record { at = 2; closure = record { label = 1; fields = [] } } ∷ record { at = 5; closure = record { label = 2; fields = [] } } ∷ record { at = 3; closure = record { label = 3; fields = [] } } ∷ [])

abbrev group_made : Instruction
group_made = Fix (record { at = Reg 3; closure = record { label = 1; fields = [] } } ∷ record { at = Slot 25; closure = record { label = 2; fields = [] } } ∷ record { at = Reg 14; closure = record { label = 3; fields = [] } } ∷ []) (5 ∷ [])

abbrev members_saved : Expression
members_saved = save (3 ∷ []) (save (2 ∷ []) (grouped (perform (operation.Operand (held_in 2)))))

member_layout : lay placed members_saved no_region 0 None [] ≡
    group_made ∷ Mark (mark.Save 2) ∷ Copy (Slot 12) (Reg 3) ∷ Mark (mark.Save 3) ∷ Copy (Slot 13) (Reg 14) ∷ Do (operation.Operand (held_in (Reg 3))) ∷ []
member_layout = refl

-- an arm may have a region of its own
abbrev in_arm : Expression
in_arm = branch (perform (operation.Operand (held_in 4)))
    (save (0 ∷ 2 ∷ []) (sequence (call (applied 0 (held_in 4) []) (2 ∷ 0 ∷ [])) (return (perform (operation.Operand (held_in 2))))))
    (return (perform (operation.Operand (number 1))))

arm_layout : lay placed in_arm no_region 0 None [] ≡
    Do (operation.Operand (held_in (Slot 0))) ∷ IfFalse 0
    ∷ Mark (mark.Save 0) ∷ Copy (Slot 10) (Reg 15) ∷ Mark (mark.Save 2) ∷ Copy (Slot 12) (Reg 3)
    ∷ Do (operation.Operand (held_in (Slot 0))) ∷ Mark mark.Temp ∷ Store (Slot 1) ∷ Copy (Reg 14) (Slot 1) ∷ Mark (mark.Call 0)
    ∷ Call false 0
    ∷ Mark (mark.Restore 2) ∷ Copy (Reg 3) (Slot 12) ∷ Mark (mark.Restore 0) ∷ Copy (Reg 15) (Slot 10)
    ∷ Do (operation.Operand (held_in (Reg 3))) ∷ Mark mark.Return ∷ Return
    ∷ Jump 1 ∷ Label 0 ∷ Do (operation.Operand (number 1)) ∷ Mark mark.Return ∷ Return ∷ Label 1 ∷ []
arm_layout = refl

-- all arguments are set aside before any is handed over
abbrev seven : Expression
seven = tail_call (applied 0 (held_in 4) (held_in 3 ∷ number 1 ∷ number 2 ∷ number 3 ∷ number 4 ∷ number 5 ∷ held_in 4 ∷ []))

seven_layout : lay placed seven no_region 0 None [] ≡
    Do (operation.Operand (held_in (Slot 0))) ∷ Mark mark.Temp ∷ Store (Slot 1) ∷ Mark mark.Temp ∷ Copy (Slot 2) (Reg 14)
    ∷ Do (operation.Operand (number 1)) ∷ Mark mark.Temp ∷ Store (Slot 3) ∷ Do (operation.Operand (number 2)) ∷ Mark mark.Temp
    ∷ Store (Slot 4) ∷ Do (operation.Operand (number 3)) ∷ Mark mark.Temp ∷ Store (Slot 5) ∷ Do (operation.Operand (number 4))
    ∷ Mark mark.Temp ∷ Store (Slot 6) ∷ Do (operation.Operand (number 5)) ∷ Mark mark.Temp ∷ Store (Slot 7)
    ∷ Do (operation.Operand (held_in (Slot 0))) ∷ Mark mark.Temp ∷ Store (Slot 8) ∷ Copy (Reg 14) (Slot 1)
    ∷ Copy (Reg 3) (Slot 2) ∷ Copy (Reg 8) (Slot 3) ∷ Copy (Reg 9) (Slot 4) ∷ Copy (Reg 10) (Slot 5) ∷ Copy (Reg 6) (Slot 6)
    ∷ Copy (Reg 7) (Slot 7) ∷ Do (operation.Operand (held_in (Slot 8))) ∷ Mark mark.Argument ∷ Store (Slot 0)
    ∷ Mark (mark.Tail 0) ∷ Tail false 7 ∷ []
seven_layout = refl

-- a call's value is tested behind what is restored
tested_layout : lay placed (branch (call (applied 0 (held_in 4) []) (3 ∷ [])) (perform (operation.Operand (held_in 3))) (perform (operation.Operand (number 1)))) no_region 0 None [] ≡
    Do (operation.Operand (held_in (Slot 0))) ∷ Mark mark.Temp ∷ Store (Slot 1) ∷ Copy (Reg 14) (Slot 1) ∷ Mark (mark.Call 0)
    ∷ Call false 0 ∷ Mark (mark.Restore 3) ∷ Copy (Reg 14) (Slot 13) ∷ IfFalse 0 ∷ Do (operation.Operand (held_in (Reg 14)))
    ∷ Jump 1 ∷ Label 0 ∷ Do (operation.Operand (number 1)) ∷ Label 1 ∷ []
tested_layout = refl

-- Where variables 2 and 4 have a procedure and each call gives an unspecified value, the region ends with what variable 2
-- has, and so does its layout. It leaves marks that the reading of the tree does not: these are known by its paths.
abbrev gives_nothing : Callee
gives_nothing self p arguments depth w = Some (gives unspecified w)

abbrev pub gives_first : Callee
gives_first self p [] depth w = None
gives_first self p (v ∷ vs) depth w = Some (gives v w)

abbrev pub begun : World
begun = control_run.starting_world straight_program.statics (1 ∷ []) 4096 [] 1

abbrev pub variables : Environment
variables zero = Some unspecified
variables (suc (suc zero)) = Some (procedure 0)
variables (suc (suc (suc zero))) = Some unspecified
variables (suc (suc (suc (suc zero)))) = Some (procedure 0)
variables x = None

abbrev places : Place → Cell
places (Reg r) = cond (nat_eq r 15) Link (cond (nat_eq r 3) (Is (procedure 0)) (cond (nat_eq r 14) (Is unspecified) Junk))
places (Slot j) = cond (nat_eq j 0) (Is (procedure 0)) Junk

abbrev pub holding : Frame
holding = record { accumulator = Junk; places = places; outgoing = λ k. Junk }

abbrev body_does : Callee → Expression → Result
body_does callee e = do_body (unmarked_reading placed) callee 1 e variables begun

abbrev layout_does : Callee → Expression → Result
layout_does callee e = execute_each callee 1 (lay placed e no_region 0 None []) None holding begun

abbrev wrong_both : Expression → Type 0
wrong_both e = (body_does gives_nothing e ≡ None) × (layout_does gives_nothing e ≡ None)

-- the body has the marks of calls and returns alone
abbrev given_both : Callee → Expression → Value → (marks laid : List MarkKind) → Type 0
given_both callee e v marks laid =
    (value_and_marks (body_does callee e) ≡ Some (v, marks)) × (value_and_marks (layout_does callee e) ≡ Some (v, laid))

abbrev only_call : List MarkKind
only_call = mark.Call 0 ∷ mark.Return ∷ []

saving_does : given_both gives_nothing saving (procedure 0) only_call
    (mark.Save 0 ∷ mark.Save 2 ∷ mark.Save 3 ∷ mark.Temp ∷ mark.Call 0 ∷ mark.Restore 2 ∷ mark.Restore 0 ∷ mark.Return ∷ [])
saving_does = (refl, refl)

-- a call loses what lives in registers, and this restores it
abbrev behind_call : (restores : List ℕ) → Expression
behind_call restores = sequence (call (applied 0 (held_in 4) []) restores) (return (perform (operation.Operand (held_in 3))))

-- what is bound inside a region is saved there under a mark, and so are the members of a group; one lives in a slot and is spilled
bound_does : given_both gives_nothing (save (3 ∷ 0 ∷ []) (bind 3 (perform (operation.Operand (held_in 2))) (behind_call (0 ∷ 3 ∷ []))))
    (procedure 0) only_call (mark.Save 0 ∷ mark.Save 3 ∷ mark.Temp ∷ mark.Call 0 ∷ mark.Restore 0 ∷ mark.Restore 3 ∷ mark.Return ∷ [])
bound_does = (refl, refl)

group_does : given_both gives_nothing (save (3 ∷ 0 ∷ []) (save (2 ∷ []) (grouped (behind_call (3 ∷ 0 ∷ 2 ∷ [])))))
    (procedure 3) only_call (mark.Save 0 ∷ mark.Spill 5 ∷ mark.Save 2 ∷ mark.Save 3 ∷ mark.Temp ∷ mark.Call 0 ∷ mark.Restore 3 ∷ mark.Restore 0 ∷ mark.Restore 2 ∷ mark.Return ∷ [])
group_does = (refl, refl)

arm_does : given_both gives_nothing in_arm (procedure 0) only_call (mark.Save 0 ∷ mark.Save 2 ∷ mark.Temp ∷ mark.Call 0 ∷ mark.Restore 2 ∷ mark.Restore 0 ∷ mark.Return ∷ [])
arm_does = (refl, refl)

-- the first operand is what R14 has before the operator is there
first_does :
    given_both gives_first seven unspecified (mark.Tail 0 ∷ [])
    (mark.Temp ∷ mark.Temp ∷ mark.Temp ∷ mark.Temp ∷ mark.Temp ∷ mark.Temp ∷ mark.Temp ∷ mark.Temp ∷ mark.Argument ∷ mark.Tail 0 ∷ [])
    × given_both gives_first (save (0 ∷ []) (bind 5 (call (applied 0 (held_in 4) (held_in 3 ∷ held_in 2 ∷ [])) (0 ∷ [])) (return (perform (operation.Operand (held_in 5))))))
    unspecified only_call (mark.Save 0 ∷ mark.Temp ∷ mark.Temp ∷ mark.Temp ∷ mark.Call 0 ∷ mark.Restore 0 ∷ mark.Spill 5 ∷ mark.Return ∷ [])
first_does = ((refl, refl), (refl, refl))

-- what is not restored is not there behind the call
lost_rows :
    wrong_both (save (0 ∷ 2 ∷ []) (sequence (call (applied 0 (held_in 4) []) (0 ∷ [])) (return (perform (operation.Operand (held_in 2))))))
    × wrong_both (save (0 ∷ 2 ∷ []) (sequence (call (applied 0 (held_in 4) []) (2 ∷ [])) (return (perform (operation.Operand (held_in 2))))))
lost_rows = ((refl, refl), (refl, refl))

-- the tree that is laid out with a slot for each variable
twice_tree : saved_tree true twice.expression ≡
    save (0 ∷ []) (bind 4 (call (applied 0 (held_in 2) (held_in 3 ∷ [])) (0 ∷ [])) (tail_call (applied 1 (held_in 2) (held_in 4 ∷ []))))
twice_tree = refl

-- ## Programs

-- (display (f 7)), where f is (lambda (n) (- ((lambda () (- n 2))) n)): the inner call is not in tail position
abbrev pub calling : control.Source
calling = program []
    (form 4 (bind 2 (perform (operation.MakeClosure (record { label = 1; fields = [] }))) (bind 3 (call (applied 0 (held_in 2) (number 7 ∷ [])) []) (end (perform (operation.Prim 1 Put (held_in 3 ∷ []))))))
    ∷ lambda 1 0 5 (bind 3 (perform (operation.MakeClosure (record { label = 2; fields = source.Atom (Variable 2) ∷ [] }))) (bind 4 (call (applied 2 (held_in 3) []) []) (return (perform (operation.Prim 3 Subtract (held_in 4 ∷ held_in 2 ∷ []))))))
    ∷ lambda 0 1 3 (bind 2 (perform (operation.Field 1 0)) (return (perform (operation.Prim 4 Subtract (held_in 2 ∷ number 2 ∷ [])))))
    ∷ []) (2 ∷ 1 ∷ 1 ∷ 2 ∷ 2 ∷ []) ([] ∷ (0 ∷ []) ∷ [] ∷ (0 ∷ []) ∷ (0 ∷ []) ∷ [])

calling_runs : Both calling 2 2 (seen (signed_decimal (negsuc 1)) 2 32 (ended 0))
calling_runs = (refl, refl)

-- at depth 1 the second call stops with 72, and with one entry it goes on
calling_stops : Both calling 1 2 (seen [] 1 32 (ended 72))
calling_stops = (refl, refl)

calling_goes_on : Both calling 2 1 (seen [] 1 32 going)
calling_goes_on = (refl, refl)

calling_valid : both_valid calling ≡ true
calling_valid = refl

-- a procedure of seven formals that calls itself in tail position as often as its first says, and gives its seventh
abbrev looping : control.Source
looping = program []
    (form 4 (bind 2 (perform (operation.MakeClosure (record { label = 1; fields = [] })))
    (bind 3 (call (applied 0 (held_in 2) (number 3 ∷ number 1 ∷ number 2 ∷ number 3 ∷ number 4 ∷ number 5 ∷ operand.Atom (Constant (Boolean true)) ∷ [])) []) (end (perform (operation.Prim 1 Put (held_in 3 ∷ []))))))
    ∷ lambda 7 0 10 (branch (perform (operation.Prim 2 Equal (held_in 2 ∷ number 0 ∷ []))) (return (perform (operation.Operand (held_in 8))))
    (bind 9 (perform (operation.Prim 3 Subtract (held_in 2 ∷ number 1 ∷ []))) (tail_call (applied 4 (held_in 1) (held_in 9 ∷ held_in 3 ∷ held_in 4 ∷ held_in 5 ∷ held_in 6 ∷ held_in 7 ∷ held_in 8 ∷ [])))))
    ∷ []) (8 ∷ 1 ∷ 2 ∷ 2 ∷ 8 ∷ []) ([] ∷ (0 ∷ []) ∷ [] ∷ [] ∷ (1 ∷ []) ∷ [])

looping_runs : Both looping 1 4 (seen (codes "#t") 4 16 (ended 0))
looping_runs = (refl, refl)

looping_valid : both_valid looping ≡ true
looping_valid = refl

-- a procedure is made, and is the same object as itself; none is entered
abbrev pub covered : control.Source
covered = program []
    (form 3 (fix (record { at = 2; closure = record { label = 1; fields = source.Atom (Variable 2) ∷ [] } } ∷ [])
    (end (perform (operation.Prim 0 Put (operand.Read 1 Eq (Variable 2 ∷ Variable 2 ∷ []) ∷ [])))))
    ∷ lambda 1 1 3 (return (perform (operation.Field 1 0)))
    ∷ []) (1 ∷ 2 ∷ []) ([] ∷ [] ∷ [])

covered_runs : Both covered 1 1 (seen (codes "#t") 0 16 (ended 0))
covered_runs = (refl, refl)

covered_valid : both_valid covered ≡ true
covered_valid = refl

covered_rows :
    (control_covered.is_covered_program covered ≡ true)
    × (is_covered_program (framed covered) ≡ true)
    × (control_covered.is_covered_program calling ≡ true)
    × (is_covered_program (framed calling) ≡ true)
    × (is_covered_program (framed looping) ≡ true)
    × (control_covered.is_covered_program (program [] (twice ∷ []) [] []) ≡ true)
    × (is_covered_code (slots_code twice) ≡ true)
covered_rows = (refl, refl, refl, refl, refl, refl, refl)

-- a list is spread, an operand is a literal, or a list of operands is taken
abbrev spreading : control.Code
spreading = lambda 2 0 4 (tail_call (record { site = 0; spread = true; operator = held_in 2; operands = held_in 3 ∷ [] }))

abbrev with_literal : control.Code
with_literal = lambda 1 0 3 (tail_call (applied 0 (held_in 2) (operand.Atom (Literal 0) ∷ [])))

abbrev with_rest : control.Code
with_rest = record { name = []; entry = Some (record { formals = 1; rest = true; fields = 0 }); variables = 3; expression = return (perform (operation.Operand (number 1))) }

with_objects_rows :
    (map control_covered.is_covered_code (spreading ∷ with_literal ∷ with_rest ∷ []) ≡ false ∷ are_literals_covered ∷ are_lists_covered ∷ [])
    × (map is_covered_code (slots_code spreading ∷ slots_code with_literal ∷ slots_code with_rest ∷ []) ≡ false ∷ are_literals_covered ∷ are_lists_covered ∷ [])
with_objects_rows = (refl, refl)

-- ## Sizes: two calls of one operand each; formals past the sixth, operands of a call; a list is spread

size_rows :
    (expression_size twice.expression ≡ 7)
    × (instructions_size (slots_layout twice) ≡ 10)
    × (copies_of (slots_layout twice) ≡ 14)
    × (most_operands (bind 3 (call (applied 0 (held_in 2) eight) []) (tail_call (applied 1 (held_in 2) (number 1 ∷ [])))) ≡ 8)
    × (slots_words twice ≡ 7)
    × (slots_words (lambda 9 0 11 (return (perform (operation.Operand (held_in 10))))) ≡ 15)
    × (slots_words (lambda 1 0 4 (tail_call (applied 0 (held_in 2) eight))) ≡ 13)
    × (most_words (twice ∷ lambda 1 0 4 (tail_call (applied 0 (held_in 2) eight)) ∷ form 2 (end (perform (operation.Operand (number 1)))) ∷ []) ≡ 13)
    × (most_words (spreading ∷ twice ∷ []) ≡ 216)
    × (most_variables (lambda 1 0 4 (tail_call (applied 0 (held_in 2) eight)) ∷ twice ∷ form 2 (end (perform (operation.Operand (number 1)))) ∷ []) ≡ 5)
size_rows = (refl, refl, refl, refl, refl, refl, refl, refl, refl, refl)

-- ## Sizes: of (display (if (eq? x 7) x 7)) with its atoms and the test that is an operand, and of its layout

abbrev chosen : Expression
chosen = branch (perform (operation.Operand (operand.Read 0 Eq (Variable 2 ∷ (Constant (Fixnum (pos 7)) ∷ []))))) (perform (operation.Operand (held_in 2))) (perform (operation.Operand (number 7)))

abbrev displays : control.Code
displays = form 4 (end (bind 3 chosen (perform (operation.Prim 1 Put (held_in 3 ∷ [])))))

chosen_rows :
    (expression_size chosen ≡ 9)
    × (expression_size displays.expression ≡ 13)
    × (instructions_size (slots_layout displays) ≡ 13)
    × (most_words (displays ∷ []) ≡ 5)
chosen_rows = (refl, refl, refl, refl)

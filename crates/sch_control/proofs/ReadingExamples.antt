-- Worked rows: the marks that a run leaves, and what is saved inside regions.
use Rattle.std.proofs.Common.{◌≡◌, refl, ℕ, Bool, true, false, List, [], ◌∷◌, Option, Some, None}
use Rattle.std.specs.Prelude.{not, nat_eq, ◌||◌, cond}
use Rattle.sch_word.specs.declared.primitive.Primitive.TheVariants.{IsNull}
use Rattle.sch_word.specs.values.Values.{Value, procedure}
use Rattle.sch_word.specs.runs.Computation.{gives}
use Rattle.sch_word.specs.declared.mark.MarkKind.{MarkKind}
use Rattle.sch_word.specs.declared.mark.MarkKind.TheVariants.{Enter, Save, Restore, Spill, Temp, Argument, Call, Return, Tail}
use Rattle.sch_control.specs.declared.operation.Operation.TheVariants as operation
use Rattle.sch_control.specs.Tree.{Expression, perform, bind, branch, fix, call, tail_call, return, save}
use Rattle.sch_control.specs.Meaning.{Reading, do_body, entry_environment}
use Rattle.sch_control.specs.Run.{outcome_of, bodies_of, starting_world}
use Rattle.sch_control.specs.Valid.{entries_of}
use Rattle.sch_control.proofs.Examples.{truth, held_in, applied, at_start, looping, value_and_marks}

-- ## Regions

-- A call keeps nothing; variables 3 and 5 are stored as they are bound; variable 2 is saved and restored
-- without marks; an argument is put aside before the call at site 0, and one is stored before that at site 1.
abbrev moving : ℕ → List MarkKind
moving site = cond (nat_eq site 0) (Temp ∷ []) (Argument ∷ [])

abbrev spilling : ℕ → Bool
spilling x = nat_eq x 3 || nat_eq x 5

abbrev reading : Reading
reading = record { keeps = λ x. false; spills = spilling; is_marked = λ x. not (nat_eq x 2); moves = moving }

-- Of what the two regions save, variables 3 and 4 are bound inside: one by itself, one in a group. After
-- the call, each is what was saved of it as it was bound.
abbrev inside_regions : Expression
inside_regions =
    save (0 ∷ 3 ∷ []) (save (2 ∷ 4 ∷ []) (bind 3 (perform (operation.Operand (truth true)))
    (fix (record { at = 4; closure = record { label = 0; fields = [] } } ∷ [])
    (bind 5 (call (applied 0 (held_in 2) []) (0 ∷ 2 ∷ 3 ∷ 4 ∷ []))
    (branch (perform (operation.Prim 2 IsNull (held_in 3 ∷ []))) (return (perform (operation.Operand (held_in 5))))
    (tail_call (applied 1 (held_in 4) (held_in 2 ∷ held_in 5 ∷ []))))))))

-- done with procedures that each give themselves
region_marks :
    value_and_marks (do_body reading (λ self p vs depth w. Some (gives self w)) 1 inside_regions
    (entry_environment (procedure 0) (procedure 0 ∷ [])) at_start)
    ≡ Some (procedure 1, Save 0 ∷ Spill 3 ∷ Save 3 ∷ Save 4 ∷ Temp ∷ Call 0 ∷ Restore 0 ∷ Restore 3 ∷ Restore 4 ∷ Spill 5 ∷ Argument ∷ Tail 1 ∷ [])
region_marks = refl

-- ## A whole program: the form, its call, and a loop of tail calls

abbrev marks_of : Option (Value × List MarkKind) → Option (List MarkKind)
marks_of None = None
marks_of (Some (v, marks)) = Some marks

program_marks :
    marks_of (value_and_marks (outcome_of (entries_of looping.bodies) (bodies_of looping.bodies) 1 3
    (starting_world looping.statics looping.library 4096 [] 3)))
    ≡ Some (Enter 0 ∷ Call 0 ∷ Enter 1 ∷ Tail 4 ∷ Enter 2 ∷ Tail 7 ∷ Enter 1 ∷ Return ∷ [])
program_marks = refl

-- The layout of a placed body does what the body does, and names what it names.
use Rattle.std.proofs.Common.{◌≡◌, List, [], ◌∷◌, Option, None, refl, sym, ap, ◌∙◌, subst, arith, inl, inr}
use Rattle.sch_word.specs.declared.place.Place.{Place}
use Rattle.sch_control.specs.declared.body.Entry.{Entry}
use Rattle.sch_control.specs.Meaning.{do_body, no_region, plain}
use Rattle.sch_control.specs.Run as control_run
use Rattle.sch_control.specs.Tree as control
use Rattle.sch_control.specs.Tree.{Expression, perform, bind, sequence, branch, fix, call, tail_call, return, end, save}
use Rattle.sch_control.specs.Valid.{Tests, each_part}
use Rattle.sch_control.specs.flow.Bare.{erased}
use Rattle.sch_control.specs.flow.Middle.{silent}
use Rattle.sch_frames.specs.Does.{EndsAs, FrameOf, world}
use Rattle.sch_word.specs.values.Places.{is_slot}
use Rattle.sch_frames.specs.Meaning.{beginning, execute_each}
use Rattle.sch_frames.specs.Valid.{instruction_known}
use Rattle.sch_layout.specs.BodyLayout.{arguments_at, entering, lay}
use Rattle.sch_layout.specs.Laws.{Behind, Uses}
use Rattle.sch_layout.specs.Moves.{EachMove}
use Rattle.sch_layout.proofs.does.PlacedBodies.{body_does}
use Rattle.sch_layout.proofs.layouts.InstructionTests.{Taken, Takes, entering_passes, known_steers, lay_passes, parts_named, unplaced_carries, unplaced_known, length_operands}
use Rattle.sch_layout.proofs.layouts.VariablesUsed.{code_uses, numbered_is}
use Rattle.sch_paths.specs.Conditions.{Fresh}
use Rattle.sch_control.specs.flow.Live.{nothing_later}
use Rattle.sch_paths.proofs.runs.RestoresAreEnough.{valid_fresh}
use Rattle.sch_paths.proofs.runs.SameWithoutMarks.{silently}
use Rattle.sch_shuffle.specs.Greedy.{acts, all_choices}
use Rattle.sch_shuffle.proofs.SetAside.{acts_used}
use Rattle.sch_homes.specs.CallMoves.{call_arguments, call_free, call_targets}
use Rattle.sch_homes.specs.Homes.{homes_code, homes_end, homes_plan, place}
use Rattle.sch_homes.specs.Laws.{IsPlaced}
use Rattle.sch_paths.specs.EachSoonRestored.{EachSoonRestored}
use Rattle.sch_homes.proofs.CallLists.{trees_length}
use Rattle.sch_homes.proofs.FrameRoom.{uses_erased}
use Rattle.sch_homes.proofs.HomesPlaced.{homes_placed}
use Rattle.sch_homes.proofs.ShuffledMoves.{argument_there, each_act, moves_back}
use Rattle.sch_homes.proofs.SoonSaved.{soon_restored, soon_saved}

-- parts are tested alike without regions and restores
pub each_erased : (tests : Tests) (e : Expression) → each_part tests (erased e) ≡ each_part tests e
each_erased tests (perform o) = refl
each_erased tests (bind x a b) = rw (each_erased tests a, each_erased tests b) refl
each_erased tests (sequence a b) = rw (each_erased tests a, each_erased tests b) refl
each_erased tests (branch a b c) = rw (each_erased tests a, each_erased tests b, each_erased tests c) refl
each_erased tests (fix members e) = rw (each_erased tests e) refl
each_erased tests (call a restores) = refl
each_erased tests (tail_call a) = refl
each_erased tests (return e) = each_erased tests e
each_erased tests (end e) = each_erased tests e
each_erased tests (save saves e) = each_erased tests e

-- each move takes an argument of its call, or what a place holds
pub homes_takes : (entry : Option Entry) (e : Expression) (places : List Place) → Takes (homes_plan entry e places)
homes_takes entry e places tail a =
    let os = arguments_at (place entry e places) a in
    let args = call_arguments (place entry e places) a in
    let to = call_targets tail a in
    let free = call_free (homes_end entry e places) (place entry e places) tail a in
    let many = trees_length (place entry e places) a in
    let l = length_operands (place entry e places) (a.operator ∷ a.operands) in
    subst (EachMove (λ m. Taken (arguments_at (place entry e places) a) m.from)) (sym (moves_back os to (acts free (all_choices args to))))
    (each_act os to (λ m. Taken (arguments_at (place entry e places) a) m.from) (λ p. Unit {0})
    (λ k lt. inl (k, argument_there os k (omega (arith, lt, many, l))))
    (λ k p lt t. inl (k, argument_there os k (omega (arith, lt, many, l)))) (λ k p q lt t s. inr (p, refl)) (λ k p lt t. inr (p, refl))
    (acts free (all_choices args to)) (acts_used args to free (λ p. Unit {0}) (λ v lt. tt)))

pub frame_does : (c : control.Code) (e : Expression) (places : List Place) → IsPlaced c e places → EachSoonRestored e → FrameOf c (homes_code c.entry e places)
frame_does c e places p soon = record {
  entry = refl;
  does = λ callee callee' follow depth self arguments l s marks marks'.
      subst (λ r. EndsAs r (execute_each callee' depth (entering (homes_plan c.entry e places) c.entry
      (lay (homes_plan c.entry e places) e no_region 0 None [])) None (beginning c.entry self arguments) (world s marks')))
      (sym (subst (λ z. do_body plain callee depth z (control_run.beginning c.entry self arguments) (world s marks)
      ≡ do_body (silent (λ x. is_slot ((homes_plan c.entry e places).place x))) callee depth e (control_run.beginning c.entry self arguments) (world s marks)) p.body
      (silently (λ x. is_slot ((homes_plan c.entry e places).place x)) callee depth no_region e
      (soon_saved (λ x. is_slot ((homes_plan c.entry e places).place x)) e p.saved soon fresh)
      (soon_restored (λ x. is_slot ((homes_plan c.entry e places).place x)) e soon) fresh (control_run.beginning c.entry self arguments)
      (world s marks))))
      (body_does (homes_plan c.entry e places) c.entry e (homes_placed c e places p).0 uses callee callee' follow depth self arguments l s marks marks');
  names = λ names h.
      entering_passes (homes_plan c.entry e places) (instruction_known names) (known_steers names) c.entry (λ x lt e. refl) _
      (lay_passes (homes_plan c.entry e places) (instruction_known names) (known_steers names)
      (unplaced_carries (homes_plan c.entry e places) (instruction_known names) (known_steers names) (unplaced_known names)) e
      (parts_named (homes_plan c.entry e places) (homes_takes c.entry e places) names e (sym (each_erased _ e) ∙ (ap (each_part _) p.body ∙ h))) no_region 0 None [] refl);
} where
  fresh : Fresh e nothing_later
  fresh = valid_fresh c e p.body p.scoped p.numbers

  uses : Uses Behind e
  uses = uses_erased Behind e (subst (Uses Behind) (sym p.body) (code_uses Behind c (λ x h. h.0) p.scoped (numbered_is c p.numbers)))

-- The activations of a machine that have ended have passed the marks on one way through their bodies.
use Rattle.std.proofs.Common.{◌≡◌, ℕ, List, Some, None, true, refl, subst}
use Rattle.std.specs.List.{flat_map, list_all}
use Rattle.sch_word.specs.declared.answer.Answer.{Answer}
use Rattle.sch_word.specs.runs.Computation.{gives, spent, stops}
use Rattle.sch_word.specs.runs.Runs.{Run}
use Rattle.sch_word.specs.values.Memory.{Segment}
use Rattle.sch_control.specs.Meaning.{Result}
use Rattle.sch_control.specs.Run.{outcome_of, seen_of, starting_world}
use Rattle.sch_frames.specs.Covered.{is_covered_code}
use Rattle.sch_frames.specs.Run.{bodies_of, entries_of}
use Rattle.sch_frames.specs.Standing.{all_marks_stand}
use Rattle.sch_frames.specs.Tree.{Code, Source}
use Rattle.sch_insn.specs.Behaves.{start}
use Rattle.sch_insn.specs.Path.{traced}
use Rattle.sch_asm.specs.declared.assembly.Word.{Word}
use Rattle.sch_asm.specs.declared.item.Item.{Item}
use Rattle.sch_word.specs.declared.mark.MarkKind.{MarkKind}
use Rattle.sch_frames.proofs.Turns.{Sound, beginning_ways}
use Rattle.sch_frames.proofs.OwnWays.{Ends, own_ways}
use Rattle.sch_select.specs.Follows.{AreRuns, PassesFrames, TakesFrames}
use Rattle.sch_select.specs.Marks.{PassesMarks, TakesWays, marks_of, marks_passed}

-- a result that is seen has passed marks
marks_there : (answers : List Answer) (m : ℕ) (result : Result) (r : Run) → seen_of answers m result ≡ Some r → (marks : List MarkKind) × (marks_of result ≡ Some marks)
marks_there answers m None r e = absurd (let bad : None ≡ Some r = e in cc)
marks_there answers m (Some (gives v w)) r e = (w.marks, refl)
marks_there answers m (Some (stops why w)) r e = (w.marks, refl)
marks_there answers m (Some (spent w)) r e = (w.marks, refl)

sound_marks : (codes : List Code) (result : Result) (marks : List MarkKind) → Ends codes (Sound codes) result → marks_of result ≡ Some marks → Sound codes marks
sound_marks codes None marks h e = absurd (let bad : None ≡ Some marks = e in cc)
sound_marks codes (Some (gives v w)) marks h e = let i : w.marks ≡ marks = cc in subst (Sound codes) i h
sound_marks codes (Some (stops why w)) marks h e = let i : w.marks ≡ marks = cc in subst (Sound codes) i h
sound_marks codes (Some (spent w)) marks h e = let i : w.marks ≡ marks = cc in subst (Sound codes) i h

module _ (p : Source) (heap depth : ℕ) (covered : list_all is_covered_code p.bodies ≡ true) where
  takes_ways : (entry : ℕ) (segments : List Segment) (marks_at : ℕ → List MarkKind) (runs : List Answer → ℕ → Run) → PassesMarks entry segments marks_at (marks_passed p heap depth)
      → AreRuns p heap depth runs → all_marks_stand p.bodies ≡ true → TakesWays entry segments marks_at p.bodies
  takes_ways entry segments marks_at runs passes are stand = record {
    ways = λ g answers m.
        let result = outcome_of (entries_of p.bodies) (bodies_of p.bodies) depth m (starting_world p.statics p.library heap answers m) in
        let there = marks_there answers m result (runs answers m) (are.are answers m) in
        let begins = passes.along g answers m there.0 there.1 in
        let passed = flat_map marks_at (traced m (start entry segments g answers)).trace in
        let whole = sound_marks p.bodies result there.0 (own_ways p covered stand heap depth answers m) there.1 in
        beginning_ways p.bodies passed begins.rest there.0 begins.whole whole;
  }

  -- what passes the marks of a program takes ways through its bodies
  pub takes_frames : (items : List Item) (data_words : List Word) (zeros : ℕ) → PassesFrames p heap depth items data_words zeros → TakesFrames p heap depth items data_words zeros
  takes_frames items data_words zeros h = record {
    takes = λ routines code marks words front effective arrive arrive' r valid small runs are stand.
        takes_ways _ _ _ runs (h.passes routines code marks words front effective arrive arrive' r valid small) are stand;
  }

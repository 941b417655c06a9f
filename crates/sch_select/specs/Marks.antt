-- The marks that the run of a frame program passes, and those that its machine passes.
use Rattle.std.specs.Prelude.{◌≡◌, ℕ, Bool, false, nat_eq, slice_get, List, ◌++◌, Option, Some, None}
use Rattle.std.specs.List.{count_by, flat_map}
use Rattle.sch_word.specs.declared.answer.Answer.{Answer}
use Rattle.sch_word.specs.values.Memory.{Segment}
use Rattle.sch_word.specs.runs.Computation.{gives, stops, spent}
use Rattle.sch_control.specs.Meaning.{Result}
use Rattle.sch_control.specs.declared.body.Entry.{Entry}
use Rattle.sch_control.specs.Run.{entry_at, outcome_of, starting_world}
use Rattle.sch_frames.specs.Tree.{Code, Source}
use Rattle.sch_frames.specs.Run.{bodies_of, entries_of}
use Rattle.sch_insn.specs.Behaves.{Given, exit_of, start}
use Rattle.sch_insn.specs.Path.{traced}
use Rattle.sch_word.specs.declared.mark.MarkKind.{MarkKind}
use Rattle.sch_word.specs.declared.mark.MarkKind.TheVariants as item_mark
use Rattle.sch_frames.specs.Valid.{is_entered}
use Rattle.sch_word.specs.runs.Runs.{Run}
use Rattle.sch_word.specs.runs.Activations.{activations}
use Rattle.sch_frames.specs.Ways.{AreWays}

-- what a result has passed
abbrev pub marks_of : Result → Option (List MarkKind)
marks_of None = None
marks_of (Some (gives v w)) = Some w.marks
marks_of (Some (stops why w)) = Some w.marks
marks_of (Some (spent w)) = Some w.marks

-- the marks that a run passes, with limits of heap and depth, against the answers of a kernel and with at most a
-- number of procedure entries; none where the program is wrong
abbrev pub marks_passed : Source → (heap depth : ℕ) → List Answer → (entries : ℕ) → Option (List MarkKind)
marks_passed p heap depth answers entries =
    marks_of (outcome_of (entries_of p.bodies) (bodies_of p.bodies) depth entries
    (starting_world p.statics p.library heap answers entries))

-- ## What a machine passes

-- A beginning may be the whole.
pub record IsBeginning {E : Type 0} (xs ys : List E) : Type 0 where
  pub rest : List E
  pub whole : xs ++ rest ≡ ys

-- A machine that is entered at an address passes the marks of these runs, in their order, each as the instruction
-- of its address begins. In m steps it passes no more than the run with m entries does, and where it has exited it
-- has passed all of them.
pub record PassesMarks (entry : ℕ) (segments : List Segment) (marks_at : ℕ → List MarkKind)
    (passed : List Answer → (entries : ℕ) → Option (List MarkKind)) : Type 0 where
  pub along : (g : Given) (answers : List Answer) (m : ℕ) (marks : List MarkKind)
      → passed answers m ≡ Some marks
      → IsBeginning (flat_map marks_at (traced m (start entry segments g answers)).trace) marks
  pub all : (g : Given) (answers : List Answer) (m : ℕ) (marks : List MarkKind) → passed answers m ≡ Some marks
      → (status : ℕ) (output : List ℕ) → exit_of (traced m (start entry segments g answers)).progress ≡ Some
      (status, output)
      → flat_map marks_at (traced m (start entry segments g answers)).trace ≡ marks

-- ## Entries

abbrev pub enters_procedure : List (Option Entry) → MarkKind → Bool
enters_procedure entries (item_mark.Enter label) = is_entered (entry_at entries label)
enters_procedure entries _ = false

abbrev pub enters_body : (label : ℕ) → MarkKind → Bool
enters_body label (item_mark.Enter l) = nat_eq l label
enters_body label _ = false

-- A machine that has exited has passed as many marks of entries of procedures as its run takes entries. Where the
-- program reached its end, it has passed one of each form.
pub record CountsEntries (entry : ℕ) (segments : List Segment) (marks_at : ℕ → List MarkKind) (entries : List (Option Entry)) (runs : List Answer → (entries : ℕ) → Run) : Type 0 where
  pub procedures : (g : Given) (answers : List Answer) (m status : ℕ) (output : List ℕ) → exit_of (traced m (start entry segments g answers)).progress ≡ Some (status, output)
      → count_by (enters_procedure entries) (flat_map marks_at (traced m (start entry segments g answers)).trace) ≡ (runs answers m).entries
  pub forms : (g : Given) (answers : List Answer) (m : ℕ) (output : List ℕ) → exit_of (traced m (start entry segments g answers)).progress ≡ Some (0, output)
      → (label : ℕ) → slice_get entries label ≡ Some None
      → count_by (enters_body label) (flat_map marks_at (traced m (start entry segments g answers)).trace) ≡ 1

-- ## Ways

-- Whatever a machine has passed in m steps, the own marks of each activation that has ended by a return or a tail call
-- are, in order, those on one way through its body.
pub record TakesWays (entry : ℕ) (segments : List Segment) (marks_at : ℕ → List MarkKind) (bodies : List Code) : Type 0 where
  pub ways : (g : Given) (answers : List Answer) (m : ℕ)
      → AreWays bodies (activations (flat_map marks_at (traced m (start entry segments g answers)).trace)).ended

-- What a program's items and data owe to it.
use Rattle.std.specs.Prelude.{◌≡◌, ℕ, ◌+◌, ◌≤◌, List, [], ◌∷◌, ◌++◌, length, replicate, Some, IsTrue, false}
use Rattle.std.specs.List.{flat_map}
use Rattle.sch_word.specs.declared.answer.Answer.{Answer}
use Rattle.sch_word.specs.runs.ProgramLayout.{max_text_size, text_address}
use Rattle.sch_word.specs.runs.Runs.{Run}
use Rattle.sch_frames.specs.Standing.{all_marks_stand}
use Rattle.sch_frames.specs.Tree.{Source}
use Rattle.sch_frames.specs.Run.{entries_of, run}
use Rattle.sch_insn.specs.declared.insn.Insn.{Insn}
use Rattle.sch_insn.specs.Behaves.{FollowsRuns}
use Rattle.sch_insn.specs.Spelling.{AllValid, spelling}
use Rattle.sch_asm.specs.declared.assembly.Word.{Word}
use Rattle.sch_asm.specs.declared.item.Item.{Item}
use Rattle.sch_asm.specs.declared.item.Mark as mark
use Rattle.sch_asm.specs.Codes.{AreResolved}
use Rattle.sch_asm.specs.Data.{data_at}
use Rattle.sch_asm.specs.Effects.{AreEffective}
use Rattle.sch_asm.specs.Items.{marks_arrive}
use Rattle.sch_asm.specs.Stands.{marks_at}
use Rattle.sch_asm.specs.Views.{text_at}
use Rattle.sch_select_data.specs.Data.{heap_of}
use Rattle.sch_select_memory.specs.ValueCode.{StandInFront}
use Rattle.sch_select.specs.Ends.{EndsWithin}
use Rattle.sch_select.specs.Marks.{CountsEntries, PassesMarks, TakesWays, marks_passed}
use Rattle.sch_select.specs.Sizes.{steps_bound}

-- The runs of a frame program that is never wrong, under limits of heap and depth.
pub record AreRuns (p : Source) (heap depth : ℕ) (runs : List Answer → (entries : ℕ) → Run) : Type 0 where
  pub are : (answers : List Answer) (entries : ℕ) → run p heap depth answers entries ≡ Some (runs answers entries)

-- Resolved with any items that do what the routines do, and in front of which those routines stand that know how values are in
-- the machine, the items are a text that, with the data and the zeros behind them, follows the program's runs.
pub record FollowsFrames (p : Source) (heap depth : ℕ) (items : List Item) (data_words : List Word) (zeros : ℕ) : Type
    0 where
  pub follows : (routines : List Item) (code : List Insn) (marks : List mark.Mark) (words : List ℕ)
      → StandInFront (heap_of p + heap) routines → AreEffective routines → IsTrue (marks_arrive false items) → IsTrue (marks_arrive false routines)
      → AreResolved (items ++ routines) data_words code marks words
      → AllValid code → length (flat_map spelling code) ≤ max_text_size
      → (runs : List Answer → ℕ → Run) → AreRuns p heap depth runs
      → FollowsRuns text_address (text_at (flat_map spelling code) ∷ data_at (words ++ replicate zeros 0) ∷ []) runs

-- Resolved so, the text passes the marks that the program's runs pass, at the addresses that resolution gives.
pub record PassesFrames (p : Source) (heap depth : ℕ) (items : List Item) (data_words : List Word) (zeros : ℕ) : Type
    0 where
  pub passes : (routines : List Item) (code : List Insn) (marks : List mark.Mark) (words : List ℕ)
      → StandInFront (heap_of p + heap) routines → AreEffective routines → IsTrue (marks_arrive false items) → IsTrue (marks_arrive false routines)
      → AreResolved (items ++ routines) data_words code marks words
      → AllValid code → length (flat_map spelling code) ≤ max_text_size
      → PassesMarks text_address (text_at (flat_map spelling code) ∷ data_at (words ++ replicate zeros 0) ∷ [])
      (marks_at marks) (marks_passed p heap depth)

-- Resolved so, the text exits within a bound of steps where a run has ended.
pub record EndsFrames (p : Source) (heap depth : ℕ) (items : List Item) (data_words : List Word) (zeros : ℕ) : Type
    0 where
  pub ends : (routines : List Item) (code : List Insn) (marks : List mark.Mark) (words : List ℕ)
      → StandInFront (heap_of p + heap) routines → AreEffective routines → IsTrue (marks_arrive false items) → IsTrue (marks_arrive false routines)
      → AreResolved (items ++ routines) data_words code marks words
      → AllValid code → length (flat_map spelling code) ≤ max_text_size
      → (runs : List Answer → ℕ → Run) → AreRuns p heap depth runs
      → EndsWithin text_address (text_at (flat_map spelling code) ∷ data_at (words ++ replicate zeros 0) ∷ []) runs
      (steps_bound p)

-- Resolved so, the text passes a mark of an entry for each entry that a run takes.
pub record EntersFrames (p : Source) (heap depth : ℕ) (items : List Item) (data_words : List Word) (zeros : ℕ) : Type 0 where
  pub enters : (routines : List Item) (code : List Insn) (marks : List mark.Mark) (words : List ℕ)
      → StandInFront (heap_of p + heap) routines → AreEffective routines → IsTrue (marks_arrive false items) → IsTrue (marks_arrive false routines)
      → AreResolved (items ++ routines) data_words code marks words
      → AllValid code → length (flat_map spelling code) ≤ max_text_size
      → (runs : List Answer → ℕ → Run) → AreRuns p heap depth runs
      → CountsEntries text_address (text_at (flat_map spelling code) ∷ data_at (words ++ replicate zeros 0) ∷ []) (marks_at marks) (entries_of p.bodies) runs

-- Resolved so, and where each call, return and tail call stands behind its mark, the text takes ways through the bodies.
pub record TakesFrames (p : Source) (heap depth : ℕ) (items : List Item) (data_words : List Word) (zeros : ℕ) : Type 0 where
  pub takes : (routines : List Item) (code : List Insn) (marks : List mark.Mark) (words : List ℕ)
      → StandInFront (heap_of p + heap) routines → AreEffective routines → IsTrue (marks_arrive false items) → IsTrue (marks_arrive false routines)
      → AreResolved (items ++ routines) data_words code marks words
      → AllValid code → length (flat_map spelling code) ≤ max_text_size
      → (runs : List Answer → ℕ → Run) → AreRuns p heap depth runs → IsTrue (all_marks_stand p.bodies)
      → TakesWays text_address (text_at (flat_map spelling code) ∷ data_at (words ++ replicate zeros 0) ∷ []) (marks_at marks) p.bodies

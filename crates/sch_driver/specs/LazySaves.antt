-- What the activations of a machine save and restore.
use Rattle.std.specs.Prelude.{ℕ, false, List, [], ◌∷◌}
use Rattle.std.specs.List.{flat_map}
use Rattle.sch_word.specs.declared.answer.Answer.{Answer}
use Rattle.sch_word.specs.declared.mark.MarkKind.{MarkKind}
use Rattle.sch_word.specs.runs.Activations.{activations}
use Rattle.sch_word.specs.values.Memory.{Segment}
use Rattle.sch_insn.specs.Behaves.{Given, start}
use Rattle.sch_insn.specs.Path.{traced}
use Rattle.sch_layout.specs.OwnMarks.{RestoresAfterCalls, SavesThenCalls}

-- Of each activation: a call of its own follows each save, and each restore comes after a call with only restores between.
abbrev pub AreLazy : List (List MarkKind) → Type 0
AreLazy [] = Unit {0}
AreLazy (own ∷ each) = (SavesThenCalls own × RestoresAfterCalls false own) × AreLazy each

-- So it is, whatever a machine has passed in m steps, of each activation that has ended by a return or a tail call.
pub record SavesLazily (entry : ℕ) (segments : List Segment) (marks_at : ℕ → List MarkKind) : Type 0 where
  pub ended : (g : Given) (answers : List Answer) (m : ℕ)
      → AreLazy (activations (flat_map marks_at (traced m (start entry segments g answers)).trace)).ended

-- What the marks of a path promise: a call behind each save, and restores directly behind calls.
use Rattle.std.specs.Prelude.{◌≡◌, Bool, true, false, ◌||◌, List, [], ◌∷◌}
use Rattle.sch_word.specs.declared.mark.MarkKind.{MarkKind}
use Rattle.sch_word.specs.declared.mark.MarkKind.TheVariants as mark
use Rattle.sch_word.specs.runs.Activations.{is_call}
use Rattle.sch_control.specs.Meaning.{no_region}
use Rattle.sch_control.specs.Tree as control
use Rattle.sch_control.specs.Tree.{Expression}
use Rattle.sch_frames.specs.Tree as frames
use Rattle.sch_frames.specs.Ways.{IsWay}
use Rattle.sch_layout.specs.BodyLayout.{Plan}
use Rattle.sch_layout.specs.Laws.{Laid}
use Rattle.sch_control.specs.flow.Paths.{Event, IsPath, SavesCalled}

abbrev pub has_call : List MarkKind → Bool
has_call [] = false
has_call (m ∷ marks) = is_call m || has_call marks

-- each save is followed by a call
abbrev pub SavesThenCalls : List MarkKind → Type 0
SavesThenCalls [] = Unit {0}
SavesThenCalls (mark.Save x ∷ marks) = (has_call marks ≡ true) × SavesThenCalls marks
SavesThenCalls (_ ∷ marks) = SavesThenCalls marks

-- each restore comes after a call, with only restores between
abbrev pub RestoresAfterCalls : (called : Bool) → List MarkKind → Type 0
RestoresAfterCalls called [] = Unit {0}
RestoresAfterCalls called (mark.Restore x ∷ marks) = (called ≡ true) × RestoresAfterCalls called marks
RestoresAfterCalls called (mark.Call site ∷ marks) = RestoresAfterCalls true marks
RestoresAfterCalls called (_ ∷ marks) = RestoresAfterCalls false marks

-- Of each activation that has ended in a body that is laid out so: where each path of the tree has a call behind each save,
-- every save is followed by a call of its own; and every restore comes after a call with only restores between.
abbrev pub OwnMarksStand : Type 0
OwnMarksStand =
    (codes : List frames.Code) (own : List MarkKind) (way : IsWay codes own)
    → (c : control.Code) (plan : Plan) (e : Expression) → Laid c plan e way.code
    → ((es : List Event) (r : Bool) → IsPath no_region e es r → SavesCalled es)
    → SavesThenCalls own × RestoresAfterCalls false own

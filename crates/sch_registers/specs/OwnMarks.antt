-- The marks of each activation, where it has ended: a call of its own follows each save, and each restore comes after a call
-- with only restores between.
use Rattle.std.specs.Prelude.{◌≡◌, List, false}
use Rattle.sch_word.specs.declared.mark.MarkKind.{MarkKind}
use Rattle.sch_frames.specs.Tree.{Code}
use Rattle.sch_frames.specs.Ways.{IsWay}
use Rattle.sch_layout.specs.OwnMarks.{RestoresAfterCalls, SavesThenCalls}

-- so it is in a body, whatever program it stands in
abbrev pub CallsItsSaves : Code → Type 0
CallsItsSaves code =
    (codes : List Code) (own : List MarkKind) (way : IsWay codes own) → way.code ≡ code → SavesThenCalls own × RestoresAfterCalls false own

-- and in all bodies of a program
abbrev pub EachSaveCalled : List Code → Type 0
EachSaveCalled codes = (own : List MarkKind) → IsWay codes own → SavesThenCalls own × RestoresAfterCalls false own

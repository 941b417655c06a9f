-- What is promised of a body with regions.
use Rattle.std.specs.Prelude.{List, Bool}
use Rattle.sch_control.specs.Meaning.{no_region}
use Rattle.sch_control.specs.Tree.{Expression}
use Rattle.sch_control.specs.flow.Paths.{Event, IsPath, SavesFollowed}

-- from each point of the body where a variable is saved, every path has a call after which it is live
abbrev pub EachSaveFollowed : Expression → Type 0
EachSaveFollowed e = (es : List Event) (r : Bool) → IsPath no_region e es r → SavesFollowed es

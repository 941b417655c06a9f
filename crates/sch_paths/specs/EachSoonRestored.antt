-- What a body with restores owes to a pass that lets calls overwrite registers.
use Rattle.std.specs.Prelude.{false}
use Rattle.sch_control.specs.Tree.{Expression}
use Rattle.sch_control.specs.flow.Live.{nothing_later}
use Rattle.sch_paths.specs.Conditions.{Restored}

-- At each call that some path reaches, each variable that is live after it, and that some path from there references or saves
-- before the next call, is restored.
abbrev pub EachSoonRestored : Expression → Type 0
EachSoonRestored e = Restored (λ x. false) e (Unit {0}) nothing_later nothing_later

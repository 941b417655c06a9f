-- What a body owes to a pass that restores.
use Rattle.std.specs.Prelude.{false}
use Rattle.sch_control.specs.Meaning.{no_region}
use Rattle.sch_control.specs.Tree.{Expression}
use Rattle.sch_control.specs.flow.Live.{nothing_later}
use Rattle.sch_paths.specs.Conditions.{Saved}

-- at each call that some path reaches, each variable that is live after it stands inside a region that saves it
abbrev pub EachLiveSaved : Expression → Type 0
EachLiveSaved e = Saved (λ x. false) e (Unit {0}) no_region nothing_later

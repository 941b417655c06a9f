-- The regions round an expression, as they are met on the way down to it.
use Rattle.std.specs.Prelude.{ℕ, Bool}
use Rattle.sch_control.specs.Meaning.{no_region, with_region}
use Rattle.sch_writer.specs.declared.regions.Regions.{Regions, Nowhere, Within'}

-- which variables they save
abbrev pub inside : Regions → ℕ → Bool
inside Nowhere = no_region
inside (Within' saves p outer) = with_region saves.now (inside outer)

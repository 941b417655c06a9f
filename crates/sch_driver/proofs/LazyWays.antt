-- Activations whose marks are those of ways through bodies save lazily, where each way does.
use Rattle.std.specs.Prelude.{List, [], ◌∷◌}
use Rattle.sch_word.specs.declared.mark.MarkKind.{MarkKind}
use Rattle.sch_frames.specs.Tree.{Code}
use Rattle.sch_frames.specs.Ways.{AreWays}
use Rattle.sch_registers.specs.OwnMarks.{EachSaveCalled}
use Rattle.sch_driver.specs.LazySaves.{AreLazy}

pub lazy_ways : (codes : List Code) → EachSaveCalled codes → (ended : List (List MarkKind)) → AreWays codes ended → AreLazy ended
lazy_ways codes each [] ways = tt
lazy_ways codes each (own ∷ ended) ways = (each own ways.0, lazy_ways codes each ended ways.1)

use Rattle.sch_paths.proofs.runs.RestoresAreEnough.{lazily_saved}
use Rattle.sch_paths.proofs.what_is_live_is_saved.Goals as goal

pub returns : goal.returns
returns _ keeps listed restored same sets lazy = lazily_saved keeps listed restored same sets lazy

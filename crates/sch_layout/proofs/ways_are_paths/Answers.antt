use Rattle.sch_layout.proofs.marks.LaidWays.{ways_are_paths}
use Rattle.sch_layout.proofs.ways_are_paths.Goals as goal

pub returns : goal.returns
returns _ codes own w c plan e laid = ways_are_paths codes own w c plan e laid

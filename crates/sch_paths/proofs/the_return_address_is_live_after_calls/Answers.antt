use Rattle.sch_control.specs.flow.Live.{nothing_later}
use Rattle.sch_paths.proofs.saves.ValidBodies.{procedure_returns}
use Rattle.sch_paths.proofs.the_return_address_is_live_after_calls.Goals as goal

pub returns : goal.returns
returns _ c e is ended numbered = procedure_returns c e is ended numbered (nothing_later 0)

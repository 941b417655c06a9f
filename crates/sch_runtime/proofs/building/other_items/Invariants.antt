use Rattle.std.proofs.Common.{◌≡◌, ◌++◌, [], drop}
use Rattle.sch_runtime.specs.Code.{exits, statuses}
use Rattle.sch_runtime.proofs.building.other_items.Given as goal

abbrev pub invariant-loop-status : goal.invariant-loop-status
invariant-loop-status l = l.items ++ exits (drop l.status-index statuses) [] ≡ exits statuses []

use Rattle.std.proofs.Common.{◌<◌, ◌-◌, ◌^◌}
use Rattle.sch_cli.proofs.generated.run_alone.Given as goal

abbrev pub invariant-rooms : goal.invariant-rooms
invariant-rooms l = 0 < l.room

abbrev pub decreases-rooms : goal.decreases-rooms
decreases-rooms l = 2 ^ 64 - l.room

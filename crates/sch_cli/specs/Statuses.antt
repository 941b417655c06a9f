-- The program's exit statuses.
use Rattle.std.specs.Prelude.{ℕ, ◌==◌, Option, Some, None, if◌then◌else◌}
use Rattle.sch_word.specs.runs.Stops.{status_of, stop_of}
use Rattle.sch_word.specs.declared.stop.Stop.{Stop}
use Rattle.sch_step.specs.declared.ends.RunEnd.{RunEnd}
use Rattle.sch_step.specs.declared.ends.RunEnd.TheVariants as run_end
use Rattle.sch_cli.specs.declared.status.Status.{Status}
use Rattle.sch_cli.specs.declared.status.Status.TheVariants.{Done, Usage, ReadFailed, WriteFailed, BadText, BadForm, Unbound, PastLimit, BadImage, StepsSpent, OutOfMemory, Stopped}

abbrev pub status_number : Status → ℕ
status_number Done = 0
status_number Usage = 1
status_number ReadFailed = 2
status_number WriteFailed = 3
status_number BadText = 4
status_number BadForm = 5
status_number Unbound = 6
status_number PastLimit = 7
status_number BadImage = 8
status_number StepsSpent = 9
status_number OutOfMemory = 10
status_number (Stopped stop) = status_of stop

-- ---- how a run of an image ended

abbrev pub stop_status : Option Stop → Status
stop_status (Some stop) = Stopped stop
stop_status None = BadImage

-- for an image that exited: 0 and a stop's status as they are, and 8 for any other
abbrev pub exit_status : ℕ → Status
exit_status status = if status == 0 then Done else stop_status (stop_of status)

abbrev pub end_status : RunEnd → Status
end_status run_end.Spent = StepsSpent
end_status (run_end.Exited status) = exit_status status
end_status (run_end.Stuck stuck) = BadImage

-- What the disk and the outlet over the host count, and what they tell: nothing.
use Rattle.std.specs.Prelude.{ℕ, List, Option, None}
use Rattle.sch_word.specs.declared.answer.Answer.{Answer}
use Rattle.sch_io.specs.Files.{Files}
use Rattle.sch_io.specs.declared.host_disk.HostDisk.{HostDisk}
use Rattle.sch_io.specs.declared.host_outlet.StdOutlet.{StdOutlet}

-- how many calls the disk has had, and how often it has failed
abbrev pub calls_made : {R : Type 0} → HostDisk R → ℕ
calls_made disk = disk.calls

abbrev pub calls_failed : {R : Type 0} → HostDisk R → ℕ
calls_failed disk = disk.faults

abbrev pub untold_files : {R : Type 0} → HostDisk R → Option Files
untold_files disk = None

-- how often the outlet has failed or taken nothing
abbrev pub writes_failed : {W : Type 0} → StdOutlet W → ℕ
writes_failed outlet = outlet.faults

abbrev pub untold_bytes : {W : Type 0} → StdOutlet W → Option (List ℕ)
untold_bytes outlet = None

abbrev pub untold_answers : {W : Type 0} → StdOutlet W → Option (List Answer)
untold_answers outlet = None

-- what the outlet's stream holds, by what is known of such streams
abbrev pub stream_contents : {W : Type 0} → (W → Option (List ℕ)) → StdOutlet W → Option (List ℕ)
stream_contents contents outlet = contents outlet.stream

-- What the disk and the outlet in memory tell.
use Rattle.std.specs.Prelude.{◌≡◌, ◌<◌, ◌==◌, ◌⊎◌, ℕ, List, [], ◌∷◌, Bool, Option, Some, None, drop, min, if◌then◌else◌}
use Rattle.std.specs.List.{list_any}
use Rattle.sch_word.specs.declared.answer.Answer.{Answer}
use Rattle.sch_word.specs.declared.answer.Answer.TheVariants.{Took, Failed}
use Rattle.sch_io.specs.Files.{Files}
use Rattle.sch_io.specs.Stored.{files_of}
use Rattle.sch_io.specs.declared.mem_disk.MemDisk.{MemDisk}
use Rattle.sch_io.specs.declared.mem_outlet.MemOutlet.{MemOutlet}

abbrev pub held_files : MemDisk → Files
held_files disk = files_of disk.text.items disk.entries.items

abbrev pub told_files : MemDisk → Option Files
told_files disk = Some (held_files disk)

-- how many calls it has had, and how often it has failed
abbrev pub calls_had : MemDisk → ℕ
calls_had disk = disk.calls

abbrev pub faults_had : MemDisk → ℕ
faults_had disk = disk.faults

-- the numbers of the calls that fail, from 0
abbrev pub failing_calls : MemDisk → List ℕ
failing_calls disk = disk.failing.items

-- whether the next call fails by its number, which is how many calls came before it
abbrev pub fails_next : MemDisk → Bool
fails_next disk = list_any (λ number. number == calls_had disk) (failing_calls disk)

-- how many more bytes of names and contents may be written
abbrev pub bytes_left : MemDisk → ℕ
bytes_left disk = disk.room

-- how many more writes are taken
abbrev pub writes_left : MemDisk → ℕ
writes_left disk = disk.slots

-- a write of `size` bytes does not fit
abbrev pub LacksRoomFor : MemDisk → ℕ → Type 0
LacksRoomFor disk size = (bytes_left disk < size) ⊎ (writes_left disk ≡ 0)

-- the room that is left is the same
abbrev pub SameRoom : MemDisk → MemDisk → Type 0
SameRoom before after = (bytes_left after ≡ bytes_left before) × (writes_left after ≡ writes_left before)

abbrev pub told_bytes : MemOutlet → Option (List ℕ)
told_bytes outlet = if outlet.tells then Some outlet.bytes.items else None

abbrev pub told_left : MemOutlet → Option (List Answer)
told_left outlet = if outlet.tells then Some (drop outlet.next outlet.plan.items) else None

-- how often it has failed or taken nothing
abbrev pub faults_met : MemOutlet → ℕ
faults_met outlet = outlet.faults

-- how many more bytes it has room for
abbrev pub room_left : MemOutlet → ℕ
room_left outlet = outlet.room

-- how many of the bytes offered the next of these answers takes
abbrev pub next_count : List Answer → ℕ → ℕ
next_count [] offered = offered
next_count (Took k ∷ rest) offered = min k offered
next_count (Failed ∷ rest) offered = 0

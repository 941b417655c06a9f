-- What the disk in memory that never fails stores and tells.
use Rattle.std.specs.Prelude.{ℕ, Bool, Option, Some, None, if◌then◌else◌}
use Rattle.sch_io.specs.Files.{Files}
use Rattle.sch_io.specs.InMemory.{calls_had, held_files}
use Rattle.sch_io.specs.declared.firm_disk.FirmDisk.{FirmDisk}
use Rattle.sch_io.specs.declared.mem_disk.MemDisk.{MemDisk}

-- the disk on which its files are, with its room
abbrev pub stored_on : FirmDisk → MemDisk
stored_on disk = disk.disk

abbrev pub stored_files : FirmDisk → Files
stored_files disk = held_files (stored_on disk)

-- They are told until a name is read that is not there, or a file is dropped.
abbrev pub is_telling : FirmDisk → Bool
is_telling disk = disk.tells

abbrev pub told_firmly : FirmDisk → Option Files
told_firmly disk = if is_telling disk then Some (stored_files disk) else None

abbrev pub no_faults : FirmDisk → ℕ
no_faults disk = 0

abbrev pub calls_taken : FirmDisk → ℕ
calls_taken disk = calls_had (stored_on disk)

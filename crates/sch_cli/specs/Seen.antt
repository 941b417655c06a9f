-- What is seen of the disk and of a stream, before a call and after it.
use Rattle.std.specs.Prelude.{◌≡◌, ◌<◌, ◌≤◌, ◌+◌, ◌^◌, ℕ, List, Option, IsSomeAnd}
use Rattle.std.specs.FinMap.{get}
use Rattle.sch_word.specs.declared.answer.Answer.{Answer}
use Rattle.sch_io.specs.Counters.{Rose}
use Rattle.sch_io.specs.Files.{Files}
use Rattle.sch_io.specs.Told.{Tells}

-- ---- a disk

-- the files, where the disk tells them; how often it has failed, and how many calls it has had
pub record DiskState : Type 0 where
  pub files : Option Files
  pub faults : ℕ
  pub calls : ℕ

pub record DiskChange : Type 0 where
  pub before : DiskState
  pub after : DiskState

-- the change of a disk, by what its kind tells of it
abbrev pub disk_change : {D : Type 0} → (files : D → Option Files) → (faults calls : D → ℕ) → (old new : D) → DiskChange
disk_change files faults calls old new = record {
  before = record { files = files old; faults = faults old; calls = calls old };
  after = record { files = files new; faults = faults new; calls = calls new };
}

-- the files before and after are so related, where the disk tells them
abbrev pub FilesChange : DiskChange → (Files → Files → Type 0) → Type 0
FilesChange disk Related = Tells disk.before.files disk.after.files Related

abbrev pub SameFiles : DiskChange → Type 0
SameFiles disk = FilesChange disk (λ before after. after ≡ before)

-- the file of this name was there and is so, where the disk tells it
abbrev pub FileIs : DiskChange → (name : List ℕ) → (List ℕ → Type 0) → Type 0
FileIs disk name IsSo = FilesChange disk (λ before _. IsSomeAnd (get before name) IsSo)

-- The disk had `count` calls, as far as its counter can tell: that stands at 2^64 - 1 once it is there.
abbrev pub HadCalls : (count : ℕ) → DiskChange → Type 0
HadCalls count disk = disk.before.calls + count < 2 ^ 64 → disk.after.calls ≡ disk.before.calls + count

-- The disk had at most `count` calls, as far as its counter can tell.
abbrev pub HadAtMostCalls : (count : ℕ) → DiskChange → Type 0
HadAtMostCalls count disk = disk.before.calls + count < 2 ^ 64
    → (disk.before.calls ≤ disk.after.calls) × (disk.after.calls ≤ disk.before.calls + count)

abbrev pub DiskFailed : DiskChange → Type 0
DiskFailed disk = Rose disk.before.faults disk.after.faults

-- ---- a stream

-- what it has taken and which answers it holds ready, where it tells them; how often it has failed
pub record StreamState : Type 0 where
  pub bytes : Option (List ℕ)
  pub left : Option (List Answer)
  pub faults : ℕ

pub record StreamChange : Type 0 where
  pub before : StreamState
  pub after : StreamState

-- the change of a stream, by what its kind tells of it
abbrev pub stream_change : {O : Type 0} →
    (bytes : O → Option (List ℕ)) → (left : O → Option (List Answer)) → (faults : O → ℕ) → (old new : O) → StreamChange
stream_change bytes left faults old new = record {
  before = record { bytes = bytes old; left = left old; faults = faults old };
  after = record { bytes = bytes new; left = left new; faults = faults new };
}

-- the bytes taken before and after are so related, where the stream tells them
abbrev pub BytesChange : StreamChange → (List ℕ → List ℕ → Type 0) → Type 0
BytesChange stream Related = Tells stream.before.bytes stream.after.bytes Related

abbrev pub TookNothing : StreamChange → Type 0
TookNothing stream = BytesChange stream (λ before after. after ≡ before)

abbrev pub StreamFailed : StreamChange → Type 0
StreamFailed stream = Rose stream.before.faults stream.after.faults

-- What the read of a file answers, and what two writes make of the disk.
use Rattle.std.specs.Prelude.{◌≡◌, ◌<◌, ◌≤◌, ℕ, List, [], ◌∷◌, length, Result, Ok, Err, ⊤}
use Rattle.std.specs.FinMap.{insert}
use Rattle.sch_io.specs.Files.{Spoils, written}
use Rattle.sch_cli.specs.Seen.{DiskChange, DiskFailed, FileIs, FilesChange, HadCalls}
use Rattle.sch_cli.specs.declared.failure.Failure.{Failure}
use Rattle.sch_cli.specs.declared.failure.Failure.TheVariants.{ReadFailed, WriteFailed, ListingFailed, TooLong, Memory}

-- the file was read: these are its bytes, where the disk tells it, and they are no more than the limit
pub record HasRead (name : List ℕ) (limit : ℕ) (bytes : List ℕ) (disk : DiskChange) : Type 0 where
  pub found : FileIs disk name (λ file. file ≡ bytes)
  pub within : length bytes ≤ limit

-- The file was not read: the disk failed, or the file is longer than the limit, or there was no memory.
abbrev pub IsUnread : (name : List ℕ) → (limit : ℕ) → Failure → DiskChange → Type 0
IsUnread name limit ReadFailed disk = DiskFailed disk
IsUnread name limit TooLong disk = FileIs disk name (λ file. limit < length file)
IsUnread name limit Memory disk = Unit {0}
IsUnread name limit _ disk = ⊥

-- A target was replaced, and then a listing; or the first write failed, and it was the only one; or the second did.
pub data WritesBoth (target file listing text : List ℕ) (disk : DiskChange) : Result ⊤ Failure → Type 0 where
  both_written : FilesChange disk (λ before after. after ≡ written before ((target, file) ∷ (listing, text) ∷ [])) → HadCalls 2 disk →
      WritesBoth target file listing text disk (Ok tt)
  no_target : DiskFailed disk → FilesChange disk (Spoils target) → HadCalls 1 disk → WritesBoth target file listing text disk (Err WriteFailed)
  no_listing : DiskFailed disk → FilesChange disk (λ before after. Spoils listing (insert before target file) after) → HadCalls 2 disk →
      WritesBoth target file listing text disk (Err ListingFailed)

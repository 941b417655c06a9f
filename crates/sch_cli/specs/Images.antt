-- What the bytes of a file decide of how `step` ends on it.
use Rattle.std.specs.Prelude.{◌≡◌, ◌<◌, ◌≤◌, ◌⊎◌, ℕ, List, length, Option, Some}
use Rattle.sch_elf.specs.Stands.{StandsFor}
use Rattle.sch_elf.specs.declared.image.Image.{Image}
use Rattle.sch_step.specs.declared.ends.RunEnd.{RunEnd}
use Rattle.sch_commands.specs.Command.{Command, step}
use Rattle.sch_cli.specs.Executes.{Executes}
use Rattle.sch_cli.specs.Seen.{DiskChange, StreamChange, DiskFailed}
use Rattle.sch_cli.specs.Sources.{TextIs}
use Rattle.sch_cli.specs.Statuses.{end_status, status_number}
use Rattle.sch_cli.specs.Steps.{max_image_file_size}

-- the bytes stand for no image
abbrev pub IsNoImage : List ℕ → Type 0
IsNoImage file = (image : Image) → StandsFor file image → ⊥

-- The image was executed, and the status is that of its end.
abbrev pub EndsStepped : Image → (steps status : ℕ) → StreamChange → Type 0
EndsStepped image steps status out = (end : RunEnd) × (status ≡ status_number (end_status end)) × Executes image steps end out

-- It is so, or the status is 10, or it is 2 and the disk failed.
abbrev pub OrUnread : Type 0 → (status : ℕ) → DiskChange → Type 0
OrUnread IsSo status disk = IsSo ⊎ ((status ≡ 10) ⊎ ((status ≡ 2) × DiskFailed disk))

-- What follows from the bytes. Of too many bytes the status is 7; of others that stand for no image it is 8, and of others that
-- stand for one it is that of the image's end: but where the disk failed or there was no memory. It is 8 of no others: of bytes
-- that stand for no image, or for one whose end has this status.
pub record FollowsBytes (file : List ℕ) (steps status : ℕ) (disk : DiskChange) (out : StreamChange) : Type 0 where
  pub too_many : max_image_file_size < length file → OrUnread (status ≡ 7) status disk
  pub no_image : length file ≤ max_image_file_size → IsNoImage file → OrUnread (status ≡ 8) status disk
  pub stepped : length file ≤ max_image_file_size → (image : Image) → StandsFor file image → OrUnread (EndsStepped image steps status out) status disk
  pub only : status ≡ 8 → (length file ≤ max_image_file_size)
      × (IsNoImage file ⊎ ((image : Image) × StandsFor file image × EndsStepped image steps 8 out))

-- So it does where the disk tells the file of this name.
abbrev pub FollowsImage : (name : List ℕ) → (steps status : ℕ) → DiskChange → StreamChange → Type 0
FollowsImage name steps status disk out = TextIs disk name (λ file. FollowsBytes file steps status disk out)

-- the command is `step`
abbrev pub IsStep : Option Command → Type 0
IsStep (Some (step image steps)) = Unit {0}
IsStep _ = ⊥

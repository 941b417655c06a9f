-- Why a file stands for no image.
use Rattle.std.specs.Prelude.{◌≡◌, ◌≢◌, ◌≤◌, ◌<◌, ℕ, List, length, take, sum_by}
use Rattle.sch_elf.specs.Constants.{file_header_size, identification, max_image_size}
use Rattle.sch_elf.specs.Elf.{file_header}
use Rattle.sch_elf.specs.Stands.{IsForThisMachine, IsSound, loads}
use Rattle.sch_elf.specs.declared.error.ImageError.{ImageError}
use Rattle.sch_elf.specs.declared.error.ImageError.TheVariants.{Short, NotElf, NotThisMachine, BadSegment, TooLarge, Memory}

-- the file begins as an executable for this machine does
pub record HasHeader (file : List ℕ) : Type 0 where
  pub long : file_header_size ≤ length file
  pub elf : take 7 file ≡ identification
  pub machine : IsForThisMachine (file_header file)

-- The tests are made in this order, and the first that fails is the answer. A bad segment is the first
-- program header that is not sound. Out of memory may come in place of any answer.
abbrev pub IsRefused : List ℕ → ImageError → Type 0
IsRefused file Short = length file < file_header_size
IsRefused file NotElf = (file_header_size ≤ length file) × (take 7 file ≢ identification)
IsRefused file NotThisMachine = (file_header_size ≤ length file) × (take 7 file ≡ identification) × ¬ IsForThisMachine (file_header file)
IsRefused file (BadSegment i) =
    HasHeader file × (i < (file_header file).e_phnum) × ((j : ℕ) → j < i → IsSound file j) × ¬ IsSound file i
IsRefused file TooLarge =
    HasHeader file × ((i : ℕ) → i < (file_header file).e_phnum → IsSound file i) × (max_image_size < sum_by (λ header. header.p_memsz) (loads file))
IsRefused file Memory = Unit {0}

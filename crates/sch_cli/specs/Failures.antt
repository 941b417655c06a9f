-- Why a command was not done: each cause with its status and its line.
use Rattle.std.specs.Prelude.{ℕ, List, [], ◌++◌, codes, Result, Ok, Err, ⊤}
use Rattle.std.specs.Fmt.{decimal}
use Rattle.sch_read.specs.declared.error.ReadError.{ReadError}
use Rattle.sch_read.specs.declared.error.ReadError.TheVariants as read
use Rattle.sch_core.specs.declared.error.CoreError.{CoreError}
use Rattle.sch_core.specs.declared.error.CoreError.TheVariants as core
use Rattle.sch_core.specs.declared.error.Kind.{Kind}
use Rattle.sch_core.specs.declared.error.Kind.TheVariants.{Operands, Core, Variables, Free}
use Rattle.sch_driver.specs.declared.error.Part.{Part}
use Rattle.sch_driver.specs.declared.error.Part.TheVariants.{Library, User}
use Rattle.sch_driver.specs.declared.error.CompileError.{CompileError}
use Rattle.sch_driver.specs.declared.error.CompileError.TheVariants as compiling
use Rattle.sch_elf.specs.declared.error.ImageError.{ImageError}
use Rattle.sch_elf.specs.declared.error.ImageError.TheVariants as image
use Rattle.sch_cli.specs.declared.failure.Failure.{Failure}
use Rattle.sch_cli.specs.declared.failure.Failure.TheVariants as failure
use Rattle.sch_cli.specs.declared.status.Status.{Status}
use Rattle.sch_cli.specs.declared.status.Status.TheVariants.{Done, ReadFailed, WriteFailed, BadText, BadForm, Unbound, PastLimit, BadImage, StepsSpent, OutOfMemory}
use Rattle.sch_cli.specs.Messages.{out_of_memory_line, output_failed_line, place_line, spent_line}

-- ---- the statuses

abbrev pub read_status : ReadError → Status
read_status (read.DeepNesting at) = PastLimit
read_status (read.LiteralRange at) = PastLimit
read_status read.Memory = OutOfMemory
read_status _ = BadText

abbrev pub core_status : CoreError → Status
core_status (core.BadForm at) = BadForm
core_status (core.KeywordDefined at) = BadForm
core_status (core.Unbound at name) = Unbound
core_status (core.Limit kind at) = PastLimit
core_status core.Memory = OutOfMemory

abbrev pub refusal_status : CompileError → Status
refusal_status (compiling.Read part error) = read_status error
refusal_status (compiling.Core part error) = core_status error
refusal_status (compiling.StackTooLarge words) = PastLimit
refusal_status (compiling.TextTooLarge bytes) = PastLimit
refusal_status compiling.Memory = OutOfMemory

abbrev pub image_status : ImageError → Status
image_status image.Memory = OutOfMemory
image_status _ = BadImage

abbrev pub failure_status : Failure → Status
failure_status failure.ReadFailed = ReadFailed
failure_status failure.WriteFailed = WriteFailed
failure_status failure.ListingFailed = WriteFailed
failure_status failure.TooLong = PastLimit
failure_status (failure.Compile error) = refusal_status error
failure_status (failure.Image error) = image_status error
failure_status failure.StepsSpent = StepsSpent
failure_status failure.OutputFailed = WriteFailed
failure_status failure.Memory = OutOfMemory

-- of a command that is done, or is not for this failure
abbrev pub done_status : Result ⊤ Failure → Status
done_status (Ok done) = Done
done_status (Err failure) = failure_status failure

-- ---- the lines, over the name of what each concerns

abbrev pub read_line : List ℕ → ReadError → List ℕ
read_line name (read.Unclosed at) = place_line name at (codes "unclosed") []
read_line name (read.StrayClose at) = place_line name at (codes "stray close") []
read_line name (read.BadToken at) = place_line name at (codes "bad token") []
read_line name (read.BadNumber at) = place_line name at (codes "bad number") []
read_line name (read.BadString at) = place_line name at (codes "bad string") []
read_line name (read.DeepNesting at) = place_line name at (codes "limit nesting") []
read_line name (read.LiteralRange at) = place_line name at (codes "limit literal") []
read_line name read.Memory = out_of_memory_line

abbrev pub limit_text : Kind → List ℕ
limit_text Operands = codes "limit operands"
limit_text Core = codes "limit core"
limit_text Variables = codes "limit variables"
limit_text Free = codes "limit free"

abbrev pub core_line : List ℕ → CoreError → List ℕ
core_line name (core.BadForm at) = place_line name at (codes "bad form") []
core_line name (core.KeywordDefined at) = place_line name at (codes "keyword defined") []
core_line name (core.Unbound at unbound) = place_line name at (codes "unbound ") unbound
core_line name (core.Limit kind at) = place_line name at (limit_text kind) []
core_line name core.Memory = out_of_memory_line

-- what a line names of which a part is at fault: the library, or the file
abbrev pub part_name : List ℕ → Part → List ℕ
part_name name Library = codes "library"
part_name name User = name

abbrev pub refusal_line : List ℕ → CompileError → List ℕ
refusal_line name (compiling.Read part error) = read_line (part_name name part) error
refusal_line name (compiling.Core part error) = core_line (part_name name part) error
refusal_line name (compiling.StackTooLarge words) = name ++ codes ": limit stack\n"
refusal_line name (compiling.TextTooLarge bytes) = name ++ codes ": limit text\n"
refusal_line name compiling.Memory = out_of_memory_line

abbrev pub image_line : List ℕ → ImageError → List ℕ
image_line name image.Short = name ++ codes ": short\n"
image_line name image.NotElf = name ++ codes ": not ELF\n"
image_line name image.NotThisMachine = name ++ codes ": wrong machine\n"
image_line name (image.BadSegment index) = name ++ (codes ": segment " ++ (decimal index ++ codes "\n"))
image_line name image.TooLarge = name ++ codes ": too large\n"
image_line name image.Memory = out_of_memory_line

abbrev pub failure_line : List ℕ → Failure → List ℕ
failure_line name failure.ReadFailed = name ++ codes ": read failed\n"
failure_line name failure.WriteFailed = name ++ codes ": write failed\n"
failure_line name failure.ListingFailed = name ++ codes ": write failed\n"
failure_line name failure.TooLong = name ++ codes ": limit file\n"
failure_line name (failure.Compile error) = refusal_line name error
failure_line name (failure.Image error) = image_line name error
failure_line name failure.StepsSpent = spent_line
failure_line name failure.OutputFailed = output_failed_line
failure_line name failure.Memory = out_of_memory_line

-- of a command that is done, which says nothing, or is not for this failure
abbrev pub done_line : List ℕ → Result ⊤ Failure → List ℕ
done_line name (Ok done) = []
done_line name (Err failure) = failure_line name failure

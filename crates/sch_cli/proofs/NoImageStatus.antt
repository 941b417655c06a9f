-- A text that is compiled and run never has the status of a file that stands for no image, or whose image is stuck.
use Rattle.std.proofs.Common.{◌≢◌, ℕ, List, Option, Result, ◌∙◌, sym}
use Rattle.std.specs.Prelude.{⊤}
use Rattle.sch_read.specs.declared.error.ReadError.{ReadError}
use Rattle.sch_read.specs.declared.error.ReadError.TheVariants as read
use Rattle.sch_core.specs.declared.error.CoreError.{CoreError}
use Rattle.sch_core.specs.declared.error.CoreError.TheVariants as core
use Rattle.sch_driver.specs.declared.error.CompileError.{CompileError}
use Rattle.sch_driver.specs.declared.error.CompileError.TheVariants as compiling
use Rattle.sch_word.specs.declared.answer.Answer.{Answer}
use Rattle.sch_word.specs.declared.stop.Stop.{Stop}
use Rattle.sch_word.specs.declared.stop.Stop.TheVariants.{WrongType, OutOfRange, NotProcedure, WrongCount, DivideByZero, Overflow, HeapLimit, DepthLimit, Unset, OutputFailed}
use Rattle.sch_word.specs.runs.Computation.{Outcome, State as states, gives, stops, spent}
use Rattle.sch_word.specs.runs.Runs.{ended}
use Rattle.sch_word.specs.runs.Runs.{seen as observed}
use Rattle.sch_word.specs.runs.Stops.{status_of}
use Rattle.sch_word.specs.values.Values.{Value}
use Rattle.sch_lang.specs.Tree as tree
use Rattle.sch_lang.specs.Meaning.{Closure}
use Rattle.sch_lang.specs.Run.{outcome, run}
use Rattle.sch_step.specs.declared.ends.RunEnd.{RunEnd}
use Rattle.sch_generator.specs.GeneratedText.{generated_text}
use Rattle.sch_listing.specs.ListingText.{listing_text}
use Rattle.sch_cli.specs.Failures.{core_status, done_status, failure_status, read_status, refusal_status}
use Rattle.sch_commands.specs.Command.{default_depth, default_heap}
use Rattle.sch_cli.specs.Compiles as compiles
use Rattle.sch_cli.specs.Compiles.{Compiles, EndsCompile}
use Rattle.sch_cli.specs.Figures.{figures_text}
use Rattle.sch_cli.specs.Lists as lists
use Rattle.sch_cli.specs.Lists.{EndsList, ListsSource}
use Rattle.sch_cli.specs.LoneRuns.{HasNoExit}
use Rattle.sch_cli.specs.Prints.{Generates, Prints, measured, not_measured, whole, in_part}
use Rattle.sch_cli.specs.Refusals.{IsOfText, IsRefused}
use Rattle.sch_cli.specs.Files.{IsUnread}
use Rattle.sch_cli.specs.Seen.{DiskChange, StreamChange}
use Rattle.sch_cli.specs.Statuses.{end_status, status_number}
use Rattle.sch_cli.specs.Steps.{EndsAs, RunsText}
use Rattle.sch_cli.specs.declared.status.Status.{Status}
use Rattle.sch_cli.specs.declared.status.Status.TheVariants.{Done, Usage, ReadFailed, WriteFailed, BadText, BadForm, Unbound, PastLimit, BadImage, StepsSpent, OutOfMemory, Stopped}
use Rattle.sch_cli.specs.declared.failure.Failure.{Failure}
use Rattle.sch_cli.specs.declared.failure.Failure.TheVariants as failure
use Rattle.sch_cli.proofs.TextFailures.{refused_of_text}

read_is_other : (e : ReadError) → status_number (read_status e) ≢ 8
read_is_other (read.Unclosed at) e = cc
read_is_other (read.StrayClose at) e = cc
read_is_other (read.BadToken at) e = cc
read_is_other (read.BadNumber at) e = cc
read_is_other (read.BadString at) e = cc
read_is_other (read.DeepNesting at) e = cc
read_is_other (read.LiteralRange at) e = cc
read_is_other read.Memory e = cc

core_is_other : (e : CoreError) → status_number (core_status e) ≢ 8
core_is_other (core.BadForm at) e = cc
core_is_other (core.Unbound at name) e = cc
core_is_other (core.KeywordDefined at) e = cc
core_is_other (core.Limit kind at) e = cc
core_is_other core.Memory e = cc

refusal_is_other : (e : CompileError) → status_number (refusal_status e) ≢ 8
refusal_is_other (compiling.Read part error) e = read_is_other error e
refusal_is_other (compiling.Core part error) e = core_is_other error e
refusal_is_other (compiling.StackTooLarge words) e = cc
refusal_is_other (compiling.TextTooLarge bytes) e = cc
refusal_is_other compiling.Memory e = cc

pub of_text_is_other : (why : Failure) → IsOfText why → status_number (failure_status why) ≢ 8
of_text_is_other failure.TooLong h e = cc
of_text_is_other (failure.Compile error) h e = refusal_is_other error e
of_text_is_other failure.Memory h e = cc
of_text_is_other failure.ReadFailed h e = h
of_text_is_other failure.WriteFailed h e = h
of_text_is_other failure.ListingFailed h e = h
of_text_is_other (failure.Image error) h e = h
of_text_is_other failure.StepsSpent h e = h
of_text_is_other failure.OutputFailed h e = h

pub refused_is_other : (text : List ℕ) (depth : ℕ) (why : Failure) → IsRefused text depth why → status_number (failure_status why) ≢ 8
refused_is_other text depth why h = of_text_is_other why (refused_of_text text depth why h)

-- a text that comes to no exit
pub unended_is_other : (text : List ℕ) (heap depth steps : ℕ) (why : Failure) → HasNoExit text heap depth steps why → status_number (failure_status why) ≢ 8
unended_is_other text heap depth steps failure.StepsSpent h e = cc
unended_is_other text heap depth steps failure.TooLong h e = cc
unended_is_other text heap depth steps (failure.Compile error) h e = refusal_is_other error e
unended_is_other text heap depth steps failure.Memory h e = cc
unended_is_other text heap depth steps failure.ReadFailed h e = h
unended_is_other text heap depth steps failure.WriteFailed h e = h
unended_is_other text heap depth steps failure.ListingFailed h e = h
unended_is_other text heap depth steps (failure.Image error) h e = h
unended_is_other text heap depth steps failure.OutputFailed h e = h

pub printed_is_other : (text : List ℕ) (out : StreamChange) (answer : Result ⊤ Failure) → Prints text out answer → status_number (done_status answer) ≢ 8
printed_is_other text out _ (whole all) e = cc
printed_is_other text out _ (in_part failed front) e = cc

-- ---- a source that is run

-- an image that ends as a program's run does
stop_is_other : (why : Stop) → status_of why ≢ 8
stop_is_other WrongType e = cc
stop_is_other OutOfRange e = cc
stop_is_other NotProcedure e = cc
stop_is_other WrongCount e = cc
stop_is_other DivideByZero e = cc
stop_is_other Overflow e = cc
stop_is_other HeapLimit e = cc
stop_is_other DepthLimit e = cc
stop_is_other Unset e = cc
stop_is_other OutputFailed e = cc

seen_is_other : (answers : List Answer) (entries : ℕ) (o : Outcome (states Closure) Value) → (observed answers entries o).end ≢ ended 8
seen_is_other answers entries (gives v s) is = absurd cc
seen_is_other answers entries (stops why s) is = stop_is_other why cc
seen_is_other answers entries (spent s) is = absurd cc

end_is_other : (p : tree.Source) (table : List (List ℕ)) (heap depth : ℕ) (steps : ℕ) (answers : List Answer) (status : Status) (output : List ℕ)
    → EndsAs (run p table heap depth) steps answers status output → status_number status ≢ 8
end_is_other p table heap depth steps answers Done output h e = cc
end_is_other p table heap depth steps answers Usage output h e = cc
end_is_other p table heap depth steps answers ReadFailed output h e = cc
end_is_other p table heap depth steps answers WriteFailed output h e = cc
end_is_other p table heap depth steps answers BadText output h e = cc
end_is_other p table heap depth steps answers BadForm output h e = cc
end_is_other p table heap depth steps answers Unbound output h e = cc
end_is_other p table heap depth steps answers PastLimit output h e = cc
end_is_other p table heap depth steps answers BadImage output h e = seen_is_other answers steps (outcome p table heap depth answers steps) h.0
end_is_other p table heap depth steps answers StepsSpent output h e = cc
end_is_other p table heap depth steps answers OutOfMemory output h e = cc
end_is_other p table heap depth steps answers (Stopped why) output h e = stop_is_other why e

pub text_is_other : (text : List ℕ) (heap depth steps : ℕ) (end : RunEnd) (out : StreamChange) → RunsText text heap depth steps end out → status_number (end_status end) ≢ 8
text_is_other text heap depth steps end out ran =
    end_is_other ran.made.compiled.program ran.made.listing.orders heap depth steps ran.runs.executed.given (end_status end) ran.runs.executed.output ran.runs.under_given

-- a source that was not read
pub unread_is_other : (name : List ℕ) (limit : ℕ) (why : Failure) (disk : DiskChange) → IsUnread name limit why disk → status_number (failure_status why) ≢ 8
unread_is_other name limit failure.ReadFailed disk h e = cc
unread_is_other name limit failure.TooLong disk h e = cc
unread_is_other name limit failure.Memory disk h e = cc
unread_is_other name limit failure.WriteFailed disk h e = h
unread_is_other name limit failure.ListingFailed disk h e = h
unread_is_other name limit (failure.Compile error) disk h e = h
unread_is_other name limit (failure.Image error) disk h e = h
unread_is_other name limit failure.StepsSpent disk h e = h
unread_is_other name limit failure.OutputFailed disk h e = h

-- ---- a text that is made of a number

pub generated_is_other : (number steps : ℕ) (out : StreamChange) (answer : Result ⊤ Failure) → Generates number steps out answer → status_number (done_status answer) ≢ 8
generated_is_other number steps out answer (measured _ figures are prints) e = printed_is_other (figures_text figures) out answer prints e
generated_is_other number steps out _ (not_measured why h nothing) e = unended_is_other (generated_text number) default_heap default_depth steps why h e

-- ---- `compile` and `list`

compiles_other : (source target : List ℕ) (listing : Option (List ℕ)) (heap depth : ℕ) (disk : DiskChange) (answer : Result ⊤ Failure)
    → Compiles source target listing heap depth disk answer → status_number (done_status answer) ≢ 8
compiles_other source target listing heap depth disk _ (compiles.written_all wrote calls) e = cc
compiles_other source target listing heap depth disk _ (compiles.not_read failed unchanged calls) e = cc
compiles_other source target listing heap depth disk _ (compiles.not_written failed has spoils calls) e = cc
compiles_other source target listing heap depth disk _ (compiles.not_listed name is failed wrote calls) e = cc
compiles_other source target listing heap depth disk _ (compiles.refused why of h unchanged calls) e = of_text_is_other why of e
compiles_other source target listing heap depth disk _ (compiles.no_memory unchanged calls) e = cc

pub compile_is_other : (source target : List ℕ) (listing : Option (List ℕ)) (heap depth status : ℕ) (disk : DiskChange) (err : StreamChange)
    → EndsCompile source target listing heap depth status disk err → status ≢ 8
compile_is_other source target listing heap depth status disk err ends e =
    compiles_other source target listing heap depth disk ends.answer ends.compiles (sym ends.status_is ∙ e)

lists_other : (name : List ℕ) (heap depth : ℕ) (disk : DiskChange) (out : StreamChange) (answer : Result ⊤ Failure)
    → ListsSource name heap depth disk out answer → status_number (done_status answer) ≢ 8
lists_other name heap depth disk out _ (lists.not_read failed nothing) e = cc
lists_other name heap depth disk out _ (lists.no_memory nothing) e = cc
lists_other name heap depth disk out _ (lists.refused why of h nothing) e = of_text_is_other why of e
lists_other name heap depth disk out _ (lists.listed answer text file found made prints) e = printed_is_other (listing_text made.listing) out answer prints e

pub list_is_other : (name : List ℕ) (heap depth status : ℕ) (disk : DiskChange) (err out : StreamChange)
    → EndsList name heap depth status disk err out → status ≢ 8
list_is_other name heap depth status disk err out ends e = lists_other name heap depth disk out ends.answer ends.lists (sym ends.status_is ∙ e)

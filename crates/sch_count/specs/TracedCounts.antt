-- The counts of a machine's run, from the marks of the instructions that it begins.
use Rattle.std.specs.Prelude.{◌≡◌, ℕ, ◌≤◌, List, [], Option, Some, None, Result, Ok, Err}
use Rattle.std.specs.List.{flat_map}
use Rattle.sch_word.specs.declared.answer.Answer.{Answer}
use Rattle.sch_word.specs.declared.mark.MarkKind.{MarkKind}
use Rattle.sch_asm.specs.declared.item.Mark.{Mark}
use Rattle.sch_asm.specs.Stands.{marks_at}
use Rattle.sch_insn.specs.Step.{Progress, Runs, Exited, Stuck}
use Rattle.sch_insn.specs.Path.{Traced, traced}
use Rattle.sch_step.specs.declared.ends.RunEnd.{RunEnd}
use Rattle.sch_step.specs.declared.ends.RunEnd.TheVariants as run_end
use Rattle.sch_step.specs.declared.machine.Machine.{Machine}
use Rattle.sch_step.specs.Run.{state_of}
use Rattle.sch_step.specs.Machine.{core_of, standing_of, MachineComes, MachineRuns}
use Rattle.sch_count.specs.declared.counts.Counts.{Counts}
use Rattle.sch_count.specs.declared.error.CountError.{CountError}
use Rattle.sch_count.specs.declared.error.CountError.TheVariants as count_error
use Rattle.sch_count.specs.declared.extent.Extent.{Extent}
use Rattle.sch_count.specs.declared.mark_table.MarkTable.{MarkTable}
use Rattle.sch_count.specs.declared.tally.Tally.{Tally}
use Rattle.sch_count.specs.ActivationCounts.{AreRows}
use Rattle.sch_count.specs.MarkTables.{table_marks}
use Rattle.sch_count.specs.Tallied.{TalliesMarks}

-- At most n steps from where a machine stands. One that has ended begins no instruction.
abbrev pub traced_from : ℕ → Progress → Traced
traced_from n (Runs s) = traced n s
traced_from n (Exited status s) = record { progress = Exited status s; trace = [] }
traced_from n (Stuck cause s) = record { progress = Stuck cause s; trace = [] }

-- The marks that are passed in at most n steps: those of each instruction as it begins, in their order.
abbrev pub marks_from : (marks_at : ℕ → List MarkKind) → ℕ → Progress → List MarkKind
marks_from marks_at n e = flat_map marks_at (traced_from n e).trace

abbrev pub status_of : Result Counts CountError → Result ℕ CountError
status_of (Ok counts) = Ok counts.status
status_of (Err error) = Err error

-- How the run of a count has ended, where memory was enough.
abbrev pub run_end_of : Result ℕ CountError → Option RunEnd
run_end_of (Ok status) = Some (run_end.Exited status)
run_end_of (Err count_error.Spent) = Some run_end.Spent
run_end_of (Err (count_error.Stuck stuck)) = Some (run_end.Stuck stuck)
run_end_of (Err count_error.Memory) = None

-- What a count of at most n steps comes to. Where the machine exits in them, `are_counted` holds of the marks that were
-- passed; where it does not, the count ends as a run of n steps; where memory was wanting, some of the steps are done.
abbrev pub Follows : ℕ → (marks_at : ℕ → List MarkKind) → (are_counted : List MarkKind → Type 0) → Result ℕ CountError → Machine → Machine
    → (List ℕ → List Answer → List ℕ → List Answer → Type 0)
Follows n marks_at are_counted (Ok status) old new = λ bytes answers bytes' answers'.
    MachineRuns n (run_end.Exited status) old new bytes answers bytes' answers' × are_counted (marks_from marks_at n (standing_of old bytes answers))
Follows n marks_at are_counted (Err count_error.Spent) old new = MachineRuns n run_end.Spent old new
Follows n marks_at are_counted (Err (count_error.Stuck stuck)) old new = MachineRuns n (run_end.Stuck stuck) old new
Follows n marks_at are_counted (Err count_error.Memory) old new = λ bytes answers bytes' answers'. (steps : ℕ) × (steps ≤ n) × MachineComes steps old new bytes answers bytes' answers'

-- the rows that were counted are the numbers of these bodies
abbrev pub AreCounted : (bodies : ℕ) → Result Counts CountError → List MarkKind → Type 0
AreCounted bodies (Ok counts) marks = AreRows bodies marks counts.rows
AreCounted bodies (Err error) marks = Unit {0}

-- A tally is followed by the marks of a table, until the machine ends so.
abbrev pub TalliesTo : (steps : ℕ) → MarkTable → Tally → Result ℕ CountError → Machine → Machine → (List ℕ → List Answer → List ℕ → List Answer → Type 0)
TalliesTo steps table tally result old new = Follows steps (table_marks table) (TalliesMarks tally) result old new

-- A count of these marks comes to this in the steps of an extent.
abbrev pub CountsTo : Extent → List Mark → Result Counts CountError → Machine → Machine → (List ℕ → List Answer → List ℕ → List Answer → Type 0)
CountsTo extent marks result old new = Follows extent.steps (marks_at marks) (AreCounted extent.bodies result) (status_of result) old new

-- the machine has not ended
abbrev pub RunsOn : Machine → Type 0
RunsOn m = (bytes : List ℕ) (answers : List Answer) → standing_of m bytes answers ≡ Runs (state_of (core_of m) bytes answers)

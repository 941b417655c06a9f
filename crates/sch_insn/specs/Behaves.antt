-- What a memory does when it is run: the words of a theorem on a compiled program.
use Rattle.std.specs.Prelude.{◌≡◌, ◌≢◌, ℕ, ◌<◌, ◌^◌, List, [], ◌++◌, Option, Some, None, All}
use Rattle.std.proofs.Common.{arith, lit<}
use Rattle.sch_word.specs.values.Memory.{Segment}
use Rattle.sch_word.specs.declared.answer.Answer.{Answer}
use Rattle.sch_word.specs.runs.Runs.{Run, ended}
use Rattle.sch_insn.specs.declared.state.Flags.{Flags}
use Rattle.sch_insn.specs.declared.state.StuckCause.{StuckCause}
use Rattle.sch_insn.specs.Machine.{State, unknown_flags}
use Rattle.sch_insn.specs.Step.{Progress, Runs, Exited, Stuck, mach}

-- What a machine is given beside its memory and the kernel's answers: any words in the registers, any
-- flags, and any spare words.
pub record Given : Type 0 where
  pub registers : ℕ → ℕ
  pub flags : Flags
  pub spare : List ℕ
  pub registers_fit : (r : ℕ) → registers r < 2 ^ 64
  pub spare_fit : All (λ w. w < 2 ^ 64) spare

-- Nothing is given: all registers are 0, no flag is known, and there are no spare words.
abbrev pub zeros : Given
zeros = record { registers = λ r. 0; flags = unknown_flags; spare = []; registers_fit = λ r. lit< tt; spare_fit = λ k d lt. absurd (omega arith) }

-- The state in which a machine starts at an address.
abbrev pub start : ℕ → List Segment → Given → List Answer → State
start entry segments given answers =
    record {
      core = record { registers = given.registers; flags = given.flags; place = entry; segments = segments };
      output = [];
      answers = answers;
      spare = given.spare;
    }

abbrev pub output_of : Progress → List ℕ
output_of (Runs s) = s.output
output_of (Exited status s) = s.output
output_of (Stuck cause s) = s.output

-- The status with which it has exited, and the output after which it did.
abbrev pub exit_of : Progress → Option (ℕ × List ℕ)
exit_of (Runs s) = None
exit_of (Exited status s) = Some (status, s.output)
exit_of (Stuck cause s) = None

-- A prefix may be the whole.
pub record IsPrefix (xs ys : List ℕ) : Type 0 where
  pub rest : List ℕ
  pub whole : xs ++ rest ≡ ys

-- How a run ends: with a status and an output.
pub record Ending : Type 0 where
  pub status : ℕ
  pub output : List ℕ

-- For all given words and answers of the kernel, a memory that is entered at an address ends as `ending`
-- says of the answers: some bounded run has exited so, the output of every bounded run is a prefix of
-- that output, and none is stuck.
pub record Behaves (entry : ℕ) (segments : List Segment) (ending : List Answer → Ending) : Type 0 where
  pub ends : (g : Given) (answers : List Answer) → (n : ℕ) × (exit_of (mach n (start entry segments g answers)) ≡ Some ((ending answers).status, (ending answers).output))
  pub along : (g : Given) (answers : List Answer) (n : ℕ) → IsPrefix (output_of (mach n (start entry segments g answers))) (ending answers).output
  pub never_stuck : (g : Given) (answers : List Answer) (n : ℕ) (cause : StuckCause) (s : State) → mach n (start entry segments g answers) ≢ Stuck cause s

-- ---- a program whose runs are bounded by procedure entries

-- The machine is as far as the run, or farther: what the run has put out the machine has written, and
-- where the run has ended the machine has exited with the same status and the same output.
pub record Reaches (machine : Progress) (r : Run) : Type 0 where
  pub output : IsPrefix r.output (output_of machine)
  pub end : (status : ℕ) → r.end ≡ ended status → exit_of machine ≡ Some (status, r.output)

-- The run is as far as the machine, or farther.
pub record Covers (r : Run) (machine : Progress) : Type 0 where
  pub output : IsPrefix (output_of machine) r.output
  pub end : (status : ℕ) (output : List ℕ) → exit_of machine ≡ Some (status, output) → (r.end ≡ ended status) × (r.output ≡ output)

-- A memory that is entered at an address does what these runs do, whatever words it is given and whatever
-- the kernel answers. A run is one against those answers, with at most n procedure entries. Each run is
-- reached by some bounded run of the machine; a bounded run of the machine with m steps is covered by the
-- run with m entries, since an entry takes a step at least; and the machine is never stuck.
pub record FollowsRuns (entry : ℕ) (segments : List Segment) (runs : List Answer → (entries : ℕ) → Run) : Type 0 where
  pub reaches : (g : Given) (answers : List Answer) (n : ℕ) → (m : ℕ) × Reaches (mach m (start entry segments g answers)) (runs answers n)
  pub covered : (g : Given) (answers : List Answer) (m : ℕ) → Covers (runs answers m) (mach m (start entry segments g answers))
  pub never_stuck : (g : Given) (answers : List Answer) (m : ℕ) (cause : StuckCause) (s : State) → mach m (start entry segments g answers) ≢ Stuck cause s

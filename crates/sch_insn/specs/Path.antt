-- Runs of a machine step by step: the states that it goes through, and the instructions that it begins.
-- An instruction begins where the machine stands at its address and has a row for it.
use Rattle.std.specs.Prelude.{◌≡◌, ℕ, zero, suc, ◌<◌, ◌≤◌, List, [], ◌∷◌, length}
use Rattle.std.specs.List.{flat_map}
use Rattle.sch_word.specs.runs.Runs.{End, ended, going}
use Rattle.sch_insn.specs.Machine.{State}
use Rattle.sch_insn.specs.Step.{Progress, Runs, Exited, Stuck, step, standing}

-- Steps lead from a state through these states, each the step of the one before, and t is the last of
-- them. There are as many steps as states; without a step t is the state itself.
abbrev pub Path : State → List State → State → Type 0
Path s [] t = s ≡ t
Path s (u ∷ us) t = (step s ≡ Runs u) × Path u us t

-- The addresses of the instructions begun on a path, in order.
abbrev pub passed : State → List State → List ℕ
passed s [] = []
passed s (u ∷ us) = s.core.place ∷ passed u us

-- From s the machine comes to t in at least `least` and at most `most` steps. An address has events, which
-- happen as the instruction there begins; all events on the way are these, in order.
pub record Leads {E : Type 0} (events_at : ℕ → List E) (least most : ℕ) (events : List E) (s t : State) : Type 0 where
  pub way : List State
  pub path : Path s way t
  pub at_least : least ≤ length way
  pub at_most : length way ≤ most
  pub events_are : flat_map events_at (passed s way) ≡ events

-- From s the machine comes to a state in which it exits with this status, after this output.
pub record Exits (s : State) (status : ℕ) (output : List ℕ) : Type 0 where
  pub way : List State
  pub last : State
  pub path : Path s way last
  pub exits : step last ≡ Exited status last
  pub output_is : last.output ≡ output

-- From s the machine makes more than n steps, and then has this output.
pub record Lasts (s : State) (n : ℕ) (output : List ℕ) : Type 0 where
  pub way : List State
  pub last : State
  pub path : Path s way last
  pub long : n < length way
  pub output_is : last.output ≡ output

-- It exits as a run has ended, or lasts for more than n steps where the run goes on.
abbrev pub Does : State → ℕ → End → List ℕ → Type 0
Does s n (ended status) output = Exits s status output
Does s n going output = Lasts s n output

-- ---- the bounded run with its trace

-- What a machine has come to, and the addresses of the instructions that it has begun, in order.
pub record Traced : Type 0 where
  pub progress : Progress
  pub trace : List ℕ

-- What follows a step from an address. A machine that is stuck there has begun nothing.
abbrev pub traced_on : ℕ → Progress → (State → Traced) → Traced
traced_on address (Runs s) f = record { progress = (f s).progress; trace = address ∷ (f s).trace }
traced_on address (Exited status s) f = record { progress = Exited status s; trace = address ∷ [] }
traced_on address (Stuck cause s) f = record { progress = Stuck cause s; trace = [] }

-- At most n steps from a state.
abbrev pub traced : ℕ → State → Traced
traced zero s = record { progress = standing s (step s); trace = [] }
traced (suc n) s = traced_on s.core.place (step s) (traced n)

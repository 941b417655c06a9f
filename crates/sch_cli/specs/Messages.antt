-- The lines on the standard error.
use Rattle.std.specs.Prelude.{◌≡◌, ℕ, ◌^◌, ◌==◌, nat_lt, List, [], ◌∷◌, ◌++◌, codes, take, if◌then◌else◌, Option, Some, None}
use Rattle.std.specs.Borrow.{Bor}
use Rattle.std.specs.Fmt.{decimal}
use Rattle.std.specs.Int.{w64, to_be_bytes}
use Rattle.hex.specs.Hex.{encode_lower}
use Rattle.sch_word.specs.declared.stop.Stop.{Stop}
use Rattle.sch_word.specs.runs.Stops.{status_of, stop_of, text_of}
use Rattle.sch_listing.specs.Lines.{address_text}
use Rattle.sch_insn.specs.declared.state.StuckCause.{StuckCause}
use Rattle.sch_insn.specs.declared.state.StuckCause.TheVariants.{Fetch, Access, Flag, Divide, Kernel}
use Rattle.sch_step.specs.declared.ends.RunEnd.{RunEnd}
use Rattle.sch_step.specs.declared.ends.RunEnd.TheVariants as run_end
use Rattle.sch_cli.specs.Seen.{StreamChange, BytesChange, StreamFailed}

abbrev pub usage_line : List ℕ
usage_line = codes "usage: schc VERB NAME [NAME2] [--listing F] [--heap N] [--depth N] [--steps N]\n"

abbrev pub out_of_memory_line : List ℕ
out_of_memory_line = codes "out of memory\n"

abbrev pub output_failed_line : List ℕ
output_failed_line = codes "output failed\n"

-- what is wrong at a place of a source; some causes name a subject
abbrev pub place_line : (name : List ℕ) → (at : ℕ) → (what subject : List ℕ) → List ℕ
place_line name at what subject = name ++ (codes ": byte " ++ (decimal at ++ (codes ": " ++ (what ++ (subject ++ codes "\n")))))

-- ---- how a run of an image ended

abbrev pub spent_line : List ℕ
spent_line = codes "steps spent\n"

abbrev pub stop_line : Stop → List ℕ
stop_line stop = codes "stop " ++ (decimal (status_of stop) ++ (codes ": " ++ (text_of stop ++ codes "\n")))

-- an exit with a status that is neither 0 nor a stop's
abbrev pub other_exit_line : List ℕ → ℕ → List ℕ
other_exit_line name status = name ++ (codes ": exit status " ++ (decimal status ++ codes "\n"))

-- an address in hexadecimal: 8 digits in lower case, or 16 where it does not fit
abbrev pub hexadecimal : ℕ → List ℕ
hexadecimal address = if nat_lt address (2 ^ 32) then address_text address else encode_lower (to_be_bytes w64 address)

abbrev pub cause_text : StuckCause → List ℕ
cause_text Fetch = codes "fetch"
cause_text (Access address) = codes "access"
cause_text Flag = codes "flag"
cause_text Divide = codes "divide"
cause_text (Kernel number) = codes "kernel"

abbrev pub stuck_line : List ℕ → (address : ℕ) → StuckCause → List ℕ
stuck_line name address cause = name ++ (codes ": stuck at " ++ (hexadecimal address ++ (codes ": " ++ (cause_text cause ++ codes "\n"))))

abbrev pub stopped_line : (name : List ℕ) → (status : ℕ) → Option Stop → List ℕ
stopped_line name status (Some stop) = stop_line stop
stopped_line name status None = other_exit_line name status

abbrev pub exit_line : (name : List ℕ) → (status : ℕ) → List ℕ
exit_line name status = if status == 0 then [] else stopped_line name status (stop_of status)

abbrev pub end_line : (name : List ℕ) → RunEnd → List ℕ
end_line name run_end.Spent = spent_line
end_line name (run_end.Exited status) = exit_line name status
end_line name (run_end.Stuck stuck) = stuck_line name stuck.at stuck.cause

-- ---- what is seen of a line

-- A prefix of the line was taken, and the whole line unless there was a failure.
pub record Said (line before after : List ℕ) (failed : Type 0) : Type 0 where
  pub prefix : (count : ℕ) × (after ≡ before ++ take count line)
  pub whole : (failed → ⊥) → after ≡ before ++ line

-- The stream has taken the line so, where it tells what it takes.
abbrev pub Says : List ℕ → StreamChange → Type 0
Says line stream = BytesChange stream (λ before after. Said line before after (StreamFailed stream))

-- the pieces of a line, one after another
abbrev pub joined : List (Bor (List ℕ)) → List ℕ
joined [] = []
joined (piece ∷ []) = piece.now
joined (piece ∷ next ∷ more) = piece.now ++ joined (next ∷ more)

-- A machine that runs a program: its state by parts, with the program's text and data for memory.
use Rattle.std.specs.Prelude.{ℕ, List, [], ◌∷◌, true, false}
use Rattle.sch_word.specs.values.Memory.{Segment}
use Rattle.sch_word.specs.runs.ProgramLayout.{text_address}
use Rattle.sch_word.specs.declared.answer.Answer.{Answer}
use Rattle.sch_insn.specs.declared.state.Flags.{Flags}
use Rattle.sch_insn.specs.Machine.{State}
use Rattle.sch_insn.specs.Path as path
use Rattle.sch_word.specs.declared.mark.MarkKind.{MarkKind}
use Rattle.sch_asm.specs.Stands.{Setting}
use Rattle.sch_asm.specs.Data.{data_at}

-- The segment of a text, which is entered at its first byte.
abbrev pub text_at : List ℕ → Segment
text_at bytes = record { address = text_address; readable = true; writable = false; executable = true; bytes = bytes }

pub record View : Type 0 where
  pub registers : ℕ → ℕ
  pub flags : Flags
  pub place : ℕ
  pub bytes : List ℕ
  pub output : List ℕ
  pub answers : List Answer
  pub spare : List ℕ

module _ (setting : Setting) where
  abbrev pub full : View → State
  full x = record {
    core = record { registers = x.registers; flags = x.flags; place = x.place; segments = setting.text ∷ data_at x.bytes ∷ [] };
    output = x.output;
    answers = x.answers;
    spare = x.spare;
  }

  -- From one view the machine comes to another, past these marks.
  abbrev pub Leads : ℕ → ℕ → List MarkKind → View → View → Type 0
  Leads least most events x y = path.Leads setting.marks least most events (full x) (full y)

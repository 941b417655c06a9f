-- The plain data of what stands ready when a program starts.
use Rattle.std.specs.Prelude.{ℕ, List, Option}
use Rattle.sch_word.specs.declared.literal.Lit.{Lit}
use Rattle.sch_word.specs.declared.statics.Statics as declared
use Rattle.sch_word.specs.values.LiteralView.{literals_of}
use Rattle.sch_word.specs.runs.Runs.{Statics}

-- from its parts
abbrev pub statics_of : List (List ℕ) → List Lit → List (Option ℕ) → Statics
statics_of symbols literals globals = record { symbols = symbols; literals = literals_of literals; globals = globals }

abbrev pub statics : declared.Statics → Statics
statics s = statics_of s.symbols s.literals s.globals

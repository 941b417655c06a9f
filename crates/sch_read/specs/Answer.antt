-- What the reading of a text answers.
use Rattle.std.specs.Prelude.{◌≡◌, ℕ, List, IfSome}
use Rattle.sch_read.specs.Fault.{Fault}
use Rattle.sch_read.specs.ErrorFault.{named}
use Rattle.sch_read.specs.Text.{HasFault}
use Rattle.sch_read.specs.declared.error.ReadError.{ReadError}

-- the error names the fault, or is out of memory, which may come in place of any
abbrev pub IsErrorFor : ReadError → Fault → Type 0
IsErrorFor e f = IfSome (named e) (λ g. f ≡ g)

-- the error is out of memory, or names a fault that the text has
abbrev pub IsErrorIn : List ℕ → ReadError → Type 0
IsErrorIn text e = IfSome (named e) (HasFault text)

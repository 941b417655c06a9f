-- The fault that an error names.
use Rattle.std.specs.Prelude.{Option, Some, None}
use Rattle.sch_read.specs.Grammar.{bad_token, bad_number, bad_string}
use Rattle.sch_read.specs.Fault as fault
use Rattle.sch_read.specs.Fault.{Fault}
use Rattle.sch_read.specs.declared.error.ReadError.{ReadError}
use Rattle.sch_read.specs.declared.error.ReadError.TheVariants as errors

-- out of memory names none
abbrev pub named : ReadError → Option Fault
named errors.Memory = None
named (errors.Unclosed at) = Some (fault.Unclosed at)
named (errors.StrayClose at) = Some (fault.StrayClose at)
named (errors.BadToken at) = Some (fault.Flawed at bad_token)
named (errors.BadNumber at) = Some (fault.Flawed at bad_number)
named (errors.BadString at) = Some (fault.Flawed at bad_string)
named (errors.DeepNesting at) = Some (fault.DeepNesting at)
named (errors.LiteralRange at) = Some (fault.LiteralRange at)

-- What the expansion of data answers.
use Rattle.std.specs.Prelude.{◌≡◌, ℕ, List}
use Rattle.sch_read.specs.Grammar.{Data}
use Rattle.sch_sketch.specs.declared.fault.Fault.{Fault}
use Rattle.sch_sketch.specs.declared.fault.Fault.TheVariants as fault
use Rattle.sch_link_tables.specs.Programs.{Definition, seen}
use Rattle.sch_toplevel.specs.Texts.{IsFaultOf}
use Rattle.sch_core.specs.declared.error.CoreError.{CoreError}
use Rattle.sch_core.specs.declared.error.CoreError.TheVariants as errors
use Rattle.sch_core.specs.declared.error.Kind.{Kind}
use Rattle.sch_core.specs.declared.error.Kind.TheVariants as kinds
use Rattle.sch_core.specs.Programs.{ExceedsAt}

-- the error names the fault
abbrev pub IsErrorFor : CoreError → Fault → Type 0
IsErrorFor errors.Memory f = ⊥
IsErrorFor (errors.BadForm at) f = f ≡ fault.BadForm at
IsErrorFor (errors.Unbound at name) f = f ≡ fault.Unbound at name
IsErrorFor (errors.KeywordDefined at) f = f ≡ fault.KeywordDefined at
IsErrorFor (errors.Limit kinds.Operands at) f = f ≡ fault.Operands at
IsErrorFor (errors.Limit kinds.Core at) f = f ≡ fault.Core at
IsErrorFor (errors.Limit _ at) f = ⊥

-- the error is out of memory, names a fault, or what exceeds a limit on variables
abbrev pub IsErrorBy : (IsFault : Fault → Type 0) (Exceeds : Kind → (at : ℕ) → Type 0) → CoreError → Type 0
IsErrorBy IsFault Exceeds errors.Memory = Unit {0}
IsErrorBy IsFault Exceeds (errors.Limit kinds.Variables at) = Exceeds kinds.Variables at
IsErrorBy IsFault Exceeds (errors.Limit kinds.Free at) = Exceeds kinds.Free at
IsErrorBy IsFault Exceeds e = (f : Fault) × IsErrorFor e f × IsFault f

-- by the fault of the data, and the first form with too many variables
abbrev pub IsErrorIn : List Definition → Data → CoreError → Type 0
IsErrorIn ds items e = IsErrorBy (IsFaultOf (seen ds) items) (ExceedsAt ds items) e

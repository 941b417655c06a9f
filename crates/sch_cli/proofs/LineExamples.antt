-- Worked rows: the line and the status of each limit that a text passes.
use Rattle.std.proofs.Common.{◌≡◌, refl}
use Rattle.std.specs.Prelude.{codes}
use Rattle.std.specs.Fmt.{digits}
use Rattle.sch_read.specs.declared.error.ReadError.TheVariants.{DeepNesting, LiteralRange}
use Rattle.sch_core.specs.declared.error.CoreError.TheVariants as core
use Rattle.sch_core.specs.declared.error.Kind.{Kind}
use Rattle.sch_core.specs.declared.error.Kind.TheVariants.{Operands, Core, Variables, Free}
use Rattle.sch_driver.specs.declared.error.Part.TheVariants.{Library, User}
use Rattle.sch_driver.specs.declared.error.CompileError.TheVariants as compiling
use Rattle.sch_cli.specs.Failures.{failure_line, failure_status}
use Rattle.sch_cli.specs.Statuses.{status_number}
use Rattle.sch_cli.specs.declared.failure.Failure.{Failure}
use Rattle.sch_cli.specs.declared.failure.Failure.TheVariants as failure

-- the text passes a limit of this kind at byte 17
abbrev limited : Kind → Failure
limited kind = failure.Compile (compiling.Core User (core.Limit kind 17))

operands_line : failure_line (codes "a") (limited Operands) ≡ codes "a: byte 17: limit operands\n"
unfolding digits
operands_line = refl

core_limit_line : failure_line (codes "a") (limited Core) ≡ codes "a: byte 17: limit core\n"
unfolding digits
core_limit_line = refl

variables_line : failure_line (codes "a") (limited Variables) ≡ codes "a: byte 17: limit variables\n"
unfolding digits
variables_line = refl

free_line : failure_line (codes "a") (limited Free) ≡ codes "a: byte 17: limit free\n"
unfolding digits
free_line = refl

-- limits of the reader, and a limit of the library's text
nesting_line : failure_line (codes "a") (failure.Compile (compiling.Read User (DeepNesting 5))) ≡ codes "a: byte 5: limit nesting\n"
unfolding digits
nesting_line = refl

literal_line : failure_line (codes "a") (failure.Compile (compiling.Read User (LiteralRange 1000))) ≡ codes "a: byte 1000: limit literal\n"
unfolding digits
literal_line = refl

library_line : failure_line (codes "a") (failure.Compile (compiling.Core Library (core.Limit Free 0))) ≡ codes "library: byte 0: limit free\n"
unfolding digits
library_line = refl

-- limits without a place
file_line : failure_line (codes "a") failure.TooLong ≡ codes "a: limit file\n"
file_line = refl

stack_line : failure_line (codes "a") (failure.Compile (compiling.StackTooLarge 2048)) ≡ codes "a: limit stack\n"
stack_line = refl

text_line : failure_line (codes "a") (failure.Compile (compiling.TextTooLarge 16777217)) ≡ codes "a: limit text\n"
text_line = refl

-- the status is 7
kind_status : (kind : Kind) → status_number (failure_status (limited kind)) ≡ 7
kind_status kind = refl

nesting_status : status_number (failure_status (failure.Compile (compiling.Read User (DeepNesting 5)))) ≡ 7
nesting_status = refl

literal_status : status_number (failure_status (failure.Compile (compiling.Read User (LiteralRange 5)))) ≡ 7
literal_status = refl

file_status : status_number (failure_status failure.TooLong) ≡ 7
file_status = refl

stack_status : status_number (failure_status (failure.Compile (compiling.StackTooLarge 2048))) ≡ 7
stack_status = refl

text_status : status_number (failure_status (failure.Compile (compiling.TextTooLarge 16777217))) ≡ 7
text_status = refl

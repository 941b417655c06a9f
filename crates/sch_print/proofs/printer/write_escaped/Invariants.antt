use Rattle.std.proofs.Common.{◌≡◌, ◌++◌, drop}
use Rattle.sch_print.specs.Printed.{escaped_text}
use Rattle.sch_print.proofs.printer.write_escaped.Given as goal

abbrev pub invariant-loop-b : goal.invariant-loop-b
invariant-loop-b l = l.out ++ escaped_text (drop l.b-index l.text) ≡ l.fn.out ++ escaped_text l.text

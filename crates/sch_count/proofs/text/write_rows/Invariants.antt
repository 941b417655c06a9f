use Rattle.std.proofs.Common.{◌≡◌, ◌++◌, drop}
use Rattle.sch_count.specs.CountsText.{rows_text}
use Rattle.sch_count.proofs.text.write_rows.Given as goal

abbrev pub invariant-loop-body : goal.invariant-loop-body
invariant-loop-body l = l.out ++ rows_text (drop l.body l.names) (drop l.body l.rows) ≡ l.fn.out ++ rows_text l.names l.rows

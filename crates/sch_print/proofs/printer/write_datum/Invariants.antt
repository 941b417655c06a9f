use Rattle.std.proofs.Common.{◌≡◌, ◌++◌}
use Rattle.sch_print.specs.Printed.{datum_text}
use Rattle.sch_print.specs.FixnumData.{HasFixnums}
use Rattle.sch_print.specs.Tasks.{tasks_text, TasksHaveFixnums, tasks_load}
use Rattle.sch_read.specs.Views.{tree_of}
use Rattle.sch_print.proofs.printer.write_datum.Given as goal

-- the rest follows what was written, and only the rest's integers are still to be met
abbrev pub invariant-each : goal.invariant-each
invariant-each l = (l.out ++ tasks_text l.tasks.items ≡ l.fn.out ++ datum_text (tree_of l.fn.d))
    × (TasksHaveFixnums l.tasks.items → HasFixnums (tree_of l.fn.d))

abbrev pub decreases-each : goal.decreases-each
decreases-each l = tasks_load l.tasks.items

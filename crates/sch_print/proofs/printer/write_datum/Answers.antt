use Rattle.std.proofs.Common.{rules, ◌≡◌, ◌++◌, [], ◌∷◌}
use Rattle.sch_print.proofs.PrinterTasks.{text_after, fixnums_after, less_after}
use Rattle.sch_print.proofs.printer.write_datum.Goals as goal

pub each-smaller : goal.each-smaller
each-smaller c =
    let taken : c.each.tasks.items ≡ c.pop.new.self.items ++ c.in-Some.task ∷ [] = search rules in
    less_after c.each.tasks.items c.pop.new.self.items c.write_task.new.tasks.items c.in-Some.task taken c.in_ok-write_task.ensures.less

pub each-preserved : goal.each-preserved
each-preserved c =
    let taken : c.each.tasks.items ≡ c.pop.new.self.items ++ c.in-Some.task ∷ [] = search rules in (
      text_after _ c.each.out c.write_task.new.out c.each.tasks.items c.pop.new.self.items c.write_task.new.tasks.items c.in-Some.task taken c.each.invariant.0 c.in_ok-write_task.ensures.text,
      fixnums_after _ c.each.tasks.items c.pop.new.self.items c.write_task.new.tasks.items c.in-Some.task taken c.each.invariant.1 c.in_ok-write_task.ensures.fixnums,
    )

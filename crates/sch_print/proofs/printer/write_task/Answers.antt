use Rattle.std.proofs.Common.{rules, ◌≡◌, ◌++◌, [], ◌∷◌}
use Rattle.std.specs.Prelude.{codes}
use Rattle.sch_print.specs.declared.printer.Task.TheVariants.{One}
use Rattle.sch_print.proofs.PrinterTasks.{Wrote, dot_wrote}
use Rattle.sch_print.proofs.printer.write_task.Goals as goal

dot_done : (c : goal.In_ok-push-in-Dotted) → Wrote c.args.task c.args.out.now c.args.tasks.now.items c.extend_from_slice.new.self c.push.new.self.items
dot_done c =
    let out : c.extend_from_slice.new.self ≡ c.args.out.now ++ codes " . " = search rules in
    let behind : c.push.new.self.items ≡ c.args.tasks.now.items ++ One c.in-Dotted.d ∷ [] = search rules in
    dot_wrote c.args.task c.in-Dotted.d _ _ _ _ c.in-Dotted.is out behind

pub returns-in_ok-push-in-Dotted-clause-text : goal.returns-in_ok-push-in-Dotted-clause-text
returns-in_ok-push-in-Dotted-clause-text c = (dot_done c).text

pub returns-in_ok-push-in-Dotted-clause-fixnums : goal.returns-in_ok-push-in-Dotted-clause-fixnums
returns-in_ok-push-in-Dotted-clause-fixnums c = (dot_done c).fixnums

pub returns-in_ok-push-in-Dotted-clause-less : goal.returns-in_ok-push-in-Dotted-clause-less
returns-in_ok-push-in-Dotted-clause-less c = (dot_done c).less

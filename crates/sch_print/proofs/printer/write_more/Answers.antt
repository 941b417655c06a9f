use Rattle.std.proofs.Common.{rules, ◌≡◌, ◌<◌, ◌++◌, length}
use Rattle.std.specs.Prelude.{codes}
use Rattle.sch_print.proofs.PrinterTasks.{more_opened}
use Rattle.sch_print.proofs.printer.write_more.Goals as goal

pub returns-in_ok-push_items-clause-text : goal.returns-in_ok-push_items-clause-text
returns-in_ok-push_items-clause-text c =
    let some : 0 < length c.args.items.now = search rules in
    let out : c.push.new.self ≡ c.args.out.now ++ codes " " = search rules in
    more_opened c.args.items.now c.args.out.now c.push.new.self c.args.tasks.now.items c.push_items.new.tasks.items some out c.in_ok-push_items.ensures.texts

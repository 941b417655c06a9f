use Rattle.std.proofs.Common.{rules, ◌≡◌, ◌++◌, ◌*◌, [], ◌∷◌, sym, subst}
use Rattle.sch_print.specs.Printed.{items_text}
use Rattle.sch_print.specs.FixnumData.{HaveFixnums}
use Rattle.sch_print.specs.Tasks.{Came}
use Rattle.sch_read.specs.Valid.{weights}
use Rattle.sch_read.specs.Views.{data_of}
use Rattle.sch_print.specs.declared.printer.Task.TheVariants.{One, More}
use Rattle.sch_print.proofs.PrinterTasks.{items_came}
use Rattle.sch_print.proofs.printer.push_items.Goals as goal

pub returns-in_ok-push-2 : goal.returns-in_ok-push-2
returns-in_ok-push-2 c =
    let first = c.in-Some.first in
    let rest = c.in-Some.rest in
    let e : c.push.new.self.items ≡ c.args.tasks.now.items ++ More rest ∷ [] = search rules in
    let f : c.push-in-Some.new.self.items ≡ c.push.new.self.items ++ One first ∷ [] = search rules in
    let is : c.args.items.now ≡ first.now ∷ rest.now = c.in-Some.ensures.cases.0 in
    subst (λ ds. Came (items_text (data_of ds)) (HaveFixnums (data_of ds)) (6 * weights (data_of ds)) c.args.tasks.now.items c.push-in-Some.new.self.items) (sym is)
    (items_came first rest c.args.tasks.now.items c.push.new.self.items c.push-in-Some.new.self.items e f)

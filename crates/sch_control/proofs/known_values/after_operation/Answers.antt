use Rattle.std.proofs.Common.{sym, ◌∙◌}
use Rattle.sch_control.proofs.SetTests.{unknown_behind}
use Rattle.sch_control.proofs.known_values.after_operation.Goals as goal

pub returns-in-None : goal.returns-in-None
returns-in-None g c =
    unknown_behind c.args.o.now c.args.on_true.now c.args.on_false.now c.union.result (sym c.known.ensures ∙ c.in-None.is) c.union.ensures

use Rattle.std.proofs.Common.{[], cond, ap, sym, ◌∙◌}
use Rattle.std.specs.FinSet as set
use Rattle.sch_control.specs.Tree.{call}
use Rattle.sch_control.specs.flow.Middle.{listed}
use Rattle.sch_live.specs.Reached.{where_reached}
use Rattle.sch_live.proofs.EmptySets.{items_empty}
use Rattle.sch_live.proofs.reached.+keep_reached.Goals as goal

pub returns-then-not-reached-clause-made : goal.returns-then-not-reached-clause-made
returns-then-not-reached-clause-made g t c =
    ap (λ z. call c.in-Call.field-0 (set.items z)) c.new.ensures
    ∙ (ap (λ z. call c.in-Call.field-0 z) items_empty
    ∙ sym (ap (λ z. where_reached c.args.reached (listed z)) c.in-Call.is
    ∙ ap (λ m. call c.in-Call.field-0 (cond m (set.items c.in-Call.live) [])) c.if-not-reached.true))

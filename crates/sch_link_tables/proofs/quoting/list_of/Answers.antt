use Rattle.std.proofs.Common.{◌∙◌, sym}
use Rattle.sch_link_tables.proofs.QuoteSteps.{empty_list, some_list}
use Rattle.sch_link_tables.proofs.quoting.list_of.Goals as goal

pub returns-then-len-eq0 : goal.returns-then-len-eq0
returns-then-len-eq0 c = empty_list c.args.items (sym c.len.ensures ∙ c.if-len-eq0.true)

pub returns : goal.returns
returns c = rw c.in_ok-end.ensures.ok (some_list c.args.items (λ e. c.if-len-eq0.false (c.len.ensures ∙ e)))

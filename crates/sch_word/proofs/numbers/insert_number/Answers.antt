use Rattle.std.proofs.Common.{◌∙◌, sym, ap}
use Rattle.sch_word.specs.trees.NumberSets.{has}
use Rattle.sch_word.proofs.facts.NumberSets.{inserted, not_inserted}
use Rattle.sch_word.proofs.numbers.insert_number.Goals as goal

pub returns-in_ok-push : goal.returns-in_ok-push
returns-in_ok-push c = rw c.in_ok-push.ensures.items (inserted c.args.x c.args.xs.now.items (ap (has c.args.x) (sym c.as_slice.ensures.value) ∙ sym c.is_in.ensures ∙ c.if-not-is_in.true))

pub returns-else-not-is_in : goal.returns-else-not-is_in
returns-else-not-is_in c = not_inserted c.args.x c.args.xs.now.items (ap (has c.args.x) (sym c.as_slice.ensures.value) ∙ sym c.is_in.ensures ∙ c.if-not-is_in.false)

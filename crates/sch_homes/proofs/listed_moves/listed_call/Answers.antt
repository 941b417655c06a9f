use Rattle.std.proofs.Common.{◌≡◌, ◌∙◌, sym, true}
use Rattle.std.proofs.lemmas.Result.{IfOk-weaker}
use Rattle.sch_homes.specs.HomeTable.{place_in}
use Rattle.sch_homes.specs.StraightCalls.{are_in_order}
use Rattle.sch_homes.proofs.StraightCalls.{straight_listed}
use Rattle.sch_homes.proofs.listed_moves.listed_call.Goals as goal

pub returns-then-are_in_order : goal.returns-then-are_in_order
returns-then-are_in_order c =
    let lives = place_in c.args.lives.now.places.now in
    let ordered : are_in_order lives c.args.tail c.args.a.now ≡ true = sym c.are_in_order.ensures ∙ c.if-are_in_order.true in
    IfOk-weaker c.straight_call.result _ _ (λ l h end. h ∙ straight_listed lives c.args.tail c.args.a.now ordered end) c.straight_call.ensures

use Rattle.std.proofs.Common.{◌≡◌, ◌∙◌, sym, true}
use Rattle.std.proofs.lemmas.Result.{IfOk-weaker}
use Rattle.sch_homes.specs.HomeTable.{place_in}
use Rattle.sch_homes.specs.StraightCalls.{are_in_order}
use Rattle.sch_homes.proofs.StraightCalls.{straight_is}
use Rattle.sch_homes.proofs.call_moves.call_moves.Goals as goal

pub returns-then-are_in_order : goal.returns-then-are_in_order
returns-then-are_in_order c =
    let lives = place_in c.args.lives.now.places.now in
    let ordered : are_in_order lives c.args.tail c.args.a.now ≡ true = sym c.are_in_order.ensures ∙ c.if-are_in_order.true in
    IfOk-weaker c.straight_moves.result _ _ (λ moves h. h ∙ straight_is lives c.args.tail c.args.a.now ordered c.args.end) c.straight_moves.ensures

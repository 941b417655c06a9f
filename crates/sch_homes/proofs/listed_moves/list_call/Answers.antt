use Rattle.std.proofs.Common.{◌≡◌, ◌∙◌, ◌++◌, ◌∷◌, [], ℕ, ap}
use Rattle.sch_homes.specs.HomeTable.{place_in}
use Rattle.sch_homes.specs.ListedMoves.{listed_call}
use Rattle.sch_homes.proofs.listed_moves.list_call.Goals as goal

pub returns : goal.returns
returns c end =
    let is : (end : ℕ) → c.in_ok-listed_call.field-0
    ≡ listed_call end (place_in c.args.lives.now.places.now) c.args.tail c.args.a.now = c.in_ok-listed_call.ensures in
    c.in_ok-push.ensures.ok ∙ ap (λ x. c.args.calls.now ++ x ∷ []) (is end)

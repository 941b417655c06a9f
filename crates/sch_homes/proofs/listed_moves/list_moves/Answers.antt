use Rattle.std.proofs.Common.{◌∙◌, ◌++◌, ap, arith, rules}
use Rattle.std.proofs.lemmas.Grind.{common_steps}
use Rattle.std.proofs.lemmas.Result.{on_ok_weaker}
use Rattle.sch_homes.specs.View.{entry_of, tree_of}
use Rattle.sch_orders.specs.ListedCalls.{listed_calls}
use Rattle.sch_homes.specs.HomeTable.{place_in}
use Rattle.sch_homes.specs.Homes.{homes_end}
use Rattle.sch_homes.specs.ListedMoves.{listed_call}
use Rattle.sch_homes.proofs.BodyLimits.{body_few}
use Rattle.sch_homes.proofs.listed_moves.list_moves.Goals as goal

pub list_calls-requires : goal.list_calls-requires
list_calls-requires g c = (first_of (search rules, grind (arith, common_steps), omega arith), body_few c.args.b.now)

pub returns : goal.returns
returns g c =
    let p = c.args.b.now in
    let end = homes_end (entry_of p) (tree_of p) p.places in
    on_ok_weaker c.list_calls.result
    (λ h. h end ∙ ap (λ places. c.args.calls.now ++ listed_calls (listed_call end (place_in places)) (tree_of p)) c.as_slice.ensures)
    c.list_calls.ensures

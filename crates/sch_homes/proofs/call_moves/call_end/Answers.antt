use Rattle.std.proofs.Common.{◌≡◌, ◌≤◌, ◌+◌, ◌∙◌, ap, arith, sym, true}
use Rattle.sch_writer.specs.View.{moves_of}
use Rattle.sch_homes.specs.CallMoves.{aside_end, call_end, first_temporary}
use Rattle.sch_homes.specs.HomeTable.{place_in}
use Rattle.sch_homes.specs.StraightCalls.{are_in_order}
use Rattle.sch_homes.proofs.CallEnds.{call_low}
use Rattle.sch_homes.proofs.StraightCalls.{straight_end}
use Rattle.sch_homes.proofs.call_moves.call_end.Goals as goal

pub returns-then-are_in_order : goal.returns-then-are_in_order
returns-then-are_in_order c =
    let lives = place_in c.args.lives.now.places.now in
    let ordered : are_in_order lives c.args.tail c.args.a.now ≡ true = sym c.are_in_order.ensures ∙ c.if-are_in_order.true in
    c.first_temporary-first.ensures ∙ (ap (first_temporary c.args.end) c.len.ensures ∙ straight_end lives c.args.tail c.args.a.now ordered c.args.end)

pub aside_end-requires : goal.aside_end-requires
aside_end-requires c =
    let lives = place_in c.args.lives.now.places.now in
    let same : aside_end c.first_temporary-first.result (moves_of c.as_slice.result.now) ≡ call_end c.args.end lives c.args.tail c.args.a.now =
    ap (λ first. aside_end first (moves_of c.as_slice.result.now)) (c.first_temporary-first.ensures ∙ ap (first_temporary c.args.end) c.len.ensures)
    ∙ ap (aside_end _) (ap moves_of c.as_slice.ensures ∙ c.in_ok-moves.ensures) in
    let least = call_low c.args.end lives c.args.tail c.args.a.now in
    let few = c.requires.few in
    let low = c.requires.low in
    omega (arith, same, least, few, low)

pub returns : goal.returns
returns c =
    c.aside_end.ensures
    ∙ (ap (λ first. aside_end first (moves_of c.as_slice.result.now)) (c.first_temporary-first.ensures ∙ ap (first_temporary c.args.end) c.len.ensures)
    ∙ ap (aside_end _) (ap moves_of c.as_slice.ensures ∙ c.in_ok-moves.ensures))

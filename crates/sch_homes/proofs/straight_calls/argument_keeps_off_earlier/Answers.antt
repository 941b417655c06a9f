use Rattle.std.proofs.Common.{◌∙◌, ap, sym}
use Rattle.std.specs.Option.{option_copied}
use Rattle.sch_word.specs.trees.Bindings.{numbers}
use Rattle.sch_homes.specs.CallMoves.{operand_tree}
use Rattle.sch_homes.specs.HomeTable.{place_in}
use Rattle.sch_homes.specs.StraightCalls.{keeps_off_earlier}
use Rattle.sch_homes.proofs.CallLists.{argument_found, argument_past}
use Rattle.sch_homes.proofs.StraightCalls.{nothing_used}
use Rattle.sch_homes.proofs.straight_calls.argument_keeps_off_earlier.Goals as goal

pub returns-in-None : goal.returns-in-None
returns-in-None c =
    nothing_used (numbers 0 c.args.j)
    ∙ ap (λ o. keeps_off_earlier c.args.tail c.args.j (operand_tree o))
    (sym (argument_past (place_in c.args.lives.now.places.now) c.args.a.now c.args.j c.if-j-eq0.false (sym c.get.ensures.value ∙ ap option_copied c.in-None.is)))

pub returns-in-Some : goal.returns-in-Some
returns-in-Some c =
    c.keeps_off_earlier.ensures ∙ ap (λ o. keeps_off_earlier c.args.tail c.args.j (operand_tree o))
    (sym (argument_found (place_in c.args.lives.now.places.now) c.args.a.now c.args.j _ c.if-j-eq0.false (sym c.get.ensures.value ∙ ap option_copied c.in-Some.is)))

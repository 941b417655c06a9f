use Rattle.std.proofs.Common.{◌∙◌, ap, sym}
use Rattle.std.specs.Option.{option_copied}
use Rattle.std.proofs.lemmas.Result.{IfOk-weaker}
use Rattle.sch_homes.specs.HomeTable.{place_in}
use Rattle.sch_homes.proofs.CallLists.{argument_found, argument_past}
use Rattle.sch_homes.proofs.call_moves.argument_of.Goals as goal

pub returns-in-None : goal.returns-in-None
returns-in-None c =
    sym (argument_past (place_in c.args.lives.now.places.now) c.args.a.now c.args.k c.if-k-eq0.false (sym c.get.ensures.value ∙ ap option_copied c.in-None.is))

pub returns-in-Some : goal.returns-in-Some
returns-in-Some c =
    IfOk-weaker c.operand_at-in-Some.result _ _
    (λ o h. h ∙ sym (argument_found (place_in c.args.lives.now.places.now) c.args.a.now c.args.k _ c.if-k-eq0.false
    (sym c.get.ensures.value ∙ ap option_copied c.in-Some.is))) c.operand_at-in-Some.ensures

use Rattle.std.proofs.Common.{sym, ap, ◌∙◌}
use Rattle.sch_word.specs.declared.place.Place.TheVariants.{Slot}
use Rattle.sch_control.specs.flow.Places.{argument_slot, register_or_slot}
use Rattle.sch_control.proofs.RegisterOrSlot.{arrival_by}
use Rattle.sch_control.proofs.arrivals.arrival.Goals as goal

pub returns-in-Some : goal.returns-in-Some
returns-in-Some c =
    sym (arrival_by c.args.k ∙ ap (λ o. register_or_slot o (argument_slot c.args.k)) (sym c.argument_register.ensures ∙ c.in-Some.is))

pub returns-in-None : goal.returns-in-None
returns-in-None c =
    ap Slot c.argument_slot.ensures
    ∙ sym (arrival_by c.args.k ∙ ap (λ o. register_or_slot o (argument_slot c.args.k)) (sym c.argument_register.ensures ∙ c.in-None.is))

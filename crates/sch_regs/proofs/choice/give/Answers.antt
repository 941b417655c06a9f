use Rattle.std.proofs.Common.{◌∙◌, ◌∷◌, ap, subst, sym}
use Rattle.std.specs.Prelude.{slice_set}
use Rattle.sch_word.specs.values.Registers.{argument_registers}
use Rattle.sch_regs.specs.PlaceChoice.{slots}
use Rattle.sch_regs.specs.Shows.{AreHeld}
use Rattle.sch_regs.proofs.ChoiceSteps.{all_held, fewer_slots, slot_counted, place_listed}
use Rattle.sch_regs.proofs.choice.give.Goals as goal

pub returns : goal.returns
returns g c count t h =
    record {
      shown = λ lt.
          let all = h.shown (fewer_slots c.args.p (slots t) lt) in
          record {
            held = subst (AreHeld ((c.args.y, c.args.p) ∷ t) argument_registers) (sym c.hold_each.ensures) (all_held t c.args.y c.args.p argument_registers _ all.held);
            slots = slot_counted c.args.p c.args.placing.now.slots (slots t) c.count_slot-placing.result c.count_slot-placing.ensures all.slots lt;
            places = c.set_place.ensures ∙ (ap (λ q. slice_set q c.args.y c.args.p) all.places ∙ place_listed t count c.args.y c.args.p);
          };
    }

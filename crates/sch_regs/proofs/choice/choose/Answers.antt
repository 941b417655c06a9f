use Rattle.std.proofs.Common.{◌∷◌, ◌<◌, ◌^◌, sym, subst}
use Rattle.std.specs.FinSet as set
use Rattle.sch_word.specs.values.Registers.{argument_registers}
use Rattle.sch_regs.specs.PlaceChoice.{first_free, slots}
use Rattle.sch_regs.specs.Shows.{AreHeld, ShowsAll}
use Rattle.sch_regs.proofs.ChoiceSteps.{fewer_slots}
use Rattle.sch_regs.proofs.choice.choose.Goals as goal

pub returns : goal.returns
returns g c count t h =
    record {
      shown = λ lt.
          let all = h.shown (fewer_slots (first_free (set.contains c.args.live.now) t argument_registers) (slots t) lt) in
          let is = c.first_free-p.ensures t (subst (λ sets. AreHeld t argument_registers sets) (sym c.as_slice.ensures.value) all.held) all.slots in
          subst (λ q. ShowsAll count c.give.new.placing ((c.args.y, q) ∷ t)) is
          ((c.give.ensures count t h).shown (subst (λ q. slots ((c.args.y, q) ∷ t) < 2 ^ 32) (sym is) lt));
    }

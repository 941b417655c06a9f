use Rattle.std.proofs.Common.{rules, arith}
use Rattle.std.proofs.lemmas.Grind.{common_steps}
use Rattle.sch_regs.proofs.PlacedBodies.{placed}
use Rattle.sch_regs.proofs.SameRuns.{keeps_runs}
use Rattle.sch_regs.proofs.places.assign_places.Goals as goal

pub invariant_of-result : goal.invariant_of-result
invariant_of-result g c =
    let p = placed c.args.b.now c.in_ok-places.places c.in_ok-places.ensures in
    record {
      sized = first_of (search rules, grind (arith, common_steps), omega arith);
      whole = p.whole;
      link = p.link;
      closure = p.closure;
      usual = p.usual;
      formals = p.formals;
      entered = p.entered;
      alone = ∣ p.alone ∣₁;
      points = ∣ p.points ∣₁;
    }

pub returns-clause-slots : goal.returns-clause-slots
returns-clause-slots g c = (placed c.args.b.now c.in_ok-places.places c.in_ok-places.ensures).spills

pub returns-clause-formals : goal.returns-clause-formals
returns-clause-formals g c = (placed c.args.b.now c.in_ok-places.places c.in_ok-places.ensures).stay

pub returns-clause-meaning : goal.returns-clause-meaning
returns-clause-meaning g c = keeps_runs c.args.b.now c.requires.enough c.in_ok-places.places

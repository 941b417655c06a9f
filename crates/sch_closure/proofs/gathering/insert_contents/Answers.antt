use Rattle.std.proofs.Common.{◌∙◌, None, sym, ap, arith, reverse}
use Rattle.sch_cells.specs.Variables.{and_some}
use Rattle.sch_closure.proofs.Loops.{cells_back}
use Rattle.sch_closure.proofs.gathering.insert_contents.Goals as goal

pub loop-left-preserved-in-Continue-1 : goal.loop-left-preserved-in-Continue-1
loop-left-preserved-in-Continue-1 c =
    let i = c.loop-left.invariant in
    let r = reverse c.loop-left.xs.items in
    record {
      free = cells_back c.args.cs.now c.loop-left.left (record { variable = 0; content = None }) r _ _ c.loop-left-test.true i.bound
          (c.in_ok-insert_number.ensures ∙ ap (λ o. and_some o r) (sym c.in-Some.is)) i.free;
      bound = omega (arith, i.bound);
    }

pub loop-left-preserved : goal.loop-left-preserved
loop-left-preserved c =
    let i = c.loop-left.invariant in
    let r = reverse c.loop-left.xs.items in
    record {
      free = cells_back c.args.cs.now c.loop-left.left (record { variable = 0; content = None }) r r _ c.loop-left-test.true i.bound (ap (λ o. and_some o r) (sym c.in_default.is)) i.free;
      bound = omega (arith, i.bound);
    }

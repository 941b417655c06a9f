use Rattle.std.proofs.Common.{length}
use Rattle.sch_anf.proofs.CodeLists.{procedures_made, procedures_valid, procedures_labels, procedures_end}
use Rattle.sch_anf.proofs.body.add_procedures.Goals as goal

pub normalize_procedure-requires-clause-labels : goal.normalize_procedure-requires-clause-labels
normalize_procedure-requires-clause-labels c = (procedures_labels c.args.starts.now c.args.bodies.now c.loop-b.b-index c.b-item.result c.loop-b-test.true c.b-item.is
    (length c.args.starts.now) c.loop-b.invariant.labels).0

pub normalize_procedure-requires-clause-valid : goal.normalize_procedure-requires-clause-valid
normalize_procedure-requires-clause-valid c = (procedures_valid c.args.starts.now c.args.bodies.now c.loop-b.b-index c.b-item.result c.loop-b-test.true c.b-item.is c.loop-b.invariant.valid).0

pub loop-b-preserved : goal.loop-b-preserved
loop-b-preserved c =
    let i = c.loop-b.invariant in
    let starts = c.args.starts.now in
    let items = c.args.bodies.now in
    let b = c.b-item.result in
    let p = c.in_ok-normalize_procedure.ensures in
    record {
      made = procedures_made starts items c.loop-b.b-index b c.loop-b-test.true c.b-item.is c.loop-b.all _ c.in_ok-normalize_procedure.field-0 _ c.in_ok-push.ensures.ok p.made i.made;
      valid = (procedures_valid starts items c.loop-b.b-index b c.loop-b-test.true c.b-item.is i.valid).1;
      labels = (procedures_labels starts items c.loop-b.b-index b c.loop-b-test.true c.b-item.is (length starts) i.labels).1;
      none = p.none;
    }

pub returns-clause-made : goal.returns-clause-made
returns-clause-made c = procedures_end c.args.starts.now c.args.bodies.now c.loop-b.b-index c.loop-b.all _ c.loop-b-test.false c.loop-b.invariant.made

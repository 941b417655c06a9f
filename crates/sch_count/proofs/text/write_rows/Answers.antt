use Rattle.std.proofs.Common.{◌++◌, arith}
use Rattle.sch_count.specs.CountsText.{rows_text}
use Rattle.sch_count.proofs.TextSteps.{no_more}
use Rattle.sch_count.proofs.text.write_rows.Goals as goal

pub returns : goal.returns
returns c =
    let names = c.args.names.now in
    let rows = c.args.rows.now in
    no_more names rows c.loop-body.body c.loop-body.out (c.args.out.now ++ rows_text names rows) (omega (arith, c.loop-body-test.false, c.min-bodies.ensures)) c.loop-body.invariant

use Rattle.std.proofs.Common.{arith}
use Rattle.sch_registers.proofs.EachFramed.{calls_end, calls_next, framed_end, framed_next, tests_among}
use Rattle.sch_registers.proofs.programs.frame_bodies.Goals as goal

pub frame_body-requires : goal.frame_body-requires
frame_body-requires c =
    let few = c.requires in
    let mine = tests_among c.args.bodies.now c.loop-b.b-index c.b-item.result c.loop-b-test.true c.b-item.is in
    omega (arith, few, mine)

pub loop-b-preserved : goal.loop-b-preserved
loop-b-preserved c = record {
  framed = framed_next c.args.bodies.now c.loop-b.b-index c.b-item.result c.loop-b-test.true c.b-item.is c.loop-b.made c.push.new.self c.in_ok-frame_body.field-0
      c.in_ok-push.ensures.ok c.loop-b.invariant.framed c.in_ok-frame_body.ensures.body;
  calls = calls_next c.args.bodies.now c.loop-b.b-index c.b-item.result c.loop-b-test.true c.b-item.is c.args.calls.now c.loop-b.calls c.frame_body.new.calls
      c.in_ok-frame_body.ensures.calls c.loop-b.invariant.calls;
}

pub returns : goal.returns
returns c = record {
  bodies = framed_end c.args.bodies.now c.loop-b.b-index c.loop-b.made c.loop-b-test.false c.loop-b.invariant.framed;
  calls = calls_end c.args.bodies.now c.loop-b.b-index c.args.calls.now c.loop-b.calls c.loop-b-test.false c.loop-b.invariant.calls;
}

use Rattle.std.proofs.Common.{◌∙◌}
use Rattle.sch_writer.proofs.LoopTurns.{next_brought}
use Rattle.sch_writer.proofs.body_layout.arrive.Goals as goal

pub loop-k-preserved : goal.loop-k-preserved
loop-k-preserved g c = record {
  written = λ rest. next_brought (g.P.VariablePlaces.plan c.args.places.now) c.loop-k.k c.args.count c.loop-k.out.instructions c.bring.new.out.instructions c.args.out.now.instructions rest _
      c.loop-k-test.true c.in_ok-bring.ensures.instructions (c.loop-k.invariant.written rest);
  labels = c.in_ok-bring.ensures.labels ∙ c.loop-k.invariant.labels;
}

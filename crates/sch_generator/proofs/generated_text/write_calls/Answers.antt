use Rattle.sch_generator.proofs.WrittenLines.{no_lines, call_state_first, call_state_next, call_line_next}
use Rattle.sch_generator.specs.GeneratedText.{call_line}
use Rattle.sch_generator.proofs.generated_text.write_calls.Goals as goal

pub loop-index-init : goal.loop-index-init
loop-index-init c = record {
  text = no_lines c.args.out.now (call_line c.args.draws.now.state);
  state = call_state_first c.args.draws.now.state;
}

pub loop-index-preserved : goal.loop-index-preserved
loop-index-preserved c = record {
  text = call_line_next _ _ c.loop-index.draws.state _ _ _ _ c.loop-index.out _ c.loop-index.invariant.state c.loop-index.invariant.text
      c.draw-first.ensures.answer c.draw-first.ensures.state c.draw-second.ensures.answer c.in_ok-write_call.ensures;
  state = call_state_next _ _ c.loop-index.draws.state _ _ c.loop-index.invariant.state c.draw-first.ensures.state c.draw-second.ensures.state;
}

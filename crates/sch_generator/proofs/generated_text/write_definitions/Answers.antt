use Rattle.sch_generator.proofs.WrittenLines.{no_lines, definition_state_first, definition_state_next, definition_line_next}
use Rattle.sch_generator.specs.GeneratedText.{definition_line}
use Rattle.sch_generator.proofs.generated_text.write_definitions.Goals as goal

pub loop-index-init : goal.loop-index-init
loop-index-init c = record {
  text = no_lines c.args.out.now (definition_line c.args.draws.now.state);
  state = definition_state_first c.args.draws.now.state;
}

pub loop-index-preserved : goal.loop-index-preserved
loop-index-preserved c = record {
  text = definition_line_next _ _ c.loop-index.draws.state _ c.loop-index.out _ _ c.loop-index.invariant.state c.loop-index.invariant.text c.draw-body.ensures.body c.in_ok-write_definition.ensures;
  state = definition_state_next _ _ c.loop-index.draws.state _ c.loop-index.invariant.state c.draw-body.ensures.state;
}

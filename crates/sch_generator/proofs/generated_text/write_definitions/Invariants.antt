use Rattle.std.proofs.Common.{◌≡◌, ◌++◌}
use Rattle.sch_generator.specs.GeneratedText.{lines_below, definition_line, definition_state}
use Rattle.sch_generator.proofs.generated_text.write_definitions.Given as goal

abbrev pub invariant-loop-index : goal.invariant-loop-index
invariant-loop-index l = record {
  text : l.out ≡ l.fn.out ++ lines_below (definition_line l.fn.draws.state) l.index;
  state : l.draws.state ≡ definition_state l.fn.draws.state l.index;
}

use Rattle.std.proofs.Common.{◌≡◌, ◌++◌}
use Rattle.sch_generator.specs.GeneratedText.{lines_below, call_line, call_state}
use Rattle.sch_generator.proofs.generated_text.write_calls.Given as goal

abbrev pub invariant-loop-index : goal.invariant-loop-index
invariant-loop-index l = record {
  text : l.out ≡ l.fn.out ++ lines_below (call_line l.fn.draws.state) l.index;
  state : l.draws.state ≡ call_state l.fn.draws.state l.index;
}

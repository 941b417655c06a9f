use Rattle.sch_names.specs.NamesView.{names_of}
use Rattle.sch_link_program.proofs.DefinitionSteps.{next_globals, next_symbols}
use Rattle.sch_link_program.proofs.program.name_definitions.Goals as goal

pub loop-d-preserved : goal.loop-d-preserved
loop-d-preserved c =
    let ds = c.args.definitions.now in
    let i = c.loop-d.d-index in
    let d = c.d-item.result in
    record {
      globals = next_globals ds i d c.loop-d-test.true c.d-item.is (names_of c.new-none.result) _ _ _ c.new-none.ensures c.in_ok-name_draft.ensures.globals c.loop-d.invariant.globals;
      symbols = next_symbols ds i d c.loop-d-test.true c.d-item.is _ _ _ c.in_ok-name_draft.ensures.symbols c.loop-d.invariant.symbols;
      listed = λ h. c.in_ok-name_draft.ensures.listed (c.loop-d.invariant.listed h);
    }

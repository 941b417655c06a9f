use Rattle.std.proofs.Common.{sym, ◌∙◌, arith}
use Rattle.sch_core.proofs.items.DefinitionSteps.{formals_at, few_at, variables_at, definition_later, definition_end}
use Rattle.sch_core.proofs.definitions.first_definition_excess.Goals as goal

pub definition_excess-requires : goal.definition_excess-requires
definition_excess-requires c =
    let ds = c.args.definitions.now in
    record {
      formals = formals_at ds c.loop-i.i c.index-definitions-i.result (omega (arith, c.loop-i-test.true, c.min-n.ensures)) c.index-definitions-i.is c.requires.formals;
      few = few_at ds c.loop-i.i c.index-definitions-i.result (omega (arith, c.loop-i-test.true, c.min-n.ensures)) c.index-definitions-i.is c.requires.small;
      variables = variables_at ds c.loop-i.i c.index-definitions-i.result (omega (arith, c.loop-i-test.true, c.min-n.ensures)) c.index-definitions-i.is c.requires.variables;
    }

pub loop-i-preserved : goal.loop-i-preserved
loop-i-preserved c =
    definition_later c.args.items.now c.args.definitions.now c.loop-i.i c.min-n.result c.min-n.ensures _ c.loop-i.invariant c.index-definitions-i.result c.loop-i-test.true c.index-definitions-i.is
    (sym c.in_default.is ∙ c.in_ok-kind.ensures)

pub returns : goal.returns
returns c = definition_end c.args.items.now c.args.definitions.now c.loop-i.i c.min-n.result c.min-n.ensures _ c.loop-i.invariant c.loop-i-test.false

use Rattle.std.proofs.Common.{ap, arith}
use Rattle.sch_read.specs.Valid.{weights}
use Rattle.sch_read.specs.Views.{data_of}
use Rattle.sch_sketch.specs.SketchView.{ahead}
use Rattle.sch_sketch.proofs.DefinitionSteps.{names_left, names_end, inits_left, inits_end}
use Rattle.sch_sketch.proofs.definitions.add_definition.Goals as goal

pub each-smaller : goal.each-smaller
each-smaller c =
    let b = ap (λ l. weights (data_of l)) c.in-Some.ensures in
    omega (arith, b, c.in_ok-add_next.ensures.less)

pub each-preserved : goal.each-preserved
each-preserved c = record {
  names = names_left c.in-Some.next.now _ _ _ _ _ _ c.in-Some.ensures c.in_ok-add_next.ensures.names c.each.invariant.names;
  parts = λ ks. inits_left (ahead c.each.parts) (ahead c.add_next.new.parts) c.in-Some.next.now _ _ _ _ ks c.in-Some.ensures (c.in_ok-add_next.ensures.parts ks) (c.each.invariant.parts ks);
}

pub returns-clause-names : goal.returns-clause-names
returns-clause-names c =
    let none = rw c.in_default.is at c.next.ensures in
    names_end _ _ _ none c.each.invariant.names

pub returns-clause-parts : goal.returns-clause-parts
returns-clause-parts c = λ ks.
    let none = rw c.in_default.is at c.next.ensures in
    inits_end (ahead c.each.parts) (ahead c.each.parts) _ _ ks none (c.each.invariant.parts ks)

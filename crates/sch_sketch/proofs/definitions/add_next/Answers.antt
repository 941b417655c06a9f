use Rattle.std.proofs.Common.{ap}
use Rattle.sch_read.specs.Views.{tree_of}
use Rattle.sch_names.specs.ScopeView.{given_names}
use Rattle.sch_sketch.specs.SketchView.{ahead}
use Rattle.sch_sketch.proofs.DefinitionSteps.{begun_names, begun_inits, begin_names, begin_inits, begin_lighter}
use Rattle.sch_sketch.proofs.definitions.add_next.Goals as goal

pub returns-clause-names : goal.returns-clause-names
returns-clause-names c =
    begin_names (tree_of c.args.d.now) c.in-Some-split.others.now c.enter.new.self c.args.left.now (given_names c.args.names.now)
    (begun_names (tree_of c.args.d.now) c.in-Some.ensures c.in-Some-split.ensures c.in-Some-name.ensures c.is_define.ensures c.if-is_define.false) c.in_ok-enter.ensures

pub returns-clause-parts : goal.returns-clause-parts
returns-clause-parts c = λ ks. ap (ahead c.args.parts.now)
    (begin_inits (tree_of c.args.d.now) c.in-Some-split.others.now c.enter.new.self c.args.left.now ks
    (λ more. begun_inits (tree_of c.args.d.now) more c.in-Some.ensures c.in-Some-split.ensures c.in-Some-name.ensures c.is_define.ensures c.if-is_define.false) c.in_ok-enter.ensures)

pub returns-clause-less : goal.returns-clause-less
returns-clause-less c =
    begin_lighter (tree_of c.args.d.now) c.in-Some-split.others.now c.enter.new.self c.args.left.now c.in-Some.ensures c.in-Some-split.ensures c.in_ok-enter.ensures

use Rattle.std.proofs.Common.{refl}
use Rattle.sch_names.specs.NamesView.{names_of}
use Rattle.sch_link_program.proofs.KeepSteps.{next_hold, end_hold}
use Rattle.sch_link_program.proofs.keeping.held.Goals as goal

pub loop-d-init : goal.loop-d-init
loop-d-init c = λ x. rw c.new-names.ensures refl

pub loop-d-preserved : goal.loop-d-preserved
loop-d-preserved c =
    next_hold (names_of c.args.own.now) (names_of c.loop-d.names) (names_of c.hold.new.names) c.args.definitions.now c.loop-d.d-index c.d-item.result c.loop-d-test.true c.d-item.is c.in_ok-hold.ensures c.loop-d.invariant

pub returns : goal.returns
returns c = end_hold (names_of c.args.own.now) (names_of c.loop-d.names) (names_of c.loop-d.names) c.args.definitions.now c.loop-d.d-index c.loop-d-test.false c.loop-d.invariant

use Rattle.sch_names.specs.ScopeView.{given_names}
use Rattle.sch_sketch.proofs.GroupSteps.{group_made}
use Rattle.sch_sketch.proofs.groups.group.Goals as goal

pub returns-clause-made : goal.returns-clause-made
returns-clause-made c = λ is h.
    let f = rw (c.as_slice.ensures, c.as_slice-2.ensures) at c.in_ok-procedures.ensures.are in
    group_made c.args.scope.now (given_names c.args.bound.names) c.args.at is c.args.bound.inits c.push.new.self c.args.last _ _ h f c.in_ok-push.ensures.ok c.node.ensures

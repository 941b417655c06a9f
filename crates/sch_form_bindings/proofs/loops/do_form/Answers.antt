use Rattle.std.proofs.Common.{ap, ◌∙◌}
use Rattle.sch_read.specs.Views.{tree_of, data_of}
use Rattle.sch_names.specs.ScopeView.{given_names}
use Rattle.sch_form_bindings.proofs.LoopSteps.{do_made}
use Rattle.sch_form_bindings.proofs.loops.do_form.Goals as goal

pub returns : goal.returns
returns c =
    let g = rw c.in-Some.is at c.in_ok-names.ensures in
    c.node.ensures ∙ do_made c.args.at (data_of c.args.parts.now.bindings.now) (tree_of c.args.parts.now.test.now) (data_of c.args.parts.now.results.now) (data_of c.args.parts.now.body.now)
    c.in_ok-all.all c.in_ok-operator.operator g.0 c.in_ok-all.ensures c.in_ok-operator.ensures g.1
    (ap given_names (c.in_ok-variables.ensures ∙ c.as_slice.ensures))

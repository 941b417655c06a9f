use Rattle.std.proofs.Common.{ap, ◌∙◌}
use Rattle.sch_names.specs.ScopeView.{given_names}
use Rattle.sch_form_bindings.proofs.NamedLets.{named_made}
use Rattle.sch_form_bindings.proofs.binders.row_named.Goals as goal

pub returns-clause-made : goal.returns-clause-made
returns-clause-made c =
    let g = rw c.in-Some-2.is at c.in_ok-names.ensures.form in
    named_made c.args.scope.now c.args.at c.args.f.now c.in-Some.ensures c.in-Some-items.ensures g.0 g.1 (ap given_names (c.in_ok-variables.ensures ∙ c.as_slice.ensures)) c.in_ok-operator.ensures c.in_ok-made.ensures

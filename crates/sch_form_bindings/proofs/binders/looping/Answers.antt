use Rattle.sch_read.specs.Views.{data_of}
use Rattle.sch_names.specs.ScopeView.{given_names}
use Rattle.sch_form_bindings.proofs.NamedLets.{looping_made}
use Rattle.sch_form_bindings.proofs.binders.looping.Goals as goal

pub returns : goal.returns
returns c =
    looping_made c.args.at c.args.f (given_names c.args.names) (data_of c.args.body.now) c.push.new.self c.new-own.result _ _ _ _
    c.new-own.ensures c.in_ok-push.ensures.ok c.alone.ensures c.in_ok-inner.ensures c.local.ensures c.in_ok-made.ensures

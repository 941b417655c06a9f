use Rattle.std.proofs.Common.{◌∙◌}
use Rattle.sch_read.specs.Views.{data_of}
use Rattle.sch_form_bindings.proofs.LoopSteps.{again_made}
use Rattle.sch_form_bindings.proofs.loops.again.Goals as goal

pub returns : goal.returns
returns c =
    c.node.ensures ∙ again_made c.args.at c.count.result (data_of c.args.bindings.now) c.push.new.self c.add_steps.new.parts c.new-parts.result c.local.result
    c.new-parts.ensures c.in_ok-push.ensures.ok c.in_ok-add_steps.ensures c.local.ensures c.count.ensures c.plain_call.ensures

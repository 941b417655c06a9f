use Rattle.sch_read.specs.Views.{data_of}
use Rattle.sch_sketch.proofs.PartLists.{made_after}
use Rattle.sch_form_bindings.specs.Bindings as table
use Rattle.sch_form_bindings.proofs.binders.then_inits.Goals as goal

pub returns : goal.returns
returns c = made_after c.push.new.self c.add_inits.new.parts c.new-parts.result c.args.first (table.inits (data_of c.args.items.now)) c.new-parts.ensures c.in_ok-push.ensures.ok c.in_ok-add_inits.ensures

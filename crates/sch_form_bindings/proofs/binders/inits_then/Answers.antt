use Rattle.sch_read.specs.Views.{data_of}
use Rattle.sch_sketch.proofs.PartLists.{made_and}
use Rattle.sch_form_bindings.specs.Bindings as table
use Rattle.sch_form_bindings.proofs.binders.inits_then.Goals as goal

pub returns : goal.returns
returns c = made_and c.add_inits.new.parts c.push.new.self c.new-parts.result c.args.last (table.inits (data_of c.args.items.now)) c.new-parts.ensures c.in_ok-add_inits.ensures c.in_ok-push.ensures.ok

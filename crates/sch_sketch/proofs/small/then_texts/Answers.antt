use Rattle.sch_read.specs.Views.{data_of}
use Rattle.sch_sketch.specs.Small as table
use Rattle.sch_sketch.proofs.PartLists.{made_after}
use Rattle.sch_sketch.proofs.small.then_texts.Goals as goal

pub returns : goal.returns
returns c = made_after c.push.new.self c.add_texts.new.parts c.in_ok-parts.parts c.args.first (table.texts (data_of c.args.items.now)) c.in_ok-parts.ensures c.in_ok-push.ensures.ok c.in_ok-add_texts.ensures

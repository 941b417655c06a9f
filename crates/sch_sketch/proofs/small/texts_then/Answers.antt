use Rattle.sch_read.specs.Views.{data_of}
use Rattle.sch_sketch.specs.Small as table
use Rattle.sch_sketch.proofs.PartLists.{made_and}
use Rattle.sch_sketch.proofs.small.texts_then.Goals as goal

pub returns : goal.returns
returns c = made_and c.add_texts.new.parts c.push.new.self c.in_ok-parts.parts c.args.last (table.texts (data_of c.args.items.now)) c.in_ok-parts.ensures c.in_ok-add_texts.ensures c.in_ok-push.ensures.ok

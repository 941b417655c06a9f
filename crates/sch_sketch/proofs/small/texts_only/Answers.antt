use Rattle.std.proofs.Common.{ap, ◌∙◌}
use Rattle.sch_read.specs.Views.{data_of}
use Rattle.sch_sketch.specs.Small as table
use Rattle.sch_sketch.specs.Sketch as words
use Rattle.sch_sketch.specs.SketchView.{kind_of}
use Rattle.sch_sketch.proofs.PartLists.{made_all}
use Rattle.sch_sketch.proofs.small.texts_only.Goals as goal

pub returns : goal.returns
returns c = c.node-made.ensures ∙ ap (λ ks. words.node (kind_of c.args.kind) c.args.at ks) (made_all c.add_texts.new.parts c.in_ok-parts.parts (table.texts (data_of c.args.items.now)) c.in_ok-parts.ensures c.in_ok-add_texts.ensures)

use Rattle.sch_cells.specs.View.{lambdas_of, trees_of}
use Rattle.sch_closure.proofs.Fields.{fields_made}
use Rattle.sch_closure.proofs.gathering.find_fields.Goals as goal

pub returns : goal.returns
returns c =
    fields_made (lambdas_of c.args.library.now) (trees_of c.args.forms.now) c.new-fields.result.items c.find_each.new.fields.items c.find_lambdas.new.fields.items c.reverse.new.self.items
    c.new-fields.ensures.items c.in_ok-find_each.ensures.fields c.in_ok-find_lambdas.ensures.fields c.reverse.ensures.items

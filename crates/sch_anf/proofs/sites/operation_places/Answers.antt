use Rattle.sch_flat.specs.View.{trees_of}
use Rattle.sch_anf.proofs.PlacedLists.{operation_is}
use Rattle.sch_anf.proofs.sites.operation_places.Goals as goal

pub returns : goal.returns
returns c = operation_is (trees_of c.args.es.now) c.new-all.result c.add_places.new.all c.new-all.ensures c.in_ok-add_places.ensures

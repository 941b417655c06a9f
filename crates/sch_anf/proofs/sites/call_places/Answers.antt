use Rattle.sch_flat.specs.View.{tree, trees_of}
use Rattle.sch_anf.proofs.PlacedLists.{call_is}
use Rattle.sch_anf.proofs.sites.call_places.Goals as goal

pub returns : goal.returns
returns c = call_is (tree c.args.f.now) (trees_of c.args.es.now) c.new-all.result c.add_places.new.all c.add_place.new.all c.new-all.ensures c.in_ok-add_places.ensures c.in_ok-add_place.ensures

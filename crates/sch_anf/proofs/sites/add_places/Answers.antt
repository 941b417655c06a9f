use Rattle.std.proofs.Common.{◌++◌, ◌∙◌, ap, sym, refl, arith}
use Rattle.sch_flat.specs.View.{trees_of}
use Rattle.sch_flat.proofs.Rows.{trees_of_list}
use Rattle.sch_anf_laws.specs.Normal.{bound_places}
use Rattle.sch_anf.proofs.PlacedLists.{places_turn, places_end}
use Rattle.sch_anf.proofs.sites.add_places.Goals as goal

pub loop-e-init : goal.loop-e-init
loop-e-init c = record {
  place = omega arith;
  places = λ last. ap (λ ts. c.args.all.now ++ bound_places c.args.first ts last) (sym (trees_of_list c.as_slice-e-items.result.now));
}

pub loop-e-preserved : goal.loop-e-preserved
loop-e-preserved c = record {
  place = omega (arith, c.loop-e.invariant.place);
  places = places_turn c.as_slice-e-items.result.now c.loop-e.e-index c.e-item.result c.loop-e-test.true c.e-item.is c.loop-e.place _ c.loop-e.all _ _ refl
      c.in_ok-add_place.ensures c.loop-e.invariant.places;
}

pub returns : goal.returns
returns c = places_end c.as_slice-e-items.result.now c.loop-e.e-index c.loop-e.place c.loop-e.all _ c.loop-e-test.false
    (λ last. c.loop-e.invariant.places last ∙ ap (λ es. c.args.all.now ++ bound_places c.args.first (trees_of es) last) c.as_slice-e-items.ensures)

use Rattle.std.proofs.Common.{ap, arith, subst, sym}
use Rattle.sch_flat.specs.View.{trees_of}
use Rattle.sch_flat.proofs.Rows.{trees_of_list}
use Rattle.sch_anf.specs.FewParts.{HaveFewParts}
use Rattle.sch_anf.specs.Placed.{placed_each}
use Rattle.sch_anf.proofs.FewParts.{few_at}
use Rattle.sch_anf.proofs.PlacedLists.{each_back, each_whole}
use Rattle.sch_anf.proofs.sites.+placing.Goals as goal

pub place_each-loop-left-init : goal.place_each-loop-left-init
place_each-loop-left-init t c =
    let items = c.as_slice-items.result.now in
    let few = subst HaveFewParts (trees_of_list items) (subst (λ l. HaveFewParts (trees_of l)) (sym c.as_slice-items.ensures) c.requires.few) in
    record {
      placed = ap (λ ts. placed_each ts c.args.bound.now.items) (each_whole items);
      within = omega arith;
      few_here = λ e l is. few_at items _ e (omega (arith, l)) is few;
    }

pub place_each-loop-left-preserved : goal.place_each-loop-left-preserved
place_each-loop-left-preserved t c =
    let i = c.loop-left.invariant in
    let items = c.as_slice-items.result.now in
    let few = subst HaveFewParts (trees_of_list items) (subst (λ l. HaveFewParts (trees_of l)) (sym c.as_slice-items.ensures) c.requires.few) in
    record {
      placed = each_back items c.loop-left.left c.index-items-left.result c.loop-left.bound.items c.place_expression.new.bound.items _ c.loop-left-test.true i.within
          c.index-items-left.is c.in_ok-place_expression.ensures i.placed;
      within = omega (arith, i.within);
      few_here = λ e l is. few_at items _ e (omega (arith, l, i.within)) is few;
    }

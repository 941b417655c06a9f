use Rattle.std.proofs.Common.{◌<◌, ◌-◌, length, get_or, ap, arith}
use Rattle.std.proofs.lemmas.List.{get_or_default}
use Rattle.sch_anf.specs.Placed.{placed_bodies}
use Rattle.sch_anf.proofs.FewParts.{few_body_at}
use Rattle.sch_anf.proofs.PlacedLists.{bodies_back, bodies_whole}
use Rattle.sch_anf.proofs.sites.place_bodies.Goals as goal

pub loop-left-init : goal.loop-left-init
loop-left-init c = record {
  placed = ap (λ bs. placed_bodies bs c.args.bound.now.items) (bodies_whole c.args.bodies.now);
  within = omega arith;
}

pub loop-left-preserved : goal.loop-left-preserved
loop-left-preserved c =
    let i = c.loop-left.invariant in
    let k = c.loop-left.left - 1 in
    let b = get_or c.args.bodies.now k c.index-bodies-left.result in
    let l : k < length c.args.bodies.now = omega (arith, i.within, c.loop-left-test.true) in
    record {
      placed = bodies_back c.args.bodies.now c.loop-left.left b c.loop-left.bound.items c.place_expression.new.bound.items _ c.loop-left-test.true i.within
          (get_or_default c.args.bodies.now k c.index-bodies-left.result b l) c.in_ok-place_expression.ensures i.placed;
      within = omega (arith, i.within);
    }

pub place_expression-requires : goal.place_expression-requires
place_expression-requires c =
    let bodies = c.args.bodies.now in
    let k = c.loop-left.left - 1 in
    let b = get_or bodies k c.index-bodies-left.result in
    let l : k < length bodies = omega (arith, c.loop-left.invariant.within, c.loop-left-test.true) in
    record { few = few_body_at bodies k b l (get_or_default bodies k c.index-bodies-left.result b l) c.requires.few }

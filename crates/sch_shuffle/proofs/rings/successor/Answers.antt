use Rattle.std.proofs.Common.{◌≡◌, ◌∙◌, ap, sym, false}
use Rattle.sch_shuffle.specs.View.{arguments}
use Rattle.sch_shuffle.specs.Assignment.{operand_at, place_at}
use Rattle.sch_shuffle.specs.CycleSearch.{stands_in}
use Rattle.sch_shuffle.proofs.WalkTurns.{operand_tree, first_next}
use Rattle.sch_shuffle.proofs.rings.successor.Goals as goal

pub loop-j-preserved : goal.loop-j-preserved
loop-j-preserved c =
    let here : stands_in (operand_at (arguments c.args.args.now) c.args.i) (place_at c.args.targets.now c.loop-j.j) ≡ false =
    ap (λ x. stands_in x (place_at c.args.targets.now c.loop-j.j)) (operand_tree c.args.args.now c.args.i c.index-args-i.result c.requires c.index-args-i.is)
    ∙ sym c.stands_in.ensures ∙ c.if-stands_in.false in
    sym (first_next (λ j. stands_in (operand_at (arguments c.args.args.now) c.args.i) (place_at c.args.targets.now j)) _ c.loop-j.j c.loop-j-test.true here) ∙ c.loop-j.invariant

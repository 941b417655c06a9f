use Rattle.std.proofs.Common.{◌∙◌, ℕ, Bool, ap, arith, sym}
use Rattle.std.specs.Prelude.{not}
use Rattle.sch_layout.specs.BodyLayout.{operand_at, target}
use Rattle.sch_shuffle.specs.Tree.{uses}
use Rattle.sch_homes.specs.CallMoves.{next_frame, operand_tree}
use Rattle.sch_homes.specs.HomeTable.{place_in}
use Rattle.sch_homes.proofs.StraightCalls.{all_passed, failed, passed}
use Rattle.sch_homes.proofs.straight_calls.keeps_off_earlier.Goals as goal

pub returns-then-operand_uses : goal.returns-then-operand_uses
returns-then-operand_uses c =
    let free : ℕ → Bool = λ k. not (uses (operand_tree (operand_at (place_in c.args.lives.now.places.now) c.args.o.now)) (target c.args.tail next_frame k)) in
    failed free c.args.j c.loop-k.k c.loop-k-test.true c.loop-k.invariant (ap not (sym (c.operand_uses.ensures ∙ ap (uses (operand_tree (operand_at (place_in c.args.lives.now.places.now) c.args.o.now))) c.target.ensures) ∙ c.if-operand_uses.true))

pub loop-k-preserved : goal.loop-k-preserved
loop-k-preserved c =
    let free : ℕ → Bool = λ k. not (uses (operand_tree (operand_at (place_in c.args.lives.now.places.now) c.args.o.now)) (target c.args.tail next_frame k)) in
    passed free c.args.j c.loop-k.k c.loop-k-test.true c.loop-k.invariant (ap not (sym (c.operand_uses.ensures ∙ ap (uses (operand_tree (operand_at (place_in c.args.lives.now.places.now) c.args.o.now))) c.target.ensures) ∙ c.if-operand_uses.false))

pub returns : goal.returns
returns c =
    let free : ℕ → Bool = λ k. not (uses (operand_tree (operand_at (place_in c.args.lives.now.places.now) c.args.o.now)) (target c.args.tail next_frame k)) in
    let over = c.loop-k-test.false in
    let within = c.loop-k.auto.k-end in
    all_passed free c.args.j c.loop-k.k (omega (arith, over, within)) c.loop-k.invariant

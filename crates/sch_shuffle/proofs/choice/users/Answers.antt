use Rattle.std.proofs.Common.{◌≡◌, ◌∙◌, arith, sym, true, false, Bool}
use Rattle.sch_shuffle.specs.View.{arguments}
use Rattle.sch_shuffle.specs.Greedy.{uses_target}
use Rattle.sch_shuffle.proofs.WaitingArguments.{needed_step}
use Rattle.sch_shuffle.proofs.choice.users.Goals as goal
use Rattle.sch_shuffle.proofs.choice.users.Goals.{then-is_user, else-is_user}

pub loop-j-preserved : goal.loop-j-preserved
loop-j-preserved c =
    let W = uses_target (arguments c.args.args.now) c.args.targets.now in
    let step : (b : Bool) → b ≡ c.is_user.result → _ = λ b e. needed_step W _ c.loop-j.j c.args.k c.loop-j.count b c.loop-j-test.true (e ∙ c.is_user.ensures) in
    elim c.if-is_user.branch [
      | then-is_user w ↦ let s = step true (sym w.if-is_user.true) in (omega (arith, w.count-is, c.loop-j.invariant.0), omega (arith, w.count-is, s, c.loop-j.invariant.1))
      | else-is_user w ↦ let s = step false (sym w.if-is_user.false) in (omega (arith, w.count-is, c.loop-j.invariant.0), omega (arith, w.count-is, s, c.loop-j.invariant.1))
    ]

use Rattle.std.proofs.Common.{◌≡◌, ◌-◌, [], arith, reverse, rules}
use Rattle.sch_variable_counts.proofs.Marks.{close_turn, none_bound}
use Rattle.sch_variable_counts.proofs.assigned.close.Goals as goal

pub loop-left-preserved : goal.loop-left-preserved
loop-left-preserved c =
    let i = c.loop-left.invariant in
    record {
      taken = λ f rest h. close_turn f c.args.count c.loop-left.left rest (reverse c.args.stack.now.items) c.loop-left.scope.items c.pop.new.self.items c.loop-left.stack.items c.push.new.self.items c.in-Some.mark c.loop-left-test.true i.bound c.in-Some.ensures.items c.in_ok-push.ensures.items (i.taken f rest h);
      bound = omega (arith, i.bound);
    }

pub returns-in_default : goal.returns-in_default
returns-in_default c = λ f rest h.
    let none : c.loop-left.scope.items ≡ [] = search rules in
    absurd (none_bound f (c.args.count - c.loop-left.left) c.loop-left.left rest c.loop-left.scope.items c.loop-left-test.true none (c.loop-left.invariant.taken f rest h).0)

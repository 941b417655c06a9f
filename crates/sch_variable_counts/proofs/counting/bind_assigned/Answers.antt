use Rattle.std.proofs.Common.{◌≡◌, [], length, ◌∙◌, ◌+◌, ap, arith, refl, rules}
use Rattle.std.proofs.lemmas.List.{take-append-le}
use Rattle.std.proofs.Math.Seq.{take-length}
use Rattle.sch_lang.specs.Variables.{assigns}
use Rattle.sch_variable_counts.specs.Walked.{capped}
use Rattle.sch_variable_counts.proofs.Marks.{none_marked}
use Rattle.sch_variable_counts.proofs.CappedCounts.{pushed_longer, sum_small, bound_turn, bound_start, bound_rest, bound_total, bound_once_all}
use Rattle.sch_variable_counts.proofs.counting.bind_assigned.Goals as goal

pub loop-left-init : goal.loop-left-init
loop-left-init c = record {
  taken = λ e rest h. bound_start e c.args.count rest c.args.once.now.items c.args.marks.now.items h;
  small = refl;
  kept = take-length c.args.once.now.items;
  len = omega arith;
  bound = omega arith;
}

pub loop-left-preserved : goal.loop-left-preserved
loop-left-preserved c =
    let i = c.loop-left.invariant in
    let l = c.loop-left-test.true in
    record {
      taken = λ e rest h. bound_turn e c.args.count c.loop-left.left c.loop-left.total _ rest c.args.once.now.items c.loop-left.marks.items c.pop.new.self.items c.loop-left.once.items c.push.new.self.items c.in-Some.mark l i.bound c.in-Some.ensures.items (c.plus-total.ensures ∙ ap (λ k. capped (c.loop-left.total + k)) c.twice_if.ensures) c.in_ok-push.ensures.items (i.taken e rest h);
      small = sum_small _ _ c.plus-total.ensures;
      kept = rw c.in_ok-push.ensures.items (take-append-le (length c.args.once.now.items) c.loop-left.once.items _ i.len ∙ i.kept);
      len = rw c.in_ok-push.ensures.items (pushed_longer c.loop-left.once.items _ _ i.len);
      bound = omega (arith, i.bound);
    }

pub returns-clause-count : goal.returns-clause-count
returns-clause-count c = λ e. record {
  taken = λ rest h.
      let k = c.loop-left.invariant.taken e rest h in
      (bound_rest e c.args.count c.loop-left.left c.loop-left.total rest c.args.once.now.items c.loop-left.marks.items c.loop-left.once.items c.loop-left-test.false k, bound_total e c.args.count c.loop-left.left c.loop-left.total rest c.args.once.now.items c.loop-left.marks.items c.loop-left.once.items c.loop-left-test.false k c.loop-left.invariant.small);
}

pub returns-clause-once : goal.returns-clause-once
returns-clause-once c = λ e. record {
  taken = λ rest h.
      let k = c.loop-left.invariant.taken e rest h in
      (bound_rest e c.args.count c.loop-left.left c.loop-left.total rest c.args.once.now.items c.loop-left.marks.items c.loop-left.once.items c.loop-left-test.false k, bound_once_all e c.args.count c.loop-left.left c.loop-left.total rest c.args.once.now.items c.loop-left.marks.items c.loop-left.once.items c.loop-left-test.false k);
}

-- a loop that finds no mark was given too few of them
pub returns-in_default-clause-count : goal.returns-in_default-clause-count
returns-in_default-clause-count c = λ e. record {
  taken = λ rest h.
      let none : c.loop-left.marks.items ≡ [] = search rules in
      absurd (none_marked (assigns e) c.loop-left.left rest c.loop-left.marks.items c.loop-left-test.true none (c.loop-left.invariant.taken e rest h).marks_are);
}

pub returns-in_default-clause-once : goal.returns-in_default-clause-once
returns-in_default-clause-once c = λ e. record {
  taken = λ rest h.
      let none : c.loop-left.marks.items ≡ [] = search rules in
      absurd (none_marked (assigns e) c.loop-left.left rest c.loop-left.marks.items c.loop-left-test.true none (c.loop-left.invariant.taken e rest h).marks_are);
}

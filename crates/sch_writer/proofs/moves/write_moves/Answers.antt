use Rattle.std.proofs.Common.{◌≡◌, ◌∷◌, [], ◌++◌, length, sym, ap, ◌∙◌, arith}
use Rattle.std.specs.Vec.Iter.{into_iter_items}
use Rattle.sch_layout.specs.BodyLayout.{move_all}
use Rattle.sch_writer.specs.View.{moves_of}
use Rattle.sch_writer.proofs.moves.write_moves.Goals as goal
use Rattle.sch_word.proofs.facts.Lists.{length_none}

pub loop-m-preserved : goal.loop-m-preserved
loop-m-preserved c =
    let at = c.loop-m in
    let steps : into_iter_items at.m-iterator ≡ c.in-Some.m ∷ into_iter_items c.next.new.self = c.in-Some.ensures.steps.0 in
    let was = at.invariant.counted in
    let gone = c.in-Some.ensures.steps.1 in
    let short = ap length steps in
    record {
      written = λ rest. c.in_ok-write_move.ensures.instructions _ ∙ (ap (λ ms. at.out.instructions ++ move_all c.args.limit (moves_of ms) rest) (sym steps) ∙ at.invariant.written rest);
      labels = c.in_ok-write_move.ensures.labels ∙ at.invariant.labels;
      counted = omega (arith, was, gone, short);
    }

pub returns-clause-instructions : goal.returns-clause-instructions
returns-clause-instructions c rest =
    let at = c.loop-m in
    let none = c.in-None.ensures.steps in
    let empty : into_iter_items at.m-iterator ≡ [] = length_none _ (sym at.invariant.counted ∙ none.0) in
    ap (λ ms. at.out.instructions ++ move_all c.args.limit (moves_of ms) rest) (sym empty)
    ∙ (at.invariant.written rest
    ∙ ap (λ ms. c.args.out.now.instructions ++ move_all c.args.limit (moves_of ms) rest) (c.into_iter-m-iterator.ensures.into_iter_gives.0 ∙ c.into_vec-m-items.ensures))

pub returns-clause-labels : goal.returns-clause-labels
returns-clause-labels c = c.loop-m.invariant.labels

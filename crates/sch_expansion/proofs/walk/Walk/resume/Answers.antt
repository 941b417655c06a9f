use Rattle.std.proofs.Common.{refl, reverse, ap, nat_eq, arith}
use Rattle.std.proofs.lemmas.List.{reverse-append}
use Rattle.sch_sketch.specs.DraftView.{draft_of}
use Rattle.sch_names.specs.NamesView.{globals_of}
use Rattle.sch_sketch.specs.Measure.{sketch_measure}
use Rattle.sch_sketch.specs.SketchView.{sketch_of}
use Rattle.sch_sketch.proofs.Sketches.{leaf_view}
use Rattle.sch_expansion.specs.WalkStack.{stack_left, open_left}
use Rattle.sch_expansion.proofs.Stacks.{at_leaf, no_part_left, next_part, part_read, smaller_next, fewer_left, smaller_end}
use Rattle.sch_expansion.proofs.walk.Walk.resume.Goals as goal

pub parts-init : goal.parts-init
parts-init c = record { stack = refl; goes = λ w h g. g; left = omega arith }

pub returns-in_default-clause-ready : goal.returns-in_default-clause-ready
returns-in_default-clause-ready c = λ w h g.
    let l = rw c.in_default.is at c.pop.ensures in
    no_part_left w c.parts.node (reverse c.parts.self.stack) c.parts.self.scope c.parts.fault (draft_of c.in_ok-e.e) l.0 c.in_ok-e.ensures (c.parts.invariant.goes w h g)

pub returns-in_default-clause-smaller : goal.returns-in_default-clause-smaller
returns-in_default-clause-smaller c = rw c.parts.invariant.stack (smaller_end c.parts.node (open_left c.args.node) (stack_left (reverse c.args.self.now.stack)) c.parts.invariant.left)

pub returns-in_default-2-clause-ready : goal.returns-in_default-2-clause-ready
returns-in_default-2-clause-ready c = λ w h g m e r.
    let l = rw c.in-Some.is at c.pop.ensures in
    let r' = rw h at r in
    let part = c.in_ok-k.ensures.reads c.parts.node.level c.position_in.result c.parts.fault m e r' in
    rw (c.in_ok-push-in_default-2.ensures.ok, reverse-append)
    (next_part w c.parts.node _ (reverse c.parts.self.stack) c.parts.self.scope c.enter.new.scope c.position_in.result c.in-Some.part (nat_eq c.len-first.result 0) (nat_eq c.len-last.result 0) c.parts.fault m e
    refl refl refl refl refl l (ap (λ n. nat_eq n 0) c.len-first.ensures) (ap (λ n. nat_eq n 0) c.len-last.ensures) c.in_ok-enter.ensures.bound c.in_ok-enter.ensures.kept c.position_in.ensures
    (c.parts.invariant.goes w h g) (rw h part))

pub returns-in_default-2-clause-smaller : goal.returns-in_default-2-clause-smaller
returns-in_default-2-clause-smaller c =
    let l = rw c.in-Some.is at c.pop.ensures in
    rw (c.in_ok-push-in_default-2.ensures.ok, reverse-append, c.parts.invariant.stack)
    (smaller_next c.parts.node c.pop.new.self c.in-Some.part (sketch_measure (sketch_of c.in_ok-k.k)) (open_left c.args.node) (stack_left (reverse c.args.self.now.stack)) l c.in_ok-k.ensures.smaller c.parts.invariant.left)

pub parts-preserved : goal.parts-preserved
parts-preserved c =
    let l = rw c.in-Some.is at c.pop.ensures in
    record {
      stack = c.parts.invariant.stack;
      goes = λ w h g.
          part_read w c.parts.node _ c.pop.new.self (reverse c.parts.self.stack) c.parts.self.scope c.enter.new.scope _ c.position_in.result c.in-Some.part (nat_eq c.len-first.result 0) (nat_eq c.len-last.result 0)
          c.parts.fault c.report_level.new.fault c.draft_of_leaf.result refl refl refl refl refl c.in_ok-push-in-Leaf.ensures.ok l (ap (λ n. nat_eq n 0) c.len-first.ensures) (ap (λ n. nat_eq n 0) c.len-last.ensures)
          c.in_ok-enter.ensures.bound c.in_ok-enter.ensures.kept c.position_in.ensures c.leave.ensures (c.parts.invariant.goes w h g)
          (rw h (c.in_ok-k.ensures.reads c.parts.node.level c.position_in.result c.parts.fault c.report_level.new.fault (draft_of c.draft_of_leaf.result)
          (at_leaf (globals_of c.args.globals.now) (leaf_view _ _ c.in-Leaf.is) c.report_level.ensures c.draft_of_leaf.ensures)));
      left = fewer_left c.parts.node c.pop.new.self c.in-Some.part (open_left c.args.node) l c.parts.invariant.left;
    }

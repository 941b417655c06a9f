use Rattle.std.proofs.Common.{◌≡◌, ◌<◌, length, drop, [], rules, arith, sym, subst, false, true}
use Rattle.std.proofs.lemmas.List.{nil_from_length}
use Rattle.sch_word.specs.declared.answer.Answer.TheVariants.{Took, Failed}
use Rattle.sch_io.proofs.PutSteps.{Along, starts, takes_more, comes_to_end, stops_here, front_of, whole_of}
use Rattle.sch_io.proofs.put.put_all.Goals as goal

pub loop-rest-init : goal.loop-rest-init
loop-rest-init g c = (omega arith, starts _ _ _)

pub loop-rest-preserved : goal.loop-rest-preserved
loop-rest-preserved g c =
    let some : 0 < length c.loop-rest.rest.now = search rules in
    let bytes = g.O.Outlet.bytes in
    let left = g.O.Outlet.left in
    let more : Along c.args.piece.now (drop c.in-Took.count c.loop-rest.rest.now) (bytes c.args.out.now) (bytes c.write.new.self) (left c.args.out.now) (left c.write.new.self) =
    takes_more c.args.piece.now c.loop-rest.rest.now c.in-Took.count (bytes c.args.out.now) (bytes c.loop-rest.out) (bytes c.write.new.self) (left c.args.out.now) (left c.loop-rest.out)
    (left c.write.new.self) some c.if-count-gt0.true c.loop-rest.invariant.1 c.in-Took.ensures.bytes c.in-Took.ensures.left in (
      omega (arith, c.in-Took.ensures.faults),
      subst (λ r. Along c.args.piece.now r (bytes c.args.out.now) (bytes c.write.new.self) (left c.args.out.now) (left c.write.new.self))
          (sym c.split_at.ensures.back) more,
    )

pub returns-in_default-clause-put : goal.returns-in_default-clause-put
returns-in_default-clause-put g c =
    let some : 0 < length c.loop-rest.rest.now = search rules in
    let none : c.in-Took.count ≡ 0 = omega arith in
    stops_here c.args.piece.now c.loop-rest.rest.now (Took c.in-Took.count) (g.O.Outlet.bytes c.args.out.now) (g.O.Outlet.bytes c.loop-rest.out) (g.O.Outlet.bytes c.write.new.self)
    (g.O.Outlet.left c.args.out.now) (g.O.Outlet.left c.loop-rest.out) (g.O.Outlet.left c.write.new.self) some
    (none, some) c.loop-rest.invariant.1 c.in-Took.ensures.bytes c.in-Took.ensures.left

pub returns-in_default-clause-front : goal.returns-in_default-clause-front
returns-in_default-clause-front g c = front_of c.args.piece.now _ _ _ _ false (returns-in_default-clause-put g c)

pub returns-in_default-2-clause-put : goal.returns-in_default-2-clause-put
returns-in_default-2-clause-put g c =
    let some : 0 < length c.loop-rest.rest.now = search rules in
    stops_here c.args.piece.now c.loop-rest.rest.now Failed (g.O.Outlet.bytes c.args.out.now) (g.O.Outlet.bytes c.loop-rest.out) (g.O.Outlet.bytes c.write.new.self)
    (g.O.Outlet.left c.args.out.now) (g.O.Outlet.left c.loop-rest.out) (g.O.Outlet.left c.write.new.self) some tt c.loop-rest.invariant.1 c.in_default.ensures.bytes c.in_default.ensures.left

pub returns-in_default-2-clause-front : goal.returns-in_default-2-clause-front
returns-in_default-2-clause-front g c = front_of c.args.piece.now _ _ _ _ false (returns-in_default-2-clause-put g c)

pub returns-clause-put : goal.returns-clause-put
returns-clause-put g c =
    let zero : length c.loop-rest.rest.now ≡ 0 = search rules in
    let none : c.loop-rest.rest.now ≡ [] = nil_from_length _ zero in
    comes_to_end c.args.piece.now (g.O.Outlet.bytes c.args.out.now) (g.O.Outlet.bytes c.loop-rest.out) (g.O.Outlet.left c.args.out.now) (g.O.Outlet.left c.loop-rest.out)
    (subst (λ r. Along c.args.piece.now r (g.O.Outlet.bytes c.args.out.now) (g.O.Outlet.bytes c.loop-rest.out) (g.O.Outlet.left c.args.out.now) (g.O.Outlet.left c.loop-rest.out)) none
    c.loop-rest.invariant.1)

pub returns-clause-whole : goal.returns-clause-whole
returns-clause-whole g c = whole_of c.args.piece.now _ _ _ _ true (returns-clause-put g c)

pub returns-clause-front : goal.returns-clause-front
returns-clause-front g c = front_of c.args.piece.now _ _ _ _ true (returns-clause-put g c)

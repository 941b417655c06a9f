use Rattle.std.proofs.Common.{ap, arith, reverse}
use Rattle.sch_closure.specs.Found.{found_each, found_lambdas, fields_of_each, fields_of_lambdas}
use Rattle.sch_closure.proofs.Loops.{each_whole, each_turn, each_fields_turn, lambdas_whole, lambdas_turn, lambdas_fields_turn}
use Rattle.sch_closure.proofs.gathering.+gathering.Goals as goal

pub find_each-loop-left-init : goal.find_each-loop-left-init
find_each-loop-left-init t c =
    let items = c.as_slice-items.result.now in
    record {
      free = ap (λ es. found_each es (reverse c.args.free.now.items)) (each_whole items);
      fields = ap (λ es. fields_of_each es (reverse c.args.fields.now.items)) (each_whole items);
      bound = omega arith;
    }

pub find_each-loop-left-preserved : goal.find_each-loop-left-preserved
find_each-loop-left-preserved t c =
    let items = c.as_slice-items.result.now in
    let n = c.loop-left.left in
    let e = c.index-items-left.result in
    let i = c.loop-left.invariant in
    record {
      free = each_turn items n e (reverse c.loop-left.free.items) (reverse c.find.new.free.items) _ c.loop-left-test.true i.bound c.index-items-left.is c.in_ok-find.ensures.free i.free;
      fields = each_fields_turn items n e (reverse c.loop-left.fields.items)
          (reverse c.find.new.fields.items) _ c.loop-left-test.true i.bound c.index-items-left.is c.in_ok-find.ensures.fields i.fields;
      bound = omega (arith, i.bound);
    }

pub find_lambdas-loop-left-init : goal.find_lambdas-loop-left-init
find_lambdas-loop-left-init t c =
    let items = c.as_slice-items.result.now in
    record {
      free = ap (λ ls. found_lambdas ls (reverse c.args.free.now.items)) (lambdas_whole items);
      fields = ap (λ ls. fields_of_lambdas ls (reverse c.args.fields.now.items)) (lambdas_whole items);
      bound = omega arith;
    }

pub find_lambdas-loop-left-preserved : goal.find_lambdas-loop-left-preserved
find_lambdas-loop-left-preserved t c =
    let items = c.as_slice-items.result.now in
    let n = c.loop-left.left in
    let e = c.index-items-left.result in
    let i = c.loop-left.invariant in
    record {
      free = lambdas_turn items n e (reverse c.loop-left.free.items)
          (reverse c.find_lambda.new.free.items) _ c.loop-left-test.true i.bound c.index-items-left.is c.in_ok-find_lambda.ensures.free i.free;
      fields = lambdas_fields_turn items n e (reverse c.loop-left.fields.items)
          (reverse c.find_lambda.new.fields.items) _ c.loop-left-test.true i.bound c.index-items-left.is c.in_ok-find_lambda.ensures.fields i.fields;
      bound = omega (arith, i.bound);
    }

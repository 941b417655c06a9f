use Rattle.std.proofs.Common.{◌≡◌, ◌+◌, length, map, ap, ◌∙◌, sym, arith}
use Rattle.sch_cells.specs.View.{tree}
use Rattle.sch_cells.proofs.Rows.{trees_of_list, lambdas_of_list}
use Rattle.sch_flat.specs.View.{body}
use Rattle.sch_closure.specs.Closed.{procedures_each, procedures_lambdas, closed_each, made_each, fields_of}
use Rattle.sch_closure.specs.Walked.{with_bodies_each, with_bodies_lambdas}
use Rattle.sch_closure.proofs.MadeLists.{each_made, each_bodies, each_count, each_start, each_stand, each_closes, lambdas_made, lambdas_bodies, lambdas_count, lambdas_start, lambdas_stand, lambdas_close, here_is, lambda_closes}
use Rattle.sch_closure.proofs.closing.+closing.Goals as goal

pub close_each-loop-e-init : goal.close_each-loop-e-init
close_each-loop-e-init t c =
    let items = c.as_slice-e-items.result.now in
    let es = sym (trees_of_list items) in
    let n = length c.args.bodies.now.items in
    record {
      made = rw (c.from_vec-all.ensures ∙ c.in_ok-with_capacity.ensures.items) (ap (λ es. closed_each es c.args.own.now n) es);
      bodies = ap (λ es. with_bodies_each es (map body c.args.bodies.now.items)) es;
      count = ap (λ es. n + procedures_each es) es;
      stand = each_start items c.args.es.now c.args.fields.now n c.as_slice-e-items.ensures c.requires.stand;
    }

pub close_each-loop-e-preserved : goal.close_each-loop-e-preserved
close_each-loop-e-preserved t c =
    let i = c.loop-e.invariant in
    let items = c.as_slice-e-items.result.now in
    let e = c.e-item.result in
    let p = c.in_ok-close_expression.ensures in
    let n = length c.loop-e.bodies.items in
    let m = length c.close_expression.new.bodies.items in
    record {
      made = rw c.in_ok-push.ensures.ok (each_made items c.loop-e.e-index e n m c.loop-e-test.true c.e-item.is p.count c.args.own.now c.loop-e.all c.in_ok-close_expression.field-0 _ p.made i.made);
      bodies = each_bodies items c.loop-e.e-index e n m c.loop-e-test.true c.e-item.is p.count (map body c.loop-e.bodies.items) (map body c.close_expression.new.bodies.items) _ p.bodies i.bodies;
      count = each_count items c.loop-e.e-index e n m c.loop-e-test.true c.e-item.is p.count _ i.count;
      stand = each_stand items c.loop-e.e-index e n m c.loop-e-test.true c.e-item.is p.count c.args.fields.now i.stand;
    }

pub close_each-returns : goal.close_each-returns
close_each-returns t c =
    let i = c.loop-e.invariant in
    each_closes c.as_slice-e-items.result.now c.args.es.now c.loop-e.e-index c.args.own.now c.args.bodies.now.items c.loop-e.bodies.items c.loop-e.all c.as_slice-e-items.ensures c.loop-e-test.false
    i.made i.bodies i.count

pub close_lambda-returns : goal.close_lambda-returns
close_lambda-returns t c =
    let l = c.args.l.now in
    let old = c.args.bodies.now.items in
    let n = c.len-label.result in
    let label : n ≡ length old = omega (arith, c.len-label.ensures) in
    let inside : c.as_slice-inside.result.now ≡ fields_of l.first l.formals (tree l.body) =
    c.as_slice-inside.ensures ∙ here_is c.args.fields.now n _ _ (rw label c.requires.here) c.index-fields-label.is in
    lambda_closes l.name l.first l.formals l.rest (tree l.body) c.args.own.now c.as_slice-inside.result.now old c.push.new.self.items c.close_expression.new.bodies.items _ n c.unmade_body.result _ _ _
    label inside c.in_ok-push.ensures.items c.in_ok-code.ensures c.in_ok-body.ensures c.put_body.ensures c.in_ok-place_each.ensures

pub close_lambdas-loop-l-init : goal.close_lambdas-loop-l-init
close_lambdas-loop-l-init t c =
    let items = c.as_slice-l-items.result.now in
    let ls = sym (lambdas_of_list items) in
    let n = length c.args.bodies.now.items in
    record {
      made = rw (c.from_vec-all.ensures ∙ c.in_ok-with_capacity.ensures.items) (ap (λ ls. made_each ls c.args.own.now n) ls);
      bodies = ap (λ ls. with_bodies_lambdas ls (map body c.args.bodies.now.items)) ls;
      count = ap (λ ls. n + procedures_lambdas ls) ls;
      stand = lambdas_start items c.args.ls.now c.args.fields.now n c.as_slice-l-items.ensures c.requires.stand;
    }

pub close_lambdas-loop-l-preserved : goal.close_lambdas-loop-l-preserved
close_lambdas-loop-l-preserved t c =
    let i = c.loop-l.invariant in
    let items = c.as_slice-l-items.result.now in
    let e = c.l-item.result in
    let p = c.in_ok-close_lambda.ensures in
    let n = length c.loop-l.bodies.items in
    let m = length c.close_lambda.new.bodies.items in
    record {
      made = rw c.in_ok-push.ensures.ok (lambdas_made items c.loop-l.l-index e n m c.loop-l-test.true c.l-item.is p.count c.args.own.now c.loop-l.all c.in_ok-close_lambda.field-0 _ p.made i.made);
      bodies = lambdas_bodies items c.loop-l.l-index e n m c.loop-l-test.true c.l-item.is p.count (map body c.loop-l.bodies.items) (map body c.close_lambda.new.bodies.items) _ p.bodies i.bodies;
      count = lambdas_count items c.loop-l.l-index e n m c.loop-l-test.true c.l-item.is p.count _ i.count;
      stand = lambdas_stand items c.loop-l.l-index e n m c.loop-l-test.true c.l-item.is p.count c.args.fields.now i.stand;
    }

pub close_lambdas-returns : goal.close_lambdas-returns
close_lambdas-returns t c =
    let i = c.loop-l.invariant in
    lambdas_close c.as_slice-l-items.result.now c.args.ls.now c.loop-l.l-index c.args.own.now c.args.bodies.now.items c.loop-l.bodies.items c.loop-l.all c.as_slice-l-items.ensures c.loop-l-test.false
    i.made i.bodies i.count

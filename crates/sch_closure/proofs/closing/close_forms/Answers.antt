use Rattle.std.proofs.Common.{◌≡◌, ◌∷◌, ◌++◌, ◌+◌, [], arith, length, map, ap, ◌∙◌, sym}
use Rattle.sch_cells.proofs.Rows.{trees_of_list}
use Rattle.sch_flat.specs.View.{body}
use Rattle.sch_closure.specs.Closed.{procedures_each, closed_each, starts}
use Rattle.sch_closure.specs.Walked.{with_bodies_each}
use Rattle.sch_closure.proofs.MadeLists.{each_made, each_bodies, each_count, each_start, each_stand, each_starts, each_closes}
use Rattle.sch_closure.proofs.closing.close_forms.Goals as goal

pub loop-e-init : goal.loop-e-init
loop-e-init c =
    let items = c.as_slice-e-items.result.now in
    let es = sym (trees_of_list items) in
    let n = length c.args.bodies.now.items in
    record {
      made = rw (c.from_vec-all.ensures ∙ c.in_ok-with_capacity.ensures.items) (ap (λ es. closed_each es [] n) es);
      bodies = ap (λ es. with_bodies_each es (map body c.args.bodies.now.items)) es;
      count = ap (λ es. n + procedures_each es) es;
      stand = each_start items c.args.es.now c.args.fields.now n c.as_slice-e-items.ensures c.requires.stand;
      starts = rw c.requires.none (ap (λ es. starts es n) es);
    }

pub loop-e-preserved : goal.loop-e-preserved
loop-e-preserved c =
    let i = c.loop-e.invariant in
    let items = c.as_slice-e-items.result.now in
    let e = c.e-item.result in
    let p = c.in_ok-close_expression.ensures in
    let n = length c.loop-e.bodies.items in
    let m = length c.close_expression.new.bodies.items in
    let k : c.len-in-loop-e.result ≡ n = omega (arith, c.len-in-loop-e.ensures) in
    record {
      made = rw c.in_ok-push-2.ensures.ok (each_made items c.loop-e.e-index e n m c.loop-e-test.true c.e-item.is p.count [] c.loop-e.all c.in_ok-close_expression.field-0 _ p.made i.made);
      bodies = each_bodies items c.loop-e.e-index e n m c.loop-e-test.true c.e-item.is p.count (map body c.loop-e.bodies.items) (map body c.close_expression.new.bodies.items) _ p.bodies i.bodies;
      count = each_count items c.loop-e.e-index e n m c.loop-e-test.true c.e-item.is p.count _ i.count;
      stand = each_stand items c.loop-e.e-index e n m c.loop-e-test.true c.e-item.is p.count c.args.fields.now i.stand;
      starts = each_starts items c.loop-e.e-index e n m c.loop-e-test.true c.e-item.is p.count c.loop-e.before c.push.new.self _
          (c.in_ok-push.ensures.ok ∙ ap (λ k. c.loop-e.before ++ k ∷ []) k) i.starts;
    }

pub returns-clause-closes : goal.returns-clause-closes
returns-clause-closes c =
    let i = c.loop-e.invariant in
    each_closes c.as_slice-e-items.result.now c.args.es.now c.loop-e.e-index [] c.args.bodies.now.items c.loop-e.bodies.items c.loop-e.all c.as_slice-e-items.ensures c.loop-e-test.false
    i.made i.bodies i.count

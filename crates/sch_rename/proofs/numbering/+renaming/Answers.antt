use Rattle.std.proofs.Common.{refl, reverse, sym, subst, ◌∙◌, arith}
use Rattle.sch_lang.specs.View.{expression, expressions_of, function, lambdas_of}
use Rattle.sch_cells.specs.Tree.{bind, fix, letrec, no_trees, no_lambdas}
use Rattle.sch_cells.specs.View as view
use Rattle.sch_cells.specs.View.{tree, trees_of}
use Rattle.sch_rename.specs.Made.{Renames}
use Rattle.sch_rename.proofs.Loops.{then_same, each_made, each_next, each_inside, each_start, each_start_next, each_start_inside, each_renames, lambdas_made, lambdas_next, lambdas_inside, lambdas_start, lambdas_start_next, lambdas_start_inside, lambdas_rename}
use Rattle.sch_rename.proofs.BindingNodes.{let_renames, fix_renames, rec_renames, lambda_renames}
use Rattle.sch_rename.proofs.numbering.+renaming.Goals as goal

pub rename_each-loop-e-init : goal.rename_each-loop-e-init
rename_each-loop-e-init t c =
    let items = c.as_slice-e-items.result.now in
    record {
      made = each_start (reverse c.args.scope.now.items) items c.from_vec-all.result c.args.next.now (c.from_vec-all.ensures ∙ c.in_ok-with_capacity.ensures.items);
      next = each_start_next items c.args.next.now;
      inside = each_start_inside items c.args.es.now _ c.as_slice-e-items.ensures c.requires.inside;
      scope = refl;
    }

pub rename_each-loop-e-preserved : goal.rename_each-loop-e-preserved
rename_each-loop-e-preserved t c =
    let i = c.loop-e.invariant in
    let items = c.as_slice-e-items.result.now in
    let q = c.in_ok-rename_expression.field-0 in
    let p = c.in_ok-rename_expression.ensures in
    record {
      made = rw (c.in_ok-push.ensures.ok, p.scope) (each_made (reverse c.loop-e.scope.items) items c.loop-e.e-index c.loop-e.all c.e-item.result q c.loop-e.next c.rename_expression.new.next 0 _ c.loop-e-test.true c.e-item.is p.made p.next i.made);
      next = each_next (reverse c.loop-e.scope.items) items c.loop-e.e-index c.loop-e.all c.e-item.result q c.loop-e.next c.rename_expression.new.next _ no_trees c.loop-e-test.true c.e-item.is p.next i.next;
      inside = rw p.scope (each_inside (reverse c.loop-e.scope.items) items c.loop-e.e-index c.loop-e.all c.e-item.result q 0 0 0 no_trees c.loop-e-test.true c.e-item.is _ i.inside);
      scope = then_same p.scope i.scope;
    }

pub rename_each-returns : goal.rename_each-returns
rename_each-returns t c =
    let i = c.loop-e.invariant in
    each_renames _ c.as_slice-e-items.result.now c.args.es.now c.loop-e.e-index c.loop-e.all _ c.loop-e.next _ c.as_slice-e-items.ensures c.loop-e-test.false i.made i.next i.scope

pub rename_lambdas-loop-l-init : goal.rename_lambdas-loop-l-init
rename_lambdas-loop-l-init t c =
    let items = c.as_slice-l-items.result.now in
    record {
      made = lambdas_start (reverse c.args.scope.now.items) items c.from_vec-all.result c.args.next.now (c.from_vec-all.ensures ∙ c.in_ok-with_capacity.ensures.items);
      next = lambdas_start_next items c.args.next.now;
      inside = lambdas_start_inside items c.args.ls.now _ c.as_slice-l-items.ensures c.requires.inside;
      scope = refl;
    }

pub rename_lambdas-loop-l-preserved : goal.rename_lambdas-loop-l-preserved
rename_lambdas-loop-l-preserved t c =
    let i = c.loop-l.invariant in
    let items = c.as_slice-l-items.result.now in
    let q = c.in_ok-rename_lambda.field-0 in
    let p = c.in_ok-rename_lambda.ensures in
    record {
      made = rw (c.in_ok-push.ensures.ok, p.scope) (lambdas_made (reverse c.loop-l.scope.items) items c.loop-l.l-index c.loop-l.all c.l-item.result q c.loop-l.next c.rename_lambda.new.next 0 _ c.loop-l-test.true c.l-item.is p.made p.next i.made);
      next = lambdas_next (reverse c.loop-l.scope.items) items c.loop-l.l-index c.loop-l.all c.l-item.result q c.loop-l.next c.rename_lambda.new.next _ no_lambdas c.loop-l-test.true c.l-item.is p.next i.next;
      inside = rw p.scope (lambdas_inside (reverse c.loop-l.scope.items) items c.loop-l.l-index c.loop-l.all c.l-item.result q 0 0 0 no_lambdas c.loop-l-test.true c.l-item.is _ i.inside);
      scope = then_same p.scope i.scope;
    }

pub rename_lambdas-returns : goal.rename_lambdas-returns
rename_lambdas-returns t c =
    let i = c.loop-l.invariant in
    lambdas_rename _ c.as_slice-l-items.result.now c.args.ls.now c.loop-l.l-index c.loop-l.all _ c.loop-l.next _ c.as_slice-l-items.ensures c.loop-l-test.false i.made i.next i.scope

pub rename_let-returns : goal.rename_let-returns
rename_let-returns t c =
    let p = c.in-Let in
    let s = c.args.scope.now.items in
    let b = c.in_ok-bind_variables.ensures in
    subst (λ e. Renames (expression e) s c.truncate.new.self.items c.args.next.now c.rename_boxed.new.next (bind p.site c.args.next.now (trees_of c.in_ok-inits.inits) (tree c.in_ok-body.body.value))) (sym p.is)
    (let_renames p.site (expressions_of p.inits) (expression p.body.value) s c.rename_each.new.scope.items c.bind_variables.new.scope.items c.rename_boxed.new.scope.items _ c.args.next.now _ c.rename_each.new.next _
    c.count-count.result c.len-depth.result _ _ c.count-count.ensures refl c.in_ok-inits.ensures b.names b.kept (omega (arith, c.len-depth.ensures)) c.in_ok-body.ensures c.truncate.ensures.items)

pub rename_fix-returns : goal.rename_fix-returns
rename_fix-returns t c =
    let p = c.in-Fix in
    let s = c.args.scope.now.items in
    let b = c.in_ok-bind_variables.ensures in
    subst (λ e. Renames (expression e) s c.truncate.new.self.items c.args.next.now c.rename_boxed.new.next (fix c.args.next.now (view.lambdas_of c.in_ok-lambdas.lambdas) (tree c.in_ok-body.body.value))) (sym p.is)
    (fix_renames (lambdas_of p.lambdas) (expression p.body.value) s c.bind_variables.new.scope.items c.rename_lambdas.new.scope.items c.rename_boxed.new.scope.items _ c.args.next.now _ c.rename_lambdas.new.next _
    c.count_lambdas-count.result c.len-depth.result _ _ c.count_lambdas-count.ensures refl (omega (arith, c.len-depth.ensures)) b.names b.kept c.in_ok-lambdas.ensures c.in_ok-body.ensures c.truncate.ensures.items)

pub rename_rec-returns : goal.rename_rec-returns
rename_rec-returns t c =
    let p = c.in-Rec in
    let s = c.args.scope.now.items in
    let b = c.in_ok-bind_variables.ensures in
    subst (λ e. Renames (expression e) s c.truncate.new.self.items c.args.next.now c.rename_boxed.new.next (letrec p.site c.args.next.now (trees_of c.in_ok-inits.inits) (tree c.in_ok-body.body.value))) (sym p.is)
    (rec_renames p.site (expressions_of p.inits) (expression p.body.value) s c.bind_variables.new.scope.items c.rename_each.new.scope.items c.rename_boxed.new.scope.items _ c.args.next.now _ c.rename_each.new.next _
    c.count-count.result c.len-depth.result _ _ c.count-count.ensures refl (omega (arith, c.len-depth.ensures)) b.names b.kept c.in_ok-inits.ensures c.in_ok-body.ensures c.truncate.ensures.items)

pub rename_lambda-returns : goal.rename_lambda-returns
rename_lambda-returns t c =
    let b = c.in_ok-bind_variables.ensures in
    lambda_renames (function c.args.l.now) c.args.scope.now.items c.bind_variables.new.scope.items c.rename_expression.new.scope.items _ c.args.next.now _ c.len-depth.result c.in_ok-name.name _
    (omega (arith, c.len-depth.ensures)) b.names b.kept c.in_ok-body.ensures c.truncate.ensures.items (c.in_ok-name.ensures ∙ c.as_slice.ensures)

use Rattle.std.proofs.Common.{◌≡◌, ◌<◌, suc, ◌+◌, ◌∙◌, Some, None, cond, length, drop, refl, ap, sym, subst, arith, IfOk}
use Rattle.sch_flat.specs.View.{tree, trees_of}
use Rattle.sch_flat.proofs.Rows.{trees_of_list}
use Rattle.sch_control.specs.Sizes.{is_bare_atom}
use Rattle.sch_control.specs.View.{expression}
use Rattle.sch_anf.specs.declared.steps.Step.{Step}
use Rattle.sch_anf_laws.specs.LabelsFit.{LabelsFitEach}
use Rattle.sch_anf_laws.specs.Normal.{binds, binds_parts, operands_bind, inits_bind, operands_at, init_numbers, normal_parts, with_operands, with_inits}
use Rattle.sch_anf.specs.ScopeTable.{scope_of}
use Rattle.sch_anf.specs.Steps.{after}
use Rattle.sch_anf.specs.Walked.{NormalizesSequence}
use Rattle.sch_anf.specs.Round.{bound_before, dropped_before}
use Rattle.sch_anf_laws.proofs.Items.{left, no_items}
use Rattle.sch_anf.proofs.NewSteps.{adds_one}
use Rattle.sch_anf.proofs.PartSteps.{atom_is, bound_is, dropped_is, labels_next, parts_turn, few_parts_next, few_dropped, parts_none, operands_turn, operands_steps, operands_few, operands_end, inits_turn, inits_steps, inits_few, inits_end}
use Rattle.sch_anf.proofs.normalizing.+normalizing.Goals as goal

pub normalize_bound-returns : goal.normalize_bound-returns
normalize_bound-returns t c =
    let v = c.args.v.now in
    let f = c.fresh-number.ensures in
    let s : Step = record { variable = Some c.fresh-number.result; value = c.in_ok-value.value } in
    record {
      number = f.number;
      steps = adds_one c.args.steps.now.items c.push.new.self.items s (bound_before c.args.starts.now (tree c.args.e.now) (scope_of v.bound.items) v.next) c.in_ok-push.ensures.items
          (bound_is c.args.starts.now (tree c.args.e.now) c.fresh-number.result v.next c.fresh-number.new.self.next (scope_of v.bound.items) (scope_of c.fresh-number.new.self.bound.items)
          (expression c.in_ok-value.value.value) f.number (ap scope_of f.bound) f.next c.in_ok-value.ensures.made);
      next = omega (arith, f.next, c.in_ok-value.ensures.next);
      scope = c.in_ok-value.ensures.scope ∙ f.bound;
    }

pub normalize_dropped-returns : goal.normalize_dropped-returns
normalize_dropped-returns t c =
    let v = c.args.v.now in
    let s : Step = record { variable = None; value = c.in_ok-value.value } in
    let calls = sym c.ends_in_call.ensures ∙ c.if-ends_in_call.false in
    record {
      steps = adds_one c.args.steps.now.items c.push.new.self.items s (dropped_before c.args.starts.now (tree c.args.e.now) (scope_of v.bound.items) v.next) c.in_ok-push.ensures.items
          (dropped_is c.args.starts.now (tree c.args.e.now) v.next (scope_of v.bound.items) (expression c.in_ok-value.value.value)
          calls c.in_ok-value.ensures.made (ap (λ x. is_bare_atom (expression x)) (sym c.deref.ensures) ∙ (sym c.is_bare_atom.ensures ∙ c.if-is_bare_atom.false)));
      next = c.in_ok-value.ensures.next ∙ ap (λ b. v.next + cond b (suc (binds (tree c.args.e.now))) (binds (tree c.args.e.now))) (sym calls);
      scope = c.in_ok-value.ensures.scope;
    }

pub normalize_dropped-returns-then-is_bare_atom : goal.normalize_dropped-returns-then-is_bare_atom
normalize_dropped-returns-then-is_bare_atom t c =
    let v = c.args.v.now in
    let calls = sym c.ends_in_call.ensures ∙ c.if-ends_in_call.false in
    record {
      steps = λ body. ap (after c.args.steps.now.items)
          (atom_is c.args.starts.now (tree c.args.e.now) v.next (scope_of v.bound.items) (expression c.in_ok-value.value.value)
          calls c.in_ok-value.ensures.made (ap (λ x. is_bare_atom (expression x)) (sym c.deref.ensures) ∙ (sym c.is_bare_atom.ensures ∙ c.if-is_bare_atom.true)) body);
      next = c.in_ok-value.ensures.next ∙ ap (λ b. v.next + cond b (suc (binds (tree c.args.e.now))) (binds (tree c.args.e.now))) (sym calls);
      scope = c.in_ok-value.ensures.scope;
    }

pub normalize_operands-loop-e-init : goal.normalize_operands-loop-e-init
normalize_operands-loop-e-init t c =
    let v = c.args.v.now in
    let items = c.as_slice-e-items.result.now in
    let es = sym (trees_of_list items) in
    record {
      operands = rw (c.from_vec-all.ensures ∙ c.in_ok-with_capacity.ensures.items) (ap (λ ts. operands_at (scope_of v.bound.items) ts v.next) es);
      steps = λ body. ap (λ ts. after c.args.steps.now.items (with_operands c.args.starts.now ts (scope_of v.bound.items) v.next body)) es;
      few = ap (λ ts. v.next + operands_bind ts) es;
      labels = subst (λ ts. LabelsFitEach (length c.args.starts.now) ts) (trees_of_list items)
          (subst (λ l. LabelsFitEach (length c.args.starts.now) (trees_of l)) (sym c.as_slice-e-items.ensures) c.requires.labels);
      scope = refl;
    }

pub normalize_inits-loop-e-init : goal.normalize_inits-loop-e-init
normalize_inits-loop-e-init t c =
    let v = c.args.v.now in
    let items = c.as_slice-e-items.result.now in
    let es = sym (trees_of_list items) in
    record {
      numbers = rw (c.from_vec-all.ensures ∙ c.in_ok-with_capacity.ensures.items) (ap (λ ts. init_numbers ts v.next) es);
      steps = λ body. ap (λ ts. after c.args.steps.now.items (with_inits c.args.starts.now ts (scope_of v.bound.items) v.next body)) es;
      few = ap (λ ts. v.next + inits_bind ts) es;
      labels = subst (λ ts. LabelsFitEach (length c.args.starts.now) ts) (trees_of_list items)
          (subst (λ l. LabelsFitEach (length c.args.starts.now) (trees_of l)) (sym c.as_slice-e-items.ensures) c.requires.labels);
      scope = refl;
    }

pub normalize_parts-returns-then-count-eq0 : goal.normalize_parts-returns-then-count-eq0
normalize_parts-returns-then-count-eq0 t c =
    let none = no_items c.as_slice-items.result.now c.args.es.now c.as_slice-items.ensures (omega arith) in
    subst (λ ts. IfOk c.read_atom.result (λ q. NormalizesSequence c.args.starts.now c.args.tail ts c.args.v.now c.args.v.now (expression q.value))) (sym none)
    (parts_none c.args.starts.now c.args.tail c.args.v.now (λ q. expression q.value) c.read_atom.result c.read_atom.ensures)

pub normalize_parts-loop-i-init : goal.normalize_parts-loop-i-init
normalize_parts-loop-i-init t c =
    let v = c.args.v.now in
    let items = c.as_slice-items.result.now in
    let es = sym (trees_of_list items) in
    record {
      parts = ap (λ ss. after ss (normal_parts c.args.starts.now c.args.tail (left items) (scope_of v.bound.items) v.next)) c.new-steps.ensures.items
          ∙ ap (λ ts. normal_parts c.args.starts.now c.args.tail ts (scope_of v.bound.items) v.next) es;
      few = ap (λ ts. v.next + binds_parts ts) es;
      labels = subst (λ ts. LabelsFitEach (length c.args.starts.now) ts) (trees_of_list items)
          (subst (λ l. LabelsFitEach (length c.args.starts.now) (trees_of l)) (sym c.as_slice-items.ensures) c.requires.labels);
      scope = refl;
      labels_here = λ e l is. (labels_next items 0 e (omega (arith, l)) is (length c.args.starts.now)
          (subst (λ ts. LabelsFitEach (length c.args.starts.now) ts) (trees_of_list items)
          (subst (λ l. LabelsFitEach (length c.args.starts.now) (trees_of l)) (sym c.as_slice-items.ensures) c.requires.labels))).0;
      few_here = λ e l is. few_dropped c.args.starts.now c.args.tail (scope_of v.bound.items) items c.args.es.now 0 e v.next v.next l is c.as_slice-items.ensures
          (ap (λ ts. v.next + binds_parts ts) es) c.requires.few;
    }

pub normalize_parts-loop-i-preserved : goal.normalize_parts-loop-i-preserved
normalize_parts-loop-i-preserved t c =
    let i = c.loop-i.invariant in
    let items = c.as_slice-items.result.now in
    let e = c.index-items-i.result in
    let l : suc c.loop-i.i < length items = omega arith in
    let d = c.in_ok-normalize_dropped.ensures in
    let scope = scope_of c.loop-i.v.bound.items in
    let labels = (labels_next items c.loop-i.i e (omega arith) c.index-items-i.is (length c.args.starts.now) i.labels).1 in
    let few : c.normalize_dropped.new.v.next + binds_parts (left (drop (c.loop-i.i + 1) items)) ≡ c.args.v.now.next + binds_parts (trees_of items) =
    rw d.next (few_parts_next c.args.starts.now c.args.tail scope items c.loop-i.i e l c.index-items-i.is c.loop-i.v.next _ i.few) in
    record {
      parts = subst (λ b. after c.normalize_dropped.new.steps.items (normal_parts c.args.starts.now c.args.tail (left (drop (c.loop-i.i + 1) items)) (scope_of b) c.normalize_dropped.new.v.next)
          ≡ normal_parts c.args.starts.now c.args.tail (trees_of items) (scope_of c.args.v.now.bound.items) c.args.v.now.next) (sym d.scope)
          (parts_turn c.args.starts.now c.args.tail scope items c.loop-i.i e l c.index-items-i.is c.loop-i.v.next c.normalize_dropped.new.v.next c.loop-i.steps.items
          c.normalize_dropped.new.steps.items _ d.next d.steps i.parts);
      few = few;
      labels = labels;
      scope = d.scope ∙ i.scope;
      labels_here = λ e' l' is'. (labels_next items (c.loop-i.i + 1) e' (omega (arith, l')) is' (length c.args.starts.now) labels).0;
      few_here = λ e' l' is'. few_dropped c.args.starts.now c.args.tail scope items c.args.es.now
          (c.loop-i.i + 1) e' c.normalize_dropped.new.v.next c.args.v.now.next l' is' c.as_slice-items.ensures few c.requires.few;
    }

pub normalize_operands-loop-e-preserved : goal.normalize_operands-loop-e-preserved
normalize_operands-loop-e-preserved t c =
    let i = c.loop-e.invariant in
    let items = c.as_slice-e-items.result.now in
    let k = c.loop-e.e-index in
    let e = c.e-item.result in
    let p = c.in_ok-normalize_part.ensures in
    let v = c.loop-e.v in
    let w = c.normalize_part.new.v in
    let l = c.loop-e-test.true in
    let is = c.e-item.is in
    let scope = ap scope_of p.scope in
    record {
      operands = operands_turn items k e l is (scope_of v.bound.items) (scope_of w.bound.items) v.next w.next scope p.next c.loop-e.all c.push.new.self _ c.in_ok-normalize_part.field-0 c.in_ok-push.ensures.ok p.operand i.operands;
      steps = operands_steps items k e l is (scope_of v.bound.items) (scope_of w.bound.items) v.next w.next scope p.next c.args.starts.now c.loop-e.steps.items c.normalize_part.new.steps.items _ p.steps i.steps;
      few = operands_few items k e l is (scope_of v.bound.items) (scope_of w.bound.items) v.next w.next scope p.next _ i.few;
      labels = (labels_next items k e l is (length c.args.starts.now) i.labels).1;
      scope = p.scope ∙ i.scope;
    }

pub normalize_operands-returns : goal.normalize_operands-returns
normalize_operands-returns t c =
    let i = c.loop-e.invariant in
    operands_end c.args.starts.now c.as_slice-e-items.result.now c.args.es.now c.loop-e.e-index c.args.v.now c.loop-e.v c.args.steps.now.items c.loop-e.steps.items c.loop-e.all c.as_slice-e-items.ensures c.loop-e-test.false
    i.operands i.steps i.few i.scope

pub normalize_inits-loop-e-preserved : goal.normalize_inits-loop-e-preserved
normalize_inits-loop-e-preserved t c =
    let i = c.loop-e.invariant in
    let items = c.as_slice-e-items.result.now in
    let k = c.loop-e.e-index in
    let e = c.e-item.result in
    let p = c.in_ok-normalize_bound.ensures in
    let v = c.loop-e.v in
    let w = c.normalize_bound.new.v in
    let l = c.loop-e-test.true in
    let is = c.e-item.is in
    let scope = ap scope_of p.scope in
    record {
      numbers = inits_turn items k e l is (scope_of v.bound.items) (scope_of w.bound.items) v.next w.next scope p.next c.loop-e.all c.push.new.self _ c.in_ok-normalize_bound.field-0 c.in_ok-push.ensures.ok p.number i.numbers;
      steps = inits_steps items k e l is (scope_of v.bound.items) (scope_of w.bound.items) v.next w.next scope p.next c.args.starts.now c.loop-e.steps.items c.normalize_bound.new.steps.items _ p.steps i.steps;
      few = inits_few items k e l is (scope_of v.bound.items) (scope_of w.bound.items) v.next w.next scope p.next _ i.few;
      labels = (labels_next items k e l is (length c.args.starts.now) i.labels).1;
      scope = p.scope ∙ i.scope;
    }

pub normalize_inits-returns : goal.normalize_inits-returns
normalize_inits-returns t c =
    let i = c.loop-e.invariant in
    inits_end c.args.starts.now c.as_slice-e-items.result.now c.args.es.now c.loop-e.e-index c.args.v.now c.loop-e.v c.args.steps.now.items c.loop-e.steps.items c.loop-e.all c.as_slice-e-items.ensures c.loop-e-test.false
    i.numbers i.steps i.few i.scope

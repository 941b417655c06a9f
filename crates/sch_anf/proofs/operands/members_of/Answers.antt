use Rattle.std.proofs.Common.{◌∙◌, length, map, ap, sym, subst, arith, refl}
use Rattle.sch_flat.specs.View.{made}
use Rattle.sch_anf_laws.specs.LabelsFit.{LabelsOfMade}
use Rattle.sch_anf_laws.specs.Normal.{members_of}
use Rattle.sch_anf.specs.ScopeTable.{scope_of}
use Rattle.sch_anf.proofs.BindingLists.{members_turn, made_turn, members_end}
use Rattle.sch_anf.proofs.operands.members_of.Goals as goal
use Rattle.sch_word.proofs.facts.Lists.{map_length}

pub loop-m-init : goal.loop-m-init
loop-m-init c = record {
  members = rw (c.from_vec-all.ensures ∙ c.in_ok-with_capacity.ensures.items) refl;
  labels = subst (λ ms. LabelsOfMade (length c.args.starts.now) (map made ms)) (sym c.as_slice-m-items.ensures) c.requires.labels;
  at = omega arith;
}

pub closure_of-requires-clause-labels : goal.closure_of-requires-clause-labels
closure_of-requires-clause-labels c =
    (made_turn c.args.starts.now (scope_of c.args.v.now.bound.items) c.as_slice-m-items.result.now c.loop-m.m-index c.m-item.result c.loop-m-test.true c.m-item.is
    (length c.args.starts.now) c.loop-m.invariant.labels).0

pub overflow_add-at : goal.overflow_add-at
overflow_add-at c =
    let n = map_length made c.args.ms.now in
    let m = ap length c.as_slice-m-items.ensures in
    omega (arith, n, m, c.requires.few, c.loop-m.invariant.at, c.loop-m-test.true)

pub loop-m-preserved : goal.loop-m-preserved
loop-m-preserved c =
    let i = c.loop-m.invariant in
    let items = c.as_slice-m-items.result.now in
    let e = c.m-item.result in
    record {
      members = members_turn c.args.starts.now
          (scope_of c.args.v.now.bound.items) items c.loop-m.m-index e c.loop-m-test.true c.m-item.is c.loop-m.at _ c.loop-m.all _ _ _ refl c.in_ok-closure.ensures c.in_ok-push.ensures.ok
          i.members;
      labels = (made_turn c.args.starts.now (scope_of c.args.v.now.bound.items) items c.loop-m.m-index e c.loop-m-test.true c.m-item.is (length c.args.starts.now) i.labels).1;
      at = omega (arith, i.at);
    }

pub returns : goal.returns
returns c =
    members_end c.args.starts.now (scope_of c.args.v.now.bound.items) c.as_slice-m-items.result.now c.loop-m.m-index c.loop-m.at c.loop-m.all _ c.loop-m-test.false c.loop-m.invariant.members
    ∙ ap (λ ms. members_of c.args.starts.now (scope_of c.args.v.now.bound.items) (map made ms) c.args.first) c.as_slice-m-items.ensures

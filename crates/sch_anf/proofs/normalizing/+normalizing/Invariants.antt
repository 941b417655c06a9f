use Rattle.std.proofs.Common.{◌≡◌, ◌<◌, ◌^◌, suc, ◌++◌, ◌+◌, length, drop, get_or}
use Rattle.sch_flat.specs.declared.tree.Exp.{Exp}
use Rattle.sch_flat.specs.View.{tree, trees_of}
use Rattle.sch_control.specs.Tree.{Expression}
use Rattle.sch_anf_laws.specs.LabelsFit.{LabelsFit, LabelsFitEach}
use Rattle.sch_anf_laws.specs.Normal.{operands_bind, inits_bind, binds_parts, operands_at, init_numbers, with_operands, with_inits, normal_parts}
use Rattle.sch_anf.specs.ScopeTable.{scope_of}
use Rattle.sch_anf.specs.Steps.{after}
use Rattle.sch_anf_laws.proofs.Items.{left}
use Rattle.sch_anf.proofs.PartSteps.{dropped_binds}
use Rattle.sch_anf.proofs.normalizing.+normalizing.Given as goal

abbrev pub invariant-normalize_operands-loop-e : goal.invariant-normalize_operands-loop-e
invariant-normalize_operands-loop-e l = record {
  operands : l.all ++ operands_at (scope_of l.v.bound.items) (left (drop l.e-index l.e-items)) l.v.next ≡ operands_at (scope_of l.initial.v.bound.items) (trees_of l.e-items) l.initial.v.next;
  steps : (body : Expression) → after l.steps.items (with_operands l.starts (left (drop l.e-index l.e-items)) (scope_of l.v.bound.items) l.v.next body)
      ≡ after l.initial.steps.items (with_operands l.starts (trees_of l.e-items) (scope_of l.initial.v.bound.items) l.initial.v.next body);
  few : l.v.next + operands_bind (left (drop l.e-index l.e-items)) ≡ l.initial.v.next + operands_bind (trees_of l.e-items);
  labels : LabelsFitEach (length l.starts) (left (drop l.e-index l.e-items));
  scope : l.v.bound.items ≡ l.initial.v.bound.items;
}

abbrev pub invariant-normalize_inits-loop-e : goal.invariant-normalize_inits-loop-e
invariant-normalize_inits-loop-e l = record {
  numbers : l.all ++ init_numbers (left (drop l.e-index l.e-items)) l.v.next ≡ init_numbers (trees_of l.e-items) l.initial.v.next;
  steps : (body : Expression) → after l.steps.items (with_inits l.starts (left (drop l.e-index l.e-items)) (scope_of l.v.bound.items) l.v.next body)
      ≡ after l.initial.steps.items (with_inits l.starts (trees_of l.e-items) (scope_of l.initial.v.bound.items) l.initial.v.next body);
  few : l.v.next + inits_bind (left (drop l.e-index l.e-items)) ≡ l.initial.v.next + inits_bind (trees_of l.e-items);
  labels : LabelsFitEach (length l.starts) (left (drop l.e-index l.e-items));
  scope : l.v.bound.items ≡ l.initial.v.bound.items;
}

abbrev pub invariant-normalize_parts-loop-i : goal.invariant-normalize_parts-loop-i
invariant-normalize_parts-loop-i l = record {
  parts : after l.steps.items (normal_parts l.starts l.tail (left (drop l.i l.items)) (scope_of l.v.bound.items) l.v.next)
      ≡ normal_parts l.starts l.tail (trees_of l.items) (scope_of l.initial.v.bound.items) l.initial.v.next;
  few : l.v.next + binds_parts (left (drop l.i l.items)) ≡ l.initial.v.next + binds_parts (trees_of l.items);
  labels : LabelsFitEach (length l.starts) (left (drop l.i l.items));
  scope : l.v.bound.items ≡ l.initial.v.bound.items;
  labels_here : (e : Exp) → suc l.i < length l.items → e ≡ get_or l.items l.i e → LabelsFit (length l.starts) (tree e);
  few_here : (e : Exp) → suc l.i < length l.items → e ≡ get_or l.items l.i e → l.v.next + dropped_binds (tree e) < 2 ^ 32;
}

use Rattle.std.proofs.Common.{◌≡◌, ◌≤◌, ◌<◌, ◌-◌, get_or, length, take}
use Rattle.sch_flat.specs.declared.tree.Exp.{Exp}
use Rattle.sch_flat.specs.View.{tree, trees_of}
use Rattle.sch_anf.specs.FewParts.{HasFewParts}
use Rattle.sch_anf.specs.Placed.{placed_each}
use Rattle.sch_anf_laws.proofs.Items.{left}
use Rattle.sch_anf.proofs.sites.+placing.Given as goal

abbrev pub invariant-place_each-loop-left : goal.invariant-place_each-loop-left
invariant-place_each-loop-left l = record {
  placed : placed_each (left (take l.left l.items)) l.bound.items ≡ placed_each (trees_of l.items) l.initial.bound.items;
  within : l.left ≤ length l.items;
  few_here : (e : Exp) → 0 < l.left → e ≡ get_or l.items (l.left - 1) e → HasFewParts (tree e);
}

abbrev pub decreases-place_each-loop-left : goal.decreases-place_each-loop-left
decreases-place_each-loop-left l = l.left

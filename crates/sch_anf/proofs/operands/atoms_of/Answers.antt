use Rattle.std.proofs.Common.{◌∙◌, ◌∷◌, [], ◌++◌, ap, sym}
use Rattle.sch_flat.specs.View.{trees_of}
use Rattle.sch_flat.proofs.Rows.{trees_of_list}
use Rattle.sch_anf_laws.specs.Normal.{atoms_of}
use Rattle.sch_anf.specs.ScopeTable.{scope_of}
use Rattle.sch_anf.proofs.BindingLists.{atoms_next, atoms_all}
use Rattle.sch_anf.proofs.operands.atoms_of.Goals as goal

pub loop-e-init : goal.loop-e-init
loop-e-init c =
    let scope = scope_of c.args.v.now.bound.items in
    rw (c.from_vec-all.ensures ∙ c.in_ok-with_capacity.ensures.items) (ap (atoms_of scope) (sym (trees_of_list c.as_slice-e-items.result.now)))

pub loop-e-preserved : goal.loop-e-preserved
loop-e-preserved c =
    atoms_next c.as_slice-e-items.result.now c.loop-e.e-index c.e-item.result c.loop-e-test.true c.e-item.is (scope_of c.args.v.now.bound.items) c.loop-e.all _ _
    (c.in_ok-push.ensures.ok ∙ ap (λ a. c.loop-e.all ++ a ∷ []) c.atom_of.ensures) c.loop-e.invariant

pub returns : goal.returns
returns c =
    atoms_all (scope_of c.args.v.now.bound.items) c.as_slice-e-items.result.now c.loop-e.e-index c.loop-e.all _ c.loop-e-test.false c.loop-e.invariant
    ∙ ap (λ es. atoms_of (scope_of c.args.v.now.bound.items) (trees_of es)) c.as_slice-e-items.ensures

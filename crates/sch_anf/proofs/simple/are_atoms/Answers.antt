use Rattle.std.proofs.Common.{◌∙◌, ap, sym}
use Rattle.sch_flat.specs.View.{trees_of}
use Rattle.sch_flat.proofs.Rows.{trees_of_list}
use Rattle.sch_anf_laws.specs.Normal.{are_atoms}
use Rattle.sch_anf.proofs.PartTests.{atoms_stop, atoms_turn, atoms_end}
use Rattle.sch_anf.proofs.simple.are_atoms.Goals as goal

pub loop-e-init : goal.loop-e-init
loop-e-init c = ap are_atoms (sym (trees_of_list c.as_slice-e-items.result.now))

pub loop-e-preserved : goal.loop-e-preserved
loop-e-preserved c = atoms_turn c.as_slice-e-items.result.now c.loop-e.e-index c.e-item.result c.loop-e-test.true c.e-item.is _ (sym c.is_atom.ensures ∙ c.if-not-is_atom.false) c.loop-e.invariant

pub returns-then-not-is_atom : goal.returns-then-not-is_atom
returns-then-not-is_atom c =
    atoms_stop c.as_slice-e-items.result.now c.loop-e.e-index c.e-item.result c.loop-e-test.true c.e-item.is _ (sym c.is_atom.ensures ∙ c.if-not-is_atom.true)
    (c.loop-e.invariant ∙ ap (λ es. are_atoms (trees_of es)) c.as_slice-e-items.ensures)

pub returns : goal.returns
returns c =
    atoms_end c.as_slice-e-items.result.now c.loop-e.e-index _ c.loop-e-test.false
    (c.loop-e.invariant ∙ ap (λ es. are_atoms (trees_of es)) c.as_slice-e-items.ensures)

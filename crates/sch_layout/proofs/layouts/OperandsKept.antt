-- In a layout atoms and operands stay what they are of covered code.
use Rattle.std.proofs.Common.{◌≡◌, ℕ, List, [], ◌∷◌, refl, ap, ◌∙◌}
use Rattle.std.specs.Prelude.{◌&&◌}
use Rattle.std.specs.List.{list_all}
use Rattle.sch_word.specs.trees.Covered.{is_covered_primitive}
use Rattle.sch_word.specs.declared.place.Place.{Place}
use Rattle.sch_control.specs.declared.operation.Atom.{Atom}
use Rattle.sch_control.specs.declared.operation.Atom.TheVariants.{Constant, Literal, Variable}
use Rattle.sch_control.specs.declared.operation.Operand.{Operand}
use Rattle.sch_control.specs.declared.operation.Operand.TheVariants as operand
use Rattle.sch_control.specs.CoveredOperands.{is_covered_atom, is_covered_operand}
use Rattle.sch_layout.specs.BodyLayout.{atom_at, atoms_at, operand_at, operands_at}

module _ (place : ℕ → Place) where
  pub atom_kept : (a : Atom ℕ) → is_covered_atom (atom_at place a) ≡ is_covered_atom a
  atom_kept (Constant c) = refl
  atom_kept (Literal n) = refl
  atom_kept (Variable x) = refl

  atoms_kept : (atoms : List (Atom ℕ)) → list_all is_covered_atom (atoms_at place atoms) ≡ list_all is_covered_atom atoms
  atoms_kept [] = refl
  atoms_kept (a ∷ atoms) = ap (λ b. b && list_all is_covered_atom (atoms_at place atoms)) (atom_kept a) ∙ ap (λ b. is_covered_atom a && b) (atoms_kept atoms)

  pub operand_kept : (o : Operand ℕ) → is_covered_operand (operand_at place o) ≡ is_covered_operand o
  operand_kept (operand.Atom a) = atom_kept a
  operand_kept (operand.Read site which atoms) = ap (λ b. is_covered_primitive which && b) (atoms_kept atoms)

  pub operands_kept : (os : List (Operand ℕ)) → list_all is_covered_operand (operands_at place os) ≡ list_all is_covered_operand os
  operands_kept [] = refl
  operands_kept (o ∷ os) = ap (λ b. b && list_all is_covered_operand (operands_at place os)) (operand_kept o) ∙ ap (λ b. is_covered_operand o && b) (operands_kept os)

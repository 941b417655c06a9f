-- Operands, operations and groups are of the same size with places for their variables.
use Rattle.std.proofs.Common.{◌≡◌, ℕ, suc, List, [], ◌∷◌, length, refl, ap, arith}
use Rattle.std.proofs.lemmas.List.{length-append, length-map}
use Rattle.sch_word.specs.declared.place.Place.{Place}
use Rattle.sch_control.specs.declared.operation.Operand.{Operand}
use Rattle.sch_control.specs.declared.operation.Operand.TheVariants as operand
use Rattle.sch_control.specs.declared.operation.Operation.{Operation}
use Rattle.sch_control.specs.declared.operation.Operation.TheVariants as operation
use Rattle.sch_control.specs.declared.operation.Member.{Member}
use Rattle.sch_control.specs.declared.operation.Source.{Source}
use Rattle.sch_control.specs.AtomsAndSites.{source_atoms, operand_atoms, member_atoms}
use Rattle.sch_control.specs.Sizes.{operand_size, operands_size, operation_size}
use Rattle.sch_layout.specs.BodyLayout.{atom_at, operand_at, operands_at, sources_at, members_at, operation_at}

module _ (place : ℕ → Place) where
  pub operand_kept : (o : Operand ℕ) → operand_size (operand_at place o) ≡ operand_size o
  operand_kept (operand.Atom a) = refl
  operand_kept (operand.Read site which atoms) = ap suc (length-map atoms (atom_at place))

  atoms_kept : (o : Operand ℕ) → length (operand_atoms (operand_at place o)) ≡ length (operand_atoms o)
  atoms_kept (operand.Atom a) = refl
  atoms_kept (operand.Read site which atoms) = length-map atoms (atom_at place)

  operands_kept : (os : List (Operand ℕ)) → operands_size (operands_at place os) ≡ operands_size os
  operands_kept [] = refl
  operands_kept (o ∷ os) = let a = operand_kept o in let b = operands_kept os in omega (arith, a, b)

  sources_kept : (sources : List (Source ℕ)) → length (source_atoms (sources_at place sources)) ≡ length (source_atoms sources)
  sources_kept [] = refl
  sources_kept (s ∷ sources) = ap suc (sources_kept sources)

  pub operation_kept : (o : Operation ℕ) → operation_size (operation_at place o) ≡ operation_size o
  operation_kept (operation.Operand o) = operand_kept o
  operation_kept (operation.Prim site which operands) = operands_kept operands
  operation_kept (operation.Global g) = refl
  operation_kept (operation.SetGlobal g o) = operand_kept o
  operation_kept (operation.Field x k) = refl
  operation_kept (operation.NewCell c) = refl
  operation_kept operation.UnsetCell = refl
  operation_kept (operation.CellGet c) = refl
  operation_kept (operation.CellSet c o) = ap suc (atoms_kept o)
  operation_kept (operation.MakeClosure c) = sources_kept c.fields

  pub members_kept : (members : List (Member ℕ)) → length (member_atoms (members_at place members)) ≡ length (member_atoms members)
  members_kept [] = refl
  members_kept (m ∷ members) =
      let l = length-append (source_atoms (sources_at place m.closure.fields)) (member_atoms (members_at place members)) in
      let r = length-append (source_atoms m.closure.fields) (member_atoms members) in
      let h = sources_kept m.closure.fields in
      let h' = members_kept members in
      omega (arith, l, r, h, h')

-- what an operand costs that goes into the accumulator
abbrev pub given : Operand Place → ℕ
given o = suc (operand_size o)

-- Operations that read the same values do the same.
use Rattle.std.proofs.Common.{◌≡◌, ℕ, List, [], ◌∷◌, ◌++◌, Option, Bool, true, false, refl, ap}
use Rattle.std.specs.Prelude.{nat_eq, ◌||◌}
use Rattle.std.proofs.lemmas.Bool.{eq-eqb}
use Rattle.sch_word.specs.trees.NumberSets.{has}
use Rattle.sch_word.specs.values.Values.{Value}
use Rattle.sch_word.specs.runs.Store.{Store}
use Rattle.sch_word.specs.runs.Computation.{State}
use Rattle.sch_word.proofs.facts.Booleans.{or_left, or_right}
use Rattle.sch_control.specs.declared.operation.Atom.{Atom}
use Rattle.sch_control.specs.declared.operation.Atom.TheVariants.{Constant, Literal, Variable}
use Rattle.sch_control.specs.declared.operation.Operand.{Operand}
use Rattle.sch_control.specs.declared.operation.Operand.TheVariants as operand
use Rattle.sch_control.specs.declared.operation.Source.{Source}
use Rattle.sch_control.specs.declared.operation.Source.TheVariants as source
use Rattle.sch_control.specs.declared.operation.Member.{Member}
use Rattle.sch_control.specs.declared.operation.Operation.{Operation}
use Rattle.sch_control.specs.declared.operation.Operation.TheVariants as operation
use Rattle.sch_control.specs.declared.operation.Application.{Application}
use Rattle.sch_control.specs.Operations.{read, atom_value, atom_values, operand_value, operand_values, part_values, field, source_value, source_values, operate, members_made}
use Rattle.sch_word.specs.runs.Procedures.{Procedure}
use Rattle.sch_control.specs.AtomsAndSites.{operand_atoms, operands_atoms, source_atom, source_atoms, operation_atoms, application_atoms, member_atoms}
use Rattle.sch_control.specs.flow.Live.{named, Mentions}

-- ## Atoms that are mentioned

pub mentions_left : (x : ℕ) (xs ys : List (Atom ℕ)) → Mentions x xs → Mentions x (xs ++ ys)
mentions_left x [] ys h = absurd (cc)
mentions_left x (Constant c ∷ xs) ys h = mentions_left x xs ys h
mentions_left x (Literal n ∷ xs) ys h = mentions_left x xs ys h
mentions_left x (Variable y ∷ xs) ys h = by (nat_eq x y) (mentions_left x xs ys) h where
  by : (t : Bool) → (Mentions x xs → Mentions x (xs ++ ys)) → (t || has x (named xs)) ≡ true → (t || has x (named (xs ++ ys))) ≡ true
  by true f h = refl
  by false f h = f h

pub mentions_right : (x : ℕ) (xs ys : List (Atom ℕ)) → Mentions x ys → Mentions x (xs ++ ys)
mentions_right x [] ys h = h
mentions_right x (Constant c ∷ xs) ys h = mentions_right x xs ys h
mentions_right x (Literal n ∷ xs) ys h = mentions_right x xs ys h
mentions_right x (Variable y ∷ xs) ys h = or_right (nat_eq x y) _ (mentions_right x xs ys h)

mentions_one : (y : ℕ) (atoms : List (Atom ℕ)) → Mentions y (Variable y ∷ atoms)
mentions_one y atoms = or_left (nat_eq y y) _ (eq-eqb y y refl)

mentions_more : (x : ℕ) (a : Atom ℕ) (atoms : List (Atom ℕ)) → Mentions x atoms → Mentions x (a ∷ atoms)
mentions_more x (Constant c) atoms h = h
mentions_more x (Literal n) atoms h = h
mentions_more x (Variable y) atoms h = or_right (nat_eq x y) _ h

mentions_first : (x : ℕ) (a : Atom ℕ) (atoms : List (Atom ℕ)) → Mentions x (a ∷ []) → Mentions x (a ∷ atoms)
mentions_first x (Constant c) atoms h = absurd (cc)
mentions_first x (Literal n) atoms h = absurd (cc)
mentions_first x (Variable y) atoms h = by (nat_eq x y) h where
  by : (t : Bool) → (t || false) ≡ true → (t || has x (named atoms)) ≡ true
  by true h = refl
  by false h = absurd (cc)

-- ## What they are read as

module _ (at at' : ℕ → Option Value) where
  -- what is mentioned has the same value
  abbrev pub Same : List (Atom ℕ) → Type 0
  Same atoms = (x : ℕ) → Mentions x atoms → at' x ≡ at x

  same_left : (xs ys : List (Atom ℕ)) → Same (xs ++ ys) → Same xs
  same_left xs ys h x m = h x (mentions_left x xs ys m)

  same_right : (xs ys : List (Atom ℕ)) → Same (xs ++ ys) → Same ys
  same_right xs ys h x m = h x (mentions_right x xs ys m)

  same_one : (a : Atom ℕ) (atoms : List (Atom ℕ)) → Same (a ∷ atoms) → Same (a ∷ [])
  same_one a atoms h x m = h x (mentions_first x a atoms m)

  same_more : (a : Atom ℕ) (atoms : List (Atom ℕ)) → Same (a ∷ atoms) → Same atoms
  same_more a atoms h x m = h x (mentions_more x a atoms m)

  atom_same : (t : Store) (a : Atom ℕ) → Same (a ∷ []) → atom_value at' t a ≡ atom_value at t a
  atom_same t (Constant c) h = refl
  atom_same t (Literal n) h = refl
  atom_same t (Variable y) h = h y (mentions_one y [])

  atoms_same : (t : Store) (atoms : List (Atom ℕ)) → Same atoms → atom_values at' t atoms ≡ atom_values at t atoms
  atoms_same t [] h = refl
  atoms_same t (a ∷ atoms) h = rw (atom_same t a (same_one a atoms h), atoms_same t atoms (same_more a atoms h)) refl

  operand_same : (t : Store) (o : Operand ℕ) → Same (operand_atoms o) → operand_value at' t o ≡ operand_value at t o
  operand_same t (operand.Atom a) h = atom_same t a h
  operand_same t (operand.Read site which atoms) h = ap (read which t) (atoms_same t atoms h)

  operands_same : (t : Store) (operands : List (Operand ℕ)) → Same (operands_atoms operands) → operand_values at' t operands ≡ operand_values at t operands
  operands_same t [] h = refl
  operands_same t (o ∷ operands) h =
      rw (operand_same t o (same_left (operand_atoms o) _ h), operands_same t operands (same_right (operand_atoms o) _ h)) refl

  pub parts_same : (t : Store) (a : Application ℕ) → Same (application_atoms a) → part_values at' t a ≡ part_values at t a
  parts_same t a h = operands_same t (a.operator ∷ a.operands) h

  field_same : (y k : ℕ) (procedures : List Procedure) → Same (Variable y ∷ []) → field (at' y) k procedures ≡ field (at y) k procedures
  field_same y k procedures h = ap (λ o. field o k procedures) (h y (mentions_one y []))

  source_same : (s : State Procedure) (c : Source ℕ) → Same (source_atom c ∷ []) → source_value at' s c ≡ source_value at s c
  source_same s (source.Atom a) h = atom_same s.store a h
  source_same s (source.Field y k) h = field_same y k s.procedures h

  sources_same : (s : State Procedure) (cs : List (Source ℕ)) → Same (source_atoms cs) → source_values at' s cs ≡ source_values at s cs
  sources_same s [] h = refl
  sources_same s (c ∷ cs) h =
      rw (source_same s c (same_one (source_atom c) (source_atoms cs) h), sources_same s cs (same_more (source_atom c) (source_atoms cs) h)) refl

  pub members_same : (s : State Procedure) (members : List (Member ℕ)) → Same (member_atoms members) → members_made at' s members ≡ members_made at s members
  members_same s [] h = refl
  members_same s (m ∷ members) h =
      rw (sources_same s m.closure.fields (same_left (source_atoms m.closure.fields) _ h), members_same s members (same_right (source_atoms m.closure.fields) _ h)) refl

  pub operate_same : (o : Operation ℕ) (s : State Procedure) → Same (operation_atoms o) → operate at' o s ≡ operate at o s
  operate_same (operation.Operand o) s h = rw (operand_same s.store o h) refl
  operate_same (operation.Prim site which operands) s h = rw (operands_same s.store operands h) refl
  operate_same (operation.Global g) s h = refl
  operate_same (operation.SetGlobal g o) s h = rw (operand_same s.store o h) refl
  operate_same (operation.Field y k) s h = rw (field_same y k s.procedures h) refl
  operate_same (operation.NewCell c) s h = rw (source_same s c h) refl
  operate_same operation.UnsetCell s h = refl
  operate_same (operation.CellGet c) s h = rw (source_same s c h) refl
  operate_same (operation.CellSet c o) s h =
      rw (source_same s c (same_one (source_atom c) (operand_atoms o) h), operand_same s.store o (same_more (source_atom c) (operand_atoms o) h)) refl
  operate_same (operation.MakeClosure c) s h = rw (sources_same s c.fields h) refl

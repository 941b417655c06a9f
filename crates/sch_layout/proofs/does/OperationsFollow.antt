-- An operation whose variables are in their places does the same.
use Rattle.std.proofs.Common.{ℕ, List, [], ◌∷◌, ◌++◌, Option, Some, None, refl, ap}
use Rattle.sch_word.specs.declared.place.Place.{Place}
use Rattle.sch_word.specs.values.Values.{Value}
use Rattle.sch_word.specs.runs.Store.{Store}
use Rattle.sch_word.specs.runs.Computation.{State}
use Rattle.sch_control.specs.declared.operation.Atom.{Atom}
use Rattle.sch_control.specs.declared.operation.Atom.TheVariants.{Constant, Literal, Variable}
use Rattle.sch_control.specs.declared.operation.Operand.{Operand}
use Rattle.sch_control.specs.declared.operation.Operand.TheVariants as operand
use Rattle.sch_control.specs.declared.operation.Source.{Source}
use Rattle.sch_control.specs.declared.operation.Source.TheVariants as source
use Rattle.sch_control.specs.declared.operation.Member.{Member}
use Rattle.sch_control.specs.declared.operation.Operation.{Operation}
use Rattle.sch_control.specs.declared.operation.Operation.TheVariants as operation
use Rattle.sch_control.specs.Operations.{atom_value, atom_values, operand_value, operand_values, field, source_value, source_values, operate, members_made}
use Rattle.sch_word.specs.runs.Procedures.{Procedure}
use Rattle.sch_control.specs.AtomsAndSites.{operand_atoms, operands_atoms, source_atom, source_atoms, operation_atoms, member_atoms}
use Rattle.sch_frames.specs.Does.{Follows}
use Rattle.sch_frames.proofs.EndsAlike.{follows_same, onto, and_value_follows, read_follows, when_some_follows}
use Rattle.sch_layout.specs.Laws.{AtomHas, AtomsHave}
use Rattle.sch_layout.specs.BodyLayout.{atom_at, atoms_at, operand_at, operands_at, operation_at, source_at, sources_at, members_at}

pub have_left : (P : ℕ → Type 0) (xs ys : List (Atom ℕ)) → AtomsHave P (xs ++ ys) → AtomsHave P xs
have_left P [] ys h = tt
have_left P (x ∷ xs) ys h = (h.0, have_left P xs ys h.1)

pub have_right : (P : ℕ → Type 0) (xs ys : List (Atom ℕ)) → AtomsHave P (xs ++ ys) → AtomsHave P ys
have_right P [] ys h = h
have_right P (x ∷ xs) ys h = have_right P xs ys h.1

-- `P`: what is read; each of it that has a value has it in its place
module _ (place : ℕ → Place) (P : ℕ → Type 0) (at : ℕ → Option Value) (at' : Place → Option Value)
    (there : (x : ℕ) → P x → Follows (at x) (at' (place x))) where
  pub atom_follows : (t : Store) (a : Atom ℕ) → AtomHas P a → Follows (atom_value at t a) (atom_value at' t (atom_at place a))
  atom_follows t (Constant c) h = refl
  atom_follows t (Literal n) h = follows_same (atom_value at t (Literal n))
  atom_follows t (Variable x) h = there x h

  pub atoms_follow : (t : Store) (atoms : List (Atom ℕ)) → AtomsHave P atoms → Follows (atom_values at t atoms) (atom_values at' t (atoms_at place atoms))
  atoms_follow t [] h = refl
  atoms_follow t (a ∷ atoms) h = and_value_follows _ _ _ _ (atom_follows t a h.0) (atoms_follow t atoms h.1)

  pub operand_follows : (t : Store) (o : Operand ℕ) → AtomsHave P (operand_atoms o) → Follows (operand_value at t o) (operand_value at' t (operand_at place o))
  operand_follows t (operand.Atom a) h = atom_follows t a h.0
  operand_follows t (operand.Read site which atoms) h = read_follows which t _ _ (atoms_follow t atoms h)

  pub operands_follow : (t : Store) (operands : List (Operand ℕ)) → AtomsHave P (operands_atoms operands)
      → Follows (operand_values at t operands) (operand_values at' t (operands_at place operands))
  operands_follow t [] h = refl
  operands_follow t (o ∷ operands) h =
      and_value_follows _ _ _ _ (operand_follows t o (have_left P (operand_atoms o) _ h)) (operands_follow t operands (have_right P (operand_atoms o) _ h))

  field_follows : (x k : ℕ) (procedures : List Procedure) → P x → Follows (field (at x) k procedures) (field (at' (place x)) k procedures)
  field_follows x k procedures h = by (at x) (at' (place x)) (there x h) where
    by : (a b : Option Value) → Follows a b → Follows (field a k procedures) (field b k procedures)
    by None b f = tt
    by (Some v) b f = onto _ _ _ (ap (λ t. field t k procedures) f) (follows_same (field (Some v) k procedures))

  source_follows : (s : State Procedure) (c : Source ℕ) → AtomHas P (source_atom c) → Follows (source_value at s c) (source_value at' s (source_at place c))
  source_follows s (source.Atom a) h = atom_follows s.store a h
  source_follows s (source.Field x k) h = field_follows x k s.procedures h

  sources_follow : (s : State Procedure) (cs : List (Source ℕ)) → AtomsHave P (source_atoms cs) → Follows (source_values at s cs) (source_values at' s (sources_at place cs))
  sources_follow s [] h = refl
  sources_follow s (c ∷ cs) h = and_value_follows _ _ _ _ (source_follows s c h.0) (sources_follow s cs h.1)

  pub members_follow : (s : State Procedure) (members : List (Member ℕ)) → AtomsHave P (member_atoms members) → Follows (members_made at s members) (members_made at' s (members_at place members))
  members_follow s [] h = refl
  members_follow s (m ∷ members) h =
      and_value_follows _ _ _ _ (when_some_follows _ _ _ _ (sources_follow s m.closure.fields (have_left P (source_atoms m.closure.fields) _ h)) (λ vs. refl))
      (members_follow s members (have_right P (source_atoms m.closure.fields) _ h))

  pub operate_follows : (o : Operation ℕ) (s : State Procedure) → AtomsHave P (operation_atoms o)
      → Follows (operate at o s) (operate at' (operation_at place o) s)
  operate_follows (operation.Operand o) s h = when_some_follows _ _ _ _ (operand_follows s.store o h) (λ v. refl)
  operate_follows (operation.Prim site which operands) s h = when_some_follows _ _ _ _ (operands_follow s.store operands h) (λ vs. refl)
  operate_follows (operation.Global g) s h = refl
  operate_follows (operation.SetGlobal g o) s h = when_some_follows _ _ _ _ (operand_follows s.store o h) (λ v. refl)
  operate_follows (operation.Field x k) s h = when_some_follows _ _ _ _ (field_follows x k s.procedures h.0) (λ v. refl)
  operate_follows (operation.NewCell c) s h = when_some_follows _ _ _ _ (source_follows s c h.0) (λ v. refl)
  operate_follows operation.UnsetCell s h = refl
  operate_follows (operation.CellGet c) s h = when_some_follows _ _ _ _ (source_follows s c h.0) (λ v. refl)
  operate_follows (operation.CellSet c o) s h =
      when_some_follows _ _ _ _ (source_follows s c h.0) (λ v. when_some_follows _ _ _ _ (operand_follows s.store o h.1) (λ u. refl))
  operate_follows (operation.MakeClosure c) s h = when_some_follows _ _ _ _ (sources_follow s c.fields h) (λ vs. refl)

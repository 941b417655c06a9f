-- A part of a sequence before the last, of which only an atom is left.
use Rattle.std.proofs.Common.{◌≡◌, ℕ, Bool, true, false, cond, refl}
use Rattle.sch_control.specs.declared.operation.Atom.{Atom}
use Rattle.sch_control.specs.declared.operation.Operand.TheVariants as operand
use Rattle.sch_control.specs.declared.operation.Operation.TheVariants as does
use Rattle.sch_control.specs.Sizes.{is_bare_atom}
use Rattle.sch_control.specs.Tree.{Expression, perform, sequence}
use Rattle.sch_anf_laws.specs.Normal.{unless_atom}

-- What holds of the sequence and, where the first part is an atom, of what follows it, holds of what is made.
pub dropped_as : (P : Expression → Type 0) (first rest : Expression) → (is_bare_atom first ≡ false → P (sequence first rest)) → (is_bare_atom first ≡ true → P rest) → P (unless_atom first rest)
dropped_as P first rest h k = go (is_bare_atom first) refl
  where
    go : (b : Bool) → is_bare_atom first ≡ b → P (cond b rest (sequence first rest))
    go true i = k i
    go false i = h i

-- What an atom and a field have, each expression has that is an atom.
pub of_atom : {A : Type 0} (f : Expression → A) (z : A) → ((a : Atom ℕ) → f (perform (does.Operand (operand.Atom a))) ≡ z) → ((v k : ℕ) → f (perform (does.Field v k)) ≡ z)
    → (e : Expression) → is_bare_atom e ≡ true → f e ≡ z
of_atom f z h k (perform (does.Operand (operand.Atom a))) i = h a
of_atom f z h k (perform (does.Field v n)) i = k v n
of_atom f z h k _ i = absurd (cc)

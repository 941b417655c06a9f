-- The turns of the loops that make operands, closures and labels.
use Rattle.std.proofs.Common.{◌≡◌, ℕ, zero, suc, ◌+◌, ◌<◌, ◌≤◌, ◌^◌, true, false, List, [], ◌∷◌, ◌++◌, length, map, drop, get_or, refl, ap, arith, add-one, append_assoc, append-nil}
use Rattle.std.specs.Prelude.{nat_le}
use Rattle.std.proofs.lemmas.List.{drop_all}
use Rattle.sch_word.specs.trees.Bindings.{numbers}
use Rattle.sch_word.proofs.Walking.{next_left}
use Rattle.sch_flat.specs.declared.tree.Exp.{Exp}
use Rattle.sch_flat.specs.declared.tree.Made as flat_made
use Rattle.sch_flat.specs.View.{tree, made}
use Rattle.sch_control.specs.declared.operation.Atom.{Atom}
use Rattle.sch_control.specs.declared.operation.Closure.{Closure}
use Rattle.sch_control.specs.declared.operation.Member.{Member}
use Rattle.sch_anf_laws.specs.LabelsFit.{LabelsOfMade}
use Rattle.sch_anf_laws.specs.Normal.{new_label, Scope, atom_of, atoms_of, numbers_for, closure_of, members_of, forms_before}
use Rattle.sch_anf_laws.proofs.Items.{left}

-- ## Atoms

module _ (items : List Exp) (i : ℕ) (e : Exp) (l : i < length items) (is : e ≡ get_or items i e) where
  pub atoms_next : (scope : Scope) (all all' whole : List (Atom ℕ)) → all' ≡ all ++ atom_of scope (tree e) ∷ [] → all ++ atoms_of scope (left (drop i items)) ≡ whole
      → all' ++ atoms_of scope (left (drop (i + 1) items)) ≡ whole
  atoms_next scope all all' whole p h =
      rw (p, add-one, append_assoc all (atom_of scope (tree e) ∷ []) (atoms_of scope (left (drop (suc i) items)))) (next_left items i (λ r. all ++ atoms_of scope (left r) ≡ whole) e l is h)

pub atoms_all : (scope : Scope) (items : List Exp) (i : ℕ) (all whole : List (Atom ℕ)) → length items ≤ i → all ++ atoms_of scope (left (drop i items)) ≡ whole → all ≡ whole
atoms_all scope items i all whole l h = let t = rw (drop_all i items l, append-nil all) at h in t

-- ## Labels

-- in a list in which those below a number stand first, their count is where the others begin
pub before_is : (xs : List ℕ) (i label : ℕ) → i ≤ length xs → ((k : ℕ) → k < i → nat_le (get_or xs k 0) label ≡ true) → ((k : ℕ) → i ≤ k → k < length xs → nat_le (get_or xs k 0) label ≡ false)
    → forms_before xs label ≡ i
before_is [] i label l h k = omega (arith, l)
before_is (x ∷ xs) zero label l h k = rw (k 0 (omega arith) (omega arith))
    (let r = before_is xs zero label (omega arith) (λ j a. absurd (omega (arith, a))) (λ j a b. k (suc j) (omega arith) (omega (arith, b))) in omega (arith, r))
before_is (x ∷ xs) (suc i) label l h k =
    rw (h 0 (omega arith)) (let r = before_is xs i label (omega (arith, l)) (λ j a. h (suc j) (omega (arith, a))) (λ j a b. k (suc j) (omega (arith, a)) (omega (arith, b))) in omega (arith, r))

pub labels_turn : (starts labels : List ℕ) (i : ℕ) (all all' whole : List ℕ) (label : ℕ) → i < length labels → label ≡ get_or labels i label → all' ≡ all ++ new_label starts label ∷ []
    → all ++ map (new_label starts) (drop i labels) ≡ whole → all' ++ map (new_label starts) (drop (i + 1) labels) ≡ whole
labels_turn starts labels i all all' whole label l is p h =
    rw (p, add-one, append_assoc all (new_label starts label ∷ []) (map (new_label starts) (drop (suc i) labels))) (next_left labels i (λ r. all ++ map (new_label starts) r ≡ whole) label l is h)

pub labels_end : (starts labels : List ℕ) (i : ℕ) (all whole : List ℕ) → length labels ≤ i → all ++ map (new_label starts) (drop i labels) ≡ whole → all ≡ whole
labels_end starts labels i all whole l h = let t = rw (drop_all i labels l, append-nil all) at h in t

-- ## Closures

module _ (starts : List ℕ) (scope : Scope) (items : List flat_made.Made) (i : ℕ) (m : flat_made.Made) (l : i < length items) (is : m ≡ get_or items i m) where
  pub members_turn : (at at' : ℕ) (all all' whole : List (Member ℕ)) (q : Closure ℕ) → at' ≡ at + 1 → q ≡ closure_of starts scope (made m) → all' ≡ all ++ record { at = at; closure = q } ∷ []
      → all ++ members_of starts scope (map made (drop i items)) at ≡ whole → all' ++ members_of starts scope (map made (drop (i + 1) items)) at' ≡ whole
  members_turn at at' all all' whole q n p h k =
      let b : Member ℕ = record { at = at; closure = q } in
      let k' = next_left items i (λ r. all ++ members_of starts scope (map made r) at ≡ whole) m l is k in
      let n' : at' ≡ suc at = omega (arith, n) in
      rw (h, n', add-one, append_assoc all (b ∷ []) (members_of starts scope (map made (drop (suc i) items)) (suc at)), p) k'

  pub made_turn : (more : ℕ) → LabelsOfMade more (map made (drop i items)) → (m.label + more < 2 ^ 32) × LabelsOfMade more (map made (drop (i + 1) items))
  made_turn more h = rw add-one (next_left items i (λ r. LabelsOfMade more (map made r)) m l is h)

pub members_end : (starts : List ℕ) (scope : Scope) (items : List flat_made.Made) (i at : ℕ) (all whole : List (Member ℕ)) → length items ≤ i
    → all ++ members_of starts scope (map made (drop i items)) at ≡ whole → all ≡ whole
members_end starts scope items i at all whole l h = let t = rw (drop_all i items l, append-nil all) at h in t

-- ## Numbers

pub numbers_are : {A B : Type 0} (f : A → B) (xs : List A) (n : ℕ) → numbers n (length xs) ≡ numbers_for (map f xs) n
numbers_are f [] n = refl
numbers_are f (x ∷ xs) n = ap (λ l. n ∷ l) (numbers_are f xs (suc n))

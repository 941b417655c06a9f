-- What a set holds as variables are read into it and taken out of it.
use Rattle.std.proofs.Common.{◌≡◌, ℕ, suc, ◌+◌, ◌<◌, ◌≤◌, Bool, true, List, [], ◌∷◌, ◌++◌, length, drop, get_or, refl, ap, sym, ◌∙◌, subst, add-one}
use Rattle.std.specs.Prelude.{◌||◌, ◌&&◌, not, nat_eq, nat_lt}
use Rattle.std.specs.FinSet as set
use Rattle.std.specs.List.{list_all}
use Rattle.std.proofs.lemmas.List.{drop_all}
use Rattle.std.proofs.lemmas.List.Folds.{list_all-append}
use Rattle.sch_sets.specs.Members.{NumberSet}
use Rattle.sch_sets.proofs.Membership.{contains-insert, contains-remove}
use Rattle.sch_word.specs.trees.NumberSets.{has}
use Rattle.sch_word.proofs.facts.Lists.{next_left}
use Rattle.sch_word.proofs.facts.Booleans.{and_left, and_right, and_parts, or_right_false, or_around, not_either}
use Rattle.sch_word.proofs.facts.NumberSets.{has_append}
use Rattle.sch_control.specs.declared.operation.Atom.{Atom}
use Rattle.sch_control.specs.declared.operation.Atom.TheVariants.{Constant, Literal, Variable}
use Rattle.sch_control.specs.declared.operation.Member.{Member}
use Rattle.sch_control.specs.declared.operation.Source.{Source}
use Rattle.sch_control.specs.AtomsAndSites.{source_atom, source_atoms}
use Rattle.sch_control.specs.Valid.{member_variables}
use Rattle.sch_control.specs.flow.Live.{named}
use Rattle.sch_control.specs.flow.Reads.{IsWith, AtomsBelow}

-- ## Two lists of atoms

named_append : (xs ys : List (Atom ℕ)) → named (xs ++ ys) ≡ named xs ++ named ys
named_append [] ys = refl
named_append (Constant c ∷ xs) ys = named_append xs ys
named_append (Literal n ∷ xs) ys = named_append xs ys
named_append (Variable y ∷ xs) ys = ap (λ zs. y ∷ zs) (named_append xs ys)

has_named : (x : ℕ) (xs ys : List (Atom ℕ)) → has x (named (xs ++ ys)) ≡ (has x (named xs) || has x (named ys))
has_named x xs ys = ap (has x) (named_append xs ys) ∙ has_append x (named xs) (named ys)

pub with_append : (xs ys : List (Atom ℕ)) (s m r : NumberSet) → IsWith xs s m → IsWith ys m r → IsWith (xs ++ ys) s r
with_append xs ys s m r f g x =
    g x ∙ (ap (λ b. has x (named ys) || b) (f x)
    ∙ (or_around (has x (named xs)) (has x (named ys)) (set.contains s x) ∙ ap (λ b. b || set.contains s x) (sym (has_named x xs ys))))

pub below_parts : (bound : ℕ) (xs ys : List (Atom ℕ)) → AtomsBelow bound (xs ++ ys) → AtomsBelow bound xs × AtomsBelow bound ys
below_parts bound xs ys h =
    and_parts _ _ (sym (ap (list_all (λ x. nat_lt x bound)) (named_append xs ys) ∙ list_all-append (λ x. nat_lt x bound) (named xs) (named ys)) ∙ h)

-- ## One atom

pub with_variable : (y : ℕ) (s r : NumberSet) → r ≡ set.insert s y → IsWith (Variable y ∷ []) s r
with_variable y s r e x = rw e (contains-insert s y x ∙ ap (λ b. b || set.contains s x) (sym (or_right_false (nat_eq x y))))

-- ## What has atoms

abbrev pub atom_alone : Atom ℕ → List (Atom ℕ)
atom_alone a = a ∷ []

abbrev pub atoms_themselves : List (Atom ℕ) → List (Atom ℕ)
atoms_themselves atoms = atoms

abbrev pub source_alone : Source ℕ → List (Atom ℕ)
source_alone s = source_atom s ∷ []

abbrev pub captured : Member ℕ → List (Atom ℕ)
captured m = source_atoms m.closure.fields

-- ## Turns of a loop over what has atoms

-- what is left to read is read in the end
abbrev pub Left : {A : Type 0} → (all : List A → List (Atom ℕ)) → List A → NumberSet → (whole : ℕ → Bool) → Type 0
Left all items s whole = (x : ℕ) → (has x (named (all items)) || set.contains s x) ≡ whole x

module _ {A : Type 0} (one : A → List (Atom ℕ)) (all : List A → List (Atom ℕ)) (more : (a : A) (rest : List A) → all (a ∷ rest) ≡ one a ++ all rest) where
  one_read : (a : A) (rest : List A) (s s' : NumberSet) (whole : ℕ → Bool) → IsWith (one a) s s' → Left all (a ∷ rest) s whole → Left all rest s' whole
  one_read a rest s s' whole w h x =
      ap (λ b. has x (named (all rest)) || b) (w x)
      ∙ (or_around (has x (named (one a))) (has x (named (all rest))) (set.contains s x)
      ∙ (ap (λ b. b || set.contains s x) (sym (ap (λ zs. has x (named zs)) (more a rest) ∙ has_named x (one a) (all rest))) ∙ h x))

  pub read_turn : (items : List A) (i : ℕ) (a : A) (s s' : NumberSet) (whole : ℕ → Bool) → i < length items → a ≡ get_or items i a
      → IsWith (one a) s s' → Left all (drop i items) s whole → Left all (drop (i + 1) items) s' whole
  read_turn items i a s s' whole l e w h =
      let h' : Left all (a ∷ drop (suc i) items) s whole = subst (λ r. Left all r s whole) (next_left items i a l e) h in
      rw add-one (one_read a (drop (suc i) items) s s' whole w h')

  pub read_end : all [] ≡ [] → (items : List A) (i : ℕ) (s : NumberSet) (whole : ℕ → Bool) → length items ≤ i
      → Left all (drop i items) s whole → (x : ℕ) → set.contains s x ≡ whole x
  read_end none items i s whole l h x =
      let h' : Left all [] s whole = subst (λ r. Left all r s whole) (drop_all i items l) h in
      sym (ap (λ zs. has x (named zs) || set.contains s x) none) ∙ h' x

  pub below_turn : (bound : ℕ) (items : List A) (i : ℕ) (a : A) → i < length items → a ≡ get_or items i a
      → AtomsBelow bound (all (drop i items)) → AtomsBelow bound (one a) × AtomsBelow bound (all (drop (i + 1) items))
  below_turn bound items i a l e h =
      let h' : AtomsBelow bound (one a ++ all (drop (suc i) items))
      = subst (AtomsBelow bound) (more a (drop (suc i) items)) (subst (λ r. AtomsBelow bound (all r)) (next_left items i a l e) h) in
      rw add-one (below_parts bound (one a) (all (drop (suc i) items)) h')

-- ## Turns of the loop that takes the variables of a group out

-- what is left to take out is out in the end
abbrev pub OutLeft : List (Member ℕ) → NumberSet → (whole : ℕ → Bool) → Type 0
OutLeft members s whole = (x : ℕ) → (not (has x (member_variables members)) && set.contains s x) ≡ whole x

pub remove_turn : (members : List (Member ℕ)) (i : ℕ) (m : Member ℕ) (s s' : NumberSet) (whole : ℕ → Bool) → i < length members → m ≡ get_or members i m
    → s' ≡ set.remove s m.at → OutLeft (drop i members) s whole → OutLeft (drop (i + 1) members) s' whole
remove_turn members i m s s' whole l e r h =
    let rest = drop (suc i) members in
    let h' : OutLeft (m ∷ rest) s whole = subst (λ ms. OutLeft ms s whole) (next_left members i m l e) h in
    rw (r, add-one)
    (λ x.
    ap (λ b. not (has x (member_variables rest)) && b) (contains-remove s m.at x)
    ∙ (not_either (nat_eq x m.at) (has x (member_variables rest)) (set.contains s x) ∙ h' x))

pub remove_end : (members : List (Member ℕ)) (i : ℕ) (s : NumberSet) (whole : ℕ → Bool) → length members ≤ i → OutLeft (drop i members) s whole
    → (x : ℕ) → set.contains s x ≡ whole x
remove_end members i s whole l h = subst (λ ms. OutLeft ms s whole) (drop_all i members l) h

pub variables_turn : (bound : ℕ) (members : List (Member ℕ)) (i : ℕ) (m : Member ℕ) → i < length members → m ≡ get_or members i m
    → list_all (λ x. nat_lt x bound) (member_variables (drop i members)) ≡ true
    → (nat_lt m.at bound ≡ true) × (list_all (λ x. nat_lt x bound) (member_variables (drop (i + 1) members)) ≡ true)
variables_turn bound members i m l e h =
    let h' : list_all (λ x. nat_lt x bound) (member_variables (m ∷ drop (suc i) members)) ≡ true
    = subst (λ ms. list_all (λ x. nat_lt x bound) (member_variables ms) ≡ true) (next_left members i m l e) h in
    rw add-one (and_left (nat_lt m.at bound) _ h', and_right (nat_lt m.at bound) _ h')

-- All that a valid body reads and binds is below the number of its variables.
use Rattle.std.proofs.Common.{◌≡◌, ℕ, ◌≤◌, ◌<◌, Bool, true, List, [], ◌∷◌, ◌++◌, refl, ap, sym, ◌∙◌, arith}
use Rattle.std.specs.Prelude.{◌&&◌, nat_le, nat_lt, nat_eq}
use Rattle.std.specs.List.{list_all}
use Rattle.std.proofs.lemmas.Bool.Decides.{nat_tests}
use Rattle.sch_word.specs.trees.NumberSets.{has, without_repeats}
use Rattle.sch_word.proofs.facts.Booleans.{and_left, and_right, and_of, or_left, or_right}
use Rattle.sch_word.proofs.facts.NumberSets.{has_append}
use Rattle.sch_control.specs.declared.operation.Atom.{Atom}
use Rattle.sch_control.specs.declared.operation.Atom.TheVariants.{Constant, Literal, Variable}
use Rattle.sch_control.specs.AtomsAndSites.{operation_atoms, application_atoms, member_atoms}
use Rattle.sch_control.specs.Tree.{Expression, perform, bind, sequence, branch, fix, call, tail_call, return, end, save, Code}
use Rattle.sch_control.specs.Valid.{first_scope, first_bound, in_scope, in_scope_whole, in_scope_atoms, numbered, bound_in, member_variables, with_variable, with_members, max_body_variables}
use Rattle.sch_control.specs.flow.Bare.{erased}
use Rattle.sch_control.specs.flow.Reads.{AtomsBelow, VariablesBelow}
use Rattle.sch_paths.proofs.runs.RestoresAreEnough.{scope_erased, bound_erased}
use Rattle.sch_paths.proofs.saves.ListedBelow.{Below, one_below, members_below, each_below, first_below, some_variable}

atoms_below : (n : ℕ) (scope : ℕ → Bool) (atoms : List (Atom ℕ)) → in_scope_atoms scope atoms ≡ true → Below n scope → AtomsBelow n atoms
atoms_below n scope [] i low = refl
atoms_below n scope (Constant c ∷ atoms) i low = atoms_below n scope atoms i low
atoms_below n scope (Literal k ∷ atoms) i low = atoms_below n scope atoms i low
atoms_below n scope (Variable x ∷ atoms) i low =
    let lt : x < n = low x (and_left (scope x) _ i) in
    let test : nat_lt x n ≡ true = grind (arith, nat_tests, lt) in
    and_of (nat_lt x n) _ test (atoms_below n scope atoms (and_right (scope x) _ i) low)

each_of : (n : ℕ) (ys : List ℕ) → Below n (λ x. has x ys) → list_all (λ x. nat_lt x n) ys ≡ true
each_of n [] low = refl
each_of n (y ∷ ys) low =
    let lt : y < n = low y (or_left (nat_eq y y) _ (grind (arith, nat_tests))) in
    let test : nat_lt y n ≡ true = grind (arith, nat_tests, lt) in
    and_of (nat_lt y n) _ test (each_of n ys (λ x h. low x (or_right (nat_eq x y) _ h)))

module _ (n : ℕ) where
  left_below : (xs ys : List ℕ) → Below n (λ x. has x (xs ++ ys)) → Below n (λ x. has x xs)
  left_below xs ys low x h = low x (has_append x xs ys ∙ or_left (has x xs) _ h)

  right_below : (xs ys : List ℕ) → Below n (λ x. has x (xs ++ ys)) → Below n (λ x. has x ys)
  right_below xs ys low x h = low x (has_append x xs ys ∙ or_right (has x xs) _ h)

  pub variables_below : (e : Expression) (scope : ℕ → Bool) → in_scope e scope ≡ true → Below n scope → Below n (λ x. has x (bound_in e)) → VariablesBelow n e
  variables_below (perform o) scope i low all = atoms_below n scope (operation_atoms o) i low
  variables_below (bind y a b) scope i low all =
      let inner : Below n (λ x. has x (bound_in a ++ bound_in b)) = λ x h. all x (or_right (nat_eq x y) _ h) in
      let here : y < n = all y (or_left (nat_eq y y) _ (grind (arith, nat_tests))) in (
        here,
        (
          variables_below a scope (and_left (in_scope a scope) _ i) low (left_below (bound_in a) (bound_in b) inner),
          variables_below b (with_variable y scope) (and_right (in_scope a scope) _ i) (one_below n y scope here low)
              (right_below (bound_in a) (bound_in b) inner),
        ),
      )
  variables_below (sequence a b) scope i low all = (
    variables_below a scope (and_left (in_scope a scope) _ i) low (left_below (bound_in a) (bound_in b) all),
    variables_below b scope (and_right (in_scope a scope) _ i) low (right_below (bound_in a) (bound_in b) all),
  )
  variables_below (branch a b c) scope i low all =
      let rest = and_right (in_scope a scope) _ i in
      let later = right_below (bound_in a) (bound_in b ++ bound_in c) all in (
        variables_below a scope (and_left (in_scope a scope) _ i) low (left_below (bound_in a) (bound_in b ++ bound_in c) all),
        (
          variables_below b scope (and_left (in_scope b scope) _ rest) low (left_below (bound_in b) (bound_in c) later),
          variables_below c scope (and_right (in_scope b scope) _ rest) low (right_below (bound_in b) (bound_in c) later),
        ),
      )
  variables_below (fix members e) scope i low all =
      let ys : List ℕ = member_variables members in
      let group : Below n (λ x. has x ys) = left_below ys (bound_in e) all in
      let inner : Below n (with_members members scope) = members_below n members scope group low in (
        atoms_below n (with_members members scope) (member_atoms members) (and_left (in_scope_atoms (with_members members scope) (member_atoms members)) _ i) inner,
        (
          each_of n ys group,
          variables_below e (with_members members scope) (and_right (in_scope_atoms (with_members members scope) (member_atoms members)) _ i) inner
              (right_below ys (bound_in e) all),
        ),
      )
  variables_below (call a listed) scope i low all = atoms_below n scope (application_atoms a) i low
  variables_below (tail_call a) scope i low all = atoms_below n scope (application_atoms a) i low
  variables_below (return e) scope i low all = variables_below e scope i low all
  variables_below (end e) scope i low all = variables_below e scope i low all
  variables_below (save saves e) scope i low all = variables_below e scope i low all

more_below : (n m : ℕ) → n ≤ m → (scope : ℕ → Bool) → Below n scope → Below m scope
more_below n m l scope low x h =
    let lt : x < n = low x h in
    omega (arith, l, lt)

module _ (c : Code) (numbers : numbered c ≡ true) (bound : ℕ) (fits : c.variables ≤ bound) where
  abbrev each : Bool
  each = list_all (λ x. nat_le (first_bound c.entry) x && nat_lt x c.variables) (bound_in c.expression)

  inner : (nat_le (first_bound c.entry) c.variables && (each && without_repeats (bound_in c.expression))) ≡ true
  inner = and_right (nat_le c.variables max_body_variables) _ numbers

  first : nat_le (first_bound c.entry) c.variables ≡ true
  first = and_left (nat_le (first_bound c.entry) c.variables) _ inner

  bound_below : Below bound (λ x. has x (bound_in c.expression))
  bound_below =
      more_below c.variables bound fits (λ x. has x (bound_in c.expression))
      (each_below c.variables (λ x. nat_le (first_bound c.entry) x) (bound_in c.expression)
      (and_left each _ (and_right (nat_le (first_bound c.entry) c.variables) _ inner)))

  -- a body has a variable
  pub some_below : 0 < bound
  some_below =
      let lt : 0 < c.variables = some_variable c.variables c.entry first in
      omega (arith, lt, fits)

  -- so is all that its tree reads and binds
  pub code_below : in_scope_whole c ≡ true → VariablesBelow bound c.expression
  code_below i = variables_below bound c.expression (first_scope c.entry) i (more_below c.variables bound fits (first_scope c.entry) (first_below c.variables c.entry first)) bound_below

  -- and all that a tree with regions and lists does
  pub listed_below : (e : Expression) → erased e ≡ c.expression → in_scope_whole c ≡ true → VariablesBelow bound e
  listed_below e is i =
      variables_below bound e (first_scope c.entry) (sym (scope_erased e (first_scope c.entry)) ∙ (ap (λ z. in_scope z (first_scope c.entry)) is ∙ i))
      (more_below c.variables bound fits (first_scope c.entry) (first_below c.variables c.entry first))
      (λ x h. bound_below x (sym (ap (has x) (sym (bound_erased e) ∙ ap bound_in is)) ∙ h))

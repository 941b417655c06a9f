-- A table of numbers has what is bound, and a binding can be undone.
use Rattle.std.proofs.Common.{◌≡◌, ℕ, zero, suc, ◌+◌, ◌-◌, ◌<◌, ◌≤◌, Bool, true, false, List, [], ◌∷◌, ◌++◌, length, reverse, map, take, drop, replicate, get_or, set, refl, sym, ap, ◌∙◌, subst, arith, add-one, length-append, take-take}
use Rattle.std.specs.Prelude.{nat_eq, nat_lt, ◌&&◌}
use Rattle.std.specs.List.{list_all}
use Rattle.std.proofs.lemmas.Bool.{eq-eqb, eqb-true, lt-ltb, ltb-true, eqb-false}
use Rattle.std.proofs.lemmas.List.{get_or-set_same, get_or-set_other, get_or_append_left, set-append_left, set-get_or, set-set, length-set, reverse-append}
use Rattle.std.proofs.lemmas.List.Folds.{list_all-append}
use Rattle.sch_word.specs.trees.Bindings.{numbers, with_variables}
use Rattle.sch_word.proofs.Walking.{next_left}
use Rattle.sch_word.proofs.facts.Booleans.{and_left, and_right, and_of}
use Rattle.sch_flat.specs.declared.tree.NewCell.{NewCell}
use Rattle.sch_flat.specs.View.{new_cell}
use Rattle.sch_anf.specs.declared.variables.Binding.{Binding}
use Rattle.sch_anf_laws.specs.Normal.{Scope, number_of, cells_scope}
use Rattle.sch_anf.specs.ScopeTable.{pairs_of, scope_of, undoes, is_table}

none_in : (table : List ℕ) (x : ℕ) → list_all (λ y. nat_eq y 0) table ≡ true → get_or table x 0 ≡ 0
none_in [] x h = refl
none_in (y ∷ table) zero h = eqb-true y 0 (and_left (nat_eq y 0) (list_all (λ y. nat_eq y 0) table) h)
none_in (y ∷ table) (suc x) h = none_in table x (and_right (nat_eq y 0) (list_all (λ y. nat_eq y 0) table) h)

-- the parts of what a table of a binding and others has
module _ (table : List ℕ) (b : Binding) (bs : List Binding) (h : undoes table (b ∷ bs) ≡ true) where
  more : (nat_eq (get_or table b.variable 0) b.number && undoes (set table b.variable b.before) bs) ≡ true
  more = and_right (nat_lt b.variable (length table)) (nat_eq (get_or table b.variable 0) b.number && undoes (set table b.variable b.before) bs) h

  pub within : b.variable < length table
  within = ltb-true b.variable (length table) (and_left (nat_lt b.variable (length table)) (nat_eq (get_or table b.variable 0) b.number && undoes (set table b.variable b.before) bs) h)

  number : get_or table b.variable 0 ≡ b.number
  number = eqb-true (get_or table b.variable 0) b.number (and_left (nat_eq (get_or table b.variable 0) b.number) (undoes (set table b.variable b.before) bs) more)

  pub undone : undoes (set table b.variable b.before) bs ≡ true
  undone = and_right (nat_eq (get_or table b.variable 0) b.number) (undoes (set table b.variable b.before) bs) more

found : (table : List ℕ) (bs : List Binding) (x : ℕ) → undoes table bs ≡ true → get_or table x 0 ≡ number_of (pairs_of bs) x
found table [] x h = none_in table x h
found table (b ∷ bs) x h = go (nat_eq x b.variable) refl (found (set table b.variable b.before) bs x (undone table b bs h))
  where
    go : (t : Bool) → nat_eq x b.variable ≡ t → get_or (set table b.variable b.before) x 0 ≡ number_of (pairs_of bs) x → get_or table x 0 ≡ number_of (pairs_of (b ∷ bs)) x
    go true e k = let n = number table b bs h in rw e (ap (λ y. get_or table y 0) (eqb-true x b.variable e) ∙ n)
    go false e k = rw e (sym (get_or-set_other table b.variable x b.before 0 (eqb-false x b.variable e)) ∙ k)

-- what the table has is what the scope gives
pub number_found : (table : List ℕ) (bound : List Binding) (x : ℕ) → is_table table bound ≡ true → get_or table x 0 ≡ number_of (scope_of bound) x
number_found table bound x h = found table (reverse bound) x h

zeros : (k : ℕ) → list_all (λ y. nat_eq y 0) (replicate k 0) ≡ true
zeros zero = refl
zeros (suc k) = zeros k

longer : (table : List ℕ) (bs : List Binding) (k : ℕ) → undoes table bs ≡ true → undoes (table ++ replicate k 0) bs ≡ true
longer table [] k h = list_all-append (λ y. nat_eq y 0) table (replicate k 0) ∙ and_of (list_all (λ y. nat_eq y 0) table) (list_all (λ y. nat_eq y 0) (replicate k 0)) h (zeros k)
longer table (b ∷ bs) k h =
    let l = within table b bs h in
    let n = number table b bs h in
    let m = length-append table (replicate k 0) in
    and_of (nat_lt b.variable (length (table ++ replicate k 0))) (nat_eq (get_or (table ++ replicate k 0) b.variable 0) b.number && undoes (set (table ++ replicate k 0) b.variable b.before) bs)
    (lt-ltb b.variable (length (table ++ replicate k 0)) (omega (arith, l, m)))
    (and_of (nat_eq (get_or (table ++ replicate k 0) b.variable 0) b.number) (undoes (set (table ++ replicate k 0) b.variable b.before) bs)
    (eq-eqb (get_or (table ++ replicate k 0) b.variable 0) b.number (get_or_append_left table (replicate k 0) 0 b.variable l ∙ n))
    (subst (λ t. undoes t bs ≡ true) (sym (set-append_left table (replicate k 0) b.variable b.before l)) (longer (set table b.variable b.before) bs k (undone table b bs h))))

-- a longer table
pub longer_table : (table longer' : List ℕ) (bound : List Binding) (k : ℕ) → longer' ≡ table ++ replicate k 0 → is_table table bound ≡ true → is_table longer' bound ≡ true
longer_table table longer' bound k e h = rw e (longer table (reverse bound) k h)

-- one binding more
pub bound_more : (table : List ℕ) (bound : List Binding) (b : Binding) → b.variable < length table → b.before ≡ get_or table b.variable 0 → is_table table bound ≡ true
    → is_table (set table b.variable b.number) (bound ++ b ∷ []) ≡ true
bound_more table bound b l e h =
    let table' = set table b.variable b.number in
    let back : set table' b.variable b.before ≡ table = set-set table b.variable b.number b.before ∙ ap (λ y. set table b.variable y) e ∙ set-get_or table b.variable 0 in
    let whole : undoes table' (b ∷ reverse bound) ≡ true =
    and_of (nat_lt b.variable (length table')) (nat_eq (get_or table' b.variable 0) b.number && undoes (set table' b.variable b.before) (reverse bound))
    (lt-ltb b.variable (length table') (omega (arith, l, length-set table b.variable b.number)))
    (and_of (nat_eq (get_or table' b.variable 0) b.number) (undoes (set table' b.variable b.before) (reverse bound))
    (eq-eqb (get_or table' b.variable 0) b.number (get_or-set_same table b.variable b.number 0 l))
    (subst (λ t. undoes t (reverse bound) ≡ true) (sym back) h)) in
    subst (λ bs. undoes table' bs ≡ true) (sym (reverse-append bound (b ∷ []))) whole

-- the last binding is undone
pub last_within : (table : List ℕ) (bound left : List Binding) (b : Binding) → bound ≡ left ++ b ∷ [] → is_table table bound ≡ true → b.variable < length table
last_within table bound left b e h = within table b (reverse left) (subst (λ bs. undoes table bs ≡ true) (ap reverse e ∙ reverse-append left (b ∷ [])) h)

pub last_undone : (table : List ℕ) (bound left : List Binding) (b : Binding) → bound ≡ left ++ b ∷ [] → is_table table bound ≡ true → is_table (set table b.variable b.before) left ≡ true
last_undone table bound left b e h = undone table b (reverse left) (subst (λ bs. undoes table bs ≡ true) (ap reverse e ∙ reverse-append left (b ∷ [])) h)

pub scope_more : (bound bound' : List Binding) (b : Binding) → bound' ≡ bound ++ b ∷ [] → scope_of bound' ≡ (b.variable, b.number) ∷ scope_of bound
scope_more bound bound' b e = ap scope_of e ∙ ap pairs_of (reverse-append bound (b ∷ []))

-- ## Groups

-- what stood at the start still stands after one binding more
pub start_kept : (start old new : List Binding) → length start ≤ length old → take (length old) new ≡ old → take (length start) old ≡ start → take (length start) new ≡ start
start_kept start old new l k h = sym (take-take (length start) (length old) new l) ∙ ap (take (length start)) k ∙ h

-- a turn of a loop that binds the variables of a group to new ones
pub group_turn : (first place count next next' : ℕ) (scope scope' whole : Scope) → place < count → next' ≡ suc next → scope' ≡ (first + place, next) ∷ scope
    → with_variables (first + place) (numbers next (count - place)) scope ≡ whole → with_variables (first + (place + 1)) (numbers next' (count - (place + 1))) scope' ≡ whole
group_turn first place count next next' scope scope' whole l n s h =
    let more : count - place ≡ suc (count - (place + 1)) = omega (arith, l) in
    let h' : with_variables (first + place) (numbers next (suc (count - (place + 1)))) scope ≡ whole = subst (λ k. with_variables (first + place) (numbers next k) scope ≡ whole) more h in
    let at : first + (place + 1) ≡ suc (first + place) = omega arith in
    rw (at, n, s) h'

-- to given ones
pub each_turn : (first place number : ℕ) (all : List ℕ) (scope scope' whole : Scope) → place < length all → number ≡ get_or all place number → scope' ≡ (first + place, number) ∷ scope
    → with_variables (first + place) (drop place all) scope ≡ whole → with_variables (first + (place + 1)) (drop (place + 1) all) scope' ≡ whole
each_turn first place number all scope scope' whole l n s h =
    let at : first + (place + 1) ≡ suc (first + place) = omega arith in
    let h' = next_left all place (λ r. with_variables (first + place) r scope ≡ whole) number l n h in
    rw (at, s, add-one) h'

-- and those of new cells
pub cells_turn : (cells : List NewCell) (place : ℕ) (c : NewCell) (next next' : ℕ) (scope scope' whole : Scope) → place < length cells → c ≡ get_or cells place c → next' ≡ suc next
    → scope' ≡ (c.variable, next) ∷ scope
    → cells_scope (map new_cell (drop place cells)) next scope ≡ whole → cells_scope (map new_cell (drop (place + 1) cells)) next' scope' ≡ whole
cells_turn cells place c next next' scope scope' whole l is n s h =
    let h' = next_left cells place (λ r. cells_scope (map new_cell r) next scope ≡ whole) c l is h in
    rw (n, s, add-one) h'

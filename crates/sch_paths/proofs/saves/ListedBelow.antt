-- What is listed at the calls of a valid body are variables of the body, where it is what is live.
use Rattle.std.proofs.Common.{◌≡◌, ℕ, ◌+◌, ◌<◌, Bool, true, false, List, [], ◌∷◌, ◌++◌, Option, Some, None, refl, ap, sym, ◌∙◌, subst, inl, inr, arith}
use Rattle.std.specs.Prelude.{nat_eq, nat_lt, nat_le, ◌||◌, ◌&&◌}
use Rattle.std.specs.Bool.{MatchBool}
use Rattle.std.specs.List.{list_all}
use Rattle.std.proofs.lemmas.Bool.{eqb-true, ne_eqb}
use Rattle.std.proofs.lemmas.Bool.Decides.{nat_tests}
use Rattle.sch_word.specs.trees.NumberSets.{has, without_repeats}
use Rattle.sch_word.proofs.facts.Booleans.{and_left, and_right, or_left, or_right}
use Rattle.sch_word.proofs.facts.NumberSets.{has_append}
use Rattle.sch_control.specs.declared.body.Entry.{Entry}
use Rattle.sch_control.specs.declared.operation.Member.{Member}
use Rattle.sch_control.specs.AtomsAndSites.{member_atoms}
use Rattle.sch_control.specs.Tree.{Expression, perform, bind, sequence, branch, fix, call, tail_call, return, end, save, Code}
use Rattle.sch_control.specs.Valid.{first_scope, first_bound, in_scope, in_scope_whole, in_scope_atoms, numbered, bound_in, member_variables, with_variable, with_members, max_body_variables}
use Rattle.sch_control.specs.flow.Bare.{erased}
use Rattle.sch_control.specs.flow.Live.{Live, Later, nothing_later}
use Rattle.sch_control.specs.flow.LiveSets.{LiveSets, HasLiveSets}
use Rattle.sch_paths.proofs.runs.RestoresAreEnough.{scope_erased, bound_erased}
use Rattle.sch_paths.proofs.saves.LiveInScope.{live_scope, more_scope}
use Rattle.sch_paths.specs.Laws.{Readable}

abbrev pub ListsBelow : ℕ → Expression → Type 0
ListsBelow n (bind y a b) = ListsBelow n a × ListsBelow n b
ListsBelow n (sequence a b) = ListsBelow n a × ListsBelow n b
ListsBelow n (branch a b c) = ListsBelow n a × (ListsBelow n b × ListsBelow n c)
ListsBelow n (fix members e) = ListsBelow n e
ListsBelow n (call a listed) = (x : ℕ) → has x listed ≡ true → x < n
ListsBelow n (return e) = ListsBelow n e
ListsBelow n (end e) = ListsBelow n e
ListsBelow n (save saves e) = ListsBelow n e
ListsBelow n (perform o) = Unit {0}
ListsBelow n (tail_call a) = Unit {0}

abbrev pub Below : ℕ → (ℕ → Bool) → Type 0
Below n scope = (x : ℕ) → scope x ≡ true → x < n

pub one_below : (n y : ℕ) (scope : ℕ → Bool) → y < n → Below n scope → Below n (with_variable y scope)
one_below n y scope l low x h = by (nat_eq x y) refl h where
  by : (t : Bool) → nat_eq x y ≡ t → (t || scope x) ≡ true → x < n
  by true e h = subst (λ z. z < n) (sym (eqb-true x y e)) l
  by false e h = low x h

pub members_below : (n : ℕ) (members : List (Member ℕ)) (scope : ℕ → Bool) → Below n (λ x. has x (member_variables members)) → Below n scope → Below n (with_members members scope)
members_below n [] scope all low = low
members_below n (m ∷ members) scope all low =
    members_below n members (with_variable m.at scope) (λ x h. all x (or_right (nat_eq x m.at) _ h))
    (one_below n m.at scope (all m.at (or_left (nat_eq m.at m.at) _ (grind (arith, nat_tests)))) low)

module _ (n : ℕ) (some : 0 < n) where
  readable_below : (scope : ℕ → Bool) → Below n scope → (x : ℕ) → Readable scope x → x < n
  readable_below scope low x (inl z) = subst (λ y. y < n) (sym z) some
  readable_below scope low x (inr s) = low x s

  lists_below : (e : Expression) (scope : ℕ → Bool) → in_scope e scope ≡ true → Below n scope → Below n (λ x. has x (bound_in e))
      → (Met : Type 0) (L : Later) → ((x : ℕ) (t : Bool) → L x t → Readable scope x) → LiveSets e Met L → ListsBelow n e
  lists_below (perform o) scope i low all Met L f sets = tt
  lists_below (bind y a b) scope i low all Met L f sets =
      let in_a = and_left (in_scope a scope) _ i in
      let in_b = and_right (in_scope a scope) _ i in
      let inner : (x : ℕ) → has x (bound_in a ++ bound_in b) ≡ true → x < n = λ x h. all x (or_right (nat_eq x y) _ h) in
      let behind : (x : ℕ) (t : Bool) → L x t → Readable (with_variable y scope) x = λ x t l. elim (f x t l) [ inl e ↦ inl e | inr s ↦ inr (or_right (nat_eq x y) _ s) ] in (
        lists_below a scope in_a low (λ x h. inner x (has_append x (bound_in a) (bound_in b) ∙ or_left (has x (bound_in a)) _ h)) Met _
            (λ x t w. elim (live_scope b (with_variable y scope) in_b x (L x) (behind x) w.1) [
              | inl e ↦ inl e
              | inr s ↦ inr (sym (ap (λ t. t || scope x) (ne_eqb x y w.0)) ∙ s)
            ]) sets.0,
        lists_below b (with_variable y scope) in_b (one_below n y scope (all y (or_left (nat_eq y y) _ (grind (arith, nat_tests)))) low)
            (λ x h. inner x (has_append x (bound_in a) (bound_in b) ∙ or_right (has x (bound_in a)) _ h)) Met L behind sets.1,
      )
  lists_below (sequence a b) scope i low all Met L f sets = (
    lists_below a scope (and_left (in_scope a scope) _ i) low (λ x h. all x (has_append x (bound_in a) (bound_in b) ∙ or_left (has x (bound_in a)) _ h)) Met _
        (λ x t. live_scope b scope (and_right (in_scope a scope) _ i) x (L x) (f x)) sets.0,
    lists_below b scope (and_right (in_scope a scope) _ i) low (λ x h. all x (has_append x (bound_in a) (bound_in b) ∙ or_right (has x (bound_in a)) _ h)) Met L f sets.1,
  )
  lists_below (branch a b c) scope i low all Met L f sets =
      let rest = and_right (in_scope a scope) _ i in
      let later : (x : ℕ) → has x (bound_in b ++ bound_in c) ≡ true → x < n
      = λ x h. all x (has_append x (bound_in a) (bound_in b ++ bound_in c) ∙ or_right (has x (bound_in a)) _ h) in (
        lists_below a scope (and_left (in_scope a scope) _ i) low (λ x h. all x (has_append x (bound_in a) (bound_in b ++ bound_in c) ∙ or_left (has x (bound_in a)) _ h)) Met _
            (λ x t. elim t as (λ t. MatchBool t (Live x b (L x)) (Live x c (L x)) → Readable scope x) [
              | true ↦ live_scope b scope (and_left (in_scope b scope) _ rest) x (L x) (f x)
              | false ↦ live_scope c scope (and_right (in_scope b scope) _ rest) x (L x) (f x)
            ]) sets.0,
        (
          lists_below b scope (and_left (in_scope b scope) _ rest) low (λ x h. later x (has_append x (bound_in b) (bound_in c) ∙ or_left (has x (bound_in b)) _ h)) _ L f sets.1.0,
          lists_below c scope (and_right (in_scope b scope) _ rest) low (λ x h. later x (has_append x (bound_in b) (bound_in c) ∙ or_right (has x (bound_in b)) _ h)) _ L f sets.1.1,
        ),
      )
  lists_below (fix members e) scope i low all Met L f sets =
      let ys : List ℕ = member_variables members in
      lists_below e (with_members members scope) (and_right (in_scope_atoms (with_members members scope) (member_atoms members)) _ i)
      (members_below n members scope (λ x h. all x (has_append x ys (bound_in e) ∙ or_left (has x ys) _ h)) low)
      (λ x h. all x (has_append x ys (bound_in e) ∙ or_right (has x ys) _ h)) Met L
      (λ x t l. elim (f x t l) [ inl z ↦ inl z | inr s ↦ inr (more_scope members scope x s) ]) sets
  lists_below (call a listed) scope i low all Met L f sets =
      λ x h. elim ((sets x).0 h).1 [ inl l ↦ readable_below scope low x (f x true l) | inr l ↦ readable_below scope low x (f x false l) ]
  lists_below (tail_call a) scope i low all Met L f sets = tt
  lists_below (return e) scope i low all Met L f sets = lists_below e scope i low all Met _ (λ x t z. inl z) sets
  lists_below (end e) scope i low all Met L f sets = lists_below e scope i low all Met _ (λ x t b. absurd b) sets
  lists_below (save saves e) scope i low all Met L f sets = lists_below e scope i low all Met L f sets

pub each_below : (n : ℕ) (p : ℕ → Bool) (ys : List ℕ) → list_all (λ x. p x && nat_lt x n) ys ≡ true → Below n (λ x. has x ys)
each_below n p [] h x m = absurd (cc)
each_below n p (y ∷ ys) h x m = by (nat_eq x y) refl (each_below n p ys (and_right (p y && nat_lt y n) _ h) x) m where
  by : (t : Bool) → nat_eq x y ≡ t → (has x ys ≡ true → x < n) → (t || has x ys) ≡ true → x < n
  by true e f m =
      let lt : nat_lt y n ≡ true = and_right (p y) _ (and_left (p y && nat_lt y n) _ h) in
      let is : x ≡ y = eqb-true x y e in
      grind (arith, nat_tests, lt, is)
  by false e f m = f m

pub first_below : (n : ℕ) (entry : Option Entry) → nat_le (first_bound entry) n ≡ true → Below n (first_scope entry)
first_below n None h x s = absurd (cc)
first_below n (Some e) h x s =
    let lt : nat_lt x (2 + e.formals) ≡ true = and_right (nat_lt 0 x) _ s in
    grind (arith, nat_tests, h, lt)

pub some_variable : (n : ℕ) (entry : Option Entry) → nat_le (first_bound entry) n ≡ true → 0 < n
some_variable n None h = grind (arith, nat_tests, h)
some_variable n (Some e) h = grind (arith, nat_tests, h)

-- of a valid body whose calls list what is live after them
pub body_below : (c : Code) (e : Expression) → erased e ≡ c.expression → in_scope_whole c ≡ true → numbered c ≡ true → HasLiveSets e → ListsBelow c.variables e
body_below c e is i n sets =
    let bound : Bool = list_all (λ x. nat_le (first_bound c.entry) x && nat_lt x c.variables) (bound_in c.expression) in
    let inner : (nat_le (first_bound c.entry) c.variables && (bound && without_repeats (bound_in c.expression))) ≡ true
    = and_right (nat_le c.variables max_body_variables) _ n in
    let first : nat_le (first_bound c.entry) c.variables ≡ true = and_left (nat_le (first_bound c.entry) c.variables) _ inner in
    let all : bound ≡ true = and_left bound _ (and_right (nat_le (first_bound c.entry) c.variables) _ inner) in
    lists_below c.variables (some_variable c.variables c.entry first) e (first_scope c.entry)
    (sym (scope_erased e (first_scope c.entry)) ∙ (ap (λ z. in_scope z (first_scope c.entry)) is ∙ i)) (first_below c.variables c.entry first)
    (λ x h. each_below c.variables (λ x. nat_le (first_bound c.entry) x) (bound_in c.expression) all x
    (sym (ap (has x) (sym (bound_erased e) ∙ ap bound_in is)) ∙ h))
    (Unit {0}) nothing_later (λ x t b. absurd b) sets

-- What is live is in scope, so what is bound inside a region is not live before it.
use Rattle.std.proofs.Common.{◌≡◌, ℕ, Bool, true, false, List, [], ◌∷◌, ◌++◌, refl, ap, sym, ◌∙◌, inl, inr}
use Rattle.std.specs.Prelude.{nat_eq, ◌||◌, not}
use Rattle.std.specs.Bool.{MatchBool}
use Rattle.std.proofs.lemmas.Bool.{eqb-true, ne_eqb}
use Rattle.sch_paths.specs.Laws.{Readable}
use Rattle.sch_word.specs.trees.NumberSets.{has, without_repeats}
use Rattle.sch_word.proofs.facts.Booleans.{and_left, and_right, or_left, or_right, not_left, not_right, false_true, not_true, never_true}
use Rattle.sch_word.proofs.facts.NumberSets.{has_append, distinct_left, distinct_right}
use Rattle.sch_control.specs.declared.operation.Atom.{Atom}
use Rattle.sch_control.specs.declared.operation.Atom.TheVariants.{Constant, Literal, Variable}
use Rattle.sch_control.specs.declared.operation.Member.{Member}
use Rattle.sch_control.specs.AtomsAndSites.{operation_atoms, application_atoms, member_atoms}
use Rattle.sch_control.specs.Meaning.{binds}
use Rattle.sch_control.specs.Tree.{Expression, perform, bind, sequence, branch, fix, call, tail_call, return, end, save}
use Rattle.sch_control.specs.Valid.{with_variable, with_members, in_scope_atoms, in_scope, member_variables, bound_in}
use Rattle.sch_control.specs.flow.Live.{named, Mentions, known, Across, Live, Later, nothing_later}
use Rattle.sch_control.proofs.Results.{after_result}
use Rattle.sch_control.proofs.VariableLists.{among_is}
use Rattle.sch_paths.specs.Conditions.{Fresh}

-- ## What is live is in scope

pub mentioned : (scope : ℕ → Bool) (atoms : List (Atom ℕ)) → in_scope_atoms scope atoms ≡ true → (x : ℕ) → Mentions x atoms → scope x ≡ true
mentioned scope [] i x m = absurd (cc)
mentioned scope (Constant c ∷ atoms) i x m = mentioned scope atoms i x m
mentioned scope (Literal n ∷ atoms) i x m = mentioned scope atoms i x m
mentioned scope (Variable y ∷ atoms) i x m = by (nat_eq x y) refl (mentioned scope atoms (and_right (scope y) _ i) x) m where
  by : (t : Bool) → nat_eq x y ≡ t → (Mentions x atoms → scope x ≡ true) → (t || has x (named atoms)) ≡ true → scope x ≡ true
  by true e f h = ap scope (eqb-true x y e) ∙ and_left (scope y) _ i
  by false e f h = f h

-- a member is in scope inside its group
pub outer_scope : (members : List (Member ℕ)) (scope : ℕ → Bool) (x : ℕ) → has x (member_variables members) ≡ false → with_members members scope x ≡ scope x
outer_scope [] scope x n = refl
outer_scope (m ∷ members) scope x n =
    outer_scope members (with_variable m.at scope) x (not_right (nat_eq x m.at) _ n) ∙ ap (λ t. t || scope x) (not_left (nat_eq x m.at) _ n)

pub live_scope : (e : Expression) (scope : ℕ → Bool) → in_scope e scope ≡ true → (x : ℕ) (L : Bool → Type 0) → ((t : Bool) → L t → Readable scope x) → Live x e L → Readable scope x
live_scope (perform o) scope i x L f (inl m) = inr (mentioned scope (operation_atoms o) i x m)
live_scope (perform o) scope i x L f (inr l) = after_result (known o) L (Readable scope x) f l
live_scope (bind y a b) scope i x L f l =
    live_scope a scope (and_left (in_scope a scope) _ i) x (λ t. Across y x (Live x b L))
    (λ t w. elim (live_scope b (with_variable y scope) (and_right (in_scope a scope) _ i) x L
    (λ t l. elim (f t l) [ inl e ↦ inl e | inr s ↦ inr (or_right (nat_eq x y) _ s) ]) w.1) [
      | inl e ↦ inl e
      | inr s ↦ inr (sym (ap (λ t. t || scope x) (ne_eqb x y w.0)) ∙ s)
    ]) l
live_scope (sequence a b) scope i x L f l =
    live_scope a scope (and_left (in_scope a scope) _ i) x (λ t. Live x b L) (λ t. live_scope b scope (and_right (in_scope a scope) _ i) x L f) l
live_scope (branch a b c) scope i x L f l =
    let rest = and_right (in_scope a scope) _ i in
    live_scope a scope (and_left (in_scope a scope) _ i) x (λ t. MatchBool t (Live x b L) (Live x c L))
    (λ t. elim t as (λ t. MatchBool t (Live x b L) (Live x c L) → Readable scope x) [
      | true ↦ live_scope b scope (and_left (in_scope b scope) _ rest) x L f
      | false ↦ live_scope c scope (and_right (in_scope b scope) _ rest) x L f
    ]) l
live_scope (fix members e) scope i x L f l =
    let inner : Bool = in_scope_atoms (with_members members scope) (member_atoms members) in
    let read : Readable (with_members members scope) x
    = elim l.1 [
      | inl m ↦ inr (mentioned (with_members members scope) (member_atoms members) (and_left inner _ i) x m)
      | inr at ↦
          live_scope e (with_members members scope) (and_right inner _ i) x L
          (λ t w. elim (f t w) [ inl z ↦ inl z | inr s ↦ inr (outer_scope members scope x l.0 ∙ s) ]) at
    ] in
    elim read [ inl z ↦ inl z | inr s ↦ inr (sym (outer_scope members scope x l.0) ∙ s) ]
live_scope (call a listed) scope i x L f (inl m) = inr (mentioned scope (application_atoms a) i x m)
live_scope (call a listed) scope i x L f (inr (inl l)) = f true l
live_scope (call a listed) scope i x L f (inr (inr l)) = f false l
live_scope (tail_call a) scope i x L f (inl z) = inl z
live_scope (tail_call a) scope i x L f (inr m) = inr (mentioned scope (application_atoms a) i x m)
live_scope (return e) scope i x L f l = live_scope e scope i x (λ t. x ≡ 0) (λ t z. inl z) l
live_scope (end e) scope i x L f l = live_scope e scope i x (λ t. ⊥) (λ t b. absurd b) l
live_scope (save saves e) scope i x L f l = live_scope e scope i x L f l

-- ## What is bound

pub binds_is : (x : ℕ) (e : Expression) → binds x e ≡ has x (bound_in e)
binds_is x (perform o) = refl
binds_is x (bind y a b) = ap (λ t. nat_eq x y || t) (rw (binds_is x a, binds_is x b) (sym (has_append x (bound_in a) (bound_in b))))
binds_is x (sequence a b) = rw (binds_is x a, binds_is x b) (sym (has_append x (bound_in a) (bound_in b)))
binds_is x (branch a b c) =
    rw (binds_is x a, binds_is x b, binds_is x c)
    (sym (has_append x (bound_in a) (bound_in b ++ bound_in c) ∙ ap (λ t. has x (bound_in a) || t) (has_append x (bound_in b) (bound_in c))))
binds_is x (fix members e) = rw (among_is x members, binds_is x e) (sym (has_append x (member_variables members) (bound_in e)))
binds_is x (call a listed) = refl
binds_is x (tail_call a) = refl
binds_is x (return e) = binds_is x e
binds_is x (end e) = binds_is x e
binds_is x (save saves e) = binds_is x e

-- none of two lists is in the other
pub repeats_apart : (xs ys : List ℕ) → without_repeats (xs ++ ys) ≡ true → (x : ℕ) → has x xs ≡ true → has x ys ≡ true → ⊥
repeats_apart [] ys h x p q = absurd (cc)
repeats_apart (y ∷ xs) ys h x p q = by (nat_eq x y) refl (repeats_apart xs ys (and_right (not (has y (xs ++ ys))) _ h) x) p where
  by : (t : Bool) → nat_eq x y ≡ t → (has x xs ≡ true → has x ys ≡ true → ⊥) → (t || has x xs) ≡ true → ⊥
  by true e f p =
      false_true (has_append y xs ys ∙ or_right (has y xs) _ (sym (ap (λ z. has z ys) (eqb-true x y e)) ∙ q))
      (not_true (has y (xs ++ ys)) (and_left (not (has y (xs ++ ys))) _ h))
  by false e f p = f p q

-- ## Regions

-- what an expression binds is not in scope before it, and is not where to return
abbrev pub Unbound : (ℕ → Bool) → Expression → Type 0
Unbound scope e = (x : ℕ) → has x (bound_in e) ≡ true → Readable scope x → ⊥

-- one variable more is in scope
pub one_more : (scope : ℕ → Bool) (y x : ℕ) (ys : List ℕ) → has x ys ≡ true → has y ys ≡ false → (Readable scope x → ⊥) → Readable (with_variable y scope) x → ⊥
one_more scope y x ys h n u (inl z) = u (inl z)
one_more scope y x ys h n u (inr s) = by (nat_eq x y) refl s where
  by : (t : Bool) → nat_eq x y ≡ t → (t || scope x) ≡ true → ⊥
  by true e s = false_true h (ap (λ z. has z ys) (eqb-true x y e) ∙ n)
  by false e s = u (inr s)

pub more_scope : (members : List (Member ℕ)) (scope : ℕ → Bool) (x : ℕ) → scope x ≡ true → with_members members scope x ≡ true
more_scope [] scope x s = s
more_scope (m ∷ members) scope x s = more_scope members (with_variable m.at scope) x (or_right (nat_eq x m.at) _ s)

pub fresh : (e : Expression) (scope : ℕ → Bool) → in_scope e scope ≡ true → without_repeats (bound_in e) ≡ true → Unbound scope e
    → (L : Later) → ((x : ℕ) (t : Bool) → L x t → Readable scope x) → Fresh e L
fresh (perform o) scope i r u L f = tt
fresh (bind y a b) scope i r u L f =
    let in_a = and_left (in_scope a scope) _ i in
    let in_b = and_right (in_scope a scope) _ i in
    let once = and_right (not (has y (bound_in a ++ bound_in b))) _ r in
    let not_y : has y (bound_in a ++ bound_in b) ≡ false = not_true (has y (bound_in a ++ bound_in b)) (and_left (not (has y (bound_in a ++ bound_in b))) _ r) in
    let behind : (x : ℕ) (t : Bool) → L x t → Readable (with_variable y scope) x = λ x t l. elim (f x t l) [ inl e ↦ inl e | inr s ↦ inr (or_right (nat_eq x y) _ s) ] in (
      fresh a scope in_a (distinct_left (bound_in a) (bound_in b) once)
          (λ x h. u x (or_right (nat_eq x y) _ (has_append x (bound_in a) (bound_in b) ∙ or_left (has x (bound_in a)) _ h)))
          _ (λ x t w. elim (live_scope b (with_variable y scope) in_b x (L x) (behind x) w.1) [
            | inl e ↦ inl e
            | inr s ↦ inr (sym (ap (λ t. t || scope x) (ne_eqb x y w.0)) ∙ s)
          ]),
      fresh b (with_variable y scope) in_b (distinct_right (bound_in a) (bound_in b) once)
          (λ x h. one_more scope y x (bound_in b) h (not_right (has y (bound_in a)) _ (sym (has_append y (bound_in a) (bound_in b)) ∙ not_y))
          (u x (or_right (nat_eq x y) _ (has_append x (bound_in a) (bound_in b) ∙ or_right (has x (bound_in a)) _ h)))) L behind,
    )
fresh (sequence a b) scope i r u L f = (
  fresh a scope (and_left (in_scope a scope) _ i) (distinct_left (bound_in a) (bound_in b) r)
      (λ x h. u x (has_append x (bound_in a) (bound_in b) ∙ or_left (has x (bound_in a)) _ h)) _
      (λ x t. live_scope b scope (and_right (in_scope a scope) _ i) x (L x) (f x)),
  fresh b scope (and_right (in_scope a scope) _ i) (distinct_right (bound_in a) (bound_in b) r)
      (λ x h. u x (has_append x (bound_in a) (bound_in b) ∙ or_right (has x (bound_in a)) _ h)) L f,
)
fresh (branch a b c) scope i r u L f =
    let rest = and_right (in_scope a scope) _ i in
    let more = distinct_right (bound_in a) (bound_in b ++ bound_in c) r in
    let later : (x : ℕ) → has x (bound_in b ++ bound_in c) ≡ true → has x (bound_in (branch a b c)) ≡ true
    = λ x h. has_append x (bound_in a) (bound_in b ++ bound_in c) ∙ or_right (has x (bound_in a)) _ h in (
      fresh a scope (and_left (in_scope a scope) _ i) (distinct_left (bound_in a) (bound_in b ++ bound_in c) r)
          (λ x h. u x (has_append x (bound_in a) (bound_in b ++ bound_in c) ∙ or_left (has x (bound_in a)) _ h)) _
          (λ x t. elim t as (λ t. MatchBool t (Live x b (L x)) (Live x c (L x)) → Readable scope x) [
            | true ↦ live_scope b scope (and_left (in_scope b scope) _ rest) x (L x) (f x)
            | false ↦ live_scope c scope (and_right (in_scope b scope) _ rest) x (L x) (f x)
          ]),
      (
        fresh b scope (and_left (in_scope b scope) _ rest) (distinct_left (bound_in b) (bound_in c) more)
            (λ x h. u x (later x (has_append x (bound_in b) (bound_in c) ∙ or_left (has x (bound_in b)) _ h))) L f,
        fresh c scope (and_right (in_scope b scope) _ rest) (distinct_right (bound_in b) (bound_in c) more)
            (λ x h. u x (later x (has_append x (bound_in b) (bound_in c) ∙ or_right (has x (bound_in b)) _ h))) L f,
      ),
    )
fresh (fix members e) scope i r u L f =
    let ys : List ℕ = member_variables members in
    let apart : (x : ℕ) → has x (bound_in e) ≡ true → has x ys ≡ false = λ x h. never_true (has x ys) (λ m. repeats_apart ys (bound_in e) r x m h) in
    fresh e (with_members members scope) (and_right (in_scope_atoms (with_members members scope) (member_atoms members)) _ i) (distinct_right ys (bound_in e) r)
    (λ x h w. u x (has_append x ys (bound_in e) ∙ or_right (has x ys) _ h) (elim w [
      | inl z ↦ inl z
      | inr s ↦ inr (sym (outer_scope members scope x (apart x h)) ∙ s)
    ])) L (λ x t l. elim (f x t l) [
      | inl z ↦ inl z
      | inr s ↦ inr (more_scope members scope x s)
    ])
fresh (call a listed) scope i r u L f = tt
fresh (tail_call a) scope i r u L f = tt
fresh (return e) scope i r u L f = fresh e scope i r u _ (λ x t z. inl z)
fresh (end e) scope i r u L f = fresh e scope i r u _ (λ x t b. absurd b)
fresh (save saves e) scope i r u L f =
    (λ x h b l. u x (sym (binds_is x e) ∙ b) (live_scope e scope i x (L x) (f x) l), fresh e scope i r u L f)

-- of a whole body, by what is in scope as it begins
pub fresh_body : (e : Expression) (scope : ℕ → Bool) → in_scope e scope ≡ true → without_repeats (bound_in e) ≡ true → Unbound scope e → Fresh e nothing_later
fresh_body e scope i r u = fresh e scope i r u nothing_later (λ x t b. absurd b)

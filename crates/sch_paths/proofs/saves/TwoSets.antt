-- The two sets of an expression are what its paths need.
use Rattle.std.proofs.Common.{◌≡◌, ℕ, Bool, true, false, List, [], ◌∷◌, ◌++◌, Option, Some, None, refl, ap, sym, ◌∙◌, inl, inr, map}
use Rattle.std.specs.Prelude.{◌↔◌, filter, ◌||◌, ◌&&◌}
use Rattle.std.specs.Bool.{MatchBool}
use Rattle.std.proofs.lemmas.Bool.{or_cases, and_cases}
use Rattle.sch_word.specs.trees.NumberSets.{has}
use Rattle.sch_word.proofs.facts.Booleans.{and_left, and_right, or_left, neither, not_left, not_right}
use Rattle.sch_control.specs.AtomsAndSites.{operation_atoms, application_atoms, member_atoms}
use Rattle.sch_control.specs.Meaning.{heads, with_region, no_region}
use Rattle.sch_control.specs.Tree.{Expression, perform, bind, sequence, branch, fix, call, tail_call, return, end, save}
use Rattle.sch_control.specs.Valid.{member_variables}
use Rattle.sch_control.specs.flow.Live.{named, known, ByResult}
use Rattle.sch_control.specs.flow.Paths.{Event, Binds, References, Saves, Calls, Tails, Returns, Ends, binding, grouping, IsPath, calls, Needs}
use Rattle.sch_control.specs.flow.Bare.{unsaved}
use Rattle.sch_paths.specs.Table.{is_other, saved_by, needs}
use Rattle.sch_paths.proofs.saves.SavedAndRestored.{calls_append, in_first, in_second}

-- ## Booleans

by_both : (f : Bool → Bool) (t : Bool) → (f true && f false) ≡ true → f t ≡ true
by_both f true h = and_left (f true) _ h
by_both f false h = and_right (f true) _ h

one_lacks : (f : Bool → Bool) → (f true && f false) ≡ false → (t : Bool) × (f t ≡ false)
one_lacks f h = elim (and_cases (f true) (f false) h) [ inl e ↦ (true, e) | inr e ↦ (false, e) ]

-- ## Results that are known

other_result : (k : Option Bool) (r : Bool) → is_other k r ≡ true → ByResult k (λ t. t ≡ r) → ⊥
other_result None r h e = absurd (cc)
other_result (Some true) true h e = absurd (cc)
other_result (Some true) false h e = absurd (cc)
other_result (Some false) true h e = absurd (cc)
other_result (Some false) false h e = absurd (cc)

this_result : (k : Option Bool) (r : Bool) → is_other k r ≡ false → ByResult k (λ t. t ≡ r)
this_result None true h = inl refl
this_result None false h = inr refl
this_result (Some true) true h = refl
this_result (Some true) false h = absurd (cc)
this_result (Some false) true h = absurd (cc)
this_result (Some false) false h = refl

-- ## Calls of a path

pub no_calls : (x : ℕ) (xs ys : List Event) → calls x xs ≡ false → calls x ys ≡ false → calls x (xs ++ ys) ≡ false
no_calls x xs ys h k = calls_append x xs ys ∙ neither (calls x xs) _ h k

pub references_call : (x : ℕ) (ys : List ℕ) → calls x (map References ys) ≡ false
references_call x [] = refl
references_call x (y ∷ ys) = references_call x ys

pub saves_call : (x : ℕ) (ys : List ℕ) → calls x (map Saves ys) ≡ false
saves_call x [] = refl
saves_call x (y ∷ ys) = saves_call x ys

binds_call : (x : ℕ) (ys : List ℕ) → calls x (map Binds ys) ≡ false
binds_call x [] = refl
binds_call x (y ∷ ys) = binds_call x ys

pub binding_calls : (x : ℕ) (inside : ℕ → Bool) (y : ℕ) → calls x (binding inside y) ≡ false
binding_calls x inside y = saves_call x (filter inside (y ∷ []))

pub grouping_calls : (x : ℕ) (inside : ℕ → Bool) (members : _) → calls x (grouping inside members) ≡ false
grouping_calls x inside members =
    no_calls x (map Binds (member_variables members)) _ (binds_call x (member_variables members))
    (no_calls x (map References (named (member_atoms members))) _ (references_call x (named (member_atoms members))) (saves_call x (filter inside (member_variables members))))

-- ## The table

-- each path with that result has a call after which the variable is live, where the table has it
pub sound : (x : ℕ) (inside : ℕ → Bool) (e : Expression) (r : Bool) → saved_by x e r ≡ true → (es : List Event) → IsPath inside e es r → calls x es ≡ true
sound x inside (perform o) r s es path = absurd (other_result (known o) r s path.1)
sound x inside (bind y a b) r s es path =
    ap (calls x) path.5
    ∙ elim (or_cases (saved_by x a true && saved_by x a false) (saved_by x b r) s) [
      | inl h ↦ in_first x path.0 _ (sound x inside a path.2 (by_both (saved_by x a) path.2 h) path.0 path.3)
      | inr h ↦ in_second x path.0 _ (in_second x (binding inside y) path.1 (sound x inside b r h path.1 path.4))
    ]
sound x inside (sequence a b) r s es path =
    ap (calls x) path.5
    ∙ elim (or_cases (saved_by x a true && saved_by x a false) (saved_by x b r) s) [
      | inl h ↦ in_first x path.0 _ (sound x inside a path.2 (by_both (saved_by x a) path.2 h) path.0 path.3)
      | inr h ↦ in_second x path.0 _ (sound x inside b r h path.1 path.4)
    ]
sound x inside (branch a b c) r s es path =
    ap (calls x) path.5
    ∙ elim path.2 as (λ t. IsPath inside a path.0 t → MatchBool t (IsPath inside b path.1 r) (IsPath inside c path.1 r) → calls x (path.0 ++ path.1) ≡ true) [
      | true ↦ λ first second.
          elim (or_cases (saved_by x a true) (saved_by x b r) (and_left (saved_by x a true || saved_by x b r) _ s)) [
            | inl h ↦ in_first x path.0 path.1 (sound x inside a true h path.0 first)
            | inr h ↦ in_second x path.0 path.1 (sound x inside b r h path.1 second)
          ]
      | false ↦ λ first second.
          elim (or_cases (saved_by x a false) (saved_by x c r) (and_right (saved_by x a true || saved_by x b r) _ s)) [
            | inl h ↦ in_first x path.0 path.1 (sound x inside a false h path.0 first)
            | inr h ↦ in_second x path.0 path.1 (sound x inside c r h path.1 second)
          ]
    ] path.3 path.4
sound x inside (fix members e) r s es path = ap (calls x) path.2 ∙ in_second x (grouping inside members) path.0 (sound x inside e r s path.0 path.1)
sound x inside (call a listed) r s es path = ap (calls x) path ∙ in_second x (map References (named (application_atoms a))) (Calls a listed ∷ []) (or_left (has x listed) false s)
sound x inside (tail_call a) r s es path = absurd (cc)
sound x inside (return e) r s es path = ap (calls x) path.3 ∙ in_first x path.0 _ (sound x inside e path.1 (by_both (saved_by x e) path.1 s) path.0 path.2)
sound x inside (end e) r s es path = ap (calls x) path.3 ∙ in_first x path.0 _ (sound x inside e path.1 (by_both (saved_by x e) path.1 s) path.0 path.2)
sound x inside (save saves e) r s es path = ap (calls x) path.2 ∙ in_second x (map Saves (heads e saves)) path.0 (sound x (with_region saves inside) e r s path.0 path.1)

-- where the table lacks it, some path with that result has no such call
pub complete : (x : ℕ) (inside : ℕ → Bool) (e : Expression) (r : Bool) → saved_by x e r ≡ false → (es : List Event) × (IsPath inside e es r × (calls x es ≡ false))
complete x inside (perform o) r s = (_, ((refl, this_result (known o) r s), references_call x (named (operation_atoms o))))
complete x inside (bind y a b) r s =
    let rest = complete x inside b r (not_right (saved_by x a true && saved_by x a false) _ s) in
    let lacks = one_lacks (saved_by x a) (not_left (saved_by x a true && saved_by x a false) _ s) in
    let first = complete x inside a lacks.0 lacks.1 in
    (_, ((first.0, rest.0, lacks.0, first.1.0, rest.1.0, refl), no_calls x first.0 _ first.1.1 (no_calls x (binding inside y) rest.0 (binding_calls x inside y) rest.1.1)))
complete x inside (sequence a b) r s =
    let rest = complete x inside b r (not_right (saved_by x a true && saved_by x a false) _ s) in
    let lacks = one_lacks (saved_by x a) (not_left (saved_by x a true && saved_by x a false) _ s) in
    let first = complete x inside a lacks.0 lacks.1 in
    (_, ((first.0, rest.0, lacks.0, first.1.0, rest.1.0, refl), no_calls x first.0 rest.0 first.1.1 rest.1.1))
complete x inside (branch a b c) r s =
    elim (and_cases (saved_by x a true || saved_by x b r) (saved_by x a false || saved_by x c r) s) [
      | inl h ↦
          let first = complete x inside a true (not_left (saved_by x a true) _ h) in
          let rest = complete x inside b r (not_right (saved_by x a true) _ h) in
          (_, ((first.0, rest.0, true, first.1.0, rest.1.0, refl), no_calls x first.0 rest.0 first.1.1 rest.1.1))
      | inr h ↦
          let first = complete x inside a false (not_left (saved_by x a false) _ h) in
          let rest = complete x inside c r (not_right (saved_by x a false) _ h) in
          (_, ((first.0, rest.0, false, first.1.0, rest.1.0, refl), no_calls x first.0 rest.0 first.1.1 rest.1.1))
    ]
complete x inside (fix members e) r s =
    let rest = complete x inside e r s in
    (_, ((rest.0, rest.1.0, refl), no_calls x (grouping inside members) rest.0 (grouping_calls x inside members) rest.1.1))
complete x inside (call a listed) r s =
    (_, (refl, no_calls x (map References (named (application_atoms a))) (Calls a listed ∷ []) (references_call x (named (application_atoms a))) (neither (has x listed) false s refl)))
complete x inside (tail_call a) r s =
    (_, (refl, no_calls x (map References (named (application_atoms a))) (References 0 ∷ Tails a ∷ []) (references_call x (named (application_atoms a))) refl))
complete x inside (return e) r s =
    let lacks = one_lacks (saved_by x e) s in
    let first = complete x inside e lacks.0 lacks.1 in
    (_, ((first.0, lacks.0, first.1.0, refl), no_calls x first.0 (References 0 ∷ Returns ∷ []) first.1.1 refl))
complete x inside (end e) r s =
    let lacks = one_lacks (saved_by x e) s in
    let first = complete x inside e lacks.0 lacks.1 in
    (_, ((first.0, lacks.0, first.1.0, refl), no_calls x first.0 (Ends ∷ []) first.1.1 refl))
complete x inside (save saves e) r s =
    let rest = complete x (with_region saves inside) e r s in
    (_, ((rest.0, rest.1.0, refl), no_calls x (map Saves (heads e saves)) rest.0 (saves_call x (heads e saves)) rest.1.1))

-- whatever is saved round it, every path through an expression has a call after which the variable is live
abbrev pub EveryPathCalls : (inside : ℕ → Bool) → ℕ → Expression → Type 0
EveryPathCalls inside x e = (es : List Event) (r : Bool) → IsPath inside e es r → calls x es ≡ true

pub needs_is : (x : ℕ) (inside : ℕ → Bool) (e : Expression) → (needs x e ≡ true) ↔ EveryPathCalls inside x e
needs_is x inside e = (λ h es r. sound x inside e r (by_both (saved_by x e) r h) es, back) where
  back : EveryPathCalls inside x e → needs x e ≡ true
  back every = by (needs x e) refl where
    by : (t : Bool) → needs x e ≡ t → t ≡ true
    by true h = refl
    by false h =
        let lacks = one_lacks (saved_by x e) h in
        let path = complete x inside e lacks.0 lacks.1 in
        sym path.1.1 ∙ every path.0 lacks.0 path.1.0

-- by the result of a path
pub by_result : (x : ℕ) (inside : ℕ → Bool) (e : Expression) (r : Bool) → (saved_by x e r ≡ true) ↔ ((es : List Event) → IsPath inside e es r → calls x es ≡ true)
by_result x inside e r = (λ h es. sound x inside e r h es, back) where
  back : ((es : List Event) → IsPath inside e es r → calls x es ≡ true) → saved_by x e r ≡ true
  back every = by (saved_by x e r) refl where
    by : (t : Bool) → saved_by x e r ≡ t → t ≡ true
    by true h = refl
    by false h = let path = complete x inside e r h in sym path.1.1 ∙ every path.0 path.1.0

-- ## Regions change nothing of what is needed

pub saved_unsaved : (x : ℕ) (e : Expression) (r : Bool) → saved_by x (unsaved e) r ≡ saved_by x e r
saved_unsaved x (perform o) r = refl
saved_unsaved x (bind y a b) r = rw (saved_unsaved x a true, saved_unsaved x a false, saved_unsaved x b r) refl
saved_unsaved x (sequence a b) r = rw (saved_unsaved x a true, saved_unsaved x a false, saved_unsaved x b r) refl
saved_unsaved x (branch a b c) r = rw (saved_unsaved x a true, saved_unsaved x a false, saved_unsaved x b r, saved_unsaved x c r) refl
saved_unsaved x (fix members e) r = saved_unsaved x e r
saved_unsaved x (call a listed) r = refl
saved_unsaved x (tail_call a) r = refl
saved_unsaved x (return e) r = rw (saved_unsaved x e true, saved_unsaved x e false) refl
saved_unsaved x (end e) r = rw (saved_unsaved x e true, saved_unsaved x e false) refl
saved_unsaved x (save saves e) r = saved_unsaved x e r

-- what an expression needs with its regions is what it needs without them
pub needs_unsaved : (x : ℕ) (e : Expression) → Needs x e ↔ Needs x (unsaved e)
needs_unsaved x e =
    let same : needs x (unsaved e) ≡ needs x e = rw (saved_unsaved x e true, saved_unsaved x e false) refl in
    let with = needs_is x no_region e in
    let without = needs_is x no_region (unsaved e) in
    (λ n. without.0 (same ∙ with.1 n), λ n. with.0 (sym same ∙ without.1 n))

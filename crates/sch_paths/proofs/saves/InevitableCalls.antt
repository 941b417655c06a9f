-- From each point where a variable is saved, a call after which it is live is inevitable.
use Rattle.std.proofs.Common.{◌≡◌, ◌≢◌, ℕ, Bool, true, false, List, [], ◌∷◌, ◌++◌, refl, ap, sym, ◌∙◌, subst, inl, inr, cond, map, append_assoc, append-nil}
use Rattle.std.specs.Prelude.{nat_eq, filter, ◌||◌, not}
use Rattle.std.specs.Bool.{MatchBool}
use Rattle.std.proofs.lemmas.Bool.{eqb-true, eqb-false, eq-eqb, ne_eqb}
use Rattle.sch_word.specs.trees.NumberSets.{has, without_repeats}
use Rattle.sch_word.proofs.facts.Booleans.{and_left, and_right, or_left, or_right, neither, not_left, not_right, not_true, never_true}
use Rattle.sch_word.proofs.facts.NumberSets.{has_append, distinct_left, distinct_right}
use Rattle.sch_control.specs.declared.operation.Member.{Member}
use Rattle.sch_control.specs.AtomsAndSites.{operation_atoms, application_atoms, member_atoms}
use Rattle.sch_control.specs.Meaning.{binds, heads, with_region, no_region}
use Rattle.sch_control.specs.Tree.{Expression, perform, bind, sequence, branch, fix, call, tail_call, return, end, save}
use Rattle.sch_control.specs.Valid.{with_variable, with_members, in_scope_atoms, in_scope, member_variables, bound_in}
use Rattle.sch_control.specs.flow.Live.{named, Across, Live, Later, nothing_later}
use Rattle.sch_control.specs.flow.Paths.{Event, Binds, References, Saves, Calls, Tails, Returns, Ends, binding, grouping, IsPath, calls, SavesFollowed}
use Rattle.sch_control.specs.flow.LiveSets.{LiveSets}
use Rattle.sch_control.proofs.VariableLists.{among_is}
use Rattle.sch_paths.specs.Exact.{ArmsSave, LazySaves}
use Rattle.sch_paths.specs.Regions.{regions_stand}
use Rattle.sch_paths.proofs.saves.SavedAndRestored.{in_first, in_second}
use Rattle.sch_paths.proofs.saves.LiveHeads.{call_behind, head_is, NeedsRound, no_round}
use Rattle.sch_paths.proofs.saves.TwoSets.{EveryPathCalls, needs_is, references_call, binding_calls, grouping_calls, saves_call, no_calls}
use Rattle.sch_paths.proofs.saves.LiveInScope.{Unbound, live_scope, outer_scope, more_scope, one_more, binds_is, repeats_apart}
use Rattle.sch_paths.specs.Laws.{Readable}

-- ## What is not in scope is live after no call

-- a variable that is neither in scope nor bound is not in scope behind a binding
not_behind : (scope : ℕ → Bool) (y x : ℕ) → x ≢ y → (Readable scope x → ⊥) → Readable (with_variable y scope) x → ⊥
not_behind scope y x n u (inl z) = u (inl z)
not_behind scope y x n u (inr s) = u (inr (sym (ap (λ t. t || scope x) (ne_eqb x y n)) ∙ s))

not_members : (members : List (Member ℕ)) (scope : ℕ → Bool) (x : ℕ) → has x (member_variables members) ≡ false → (Readable scope x → ⊥) → Readable (with_members members scope) x → ⊥
not_members members scope x n u (inl z) = u (inl z)
not_members members scope x n u (inr s) = u (inr (sym (outer_scope members scope x n) ∙ s))

-- it is not live where nothing behind it is
not_live : (e : Expression) (scope : ℕ → Bool) → in_scope e scope ≡ true → (x : ℕ) → (Readable scope x → ⊥) → (L : Bool → Type 0) → ((t : Bool) → L t → ⊥) → Live x e L → ⊥
not_live e scope i x u L n l = u (live_scope e scope i x L (λ t l. absurd (n t l)) l)

none_listed : (x : ℕ) (inside : ℕ → Bool) (e : Expression) (scope : ℕ → Bool) → in_scope e scope ≡ true → binds x e ≡ false → (Readable scope x → ⊥)
    → (Met : Type 0) (L : Later) → LiveSets e Met L → ((t : Bool) → L x t → ⊥) → (es : List Event) (t : Bool) → IsPath inside e es t → calls x es ≡ false
none_listed x inside (perform o) scope i b u Met L sets n es t path = ap (calls x) path.0 ∙ references_call x (named (operation_atoms o))
none_listed x inside (bind y a b) scope i n' u Met L sets n es t path =
    let rest = not_right (nat_eq x y) _ n' in
    let other : x ≢ y = eqb-false x y (not_left (nat_eq x y) _ n') in
    let in_b = and_right (in_scope a scope) _ i in
    let out : Readable (with_variable y scope) x → ⊥ = not_behind scope y x other u in
    ap (calls x) path.5
    ∙ no_calls x path.0 _
    (none_listed x inside a scope (and_left (in_scope a scope) _ i) (not_left (binds x a) _ rest) u Met _ sets.0 (λ t w. not_live b (with_variable y scope) in_b x out (L x) n w.1) path.0 path.2 path.3)
    (no_calls x (binding inside y) path.1 (binding_calls x inside y)
    (none_listed x inside b (with_variable y scope) in_b (not_right (binds x a) _ rest) out Met L sets.1 n path.1 t path.4))
none_listed x inside (sequence a b) scope i n' u Met L sets n es t path =
    let in_b = and_right (in_scope a scope) _ i in
    ap (calls x) path.5
    ∙ no_calls x path.0 path.1
    (none_listed x inside a scope (and_left (in_scope a scope) _ i) (not_left (binds x a) _ n') u Met _ sets.0 (λ t w. not_live b scope in_b x u (L x) n w) path.0 path.2 path.3)
    (none_listed x inside b scope in_b (not_right (binds x a) _ n') u Met L sets.1 n path.1 t path.4)
none_listed x inside (branch a b c) scope i n' u Met L sets n es t path =
    let arms = and_right (in_scope a scope) _ i in
    let in_b = and_left (in_scope b scope) _ arms in
    let in_c = and_right (in_scope b scope) _ arms in
    let none = not_right (binds x a) _ n' in
    ap (calls x) path.5
    ∙ no_calls x path.0 path.1
    (none_listed x inside a scope (and_left (in_scope a scope) _ i) (not_left (binds x a) _ n') u Met _ sets.0
    (λ t. elim t as (λ t. MatchBool t (Live x b (L x)) (Live x c (L x)) → ⊥) [ true ↦ not_live b scope in_b x u (L x) n | false ↦ not_live c scope in_c x u (L x) n ])
    path.0 path.2 path.3)
    (elim path.2 as (λ w. MatchBool w (IsPath inside b path.1 t) (IsPath inside c path.1 t) → calls x path.1 ≡ false) [
      | true ↦ none_listed x inside b scope in_b (not_left (binds x b) _ none) u _ L sets.1.0 n path.1 t
      | false ↦ none_listed x inside c scope in_c (not_right (binds x b) _ none) u _ L sets.1.1 n path.1 t
    ] path.4)
none_listed x inside (fix members e) scope i n' u Met L sets n es t path =
    let out = not_members members scope x (sym (among_is x members) ∙ not_left _ _ n') u in
    ap (calls x) path.2
    ∙ no_calls x (grouping inside members) path.0 (grouping_calls x inside members)
    (none_listed x inside e (with_members members scope) (and_right (in_scope_atoms (with_members members scope) (member_atoms members)) _ i) (not_right _ _ n') out Met L sets n path.0 t path.1)
none_listed x inside (call a listed) scope i n' u Met L sets n es t path =
    ap (calls x) path
    ∙ no_calls x (map References (named (application_atoms a))) (Calls a listed ∷ []) (references_call x (named (application_atoms a)))
    (neither (has x listed) false (never_true (has x listed) (λ h. elim ((sets x).0 h).1 [ inl l ↦ n true l | inr l ↦ n false l ])) refl)
none_listed x inside (tail_call a) scope i n' u Met L sets n es t path =
    ap (calls x) path ∙ no_calls x (map References (named (application_atoms a))) (References 0 ∷ Tails a ∷ []) (references_call x (named (application_atoms a))) refl
none_listed x inside (return e) scope i n' u Met L sets n es t path =
    ap (calls x) path.3 ∙ no_calls x path.0 _ (none_listed x inside e scope i n' u Met _ sets (λ t z. u (inl z)) path.0 path.1 path.2) refl
none_listed x inside (end e) scope i n' u Met L sets n es t path =
    ap (calls x) path.3 ∙ no_calls x path.0 _ (none_listed x inside e scope i n' u Met _ sets (λ t b. b) path.0 path.1 path.2) refl
none_listed x inside (save saves e) scope i n' u Met L sets n es t path =
    ap (calls x) path.2
    ∙ no_calls x (map Saves (heads e saves)) path.0 (saves_call x (heads e saves)) (none_listed x (with_region saves inside) e scope i n' u Met L sets n path.0 t path.1)

-- ## Saves that are followed by calls

references_followed : (ys : List ℕ) (zs : List Event) → SavesFollowed zs → SavesFollowed (map References ys ++ zs)
references_followed [] zs f = f
references_followed (y ∷ ys) zs f = references_followed ys zs f

binds_followed : (ys : List ℕ) (zs : List Event) → SavesFollowed zs → SavesFollowed (map Binds ys ++ zs)
binds_followed [] zs f = f
binds_followed (y ∷ ys) zs f = binds_followed ys zs f

saves_followed : (ys : List ℕ) (zs : List Event) → ((x : ℕ) → has x ys ≡ true → calls x zs ≡ true) → SavesFollowed zs → SavesFollowed (map Saves ys ++ zs)
saves_followed [] zs h f = f
saves_followed (y ∷ ys) zs h f =
    (in_second y (map Saves ys) zs (h y (or_left (nat_eq y y) _ (eq-eqb y y refl))), saves_followed ys zs (λ x m. h x (or_right (nat_eq x y) _ m)) f)

binding_followed : (inside : ℕ → Bool) (y : ℕ) (zs : List Event) → (inside y ≡ true → calls y zs ≡ true) → SavesFollowed zs → SavesFollowed (binding inside y ++ zs)
binding_followed inside y zs h f = by (inside y) h where
  by : (t : Bool) → (t ≡ true → calls y zs ≡ true) → SavesFollowed (map Saves (cond t (y ∷ []) []) ++ zs)
  by true h = (h refl, f)
  by false h = f

filter_has : (inside : ℕ → Bool) (ys : List ℕ) (x : ℕ) → has x (filter inside ys) ≡ true → (inside x ≡ true) × (has x ys ≡ true)
filter_has inside [] x h = absurd (cc)
filter_has inside (y ∷ ys) x h = by (inside y) refl (filter_has inside ys x) h where
  by : (t : Bool) → inside y ≡ t → (has x (filter inside ys) ≡ true → (inside x ≡ true) × (has x ys ≡ true)) → has x (cond t (y ∷ filter inside ys) (filter inside ys)) ≡ true
      → (inside x ≡ true) × ((nat_eq x y || has x ys) ≡ true)
  by false i f h = ((f h).0, or_right (nat_eq x y) _ (f h).1)
  by true i f h = first (nat_eq x y) refl h where
    first : (t : Bool) → nat_eq x y ≡ t → (t || has x (filter inside ys)) ≡ true → (inside x ≡ true) × ((nat_eq x y || has x ys) ≡ true)
    first true e h = (ap inside (eqb-true x y e) ∙ i, or_left (nat_eq x y) _ e)
    first false e h = ((f h).0, or_right (nat_eq x y) _ (f h).1)

grouping_followed : (inside : ℕ → Bool) (members : List (Member ℕ)) (zs : List Event)
    → ((x : ℕ) → inside x ≡ true → has x (member_variables members) ≡ true → calls x zs ≡ true) → SavesFollowed zs → SavesFollowed (grouping inside members ++ zs)
grouping_followed inside members zs h f =
    let ys : List ℕ = member_variables members in
    let rs : List Event = map References (named (member_atoms members)) in
    subst SavesFollowed
    (sym (append_assoc (map Binds ys) (rs ++ map Saves (filter inside ys)) zs ∙ ap (λ l. map Binds ys ++ l) (append_assoc rs (map Saves (filter inside ys)) zs)))
    (binds_followed ys _ (references_followed (named (member_atoms members)) _
    (saves_followed (filter inside ys) zs (λ x m. let is = filter_has inside ys x m in h x is.0 is.1) f)))

-- what a part binds is called for in the whole, so in what is behind the part before it
abbrev CalledFor : (inside : ℕ → Bool) → Expression → List Event → Type 0
CalledFor inside e es = (x : ℕ) → inside x ≡ true → has x (bound_in e) ≡ true → calls x es ≡ true

pub followed : (inside : ℕ → Bool) (e : Expression) (here : Bool) → regions_stand here e ≡ true → (scope : ℕ → Bool) → in_scope e scope ≡ true → without_repeats (bound_in e) ≡ true → Unbound scope e
    → (Met : Type 0) (L : Later) → LiveSets e Met L → ((x : ℕ) (t : Bool) → L x t → Readable scope x) → ArmsSave inside e → NeedsRound e
    → (es : List Event) (t : Bool) → IsPath inside e es t → (rest : List Event) → CalledFor inside e (es ++ rest) → SavesFollowed rest → SavesFollowed (es ++ rest)
followed inside (perform o) here s scope i r u Met L sets f arms n es t path rest h g =
    subst (λ l. SavesFollowed (l ++ rest)) (sym path.0) (references_followed (named (operation_atoms o)) rest g)
followed inside (bind y a b) here s scope i r u Met L sets f arms n es t path rest h g =
    let in_a = and_left (in_scope a scope) _ i in
    let in_b = and_right (in_scope a scope) _ i in
    let once = and_right (not (has y (bound_in a ++ bound_in b))) _ r in
    let not_y : has y (bound_in a ++ bound_in b) ≡ false = not_true (has y (bound_in a ++ bound_in b)) (and_left (not (has y (bound_in a ++ bound_in b))) _ r) in
    let y_not : (has y (bound_in a) || has y (bound_in b)) ≡ false = sym (has_append y (bound_in a) (bound_in b)) ∙ not_y in
    let in_bound : (x : ℕ) → has x (bound_in b) ≡ true → has x (bound_in (bind y a b)) ≡ true
    = λ x m. or_right (nat_eq x y) _ (has_append x (bound_in a) (bound_in b) ∙ or_right (has x (bound_in a)) _ m) in
    let not_in_b : (x : ℕ) → has x (bound_in b) ≡ true → Readable (with_variable y scope) x → ⊥
    = λ x m. one_more scope y x (bound_in b) m (not_right (has y (bound_in a)) _ y_not) (u x (in_bound x m)) in
    let mid : List Event = binding inside y in
    let behind : List Event = path.1 ++ rest in
    let row : es ++ rest ≡ path.0 ++ (mid ++ behind)
    = ap (λ l. l ++ rest) path.5 ∙ (append_assoc path.0 (mid ++ path.1) rest ∙ ap (λ l. path.0 ++ l) (append_assoc mid path.1 rest)) in
    let past : (x : ℕ) → binds x a ≡ false → (Readable scope x → ⊥) → ((t : Bool) → Across y x (Live x b (L x)) → ⊥) → calls x (es ++ rest) ≡ true → calls x behind ≡ true
    = λ x b_is out dead c.
    call_behind x (mid ++ behind) mid behind refl (binding_calls x inside y)
    (call_behind x (es ++ rest) path.0 (mid ++ behind) row (none_listed x inside a scope in_a b_is out Met _ sets.0 dead path.0 path.2 path.3) c) in
    subst SavesFollowed (sym row)
    (followed inside a false (and_left (regions_stand false a) _ s) scope in_a (distinct_left (bound_in a) (bound_in b) once)
    (λ x m. u x (or_right (nat_eq x y) _ (has_append x (bound_in a) (bound_in b) ∙ or_left (has x (bound_in a)) _ m)))
    Met _ sets.0
    (λ x t w. elim (live_scope b (with_variable y scope) in_b x (L x) (λ t l. elim (f x t l) [ inl e ↦ inl e | inr v ↦ inr (or_right (nat_eq x y) _ v) ]) w.1) [
      | inl e ↦ inl e
      | inr v ↦ inr (sym (ap (λ t. t || scope x) (ne_eqb x y w.0)) ∙ v)
    ])
    arms.0 (no_round a (and_left (regions_stand false a) _ s)) path.0 path.2 path.3 (mid ++ behind)
    (λ x in_it m. sym (ap (calls x) row) ∙ h x in_it (or_right (nat_eq x y) _ (has_append x (bound_in a) (bound_in b) ∙ or_left (has x (bound_in a)) _ m)))
    (binding_followed inside y behind
    (λ in_it. past y (binds_is y a ∙ not_left (has y (bound_in a)) _ y_not) (u y (or_left (nat_eq y y) _ (eq-eqb y y refl))) (λ t w. w.0 refl)
    (h y in_it (or_left (nat_eq y y) _ (eq-eqb y y refl))))
    (followed inside b false (and_right (regions_stand false a) _ s) (with_variable y scope) in_b (distinct_right (bound_in a) (bound_in b) once)
    not_in_b Met L sets.1 (λ x t l. elim (f x t l) [ inl e ↦ inl e | inr v ↦ inr (or_right (nat_eq x y) _ v) ])
    arms.1 (no_round b (and_right (regions_stand false a) _ s)) path.1 t path.4 rest
    (λ x in_it m. past x (binds_is x a ∙ never_true (has x (bound_in a)) (λ k. repeats_apart (bound_in a) (bound_in b) once x k m)) (u x (in_bound x m))
    (λ t w. not_live b (with_variable y scope) in_b x (not_in_b x m) (L x) (λ t l. u x (in_bound x m) (f x t l)) w.1)
    (h x in_it (in_bound x m)))
    g)))
followed inside (sequence a b) here s scope i r u Met L sets f arms n es t path rest h g =
    let in_a = and_left (in_scope a scope) _ i in
    let in_b = and_right (in_scope a scope) _ i in
    let in_bound : (x : ℕ) → has x (bound_in b) ≡ true → has x (bound_in (sequence a b)) ≡ true
    = λ x m. has_append x (bound_in a) (bound_in b) ∙ or_right (has x (bound_in a)) _ m in
    let row : es ++ rest ≡ path.0 ++ (path.1 ++ rest) = ap (λ l. l ++ rest) path.5 ∙ append_assoc path.0 path.1 rest in
    subst SavesFollowed (sym row)
    (followed inside a false (and_left (regions_stand false a) _ s) scope in_a (distinct_left (bound_in a) (bound_in b) r)
    (λ x m. u x (has_append x (bound_in a) (bound_in b) ∙ or_left (has x (bound_in a)) _ m))
    Met _ sets.0 (λ x t. live_scope b scope in_b x (L x) (f x)) arms.0 (no_round a (and_left (regions_stand false a) _ s)) path.0 path.2 path.3 (path.1 ++ rest)
    (λ x in_it m. sym (ap (calls x) row) ∙ h x in_it (has_append x (bound_in a) (bound_in b) ∙ or_left (has x (bound_in a)) _ m))
    (followed inside b false (and_right (regions_stand false a) _ s) scope in_b (distinct_right (bound_in a) (bound_in b) r) (λ x m. u x (in_bound x m))
    Met L sets.1 f arms.1 (no_round b (and_right (regions_stand false a) _ s)) path.1 t path.4 rest
    (λ x in_it m. call_behind x (es ++ rest) path.0 (path.1 ++ rest) row
    (none_listed x inside a scope in_a (binds_is x a ∙ never_true (has x (bound_in a)) (λ k. repeats_apart (bound_in a) (bound_in b) r x k m)) (u x (in_bound x m)) Met _ sets.0
    (λ t w. not_live b scope in_b x (u x (in_bound x m)) (L x) (λ t l. u x (in_bound x m) (f x t l)) w) path.0 path.2 path.3)
    (h x in_it (in_bound x m)))
    g))
followed inside (branch a b c) here s scope i r u Met L sets f arms n es t path rest h g =
    let in_a = and_left (in_scope a scope) _ i in
    let in_arms = and_right (in_scope a scope) _ i in
    let in_b = and_left (in_scope b scope) _ in_arms in
    let in_c = and_right (in_scope b scope) _ in_arms in
    let more = and_right (regions_stand false a) _ s in
    let twice = distinct_right (bound_in a) (bound_in b ++ bound_in c) r in
    let in_bound : (x : ℕ) → has x (bound_in b ++ bound_in c) ≡ true → has x (bound_in (branch a b c)) ≡ true
    = λ x m. has_append x (bound_in a) (bound_in b ++ bound_in c) ∙ or_right (has x (bound_in a)) _ m in
    let left : (x : ℕ) → has x (bound_in b) ≡ true → has x (bound_in b ++ bound_in c) ≡ true = λ x m. has_append x (bound_in b) (bound_in c) ∙ or_left (has x (bound_in b)) _ m in
    let right : (x : ℕ) → has x (bound_in c) ≡ true → has x (bound_in b ++ bound_in c) ≡ true = λ x m. has_append x (bound_in b) (bound_in c) ∙ or_right (has x (bound_in b)) _ m in
    let row : es ++ rest ≡ path.0 ++ (path.1 ++ rest) = ap (λ l. l ++ rest) path.5 ∙ append_assoc path.0 path.1 rest in
    let past : (x : ℕ) → has x (bound_in b ++ bound_in c) ≡ true → calls x (es ++ rest) ≡ true → calls x (path.1 ++ rest) ≡ true
    = λ x m k.
    let out : Readable scope x → ⊥ = u x (in_bound x m) in
    call_behind x (es ++ rest) path.0 (path.1 ++ rest) row
    (none_listed x inside a scope in_a (binds_is x a ∙ never_true (has x (bound_in a)) (λ j. repeats_apart (bound_in a) (bound_in b ++ bound_in c) r x j m)) out Met _ sets.0
    (λ t. elim t as (λ t. MatchBool t (Live x b (L x)) (Live x c (L x)) → ⊥) [
      | true ↦ not_live b scope in_b x out (L x) (λ t l. out (f x t l))
      | false ↦ not_live c scope in_c x out (L x) (λ t l. out (f x t l))
    ]) path.0 path.2 path.3) k in
    subst SavesFollowed (sym row)
    (followed inside a false (and_left (regions_stand false a) _ s) scope in_a (distinct_left (bound_in a) (bound_in b ++ bound_in c) r)
    (λ x m. u x (has_append x (bound_in a) (bound_in b ++ bound_in c) ∙ or_left (has x (bound_in a)) _ m))
    Met _ sets.0
    (λ x t. elim t as (λ t. MatchBool t (Live x b (L x)) (Live x c (L x)) → Readable scope x) [
      | true ↦ live_scope b scope in_b x (L x) (f x)
      | false ↦ live_scope c scope in_c x (L x) (f x)
    ])
    arms.0 (no_round a (and_left (regions_stand false a) _ s)) path.0 path.2 path.3 (path.1 ++ rest)
    (λ x in_it m. sym (ap (calls x) row) ∙ h x in_it (has_append x (bound_in a) (bound_in b ++ bound_in c) ∙ or_left (has x (bound_in a)) _ m))
    (elim path.2 as (λ w. MatchBool w (IsPath inside b path.1 t) (IsPath inside c path.1 t) → SavesFollowed (path.1 ++ rest)) [
      | true ↦ λ at.
          followed inside b true (and_left (regions_stand true b) _ more) scope in_b (distinct_left (bound_in b) (bound_in c) twice) (λ x m. u x (in_bound x (left x m)))
          _ L sets.1.0 f arms.1.0.1 (λ x m. ((arms.1.0.0 x).0 m).0) path.1 t at rest (λ x in_it m. past x (left x m) (h x in_it (in_bound x (left x m)))) g
      | false ↦ λ at.
          followed inside c true (and_right (regions_stand true b) _ more) scope in_c (distinct_right (bound_in b) (bound_in c) twice) (λ x m. u x (in_bound x (right x m)))
          _ L sets.1.1 f arms.1.1.1 (λ x m. ((arms.1.1.0 x).0 m).0) path.1 t at rest (λ x in_it m. past x (right x m) (h x in_it (in_bound x (right x m)))) g
    ] path.4))
followed inside (fix members e) here s scope i r u Met L sets f arms n es t path rest h g =
    let ys : List ℕ = member_variables members in
    let in_e = and_right (in_scope_atoms (with_members members scope) (member_atoms members)) _ i in
    let in_bound : (x : ℕ) → has x (bound_in e) ≡ true → has x (bound_in (fix members e)) ≡ true = λ x m. has_append x ys (bound_in e) ∙ or_right (has x ys) _ m in
    let row : es ++ rest ≡ grouping inside members ++ (path.0 ++ rest) = ap (λ l. l ++ rest) path.2 ∙ append_assoc (grouping inside members) path.0 rest in
    let past : (x : ℕ) → calls x (es ++ rest) ≡ true → calls x (path.0 ++ rest) ≡ true
    = λ x c. call_behind x (es ++ rest) (grouping inside members) (path.0 ++ rest) row (grouping_calls x inside members) c in
    subst SavesFollowed (sym row)
    (grouping_followed inside members (path.0 ++ rest) (λ x in_it m. past x (h x in_it (has_append x ys (bound_in e) ∙ or_left (has x ys) _ m)))
    (followed inside e false s (with_members members scope) in_e (distinct_right ys (bound_in e) r)
    (λ x m w. u x (in_bound x m) (elim w [
      | inl z ↦ inl z
      | inr v ↦ inr (sym (outer_scope members scope x (never_true (has x ys) (λ k. repeats_apart ys (bound_in e) r x k m))) ∙ v)
    ]))
    Met L sets (λ x t l. elim (f x t l) [ inl z ↦ inl z | inr v ↦ inr (more_scope members scope x v) ])
    arms (no_round e s) path.0 t path.1 rest (λ x in_it m. past x (h x in_it (in_bound x m))) g))
followed inside (call a listed) here s scope i r u Met L sets f arms n es t path rest h g =
    subst (λ l. SavesFollowed (l ++ rest)) (sym path)
    (subst SavesFollowed (sym (append_assoc (map References (named (application_atoms a))) (Calls a listed ∷ []) rest)) (references_followed (named (application_atoms a)) (Calls a listed ∷ rest) g))
followed inside (tail_call a) here s scope i r u Met L sets f arms n es t path rest h g =
    subst (λ l. SavesFollowed (l ++ rest)) (sym path)
    (subst SavesFollowed (sym (append_assoc (map References (named (application_atoms a))) (References 0 ∷ Tails a ∷ []) rest))
    (references_followed (named (application_atoms a)) (References 0 ∷ Tails a ∷ rest) g))
followed inside (return e) here s scope i r u Met L sets f arms n es t path rest h g =
    let row : es ++ rest ≡ path.0 ++ (References 0 ∷ Returns ∷ rest) = ap (λ l. l ++ rest) path.3 ∙ append_assoc path.0 (References 0 ∷ Returns ∷ []) rest in
    subst SavesFollowed (sym row)
    (followed inside e false s scope i r u Met _ sets (λ x t z. inl z) arms (no_round e s) path.0 path.1 path.2 (References 0 ∷ Returns ∷ rest)
    (λ x in_it m. sym (ap (calls x) row) ∙ h x in_it m) g)
followed inside (end e) here s scope i r u Met L sets f arms n es t path rest h g =
    let row : es ++ rest ≡ path.0 ++ (Ends ∷ rest) = ap (λ l. l ++ rest) path.3 ∙ append_assoc path.0 (Ends ∷ []) rest in
    subst SavesFollowed (sym row)
    (followed inside e false s scope i r u Met _ sets (λ x t b. absurd b) arms (no_round e s) path.0 path.1 path.2 (Ends ∷ rest)
    (λ x in_it m. sym (ap (calls x) row) ∙ h x in_it m) g)
followed inside (save saves e) here s scope i r u Met L sets f arms n es t path rest h g =
    let hs : List Event = map Saves (heads e saves) in
    let row : es ++ rest ≡ hs ++ (path.0 ++ rest) = ap (λ l. l ++ rest) path.2 ∙ append_assoc hs path.0 rest in
    let called : (x : ℕ) → has x saves ≡ true → calls x (path.0 ++ rest) ≡ true
    = λ x m.
    let every : EveryPathCalls inside x (save saves e) = (needs_is x inside (save saves e)).0 ((needs_is x no_region (save saves e)).1 (n x m)) in
    in_first x path.0 rest (call_behind x es hs path.0 path.2 (saves_call x (heads e saves)) (every es t path)) in
    subst SavesFollowed (sym row)
    (saves_followed (heads e saves) (path.0 ++ rest) (λ x m. called x (head_is e saves x m).0)
    (followed (with_region saves inside) e false (and_right here _ s) scope i r u Met L sets f arms (no_round e (and_right here _ s)) path.0 t path.1 rest
    (λ x in_it m. more_inside x called (λ j. call_behind x (es ++ rest) hs (path.0 ++ rest) row (saves_call x (heads e saves)) (h x j m)) in_it)
    g)) where
      more_inside : (x : ℕ) → ((x : ℕ) → has x saves ≡ true → calls x (path.0 ++ rest) ≡ true) → (inside x ≡ true → calls x (path.0 ++ rest) ≡ true)
          → (has x saves || inside x) ≡ true → calls x (path.0 ++ rest) ≡ true
      more_inside x c f w = by (has x saves) refl w where
        by : (t : Bool) → has x saves ≡ t → (t || inside x) ≡ true → calls x (path.0 ++ rest) ≡ true
        by true e w = c x e
        by false e w = f w

-- From each point of a body where a variable is saved, each path has a call after which it is live.
pub inevitable : (e : Expression) → regions_stand true e ≡ true → (scope : ℕ → Bool) → in_scope e scope ≡ true → without_repeats (bound_in e) ≡ true → Unbound scope e
    → LiveSets e (Unit {0}) nothing_later → LazySaves e → (es : List Event) (t : Bool) → IsPath no_region e es t → SavesFollowed es
inevitable e s scope i r u sets lazy es t path =
    subst SavesFollowed (append-nil es)
    (followed no_region e true s scope i r u (Unit {0}) nothing_later sets (λ x t b. absurd b) lazy.1 (λ x m. ((lazy.0 x).0 m).0) es t path []
    (λ x in_it m. absurd (cc)) tt)

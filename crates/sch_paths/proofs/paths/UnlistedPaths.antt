-- Expressions that differ only in what is listed at calls have the same paths, but for that.
use Rattle.std.proofs.Common.{◌≡◌, ℕ, Bool, true, false, List, [], ◌∷◌, ◌++◌, refl, ap, sym, ◌∙◌, subst, map}
use Rattle.std.specs.Prelude.{filter}
use Rattle.std.specs.Bool.{MatchBool}
use Rattle.sch_control.specs.AtomsAndSites.{operation_atoms, application_atoms, member_atoms}
use Rattle.sch_control.specs.Meaning.{binds, heads, with_region, no_region}
use Rattle.sch_control.specs.Tree.{Expression, perform, bind, sequence, branch, fix, call, tail_call, return, end, save}
use Rattle.sch_control.specs.Valid.{Position, positioned, value, no_call, member_variables}
use Rattle.sch_control.specs.flow.Bare.{erased, unlisted}
use Rattle.sch_control.specs.flow.Live.{named}
use Rattle.sch_control.specs.flow.Paths.{Event, Binds, References, Saves, Calls, Tails, Returns, Ends, binding, grouping, IsPath, calls, SavesFollowed, unlisted_event, some_call, SavesCalled}

-- ## Events without what is listed

abbrev bare : List Event → List Event
bare es = map unlisted_event es

bare_append : (xs ys : List Event) → bare (xs ++ ys) ≡ bare xs ++ bare ys
bare_append [] ys = refl
bare_append (e ∷ xs) ys = ap (λ l. unlisted_event e ∷ l) (bare_append xs ys)

bare_references : (ys : List ℕ) → bare (map References ys) ≡ map References ys
bare_references [] = refl
bare_references (y ∷ ys) = ap (λ l. References y ∷ l) (bare_references ys)

bare_binds : (ys : List ℕ) → bare (map Binds ys) ≡ map Binds ys
bare_binds [] = refl
bare_binds (y ∷ ys) = ap (λ l. Binds y ∷ l) (bare_binds ys)

bare_saves : (ys : List ℕ) → bare (map Saves ys) ≡ map Saves ys
bare_saves [] = refl
bare_saves (y ∷ ys) = ap (λ l. Saves y ∷ l) (bare_saves ys)

bare_binding : (inside : ℕ → Bool) (y : ℕ) → bare (binding inside y) ≡ binding inside y
bare_binding inside y = ap (λ l. Binds y ∷ l) (bare_saves (filter inside (y ∷ [])))

bare_grouping : (inside : ℕ → Bool) (members : _) → bare (grouping inside members) ≡ grouping inside members
bare_grouping inside members =
    bare_append (map Binds (member_variables members)) _
    ∙ (ap (λ l. l ++ bare (map References (named (member_atoms members)) ++ map Saves (filter inside (member_variables members)))) (bare_binds (member_variables members))
    ∙ ap (λ l. map Binds (member_variables members) ++ l)
    (bare_append (map References (named (member_atoms members))) _
    ∙ (ap (λ l. l ++ bare (map Saves (filter inside (member_variables members)))) (bare_references (named (member_atoms members)))
    ∙ ap (λ l. map References (named (member_atoms members)) ++ l) (bare_saves (filter inside (member_variables members))))))

binds_unlisted : (x : ℕ) (e : Expression) → binds x (unlisted e) ≡ binds x e
binds_unlisted x (perform o) = refl
binds_unlisted x (bind y a b) = rw (binds_unlisted x a, binds_unlisted x b) refl
binds_unlisted x (sequence a b) = rw (binds_unlisted x a, binds_unlisted x b) refl
binds_unlisted x (branch a b c) = rw (binds_unlisted x a, binds_unlisted x b, binds_unlisted x c) refl
binds_unlisted x (fix members e) = rw (binds_unlisted x e) refl
binds_unlisted x (call a listed) = refl
binds_unlisted x (tail_call a) = refl
binds_unlisted x (return e) = binds_unlisted x e
binds_unlisted x (end e) = binds_unlisted x e
binds_unlisted x (save saves e) = binds_unlisted x e

pub heads_unlisted : (e : Expression) (xs : List ℕ) → heads (unlisted e) xs ≡ heads e xs
heads_unlisted e [] = refl
heads_unlisted e (x ∷ xs) = rw (binds_unlisted x e, heads_unlisted e xs) refl

-- ## Paths

two_bare : (xs ys : List Event) (xs' ys' : List Event) → bare xs ≡ xs' → bare ys ≡ ys' → bare (xs ++ ys) ≡ xs' ++ ys'
two_bare xs ys xs' ys' e f = bare_append xs ys ∙ (ap (λ l. l ++ bare ys) e ∙ ap (λ l. xs' ++ l) f)

-- a path without what is listed
pub down : (inside : ℕ → Bool) (e : Expression) (es : List Event) (r : Bool) → IsPath inside e es r → IsPath inside (unlisted e) (bare es) r
down inside (perform o) es r path = (ap bare path.0 ∙ bare_references (named (operation_atoms o)), path.1)
down inside (bind y a b) es r path = (
  bare path.0,
  bare path.1,
  path.2,
  down inside a path.0 path.2 path.3,
  down inside b path.1 r path.4,
  ap bare path.5 ∙ two_bare path.0 _ _ _ refl (two_bare (binding inside y) path.1 _ _ (bare_binding inside y) refl),
)
down inside (sequence a b) es r path =
    (bare path.0, bare path.1, path.2, down inside a path.0 path.2 path.3, down inside b path.1 r path.4, ap bare path.5 ∙ bare_append path.0 path.1)
down inside (branch a b c) es r path = (
  bare path.0,
  bare path.1,
  path.2,
  down inside a path.0 path.2 path.3,
  elim path.2 as (λ t. MatchBool t (IsPath inside b path.1 r) (IsPath inside c path.1 r) → MatchBool t (IsPath inside (unlisted b) (bare path.1) r) (IsPath inside (unlisted c) (bare path.1) r)) [
    | true ↦ down inside b path.1 r
    | false ↦ down inside c path.1 r
  ] path.4,
  ap bare path.5 ∙ bare_append path.0 path.1,
)
down inside (fix members e) es r path =
    (bare path.0, down inside e path.0 r path.1, ap bare path.2 ∙ two_bare (grouping inside members) path.0 _ _ (bare_grouping inside members) refl)
down inside (call a listed) es r path = ap bare path ∙ two_bare (map References (named (application_atoms a))) (Calls a listed ∷ []) _ _ (bare_references (named (application_atoms a))) refl
down inside (tail_call a) es r path =
    ap bare path ∙ two_bare (map References (named (application_atoms a))) (References 0 ∷ Tails a ∷ []) _ _ (bare_references (named (application_atoms a))) refl
down inside (return e) es r path = (bare path.0, path.1, down inside e path.0 path.1 path.2, ap bare path.3 ∙ bare_append path.0 (References 0 ∷ Returns ∷ []))
down inside (end e) es r path = (bare path.0, path.1, down inside e path.0 path.1 path.2, ap bare path.3 ∙ bare_append path.0 (Ends ∷ []))
down inside (save saves e) es r path = (
  bare path.0,
  down (with_region saves inside) e path.0 r path.1,
  ap bare path.2 ∙ two_bare (map Saves (heads e saves)) path.0 _ _ (bare_saves (heads e saves) ∙ ap (map Saves) (sym (heads_unlisted e saves))) refl,
)

-- and one with it
abbrev Fuller : (inside : ℕ → Bool) → Expression → List Event → Bool → Type 0
Fuller inside e es r = (full : List Event) × (IsPath inside e full r × (bare full ≡ es))

pub up : (inside : ℕ → Bool) (e : Expression) (es : List Event) (r : Bool) → IsPath inside (unlisted e) es r → Fuller inside e es r
up inside (perform o) es r path = (es, (path, ap bare path.0 ∙ (bare_references (named (operation_atoms o)) ∙ sym path.0)))
up inside (bind y a b) es r path =
    let first = up inside a path.0 path.2 path.3 in
    let second = up inside b path.1 r path.4 in (
      _,
      (
        (first.0, second.0, path.2, first.1.0, second.1.0, refl),
        two_bare first.0 _ _ _ first.1.1 (two_bare (binding inside y) second.0 _ _ (bare_binding inside y) second.1.1) ∙ sym path.5,
      ),
    )
up inside (sequence a b) es r path =
    let first = up inside a path.0 path.2 path.3 in
    let second = up inside b path.1 r path.4 in
    (_, ((first.0, second.0, path.2, first.1.0, second.1.0, refl), two_bare first.0 second.0 _ _ first.1.1 second.1.1 ∙ sym path.5))
up inside (branch a b c) es r path =
    let first = up inside a path.0 path.2 path.3 in
    let second : (full : List Event) × (MatchBool path.2 (IsPath inside b full r) (IsPath inside c full r) × (bare full ≡ path.1))
    = elim path.2 as (λ t. MatchBool t (IsPath inside (unlisted b) path.1 r) (IsPath inside (unlisted c) path.1 r)
    → (full : List Event) × (MatchBool t (IsPath inside b full r) (IsPath inside c full r) × (bare full ≡ path.1))) [
      | true ↦ up inside b path.1 r
      | false ↦ up inside c path.1 r
    ] path.4 in
    (_, ((first.0, second.0, path.2, first.1.0, second.1.0, refl), two_bare first.0 second.0 _ _ first.1.1 second.1.1 ∙ sym path.5))
up inside (fix members e) es r path =
    let rest = up inside e path.0 r path.1 in
    (_, ((rest.0, rest.1.0, refl), two_bare (grouping inside members) rest.0 _ _ (bare_grouping inside members) rest.1.1 ∙ sym path.2))
up inside (call a listed) es r path =
    (_, (refl, two_bare (map References (named (application_atoms a))) (Calls a listed ∷ []) _ _ (bare_references (named (application_atoms a))) refl ∙ sym path))
up inside (tail_call a) es r path =
    (_, (refl, two_bare (map References (named (application_atoms a))) (References 0 ∷ Tails a ∷ []) _ _ (bare_references (named (application_atoms a))) refl ∙ sym path))
up inside (return e) es r path =
    let first = up inside e path.0 path.1 path.2 in
    (_, ((first.0, path.1, first.1.0, refl), two_bare first.0 (References 0 ∷ Returns ∷ []) _ _ first.1.1 refl ∙ sym path.3))
up inside (end e) es r path =
    let first = up inside e path.0 path.1 path.2 in
    (_, ((first.0, path.1, first.1.0, refl), two_bare first.0 (Ends ∷ []) _ _ first.1.1 refl ∙ sym path.3))
up inside (save saves e) es r path =
    let rest = up (with_region saves inside) e path.0 r path.1 in
    (_, ((rest.0, rest.1.0, refl), two_bare (map Saves (heads e saves)) rest.0 _ _ (bare_saves (heads e saves) ∙ ap (map Saves) (sym (heads_unlisted e saves))) rest.1.1 ∙ sym path.2))

-- ## Saves that are followed by calls

is_some_call : (x : ℕ) (es : List Event) → calls x es ≡ true → some_call es ≡ true
is_some_call x [] h = absurd (cc)
is_some_call x (Calls a listed ∷ es) h = refl
is_some_call x (Binds y ∷ es) h = is_some_call x es h
is_some_call x (References y ∷ es) h = is_some_call x es h
is_some_call x (Saves y ∷ es) h = is_some_call x es h
is_some_call x (Tails a ∷ es) h = is_some_call x es h
is_some_call x (Returns ∷ es) h = is_some_call x es h
is_some_call x (Ends ∷ es) h = is_some_call x es h

followed_called : (es : List Event) → SavesFollowed es → SavesCalled es
followed_called [] f = tt
followed_called (Saves x ∷ es) f = (is_some_call x es f.0, followed_called es f.1)
followed_called (Calls a listed ∷ es) f = followed_called es f
followed_called (Binds y ∷ es) f = followed_called es f
followed_called (References y ∷ es) f = followed_called es f
followed_called (Tails a ∷ es) f = followed_called es f
followed_called (Returns ∷ es) f = followed_called es f
followed_called (Ends ∷ es) f = followed_called es f

bare_call : (es : List Event) → some_call (bare es) ≡ some_call es
bare_call [] = refl
bare_call (Calls a listed ∷ es) = refl
bare_call (Binds y ∷ es) = bare_call es
bare_call (References y ∷ es) = bare_call es
bare_call (Saves y ∷ es) = bare_call es
bare_call (Tails a ∷ es) = bare_call es
bare_call (Returns ∷ es) = bare_call es
bare_call (Ends ∷ es) = bare_call es

bare_called : (es : List Event) → SavesCalled es → SavesCalled (bare es)
bare_called [] f = tt
bare_called (Saves x ∷ es) f = (bare_call es ∙ f.0, bare_called es f.1)
bare_called (Calls a listed ∷ es) f = bare_called es f
bare_called (Binds y ∷ es) f = bare_called es f
bare_called (References y ∷ es) f = bare_called es f
bare_called (Tails a ∷ es) f = bare_called es f
bare_called (Returns ∷ es) f = bare_called es f
bare_called (Ends ∷ es) f = bare_called es f

full_called : (es : List Event) → SavesCalled (bare es) → SavesCalled es
full_called [] f = tt
full_called (Saves x ∷ es) f = (sym (bare_call es) ∙ f.0, full_called es f.1)
full_called (Calls a listed ∷ es) f = full_called es f
full_called (Binds y ∷ es) f = full_called es f
full_called (References y ∷ es) f = full_called es f
full_called (Tails a ∷ es) f = full_called es f
full_called (Returns ∷ es) f = full_called es f
full_called (Ends ∷ es) f = full_called es f

-- where each path of one of two such expressions has its saves followed by calls, each path of the other has
pub called_alike : (e e' : Expression) → unlisted e ≡ unlisted e' → ((es : List Event) (r : Bool) → IsPath no_region e es r → SavesFollowed es)
    → (es : List Event) (r : Bool) → IsPath no_region e' es r → SavesCalled es
called_alike e e' is every es r path =
    let full = up no_region e (bare es) r (subst (λ z. IsPath no_region z (bare es) r) (sym is) (down no_region e' es r path)) in
    full_called es (subst SavesCalled full.1.1 (bare_called full.0 (followed_called full.0 (every full.0 r full.1.0))))

-- ## Positions

pub positioned_erased : (e : Expression) (at : Position) → positioned (erased e) at ≡ positioned e at
positioned_erased (perform o) at = refl
positioned_erased (bind y a b) at = rw (positioned_erased a value, positioned_erased b at) refl
positioned_erased (sequence a b) at = rw (positioned_erased a no_call, positioned_erased b at) refl
positioned_erased (branch a b c) at = rw (positioned_erased a value, positioned_erased b at, positioned_erased c at) refl
positioned_erased (fix members e) at = positioned_erased e at
positioned_erased (call a listed) at = refl
positioned_erased (tail_call a) at = refl
positioned_erased (return e) at = rw (positioned_erased e no_call) refl
positioned_erased (end e) at = rw (positioned_erased e value) refl
positioned_erased (save saves e) at = positioned_erased e at

pub erased_unlisted : (e : Expression) → erased (unlisted e) ≡ erased e
erased_unlisted (perform o) = refl
erased_unlisted (bind y a b) = rw (erased_unlisted a, erased_unlisted b) refl
erased_unlisted (sequence a b) = rw (erased_unlisted a, erased_unlisted b) refl
erased_unlisted (branch a b c) = rw (erased_unlisted a, erased_unlisted b, erased_unlisted c) refl
erased_unlisted (fix members e) = rw (erased_unlisted e) refl
erased_unlisted (call a listed) = refl
erased_unlisted (tail_call a) = refl
erased_unlisted (return e) = rw (erased_unlisted e) refl
erased_unlisted (end e) = rw (erased_unlisted e) refl
erased_unlisted (save saves e) = erased_unlisted e

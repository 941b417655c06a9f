-- What is bound before a point, and referenced by some path from there, is live there.
use Rattle.std.proofs.Common.{◌≡◌, ℕ, Bool, true, false, List, [], ◌∷◌, ◌++◌, refl, ap, sym, ◌∙◌, cond, map}
use Rattle.std.specs.Prelude.{◌↔◌, nat_eq, filter, ◌||◌}
use Rattle.std.specs.Bool.{MatchBool}
use Rattle.sch_word.specs.trees.NumberSets.{has}
use Rattle.sch_word.proofs.facts.Booleans.{neither, not_left, not_right, never_true}
use Rattle.sch_control.specs.AtomsAndSites.{operation_atoms, application_atoms, member_atoms}
use Rattle.sch_control.specs.Meaning.{binds, heads, with_region}
use Rattle.sch_control.specs.Tree.{Expression, perform, bind, sequence, branch, fix, call, tail_call, return, end, save}
use Rattle.sch_control.specs.Valid.{in_scope, bound_in, member_variables}
use Rattle.sch_control.specs.flow.Live.{named, Live, Later}
use Rattle.sch_control.specs.flow.Paths.{Event, Binds, References, Saves, Calls, Tails, Returns, Ends, binding, grouping, IsPath, Act, Yes, No, On, decided, Meets, MayMeet, live, refers}
use Rattle.sch_control.proofs.VariableLists.{among_is}
use Rattle.sch_paths.proofs.paths.LiveByPaths.{itself, live_is}
use Rattle.sch_paths.proofs.saves.LiveInScope.{Unbound, binds_is, live_scope}
use Rattle.sch_paths.specs.Laws.{Readable}

-- the events bind the variable
abbrev pub bound_by : ℕ → List Event → Bool
bound_by x [] = false
bound_by x (Binds y ∷ es) = nat_eq x y || bound_by x es
bound_by x (_ ∷ es) = bound_by x es

none_bound : (x : ℕ) (xs ys : List Event) → bound_by x xs ≡ false → bound_by x ys ≡ false → bound_by x (xs ++ ys) ≡ false
none_bound x [] ys e f = f
none_bound x (Binds y ∷ xs) ys e f = neither (nat_eq x y) _ (not_left (nat_eq x y) _ e) (none_bound x xs ys (not_right (nat_eq x y) _ e) f)
none_bound x (References y ∷ xs) ys e f = none_bound x xs ys e f
none_bound x (Saves y ∷ xs) ys e f = none_bound x xs ys e f
none_bound x (Calls a listed ∷ xs) ys e f = none_bound x xs ys e f
none_bound x (Tails a ∷ xs) ys e f = none_bound x xs ys e f
none_bound x (Returns ∷ xs) ys e f = none_bound x xs ys e f
none_bound x (Ends ∷ xs) ys e f = none_bound x xs ys e f

references_bind : (x : ℕ) (ys : List ℕ) → bound_by x (map References ys) ≡ false
references_bind x [] = refl
references_bind x (y ∷ ys) = references_bind x ys

saves_bind : (x : ℕ) (ys : List ℕ) → bound_by x (map Saves ys) ≡ false
saves_bind x [] = refl
saves_bind x (y ∷ ys) = saves_bind x ys

binds_bind : (x : ℕ) (ys : List ℕ) → has x ys ≡ false → bound_by x (map Binds ys) ≡ false
binds_bind x [] n = refl
binds_bind x (y ∷ ys) n = neither (nat_eq x y) _ (not_left (nat_eq x y) _ n) (binds_bind x ys (not_right (nat_eq x y) _ n))

binding_binds : (x : ℕ) (inside : ℕ → Bool) (y : ℕ) → nat_eq x y ≡ false → bound_by x (binding inside y) ≡ false
binding_binds x inside y n = neither (nat_eq x y) _ n (saves_bind x (filter inside (y ∷ [])))

-- a path binds what its expression does
path_bound : (x : ℕ) (inside : ℕ → Bool) (e : Expression) → binds x e ≡ false → (es : List Event) (r : Bool) → IsPath inside e es r → bound_by x es ≡ false
path_bound x inside (perform o) n es r path = ap (bound_by x) path.0 ∙ references_bind x (named (operation_atoms o))
path_bound x inside (bind y a b) n es r path =
    let rest = not_right (nat_eq x y) _ n in
    ap (bound_by x) path.5
    ∙ none_bound x path.0 _ (path_bound x inside a (not_left (binds x a) _ rest) path.0 path.2 path.3)
    (none_bound x (binding inside y) path.1 (binding_binds x inside y (not_left (nat_eq x y) _ n)) (path_bound x inside b (not_right (binds x a) _ rest) path.1 r path.4))
path_bound x inside (sequence a b) n es r path =
    ap (bound_by x) path.5
    ∙ none_bound x path.0 path.1 (path_bound x inside a (not_left (binds x a) _ n) path.0 path.2 path.3) (path_bound x inside b (not_right (binds x a) _ n) path.1 r path.4)
path_bound x inside (branch a b c) n es r path =
    let rest = not_right (binds x a) _ n in
    ap (bound_by x) path.5
    ∙ none_bound x path.0 path.1 (path_bound x inside a (not_left (binds x a) _ n) path.0 path.2 path.3)
    (elim path.2 as (λ t. MatchBool t (IsPath inside b path.1 r) (IsPath inside c path.1 r) → bound_by x path.1 ≡ false) [
      | true ↦ path_bound x inside b (not_left (binds x b) _ rest) path.1 r
      | false ↦ path_bound x inside c (not_right (binds x b) _ rest) path.1 r
    ] path.4)
path_bound x inside (fix members e) n es r path =
    ap (bound_by x) path.2
    ∙ none_bound x (grouping inside members) path.0
    (none_bound x (map Binds (member_variables members)) _ (binds_bind x (member_variables members) (sym (among_is x members) ∙ not_left _ _ n))
    (none_bound x (map References (named (member_atoms members))) _ (references_bind x (named (member_atoms members))) (saves_bind x (filter inside (member_variables members)))))
    (path_bound x inside e (not_right _ _ n) path.0 r path.1)
path_bound x inside (call a listed) n es r path =
    ap (bound_by x) path ∙ none_bound x (map References (named (application_atoms a))) (Calls a listed ∷ []) (references_bind x (named (application_atoms a))) refl
path_bound x inside (tail_call a) n es r path =
    ap (bound_by x) path ∙ none_bound x (map References (named (application_atoms a))) (References 0 ∷ Tails a ∷ []) (references_bind x (named (application_atoms a))) refl
path_bound x inside (return e) n es r path = ap (bound_by x) path.3 ∙ none_bound x path.0 (References 0 ∷ Returns ∷ []) (path_bound x inside e n path.0 path.1 path.2) refl
path_bound x inside (end e) n es r path = ap (bound_by x) path.3 ∙ none_bound x path.0 (Ends ∷ []) (path_bound x inside e n path.0 path.1 path.2) refl
path_bound x inside (save saves e) n es r path =
    ap (bound_by x) path.2
    ∙ none_bound x (map Saves (heads e saves)) path.0 (saves_bind x (heads e saves)) (path_bound x (with_region saves inside) e n path.0 r path.1)

-- where a variable is not bound, it is referenced where it is referenced before it is bound
decided_same : (a : Act) {L M : Type 0} → L ↔ M → decided a L ↔ decided a M
decided_same Yes f = itself
decided_same No f = itself
decided_same On f = f

refers_live : (x : ℕ) (es : List Event) (L : Type 0) → bound_by x es ≡ false → Meets (refers x) es L ↔ Meets (live x) es L
refers_live x [] L n = itself
refers_live x (Binds y ∷ es) L n = rw (not_left (nat_eq x y) _ n) (refers_live x es L (not_right (nat_eq x y) _ n))
refers_live x (References y ∷ es) L n = decided_same (cond (nat_eq x y) Yes On) (refers_live x es L n)
refers_live x (Saves y ∷ es) L n = refers_live x es L n
refers_live x (Calls a listed ∷ es) L n = refers_live x es L n
refers_live x (Tails a ∷ es) L n = itself
refers_live x (Returns ∷ es) L n = itself
refers_live x (Ends ∷ es) L n = itself

-- Before an expression of a valid body a variable is live where it is bound before, and some path from there references it.
pub literal : (e : Expression) (scope : ℕ → Bool) → in_scope e scope ≡ true → Unbound scope e → (inside : ℕ → Bool) (L : Later) → ((x : ℕ) (t : Bool) → L x t → Readable scope x)
    → (x : ℕ) → (Readable scope x × MayMeet (refers x) inside e (L x)) ↔ Live x e (L x)
literal e scope i u inside L f x = (forth, back) where
  none : Readable scope x → binds x e ≡ false
  none r = binds_is x e ∙ never_true (has x (bound_in e)) (λ m. u x m r)

  forth : Readable scope x × MayMeet (refers x) inside e (L x) → Live x e (L x)
  forth w =
      let path = w.1 in
      (live_is x inside e (L x)).0 (path.0, path.1, path.2, (refers_live x path.0 (L x path.1) (path_bound x inside e (none w.0) path.0 path.1 path.2)).0 path.3)

  back : Live x e (L x) → Readable scope x × MayMeet (refers x) inside e (L x)
  back l =
      let r = live_scope e scope i x (L x) (f x) l in
      let path = (live_is x inside e (L x)).1 l in
      (r, (path.0, path.1, path.2, (refers_live x path.0 (L x path.1) (path_bound x inside e (none r) path.0 path.1 path.2)).1 path.3))

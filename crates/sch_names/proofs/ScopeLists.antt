-- The table of a scope finds what its list of names says.
use Rattle.std.proofs.Common.{◌≡◌, ℕ, suc, ◌-◌, ◌<◌, ◌≤◌, Bool, true, false, cond, if◌then◌else◌, List, [], ◌∷◌, ◌++◌, length, reverse, drop, Option, Some, None, Vec, refl, sym, ◌∙◌, ap, subst, arith, get_or, add-one, drop-cons, ◌+◌}
use Rattle.std.proofs.lemmas.List.{length-reverse, reverse-append}
use Rattle.std.proofs.lemmas.Slice.Eq.{bytes_eq-Decides}
use Rattle.std.specs.Borrow.{Bor}
use Rattle.std.specs.Option.{option_flatten}
use Rattle.std.specs.Map.{lookup}
use Rattle.std.specs.Str.{bytes_eq}
use Rattle.std.specs.declared.alloc.Global.{Global}
use Rattle.indexmap.specs.IndexMap.{insert_entry}
use Rattle.sch_names.specs.Scope.{Scope, find, farther, is_named, onto}
use Rattle.sch_names.specs.ScopeView.{name_of, names_of, one_name, given_names, farther_than, AreShadows, IsTabled, scope_of}
use Rattle.sch_names.specs.declared.scope.Binding.{Binding}
use Rattle.sch_names.specs.declared.scope.Scope.TheInside.{Inside}

abbrev pub Table : Type 0
Table = List (Vec ℕ Global × Option ℕ)

-- what a table has for a name
abbrev pub entry : List ℕ → Table → Option (Option ℕ)
entry x es = lookup (λ k. bytes_eq x k.items) es

abbrev pub with_entry : Table → Vec ℕ Global → Option ℕ → Table
with_entry es k v = insert_entry (λ a b. bytes_eq a.items b.items) es k v

put_here : (here there : Bool) (v w : Option ℕ) (r : Option (Option ℕ)) → here ≡ there → cond there (Some v) r ≡ cond here (Some v) (cond there (Some w) r)
put_here true true v w r e = refl
put_here false false v w r e = refl
put_here true false v w r e = cc
put_here false true v w r e = cc

put_there : (here there : Bool) (v w : Option ℕ) (r s : Option (Option ℕ)) → (here ≡ true → there ≡ true → ⊥) → s ≡ cond here (Some v) r →
    cond there (Some w) s ≡ cond here (Some v) (cond there (Some w) r)
put_there true true v w r s h e = absurd (h refl refl)
put_there true false v w r s h e = e
put_there false true v w r s h e = refl
put_there false false v w r s h e = e

apart : (x y z : List ℕ) → bytes_eq y z ≡ false → bytes_eq x y ≡ true → bytes_eq x z ≡ true → ⊥
apart x y z h e f =
    let same = sym ((bytes_eq-Decides x y).0 e) ∙ (bytes_eq-Decides x z).0 f in
    let t = (bytes_eq-Decides y z).1 same in
    cc

-- one entry of a table, where the entries behind it are as they should be
entered_by : (same : Bool) (x k y : List ℕ) (v w : Option ℕ) (key other : Vec ℕ Global) (es : Table) → key.items ≡ k → other.items ≡ y → bytes_eq k y ≡ same →
    entry x (with_entry es key v) ≡ cond (bytes_eq x k) (Some v) (entry x es) →
    entry x (if same then (other, v) ∷ es else (other, w) ∷ with_entry es key v) ≡ cond (bytes_eq x k) (Some v) (cond (bytes_eq x y) (Some w) (entry x es))
entered_by true x k y v w key other es e f h rest =
    ap (λ z. cond (bytes_eq x z) (Some v) (entry x es)) f ∙ put_here (bytes_eq x k) (bytes_eq x y) v w (entry x es) (ap (bytes_eq x) ((bytes_eq-Decides k y).0 h))
entered_by false x k y v w key other es e f h rest =
    ap (λ z. cond (bytes_eq x z) (Some w) (entry x (with_entry es key v))) f ∙ put_there (bytes_eq x k) (bytes_eq x y) v w (entry x es) (entry x (with_entry es key v)) (apart x k y h) rest

pub entered : (x : List ℕ) (es : Table) (k : Vec ℕ Global) (v : Option ℕ) → entry x (with_entry es k v) ≡ cond (bytes_eq x k.items) (Some v) (entry x es)
entered x [] k v = refl
entered x (e ∷ es) k v = entered_by (bytes_eq k.items e.0.items) x k.items e.0.items v e.1 k e.0 es refl refl refl (entered x es k v)

found_by : (here : Bool) (n i : ℕ) (p f : Option ℕ) → cond here (Some n) p ≡ Some i → (p ≡ Some i → (i < n) × (f ≡ Some (n - 1 - i))) →
    (i < suc n) × (cond here (Some 0) (farther f) ≡ Some (suc n - 1 - i))
found_by true n i p f e h =
    let j : n ≡ i = cc in
    (omega (arith, j), ap Some (omega (arith, j)))
found_by false n i p f e h =
    let g = h e in
    let l = g.0 in
    (omega (arith, l), ap farther g.1 ∙ ap Some (omega (arith, l)))

pub found : (x : List ℕ) (bs : List (Option Binding)) (i : ℕ) → farther_than x bs ≡ Some i → (i < length bs) × (find (names_of bs) x ≡ Some (length bs - 1 - i))
found x [] i e = cc
found x (b ∷ bs) i e = found_by (is_named x (name_of b)) (length bs) i (farther_than x bs) (find (names_of bs) x) e (found x bs i)

missing_by : (here : Bool) (n : ℕ) (p f : Option ℕ) → cond here (Some n) p ≡ None → (p ≡ None → f ≡ None) → cond here (Some 0) (farther f) ≡ None
missing_by true n p f e h = cc
missing_by false n p f e h = ap farther (h e)

pub missing : (x : List ℕ) (bs : List (Option Binding)) → farther_than x bs ≡ None → find (names_of bs) x ≡ None
missing x [] e = refl
missing x (b ∷ bs) e = missing_by (is_named x (name_of b)) (length bs) (farther_than x bs) (find (names_of bs) x) e (missing x bs)

bound_by : (here : Bool) (v : Option ℕ) (o : Option (Option ℕ)) (p : Option ℕ) → option_flatten o ≡ p → option_flatten (cond here (Some v) o) ≡ cond here v p
bound_by true v o p e = refl
bound_by false v o p e = e

-- what the table says after one more variable is bound
pub bound_more : (es : Table) (bs : List (Option Binding)) (b : Binding) (key : Vec ℕ Global) (x : List ℕ) → key.items ≡ b.name.items →
    option_flatten (entry x es) ≡ farther_than x bs → option_flatten (entry x (with_entry es key (Some (length bs)))) ≡ farther_than x (Some b ∷ bs)
bound_more es bs b key x k e =
    ap option_flatten (entered x es key (Some (length bs))) ∙ bound_by (bytes_eq x key.items) (Some (length bs)) _ _ e ∙ ap (λ y. cond (bytes_eq x y) (Some (length bs)) (farther_than x bs)) k

bound_less_by : (here : Bool) (n : ℕ) (v p : Option ℕ) → (here ≡ true → v ≡ p) → cond here v (cond here (Some n) p) ≡ p
bound_less_by true n v p h = h refl
bound_less_by false n v p h = refl

-- and after the nearest one is forgotten
pub bound_less : (es : Table) (bs : List (Option Binding)) (b : Binding) (x : List ℕ) → AreShadows (Some b ∷ bs) →
    option_flatten (entry x es) ≡ farther_than x (Some b ∷ bs) → option_flatten (entry x (with_entry es b.name b.shadowed)) ≡ farther_than x bs
bound_less es bs b x h e =
    ap option_flatten (entered x es b.name b.shadowed) ∙ bound_by (bytes_eq x b.name.items) b.shadowed _ _ e
    ∙ bound_less_by (bytes_eq x b.name.items) (length bs) b.shadowed (farther_than x bs) (λ t. h.0 ∙ ap (λ y. farther_than y bs) (sym ((bytes_eq-Decides x b.name.items).0 t)))

-- the nearest variable is in the table
pub is_entered : (es : Table) (bs : List (Option Binding)) (b : Binding) → option_flatten (entry b.name.items es) ≡ farther_than b.name.items (Some b ∷ bs) → entry b.name.items es ≡ None → ⊥
is_entered es bs b e n =
    let t = (bytes_eq-Decides b.name.items b.name.items).1 refl in
    let f = rw (n, t) at e in
    cc

-- ---- the invariant of a scope

last_first : (xs : List (Option Binding)) (b : Option Binding) → reverse (xs ++ b ∷ []) ≡ b ∷ reverse xs
last_first xs b = reverse-append xs (b ∷ [])

pub tabled_more : (s t : Inside) (b : Binding) (key : Vec ℕ Global) (n : ℕ) → t.bound.items ≡ s.bound.items ++ Some b ∷ [] → key.items ≡ b.name.items → n ≡ length s.bound.items →
    b.shadowed ≡ option_flatten (entry key.items s.nearest.entries) → t.nearest.entries ≡ with_entry s.nearest.entries key (Some n) → IsTabled s → IsTabled t
tabled_more s t b key n e k l h f i =
    let bs = reverse s.bound.items in
    let whole : reverse t.bound.items ≡ Some b ∷ bs = ap reverse e ∙ last_first s.bound.items (Some b) in
    let size : n ≡ length bs = l ∙ sym (length-reverse s.bound.items) in
    record {
      nearest = λ x.
          ap (λ es. option_flatten (entry x es)) (f ∙ ap (λ m. with_entry s.nearest.entries key (Some m)) size)
          ∙ bound_more s.nearest.entries bs b key x k (i.nearest x) ∙ ap (farther_than x) (sym whole);
      shadows = subst AreShadows (sym whole) (h ∙ i.nearest key.items ∙ ap (λ y. farther_than y bs) k, i.shadows);
    }

pub tabled_less : (s t : Inside) (b : Binding) → s.bound.items ≡ t.bound.items ++ Some b ∷ [] → t.nearest.entries ≡ with_entry s.nearest.entries b.name b.shadowed → IsTabled s → IsTabled t
tabled_less s t b e f i =
    let bs = reverse t.bound.items in
    let whole : reverse s.bound.items ≡ Some b ∷ bs = ap reverse e ∙ last_first t.bound.items (Some b) in
    let shadows = subst AreShadows whole i.shadows in
    record {
      nearest = λ x. ap (λ es. option_flatten (entry x es)) f ∙ bound_less s.nearest.entries bs b x shadows (i.nearest x ∙ ap (farther_than x) whole);
      shadows = shadows.1;
    }

-- a name that is bound is in the table
pub tabled_last : (s : Inside) (b : Binding) (front : List (Option Binding)) → s.bound.items ≡ front ++ Some b ∷ [] → IsTabled s → entry b.name.items s.nearest.entries ≡ None → ⊥
tabled_last s b front e i n =
    is_entered s.nearest.entries (reverse front) b (i.nearest b.name.items ∙ ap (farther_than b.name.items) (ap reverse e ∙ last_first front (Some b))) n

pub tabled_found : (s : Inside) (x : List ℕ) (o : Option ℕ) (k : ℕ) → IsTabled s → o ≡ option_flatten (entry x s.nearest.entries) → o ≡ Some k →
    (k < length s.bound.items) × (find (scope_of s) x ≡ Some (length s.bound.items - 1 - k))
tabled_found s x o k i e h =
    let f = found x (reverse s.bound.items) k (sym (i.nearest x) ∙ sym e ∙ h) in
    let size = length-reverse s.bound.items in
    (subst (λ n. k < n) size f.0, f.1 ∙ ap (λ n. Some (n - 1 - k)) size)

pub tabled_missing : (s : Inside) (x : List ℕ) (o : Option ℕ) → IsTabled s → o ≡ option_flatten (entry x s.nearest.entries) → o ≡ None → find (scope_of s) x ≡ None
tabled_missing s x o i e h = missing x (reverse s.bound.items) (sym (i.nearest x) ∙ sym e ∙ h)

-- ---- scopes that are left

pub one_less : (s t : Scope) (depth : ℕ) → depth < length s → t ≡ drop 1 s → drop (length t - depth) t ≡ drop (length s - depth) s
one_less [] t depth l e = absurd (omega (arith, l))
one_less (v ∷ s) t depth l e =
    let n : suc (length s - depth) ≡ suc (length s) - depth = omega (arith, l) in
    ap (λ u. drop (length u - depth) u) e ∙ ap (λ m. drop m (v ∷ s)) n

pub start_left : (v : Option (List ℕ)) (s t start : Scope) → t ≡ v ∷ s → length start ≤ length s → drop (length s - length start) s ≡ start → drop (length t - length start) t ≡ start
start_left v s t start e l h =
    let n : suc (length s) - length start ≡ suc (length s - length start) = omega (arith, l) in
    ap (λ u. drop (length u - length start) u) e ∙ ap (λ m. drop m (v ∷ s)) n ∙ h

-- one name more
pub onto_next : (names : List (Option (Bor (List ℕ)))) (i : ℕ) (d : Option (Bor (List ℕ))) (s s' r : Scope) → i < length names →
    s' ≡ one_name (get_or names i d) ∷ s → onto (given_names (drop i names)) s ≡ r → onto (given_names (drop (i + 1) names)) s' ≡ r
onto_next names i d s s' r l m k =
    let k' = rw (drop-cons names i d l) at k in
    rw (add-one, m) k'

-- Which names are among some, whatever their order; and that no more counts for what is kept.
use Rattle.std.proofs.Common.{◌≡◌, ℕ, zero, suc, Bool, cond, true, false, ◌||◌, ◌&&◌, List, [], ◌∷◌, ◌++◌, map, refl, sym, ap, subst, ◌∙◌}
use Rattle.std.specs.Str.{bytes_eq}
use Rattle.std.proofs.Math.Bool.{and-false, or-false, or-true, or_assoc}
use Rattle.std.proofs.lemmas.Slice.Eq.{bytes_eq-Decides}
use Rattle.sch_names.specs.Scope.{is_among}
use Rattle.sch_names.specs.NamesView.{with_name}
use Rattle.sch_link_tables.specs.Named.{firsts, library_global}
use Rattle.sch_link_tables.specs.Programs.{Definition, kept, with_definition, globals_of_each, seen, held, starts, starts_with}

pub or_three : (a b c : Bool) → ((a || b) || c) ≡ ((a || c) || b)
or_three true b c = refl
or_three false true true = refl
or_three false true false = refl
or_three false false true = refl
or_three false false false = refl

pub or_four : (a b c : Bool) → ((a || b) || c) ≡ (a || (c || b))
or_four true b c = refl
or_four false true true = refl
or_four false true false = refl
or_four false false true = refl
or_four false false false = refl

cond_or : (a b : Bool) → cond a true b ≡ (a || b)
cond_or true b = refl
cond_or false b = refl

pub among_append : (x : List ℕ) (xs bs : List (List ℕ)) → is_among x (xs ++ bs) ≡ (is_among x xs || is_among x bs)
among_append x [] bs = refl
among_append x (a ∷ xs) bs =
    cond_or (bytes_eq x a) (is_among x (xs ++ bs)) ∙ ap (λ b. bytes_eq x a || b) (among_append x xs bs) ∙ sym (or_assoc (bytes_eq x a) (is_among x xs) (is_among x bs))
    ∙ ap (λ b. b || is_among x bs) (sym (cond_or (bytes_eq x a) (is_among x xs)))

pub among_with : (x y : List ℕ) (names : List (List ℕ)) → is_among x (with_name y names) ≡ (is_among x names || bytes_eq x y)
among_with x y names = go (is_among y names) (bytes_eq x y) refl refl
  where
    go : (b c : Bool) → is_among y names ≡ b → bytes_eq x y ≡ c → is_among x (cond b names (names ++ y ∷ [])) ≡ (is_among x names || c)
    go true true e h = let i = subst (λ z. is_among z names ≡ true) (sym ((bytes_eq-Decides x y).0 h)) e in rw i refl
    go true false e h = sym (or-false (is_among x names))
    go false c e h = among_append x names (y ∷ []) ∙ ap (λ b. is_among x names || b) (cond_or (bytes_eq x y) false ∙ or-false (bytes_eq x y) ∙ h)

pub among_firsts : (x : List ℕ) (names xs : List (List ℕ)) → is_among x (firsts names xs) ≡ (is_among x names || is_among x xs)
among_firsts x names [] = sym (or-false (is_among x names))
among_firsts x names (y ∷ xs) =
    among_firsts x (with_name y names) xs ∙ ap (λ b. b || is_among x xs) (among_with x y names) ∙ or_assoc (is_among x names) (bytes_eq x y) (is_among x xs)
    ∙ ap (λ b. is_among x names || b) (sym (cond_or (bytes_eq x y) (is_among x xs)))

pub among_library : (x : List ℕ) (hs : List (List ℕ)) → is_among (library_global x) (map library_global hs) ≡ is_among x hs
among_library x [] = refl
among_library x (h ∷ hs) = ap (cond (bytes_eq x h) true) (among_library x hs)

pub among_either : (x : List ℕ) (names hs : List (List ℕ)) → is_among (library_global x) (names ++ map library_global hs) ≡ (is_among (library_global x) names || is_among x hs)
among_either x names hs = among_append (library_global x) names (map library_global hs) ∙ ap (λ b. is_among (library_global x) names || b) (among_library x hs)

pub found_held : (x : List ℕ) (names hs : List (List ℕ)) → is_among x hs ≡ true → true ≡ is_among (library_global x) (names ++ map library_global hs)
found_held x names hs h = sym (among_either x names hs ∙ ap (λ b. is_among (library_global x) names || b) h ∙ or-true (is_among (library_global x) names))

pub found_named : (x : List ℕ) (names hs : List (List ℕ)) → is_among x hs ≡ false → is_among (library_global x) names ≡ is_among (library_global x) (names ++ map library_global hs)
found_named x names hs h = sym (among_either x names hs ∙ ap (λ b. is_among (library_global x) names || b) h ∙ or-false (is_among (library_global x) names))

-- ## Names that are held

pub among_held : (x : List ℕ) (ds : List Definition) (own : List (List ℕ)) → is_among x (held ds own) ≡ (is_among x own && is_among x (seen ds))
among_held x ds [] = refl
among_held x ds (y ∷ own) = go (is_among y (seen ds)) (bytes_eq x y) refl refl (among_held x ds own)
  where
    go : (b c : Bool) → is_among y (seen ds) ≡ b → bytes_eq x y ≡ c → is_among x (held ds own) ≡ (is_among x own && is_among x (seen ds)) →
        is_among x (cond b (y ∷ held ds own) (held ds own)) ≡ (cond c true (is_among x own) && is_among x (seen ds))
    go true true e h k = let i = subst (λ z. is_among z (seen ds) ≡ true) (sym ((bytes_eq-Decides x y).0 h)) e in rw (h, i) refl
    go true false e h k = rw h k
    go false true e h k =
        let i = subst (λ z. is_among z (seen ds) ≡ false) (sym ((bytes_eq-Decides x y).0 h)) e in
        k ∙ rw i (and-false (is_among x own))
    go false false e h k = k

-- ## What is kept

pub kept_same : (ds : List Definition) (n m : List (List ℕ)) → ((x : List ℕ) → is_among (library_global x) n ≡ is_among (library_global x) m) → kept ds n ≡ kept ds m
kept_same [] n m h = refl
kept_same (d ∷ ds) n m h =
    let k = kept_same ds n m h in
    let x = library_global d.name in
    let b : is_among x (n ++ globals_of_each (kept ds n)) ≡ is_among x (m ++ globals_of_each (kept ds m)) =
    among_append x n (globals_of_each (kept ds n)) ∙ ap (λ b. b || is_among x (globals_of_each (kept ds n))) (h d.name) ∙ ap (λ l. is_among x m || is_among x (globals_of_each l)) k ∙ sym (among_append x m (globals_of_each (kept ds m))) in
    ap (λ b. with_definition b d (kept ds n)) b ∙ ap (with_definition (is_among x (m ++ globals_of_each (kept ds m))) d) k

start_same : (ds : List Definition) (n m : List (List ℕ)) → ((x : List ℕ) → is_among x n ≡ is_among x m) → (g : List ℕ) → starts_with ds n g ≡ starts_with ds m g
start_same ds n m h [] = refl
start_same ds n m h (zero ∷ x) = rw (h x) refl
start_same ds n m h (suc mark ∷ x) = refl

pub starts_same : (ds : List Definition) (n m : List (List ℕ)) → ((x : List ℕ) → is_among x n ≡ is_among x m) → (gs : List (List ℕ)) → starts ds n gs ≡ starts ds m gs
starts_same ds n m h [] = refl
starts_same ds n m h (g ∷ gs) = rw (start_same ds n m h g, starts_same ds n m h gs) refl

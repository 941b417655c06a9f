-- Each name of a draft has a number in a table that has all its names, and each of its literals one among those that it
-- quotes.
use Rattle.std.proofs.Common.{◌≡◌, ◌<◌, ◌≤◌, ℕ, zero, suc, ◌+◌, ◌&&◌, Bool, true, false, cond, List, [], ◌∷◌, ◌++◌, length, Option, refl, ap, arith, length-append, lt-ltb}
use Rattle.std.specs.Str.{bytes_eq}
use Rattle.std.proofs.lemmas.Bool.{and_from, ltb-true}
use Rattle.std.proofs.lemmas.Slice.Eq.{bytes_eq-Decides}
use Rattle.sch_word.specs.declared.constant.Const.{Const}
use Rattle.sch_word.specs.declared.constant.Const.TheVariants.{Symbol}
use Rattle.sch_word.specs.values.Literals.{constant_known}
use Rattle.sch_lang.specs.Tree.{Expression, Expressions}
use Rattle.sch_lang.specs.Measures.{over, over_each}
use Rattle.sch_lang.specs.Valid.{named_here}
use Rattle.sch_names.specs.Scope.{is_among, VariableNames}
use Rattle.sch_names.specs.NamesView.{with_name, number_of}
use Rattle.sch_sketch.specs.Draft.{Draft, Drafts, constant, symbol, literal, local, global, set_local, set_global, define, branch, sequence, bind, letrec, lambda, call, operation, no_drafts, and_draft, count}
use Rattle.sch_link_tables.specs.Named.{firsts, globals_in, globals_in_each, symbols_in, symbols_in_each}
use Rattle.sch_link_tables.specs.Assigned.{is_group}
use Rattle.sch_link_tables.specs.Quoted.{quotes_in, quotes_in_each}
use Rattle.sch_word.specs.values.Options.{rest_of}
use Rattle.sch_link_tables.specs.Numbered.{grouped, numbered, numbered_each}
use Rattle.sch_core.specs.SoundDrafts.{IsSound, AreSound}
use Rattle.sch_core.specs.LibraryDefinitions.{AreAmong}
use Rattle.sch_core.proofs.numbered.Groups.{hold_grouped, group_lambdas}

pub left : (all a b : List (List ℕ)) → AreAmong all (a ++ b) → AreAmong all a
left all [] b h = tt
left all (x ∷ a) b h = (h.0, left all a b h.1)

pub right : (all a b : List (List ℕ)) → AreAmong all (a ++ b) → AreAmong all b
right all [] b h = h
right all (x ∷ a) b h = right all a b h.1

pub same : (x : List ℕ) → bytes_eq x x ≡ true
same x = grind (arith, bytes_eq-Decides)

-- ## The table of the names

among_more : (x y : List ℕ) (names : List (List ℕ)) → is_among x names ≡ true → is_among x (names ++ y ∷ []) ≡ true
among_more x y [] h = cc
among_more x y (z ∷ names) h = go (bytes_eq x z) h (among_more x y names)
  where
    go : (b : Bool) → cond b true (is_among x names) ≡ true → (is_among x names ≡ true → is_among x (names ++ y ∷ []) ≡ true) →
        cond b true (is_among x (names ++ y ∷ [])) ≡ true
    go true e f = refl
    go false e f = f e

among_last : (x : List ℕ) (names : List (List ℕ)) → is_among x (names ++ x ∷ []) ≡ true
among_last x [] = ap (λ b. cond b true false) (same x)
among_last x (z ∷ names) = go (bytes_eq x z) (among_last x names)
  where
    go : (b : Bool) → is_among x (names ++ x ∷ []) ≡ true → cond b true (is_among x (names ++ x ∷ [])) ≡ true
    go true f = refl
    go false f = f

kept_by : (x y : List ℕ) (seen : List (List ℕ)) → is_among x seen ≡ true → is_among x (with_name y seen) ≡ true
kept_by x y seen h = go (is_among y seen)
  where
    go : (b : Bool) → is_among x (cond b seen (seen ++ y ∷ [])) ≡ true
    go true = h
    go false = among_more x y seen h

has_name : (x : List ℕ) (seen : List (List ℕ)) → is_among x (with_name x seen) ≡ true
has_name x seen = go (is_among x seen) refl
  where
    go : (b : Bool) → is_among x seen ≡ b → is_among x (cond b seen (seen ++ x ∷ [])) ≡ true
    go true e = e
    go false e = among_last x seen

kept : (x : List ℕ) (names seen : List (List ℕ)) → is_among x seen ≡ true → is_among x (firsts seen names) ≡ true
kept x [] seen h = h
kept x (y ∷ names) seen h = kept x names (with_name y seen) (kept_by x y seen h)

pub all_among : (names seen : List (List ℕ)) → AreAmong (firsts seen names) names
all_among [] seen = tt
all_among (x ∷ names) seen = (kept x names (with_name x seen) (has_name x seen), all_among names (with_name x seen))

pub number_below : (x : List ℕ) (names : List (List ℕ)) → is_among x names ≡ true → number_of x names < length names
number_below x [] h = cc
number_below x (y ∷ names) h = go (bytes_eq x y) h (number_below x names)
  where
    go : (b : Bool) → cond b true (is_among x names) ≡ true → (is_among x names ≡ true → number_of x names < length names) →
        cond b zero (suc (number_of x names)) < suc (length names)
    go true e f = omega arith
    go false e f = omega (arith, f e)

-- ## The nodes

constant_known_more : (n : ℕ) (c : Const) → constant_known 0 c ≡ true → constant_known n c ≡ true
constant_known_more n (Symbol k) h = absurd (omega (arith, ltb-true k 0 h))
constant_known_more n _ h = refl

named_grouped : (symbols literals globals : ℕ) (g : Bool) (xs : Expressions) (x : Expression) (s : ℕ) → named_here symbols literals globals (grouped g s xs x) ≡ true
named_grouped symbols literals globals true xs x s = refl
named_grouped symbols literals globals false xs x s = refl

module _ (own globals symbols : List (List ℕ)) (literals : ℕ) where
  mutual
    named : (e : Draft) (v : Option (List ℕ)) (m s l : ℕ) → IsSound m e → AreAmong globals (globals_in own e) → AreAmong symbols (symbols_in e) → l + length (quotes_in e) ≤ literals →
        over true (λ a b. a && b) (named_here (length symbols) literals (length globals)) (numbered own globals symbols v e s l) ≡ true
    named (constant c) v m s l h g y q = constant_known_more (length symbols) c h
    named (symbol x) v m s l h g y q = lt-ltb _ _ (number_below x symbols y.0)
    named (literal d) v m s l h g y q = lt-ltb _ _ (omega (arith, q))
    named (local i) v m s l h g y q = refl
    named (global x) v m s l h g y q = lt-ltb _ _ (number_below _ globals g.0)
    named (set_local i e) v m s l h g y q = named e _ m s l h.1 g y q
    named (set_global x e) v m s l h g y q = and_from _ _ (lt-ltb _ _ (number_below _ globals g.0)) (named e _ m s l h g.1 y q)
    named (define x e) v m s l h g y q = and_from _ _ (lt-ltb _ _ (number_below _ globals g.0)) (named e _ m s l h g.1 y q)
    named (branch a b c) v m s l h g y q =
        let g' = right globals (globals_in own a) _ g in
        let y' = right symbols (symbols_in a) _ y in
        let ca = length-append (quotes_in a) (quotes_in b ++ quotes_in c) in
        let cb = length-append (quotes_in b) (quotes_in c) in
        and_from _ _ (named a _ m s l h.0 (left globals (globals_in own a) _ g) (left symbols (symbols_in a) _ y) (omega (arith, q, ca, cb)))
        (and_from _ _ (named b _ m _ _ h.1 (left globals (globals_in own b) _ g') (left symbols (symbols_in b) _ y') (omega (arith, q, ca, cb)))
        (named c _ m _ _ h.2 (right globals (globals_in own b) _ g') (right symbols (symbols_in b) _ y') (omega (arith, q, ca, cb))))
    named (sequence es) v m s l h g y q = named_each es [] m s l h.1 g y q
    named (bind vs es e) v m s l h g y q =
        let c = length-append (quotes_in_each es) (quotes_in e) in
        and_from _ _ (named_each es vs m (s + 1) l h.1 (left globals (globals_in_each own es) _ g) (left symbols (symbols_in_each es) _ y) (omega (arith, q, c)))
        (named e _ (m + count es) _ _ h.2 (right globals (globals_in_each own es) _ g) (right symbols (symbols_in_each es) _ y) (omega (arith, q, c)))
    named (letrec vs p es e) v m s l h g y q =
        let c = length-append (quotes_in_each es) (quotes_in e) in
        hold_grouped (named_here (length symbols) literals (length globals)) (is_group p es e) _ _ s (group_lambdas own globals symbols p es e vs _ l h.1) (named_grouped (length symbols) literals (length globals) (is_group p es e) _ _ s)
        (named_each es vs (m + count es) _ l h.2 (left globals (globals_in_each own es) _ g) (left symbols (symbols_in_each es) _ y) (omega (arith, q, c)))
        (named e _ (m + count es) _ _ h.3 (right globals (globals_in_each own es) _ g) (right symbols (symbols_in_each es) _ y) (omega (arith, q, c)))
    named (lambda n r e) v m s l h g y q = named e _ (m + n) s l h.2 g y q
    named (call vs f es) v m s l h g y q =
        let c = length-append (quotes_in f) (quotes_in_each es) in
        and_from _ _ (named f _ m (s + 1) l h.1 (left globals (globals_in own f) _ g) (left symbols (symbols_in f) _ y) (omega (arith, q, c)))
        (named_each es vs m _ _ h.2 (right globals (globals_in own f) _ g) (right symbols (symbols_in f) _ y) (omega (arith, q, c)))
    named (operation p es) v m s l h g y q = named_each es [] m (s + 1) l h.1 g y q

    pub named_each : (es : Drafts) (vs : VariableNames) (m s l : ℕ) → AreSound m es → AreAmong globals (globals_in_each own es) → AreAmong symbols (symbols_in_each es) → l + length (quotes_in_each es) ≤ literals →
        over_each true (λ a b. a && b) (named_here (length symbols) literals (length globals)) (numbered_each own globals symbols vs es s l) ≡ true
    named_each no_drafts vs m s l h g y q = refl
    named_each (and_draft e es) vs m s l h g y q =
        let c = length-append (quotes_in e) (quotes_in_each es) in
        and_from _ _ (named e _ m s l h.0 (left globals (globals_in own e) _ g) (left symbols (symbols_in e) _ y) (omega (arith, q, c)))
        (named_each es (rest_of vs) m _ _ h.1 (right globals (globals_in own e) _ g) (right symbols (symbols_in e) _ y) (omega (arith, q, c)))

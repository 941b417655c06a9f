-- A body with lazy regions: what it is without them, and where they stand.
use Rattle.std.proofs.Common.{◌≡◌, ℕ, Bool, true, false, List, [], ◌∷◌, ◌≤◌, refl, ap, sym, ◌∙◌, subst, arith}
use Rattle.std.specs.Prelude.{nat_lt, ◌||◌, ◌&&◌, not, filter}
use Rattle.std.specs.List.{list_all}
use Rattle.std.proofs.Math.Path.{fun_ext}
use Rattle.sch_word.specs.trees.NumberSets.{has, without_repeats}
use Rattle.sch_word.specs.trees.Bindings.{numbers}
use Rattle.sch_word.proofs.facts.Booleans.{and_left, and_right, and_of}
use Rattle.sch_control.specs.Meaning.{no_region, with_region}
use Rattle.sch_control.specs.Tree.{Expression, perform, bind, sequence, branch, fix, call, tail_call, return, end, save}
use Rattle.sch_control.specs.Valid.{is_bare}
use Rattle.sch_control.proofs.NumberLists.{has_filter, all_filter, once_filter, below_from, all_left}
use Rattle.sch_word.proofs.facts.NumberSets.{distinct_numbers}
use Rattle.sch_control.specs.flow.Bare.{unlisted, unsaved, erased}
use Rattle.sch_control.specs.flow.Regions.{regions_apart, SavesBelow}
use Rattle.sch_paths.specs.Exact.{saved_round}
use Rattle.sch_paths.specs.Regions.{regions_stand}
use Rattle.sch_paths.specs.Table.{needs}
use Rattle.sch_saves.specs.LazyRegions.{needed, round, with_needs, outermost, lazily_saved}

pub needed_below : (n bound : ℕ) (e : Expression) → n ≤ bound → list_all (λ x. nat_lt x bound) (needed n e) ≡ true
needed_below n bound e l = all_left _ _ (needed n e) (all_filter (λ x. nat_lt x bound) (λ x. needs x e) (numbers 0 n) (below_from 0 n bound (omega (arith, l))))

needed_once : (n : ℕ) (e : Expression) → without_repeats (needed n e) ≡ true
needed_once n e = once_filter (λ x. needs x e) (numbers 0 n) (distinct_numbers 0 n)

-- ## Round an expression

unsaved_round : (xs : List ℕ) (e : Expression) → unsaved (round xs e) ≡ unsaved e
unsaved_round [] e = refl
unsaved_round (x ∷ xs) e = refl

pub round_saves : (xs : List ℕ) (e : Expression) → saved_round e ≡ [] → saved_round (round xs e) ≡ xs
round_saves [] e h = h
round_saves (x ∷ xs) e h = refl

pub outermost_round : (inside : ℕ → Bool) (xs : List ℕ) (e : Expression)
    → outermost inside (round xs e) ≡ round (filter (λ x. not (inside x)) xs) (outermost (with_region xs inside) e)
outermost_round inside [] e = refl
outermost_round inside (x ∷ xs) e = refl

-- what is saved there, and what is inside there, is inside in any case
pub region_outermost : (inside : ℕ → Bool) (xs : List ℕ) → with_region (filter (λ x. not (inside x)) xs) inside ≡ with_region xs inside
region_outermost inside xs = fun_ext (λ x. ap (λ b. b || inside x) (has_filter (λ x. not (inside x)) x xs) ∙ by (has x xs) (inside x)) where
  by : (t u : Bool) → ((t && not u) || u) ≡ (t || u)
  by true true = refl
  by true false = refl
  by false true = refl
  by false false = refl

-- ## Without its regions the body is what it was

unsaved_needs : (n : ℕ) (e : Expression) → unsaved (with_needs n e) ≡ unsaved e
unsaved_needs n (perform o) = refl
unsaved_needs n (bind x a b) = rw (unsaved_needs n a, unsaved_needs n b) refl
unsaved_needs n (sequence a b) = rw (unsaved_needs n a, unsaved_needs n b) refl
unsaved_needs n (branch a b c) =
    rw (unsaved_round (needed n b) (with_needs n b), unsaved_round (needed n c) (with_needs n c), unsaved_needs n a, unsaved_needs n b, unsaved_needs n c) refl
unsaved_needs n (fix members e) = rw (unsaved_needs n e) refl
unsaved_needs n (call a listed) = refl
unsaved_needs n (tail_call a) = refl
unsaved_needs n (return e) = rw (unsaved_needs n e) refl
unsaved_needs n (end e) = rw (unsaved_needs n e) refl
unsaved_needs n (save saves e) = unsaved_needs n e

unsaved_outermost : (inside : ℕ → Bool) (e : Expression) → unsaved (outermost inside e) ≡ unsaved e
unsaved_outermost inside (perform o) = refl
unsaved_outermost inside (bind x a b) = rw (unsaved_outermost inside a, unsaved_outermost inside b) refl
unsaved_outermost inside (sequence a b) = rw (unsaved_outermost inside a, unsaved_outermost inside b) refl
unsaved_outermost inside (branch a b c) = rw (unsaved_outermost inside a, unsaved_outermost inside b, unsaved_outermost inside c) refl
unsaved_outermost inside (fix members e) = rw (unsaved_outermost inside e) refl
unsaved_outermost inside (call a listed) = refl
unsaved_outermost inside (tail_call a) = refl
unsaved_outermost inside (return e) = rw (unsaved_outermost inside e) refl
unsaved_outermost inside (end e) = rw (unsaved_outermost inside e) refl
unsaved_outermost inside (save saves e) =
    unsaved_round (filter (λ x. not (inside x)) saves) (outermost (with_region saves inside) e) ∙ unsaved_outermost (with_region saves inside) e

-- an arm or a body with its regions, inside those regions
abbrev pub lazily_inside : (variables : ℕ) (inside : ℕ → Bool) → Expression → Expression
lazily_inside n inside e = outermost inside (round (needed n e) (with_needs n e))

pub unsaved_lazily : (n : ℕ) (inside : ℕ → Bool) (e : Expression) → unsaved (lazily_inside n inside e) ≡ unsaved e
unsaved_lazily n inside e =
    unsaved_outermost inside (round (needed n e) (with_needs n e)) ∙ (unsaved_round (needed n e) (with_needs n e) ∙ unsaved_needs n e)

-- a body of the language with live sets has no region
pub unsaved_bare : (e : Expression) → is_bare (unlisted e) ≡ true → unsaved e ≡ e
unsaved_bare (perform o) h = refl
unsaved_bare (bind x a b) h = rw (unsaved_bare a (and_left (is_bare (unlisted a)) _ h), unsaved_bare b (and_right (is_bare (unlisted a)) _ h)) refl
unsaved_bare (sequence a b) h = rw (unsaved_bare a (and_left (is_bare (unlisted a)) _ h), unsaved_bare b (and_right (is_bare (unlisted a)) _ h)) refl
unsaved_bare (branch a b c) h =
    let rest = and_right (is_bare (unlisted a)) _ h in
    rw (unsaved_bare a (and_left (is_bare (unlisted a)) _ h), unsaved_bare b (and_left (is_bare (unlisted b)) _ rest), unsaved_bare c (and_right (is_bare (unlisted b)) _ rest)) refl
unsaved_bare (fix members e) h = rw (unsaved_bare e h) refl
unsaved_bare (call a listed) h = refl
unsaved_bare (tail_call a) h = refl
unsaved_bare (return e) h = rw (unsaved_bare e h) refl
unsaved_bare (end e) h = rw (unsaved_bare e h) refl
unsaved_bare (save saves e) h = absurd (cc)

pub erased_is : (e : Expression) → erased e ≡ unlisted (unsaved e)
erased_is (perform o) = refl
erased_is (bind x a b) = rw (erased_is a, erased_is b) refl
erased_is (sequence a b) = rw (erased_is a, erased_is b) refl
erased_is (branch a b c) = rw (erased_is a, erased_is b, erased_is c) refl
erased_is (fix members e) = rw (erased_is e) refl
erased_is (call a listed) = refl
erased_is (tail_call a) = refl
erased_is (return e) = rw (erased_is e) refl
erased_is (end e) = rw (erased_is e) refl
erased_is (save saves e) = erased_is e

-- ## Where regions stand

pub no_round : (n : ℕ) (inside : ℕ → Bool) (e : Expression) → saved_round (outermost inside (with_needs n e)) ≡ []
no_round n inside (perform o) = refl
no_round n inside (bind x a b) = refl
no_round n inside (sequence a b) = refl
no_round n inside (branch a b c) = refl
no_round n inside (fix members e) = refl
no_round n inside (call a listed) = refl
no_round n inside (tail_call a) = refl
no_round n inside (return e) = refl
no_round n inside (end e) = refl
no_round n inside (save saves e) = no_round n inside e

-- an expression with regions round its arms alone has them where a body may
stand_more : (e : Expression) → regions_stand false e ≡ true → regions_stand true e ≡ true
stand_more (perform o) h = h
stand_more (bind y a b) h = h
stand_more (sequence a b) h = h
stand_more (branch a b c) h = h
stand_more (fix members e) h = h
stand_more (call a listed) h = h
stand_more (tail_call a) h = h
stand_more (return e) h = h
stand_more (end e) h = h
stand_more (save saves e) h = absurd (cc)

stand_round : (xs : List ℕ) (e : Expression) → regions_stand false e ≡ true → regions_stand true (round xs e) ≡ true
stand_round [] e h = stand_more e h
stand_round (x ∷ xs) e h = h

stand_inside : (n : ℕ) (inside : ℕ → Bool) (e : Expression) → regions_stand false (outermost inside (with_needs n e)) ≡ true
stand_inside n inside (perform o) = refl
stand_inside n inside (bind x a b) = and_of (regions_stand false (outermost inside (with_needs n a))) _ (stand_inside n inside a) (stand_inside n inside b)
stand_inside n inside (sequence a b) = and_of (regions_stand false (outermost inside (with_needs n a))) _ (stand_inside n inside a) (stand_inside n inside b)
stand_inside n inside (branch a b c) =
    and_of (regions_stand false (outermost inside (with_needs n a))) _ (stand_inside n inside a)
    (and_of (regions_stand true (lazily_inside n inside b)) _ (arm b (λ inside. stand_inside n inside b)) (arm c (λ inside. stand_inside n inside c))) where
      arm : (b : Expression) → ((inside : ℕ → Bool) → regions_stand false (outermost inside (with_needs n b)) ≡ true) → regions_stand true (lazily_inside n inside b) ≡ true
      arm b h = ap (regions_stand true) (outermost_round inside (needed n b) (with_needs n b)) ∙ stand_round (filter (λ x. not (inside x)) (needed n b)) (outermost (with_region (needed n b) inside) (with_needs n b)) (h (with_region (needed n b) inside))
stand_inside n inside (fix members e) = stand_inside n inside e
stand_inside n inside (call a listed) = refl
stand_inside n inside (tail_call a) = refl
stand_inside n inside (return e) = stand_inside n inside e
stand_inside n inside (end e) = stand_inside n inside e
stand_inside n inside (save saves e) = stand_inside n inside e

pub stands : (n : ℕ) (e : Expression) → regions_stand true (lazily_saved n e) ≡ true
stands n e = ap (regions_stand true) (outermost_round no_region (needed n e) (with_needs n e)) ∙ stand_round (filter (λ x. not (no_region x)) (needed n e)) (outermost (with_region (needed n e) no_region) (with_needs n e)) (stand_inside n (with_region (needed n e) no_region) e)

-- ## What regions save

below_round : (bound : ℕ) (xs : List ℕ) (e : Expression) → list_all (λ x. nat_lt x bound) xs ≡ true → SavesBelow bound e → SavesBelow bound (round xs e)
below_round bound [] e h k = k
below_round bound (x ∷ xs) e h k = (h, k)

needs_below : (n bound : ℕ) → n ≤ bound → (e : Expression) → SavesBelow bound (with_needs n e)
needs_below n bound l (perform o) = tt
needs_below n bound l (bind x a b) = (needs_below n bound l a, needs_below n bound l b)
needs_below n bound l (sequence a b) = (needs_below n bound l a, needs_below n bound l b)
needs_below n bound l (branch a b c) = (
  needs_below n bound l a,
  (
    below_round bound (needed n b) (with_needs n b) (needed_below n bound b l) (needs_below n bound l b),
    below_round bound (needed n c) (with_needs n c) (needed_below n bound c l) (needs_below n bound l c),
  ),
)
needs_below n bound l (fix members e) = needs_below n bound l e
needs_below n bound l (call a listed) = tt
needs_below n bound l (tail_call a) = tt
needs_below n bound l (return e) = needs_below n bound l e
needs_below n bound l (end e) = needs_below n bound l e
needs_below n bound l (save saves e) = needs_below n bound l e

pub marked_below : (n bound : ℕ) (e : Expression) → n ≤ bound → SavesBelow bound (round (needed n e) (with_needs n e))
marked_below n bound e l = below_round bound (needed n e) (with_needs n e) (needed_below n bound e l) (needs_below n bound l e)

apart_round : (n : ℕ) (inside : ℕ → Bool) (xs : List ℕ) (e : Expression) → without_repeats xs ≡ true → list_all (λ x. nat_lt x n && not (inside x)) xs ≡ true
    → regions_apart n e (with_region xs inside) ≡ true → regions_apart n (round xs e) inside ≡ true
apart_round n inside [] e o h k = k
apart_round n inside (x ∷ xs) e o h k = and_of (without_repeats (x ∷ xs)) _ o (and_of (list_all (λ x. nat_lt x n && not (inside x)) (x ∷ xs)) _ h k)

apart_arm : (n : ℕ) (inside : ℕ → Bool) (e : Expression) → ((inside : ℕ → Bool) → regions_apart n (outermost inside (with_needs n e)) inside ≡ true)
    → regions_apart n (lazily_inside n inside e) inside ≡ true
apart_arm n inside e h =
    ap (λ z. regions_apart n z inside) (outermost_round inside (needed n e) (with_needs n e))
    ∙ apart_round n inside (filter (λ x. not (inside x)) (needed n e)) (outermost (with_region (needed n e) inside) (with_needs n e)) (once_filter (λ x. not (inside x)) (needed n e) (needed_once n e))
    (all_filter (λ x. nat_lt x n) (λ x. not (inside x)) (needed n e) (needed_below n n e (omega arith)))
    (subst (λ z. regions_apart n (outermost (with_region (needed n e) inside) (with_needs n e)) z ≡ true) (sym (region_outermost inside (needed n e)))
    (h (with_region (needed n e) inside)))

apart_inside : (n : ℕ) (e : Expression) (inside : ℕ → Bool) → regions_apart n (outermost inside (with_needs n e)) inside ≡ true
apart_inside n (perform o) inside = refl
apart_inside n (bind x a b) inside = and_of (regions_apart n (outermost inside (with_needs n a)) inside) _ (apart_inside n a inside) (apart_inside n b inside)
apart_inside n (sequence a b) inside = and_of (regions_apart n (outermost inside (with_needs n a)) inside) _ (apart_inside n a inside) (apart_inside n b inside)
apart_inside n (branch a b c) inside =
    and_of (regions_apart n (outermost inside (with_needs n a)) inside) _ (apart_inside n a inside)
    (and_of (regions_apart n (lazily_inside n inside b) inside) _ (apart_arm n inside b (apart_inside n b)) (apart_arm n inside c (apart_inside n c)))
apart_inside n (fix members e) inside = apart_inside n e inside
apart_inside n (call a listed) inside = refl
apart_inside n (tail_call a) inside = refl
apart_inside n (return e) inside = apart_inside n e inside
apart_inside n (end e) inside = apart_inside n e inside
apart_inside n (save saves e) inside = apart_inside n e inside

pub regions_are_apart : (n : ℕ) (e : Expression) → regions_apart n (lazily_saved n e) no_region ≡ true
regions_are_apart n e = apart_arm n no_region e (apart_inside n e)

-- Lists of the numbers that pass a test, and of those in a set.
use Rattle.std.proofs.Common.{◌≡◌, ℕ, zero, suc, ◌+◌, ◌-◌, ◌<◌, ◌≤◌, Bool, true, false, cond, List, [], ◌∷◌, ◌++◌, length, drop, get_or, refl, ap, sym, ◌∙◌, subst, arith, add-one, append_assoc, append-nil}
use Rattle.std.specs.Prelude.{nat_eq, nat_lt, nat_le, ◌||◌, ◌&&◌, not, filter}
use Rattle.std.specs.List.{list_all, list_any}
use Rattle.std.specs.FinSet as set
use Rattle.std.specs.Ordering.{nat_cmp, eq_by_cmp}
use Rattle.std.specs.Cmp.{unsigned_tied}
use Rattle.std.proofs.lemmas.Bool.{eqb-true}
use Rattle.std.proofs.lemmas.List.{drop_all, get_or_default}
use Rattle.std.proofs.lemmas.Bool.Decides.{nat_tests}
use Rattle.std.proofs.Math.Bool.{and-false}
use Rattle.sch_sets.specs.Members.{NumberSet, IsMember, HasNone, IsFirst}
use Rattle.sch_sets.proofs.Membership.{contains-insert}
use Rattle.sch_word.specs.trees.NumberSets.{has, without_repeats}
use Rattle.sch_word.specs.trees.Bindings.{numbers}
use Rattle.sch_word.proofs.facts.Lists.{next_left}
use Rattle.sch_word.proofs.facts.Booleans.{and_left, and_right, and_of, not_true, never_true, or_around}

-- ## What is in a list

pub has_filter : (f : ℕ → Bool) (x : ℕ) (xs : List ℕ) → has x (filter f xs) ≡ (has x xs && f x)
has_filter f x [] = refl
has_filter f x (y ∷ ys) = by (f y) (nat_eq x y) refl refl (has_filter f x ys) where
  by : (t u : Bool) → f y ≡ t → nat_eq x y ≡ u → has x (filter f ys) ≡ (has x ys && f x) → has x (cond t (y ∷ filter f ys) (filter f ys)) ≡ ((u || has x ys) && f x)
  by true true e u h = ap (λ b. b || has x (filter f ys)) u ∙ sym (ap f (eqb-true x y u) ∙ e)
  by true false e u h = ap (λ b. b || has x (filter f ys)) u ∙ h
  by false true e u h = h ∙ (ap (λ b. has x ys && b) (ap f (eqb-true x y u) ∙ e) ∙ (and-false (has x ys) ∙ sym (ap f (eqb-true x y u) ∙ e)))
  by false false e u h = h

has_from : (x k n : ℕ) → has x (numbers k n) ≡ (nat_le k x && nat_lt x (k + n))
has_from x k zero = grind (arith, nat_tests)
has_from x k (suc n) = rw (has_from x (suc k) n) (grind (arith, nat_tests))

pub has_first : (x n : ℕ) → has x (numbers 0 n) ≡ nat_lt x n
has_first x n = has_from x 0 n ∙ grind (arith, nat_tests)

pub all_filter : (p f : ℕ → Bool) (xs : List ℕ) → list_all p xs ≡ true → list_all (λ x. p x && f x) (filter f xs) ≡ true
all_filter p f [] h = refl
all_filter p f (x ∷ xs) h = by (f x) refl (all_filter p f xs (and_right (p x) _ h)) where
  by : (t : Bool) → f x ≡ t → list_all (λ x. p x && f x) (filter f xs) ≡ true → list_all (λ x. p x && f x) (cond t (x ∷ filter f xs) (filter f xs)) ≡ true
  by true e rest = and_of (p x && f x) _ (and_of (p x) (f x) (and_left (p x) _ h) e) rest
  by false e rest = rest

pub once_filter : (f : ℕ → Bool) (xs : List ℕ) → without_repeats xs ≡ true → without_repeats (filter f xs) ≡ true
once_filter f [] h = refl
once_filter f (x ∷ xs) h = by (f x) (once_filter f xs (and_right (not (has x xs)) _ h)) where
  gone : has x xs ≡ false
  gone = not_true (has x xs) (and_left (not (has x xs)) _ h)

  by : (t : Bool) → without_repeats (filter f xs) ≡ true → without_repeats (cond t (x ∷ filter f xs) (filter f xs)) ≡ true
  by true rest = and_of (not (has x (filter f xs))) _ (ap not (has_filter f x xs ∙ ap (λ b. b && f x) gone)) rest
  by false rest = rest

pub below_from : (k n bound : ℕ) → k + n ≤ bound → list_all (λ x. nat_lt x bound) (numbers k n) ≡ true
below_from k zero bound l = refl
below_from k (suc n) bound l =
    let here : nat_lt k bound ≡ true = grind (arith, nat_tests, l) in
    and_of (nat_lt k bound) _ here (below_from (suc k) n bound (omega (arith, l)))

pub all_left : (p q : ℕ → Bool) (xs : List ℕ) → list_all (λ x. p x && q x) xs ≡ true → list_all p xs ≡ true
all_left p q [] h = refl
all_left p q (x ∷ xs) h = and_of (p x) _ (and_left (p x) _ (and_left (p x && q x) _ h)) (all_left p q xs (and_right (p x && q x) _ h))

pub same_filter : (p f g : ℕ → Bool) (xs : List ℕ) → list_all p xs ≡ true → ((x : ℕ) → p x ≡ true → f x ≡ g x) → filter f xs ≡ filter g xs
same_filter p f g [] h e = refl
same_filter p f g (x ∷ xs) h e =
    ap (λ t. cond t (x ∷ filter f xs) (filter f xs)) (e x (and_left (p x) _ h))
    ∙ ap (λ ys. cond (g x) (x ∷ ys) ys) (same_filter p f g xs (and_right (p x) _ h) e)

-- ## The loop that makes a list

pub filter_first : (b : Bool) (k : ℕ) (ys : List ℕ) → cond b (k ∷ []) [] ++ ys ≡ cond b (k ∷ ys) ys
filter_first true k ys = refl
filter_first false k ys = refl

one_kept : (f : ℕ → Bool) (k n : ℕ) → f k ≡ true → filter f (numbers k (suc n)) ≡ k ∷ filter f (numbers (suc k) n)
one_kept f k n on = ap (λ b. cond b (k ∷ filter f (numbers (suc k) n)) (filter f (numbers (suc k) n))) on

one_left : (f : ℕ → Bool) (k n : ℕ) → f k ≡ false → filter f (numbers k (suc n)) ≡ filter f (numbers (suc k) n)
one_left f k n off = ap (λ b. cond b (k ∷ filter f (numbers (suc k) n)) (filter f (numbers (suc k) n))) off

-- where none of n numbers passes, none is kept
none_kept : (f : ℕ → Bool) (k n : ℕ) → ((x : ℕ) → k ≤ x → x < k + n → f x ≡ false) → filter f (numbers k n) ≡ []
none_kept f k zero none = refl
none_kept f k (suc n) none =
    one_left f k n (none k (omega arith) (omega arith)) ∙ none_kept f (suc k) n (λ x l h. none x (omega (arith, l)) (omega (arith, h)))

-- the first one that passes is the first of those that are kept
first_kept : (f : ℕ → Bool) (k d n : ℕ) → ((x : ℕ) → k ≤ x → x < k + d → f x ≡ false) → f (k + d) ≡ true
    → filter f (numbers k (d + suc n)) ≡ (k + d) ∷ filter f (numbers (k + d + 1) n)
first_kept f k zero n none on =
    let size : 0 + suc n ≡ suc n = omega arith in
    let at : k ≡ k + 0 = omega arith in
    let after : suc k ≡ k + 0 + 1 = omega arith in
    ap (λ j. filter f (numbers k j)) size
    ∙ (one_kept f k n (ap f at ∙ on) ∙ (ap (λ z. z ∷ filter f (numbers (suc k) n)) at ∙ ap (λ z. (k + 0) ∷ filter f (numbers z n)) after))
first_kept f k (suc d) n none on =
    let size : suc d + suc n ≡ suc (d + suc n) = omega arith in
    let at : suc k + d ≡ k + suc d = omega arith in
    ap (λ j. filter f (numbers k j)) size
    ∙ (one_left f k (d + suc n) (none k (omega arith) (omega arith))
    ∙ (first_kept f (suc k) d n (λ x l h. none x (omega (arith, l)) (omega (arith, h))) (ap f at ∙ on) ∙ ap (λ z. z ∷ filter f (numbers (z + 1) n)) at))

not_member : (s : NumberSet) (x : ℕ) → (IsMember x s → ⊥) → set.contains s x ≡ false
not_member s x none = never_true (set.contains s x) none

-- a turn: the first member from k on comes to those that are listed
pub members_turn : (s : NumberSet) (xs xs' whole : List ℕ) (k x n : ℕ) → IsFirst k n s x → xs' ≡ xs ++ (x ∷ [])
    → xs ++ filter (set.contains s) (numbers k (n - k)) ≡ whole → xs' ++ filter (set.contains s) (numbers (x + 1) (n - (x + 1))) ≡ whole
members_turn s xs xs' whole k x n first pushed e =
    let f : ℕ → Bool = set.contains s in
    let least : k ≤ x = first.0 in
    let high : x < n = first.1.0 in
    let at : k + (x - k) ≡ x = omega (arith, least) in
    let size : n - k ≡ (x - k) + suc (n - (x + 1)) = omega (arith, least, high) in
    let none : (y : ℕ) → k ≤ y → y < k + (x - k) → f y ≡ false = λ y l h. not_member s y (first.1.1.1 y l (omega (arith, h, at))) in
    let kept : filter f (numbers k ((x - k) + suc (n - (x + 1)))) ≡ x ∷ filter f (numbers (x + 1) (n - (x + 1)))
    = subst (λ z. filter f (numbers k ((x - k) + suc (n - (x + 1)))) ≡ z ∷ filter f (numbers (z + 1) (n - (x + 1)))) at
    (first_kept f k (x - k) (n - (x + 1)) none (subst (λ z. f z ≡ true) (sym at) first.1.1.0)) in
    ap (λ l. l ++ filter f (numbers (x + 1) (n - (x + 1)))) pushed
    ∙ (append_assoc xs (x ∷ []) (filter f (numbers (x + 1) (n - (x + 1))))
    ∙ (ap (λ l. xs ++ l) (sym (ap (λ j. filter f (numbers k j)) size ∙ kept)) ∙ e))

pub members_end : (s : NumberSet) (xs whole : List ℕ) (k n : ℕ) → HasNone k n s → xs ++ filter (set.contains s) (numbers k (n - k)) ≡ whole → xs ≡ whole
members_end s xs whole k n none e =
    let f : ℕ → Bool = set.contains s in
    let gone : filter f (numbers k (n - k)) ≡ [] = none_kept f k (n - k) (λ x l h. not_member s x (none x l (omega (arith, l, h)))) in
    sym (ap (λ l. xs ++ l) gone ∙ append-nil xs) ∙ e

-- ## Loops over a list

next_number : (xs : List ℕ) (i : ℕ) → i < length xs → drop i xs ≡ get_or xs i 0 ∷ drop (suc i) xs
next_number xs i l = next_left xs i (get_or xs i 0) l (get_or_default xs i 0 (get_or xs i 0) l)

pub others_turn : (f : ℕ → Bool) (xs ys ys' : List ℕ) (i : ℕ) → i < length xs → ys' ≡ ys ++ filter f (get_or xs i 0 ∷ [])
    → ys ++ filter f (drop i xs) ≡ filter f xs → ys' ++ filter f (drop (i + 1) xs) ≡ filter f xs
others_turn f xs ys ys' i l h e =
    let x = get_or xs i 0 in
    let e' : ys ++ filter f (x ∷ drop (suc i) xs) ≡ filter f xs = subst (λ r. ys ++ filter f r ≡ filter f xs) (next_number xs i l) e in
    rw (h, add-one) (append_assoc ys (filter f (x ∷ [])) (filter f (drop (suc i) xs)) ∙ ap (λ r. ys ++ r) (filter_first (f x) x (filter f (drop (suc i) xs))) ∙ e')

pub others_end : (f : ℕ → Bool) (xs ys : List ℕ) (i : ℕ) → length xs ≤ i → ys ++ filter f (drop i xs) ≡ filter f xs → ys ≡ filter f xs
others_end f xs ys i l e = sym (append-nil ys) ∙ subst (λ r. ys ++ filter f r ≡ filter f xs) (drop_all i xs l) e

-- the next one passes, and so do the others
pub below_turn : (p : ℕ → Bool) (xs : List ℕ) (i : ℕ) → i < length xs → list_all p (drop i xs) ≡ true → (p (get_or xs i 0) ≡ true) × (list_all p (drop (i + 1) xs) ≡ true)
below_turn p xs i l h =
    let x = get_or xs i 0 in
    let h' : (p x && list_all p (drop (suc i) xs)) ≡ true = subst (λ r. list_all p r ≡ true) (next_number xs i l) h in
    (and_left (p x) _ h', rw add-one (and_right (p x) _ h'))

pub all_turn : (s s' : NumberSet) (xs : List ℕ) (i : ℕ) (whole : ℕ → Bool) → i < length xs → s' ≡ set.insert s (get_or xs i 0)
    → ((y : ℕ) → (has y (drop i xs) || set.contains s y) ≡ whole y) → (y : ℕ) → (has y (drop (i + 1) xs) || set.contains s' y) ≡ whole y
all_turn s s' xs i whole l h e y =
    let x = get_or xs i 0 in
    let e' : ((nat_eq y x || has y (drop (suc i) xs)) || set.contains s y) ≡ whole y = subst (λ r. (has y r || set.contains s y) ≡ whole y) (next_number xs i l) (e y) in
    rw (h, add-one) (ap (λ b. has y (drop (suc i) xs) || b) (contains-insert s x y) ∙ or_around (nat_eq y x) (has y (drop (suc i) xs)) (set.contains s y) ∙ e')

pub all_end : (s : NumberSet) (xs : List ℕ) (i : ℕ) (whole : ℕ → Bool) → length xs ≤ i → ((y : ℕ) → (has y (drop i xs) || set.contains s y) ≡ whole y) → (y : ℕ) → set.contains s y ≡ whole y
all_end s xs i whole l e y = subst (λ r. (has y r || set.contains s y) ≡ whole y) (drop_all i xs l) (e y)

-- ## Sets

-- what is listed of a set is in it
pub has_items : (s : NumberSet) (x : ℕ) → set.contains s x ≡ has x (set.items s)
has_items s x = set.contains-items s x ∙ go (set.items s) where
  go : (ks : List ℕ) → list_any (eq_by_cmp nat_cmp x) ks ≡ has x ks
  go [] = refl
  go (k ∷ ks) = ap (λ b. b || list_any (eq_by_cmp nat_cmp x) ks) (unsigned_tied x k) ∙ ap (λ b. nat_eq x k || b) (go ks)

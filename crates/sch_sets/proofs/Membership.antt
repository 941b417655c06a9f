-- Which numbers are in the sets that the calls make: as equations of tests, and as facts. Callers name the ruleset `sets`, at
-- the end, and cite the lemmas in proofs by hand.
use Rattle.std.proofs.Common.{◌≡◌, ◌≢◌, ◌↔◌, ◌⊎◌, ◌∙◌, ℕ, ◌<◌, true, false, List, [], ◌∷◌, nat_eq, refl, ap, sym, inl, inr, arith}
use Rattle.std.specs.Prelude.{◌&&◌, ◌||◌, not}
use Rattle.std.specs.List.{list_any}
use Rattle.std.specs.Ordering.{nat_cmp, eq_by_cmp}
use Rattle.std.specs.Cmp.{unsigned_tied}
use Rattle.std.proofs.lemmas.Cmp.{nat_cmp_total}
use Rattle.std.proofs.lemmas.Bool.Decides.{nat_tests}
use Rattle.std.specs.FinSet as set
use Rattle.sch_sets.specs.Members.{NumberSet, IsMember, HasMember, IsSubset, IsBelow}

-- ## Tests: whether a number is in what a call makes, by whether it was in what the call took

pub contains-empty : (v : ℕ) → set.contains (set.empty {R = nat_cmp}) v ≡ false
contains-empty v = set.contains-empty nat_cmp v

pub contains-insert : (s : NumberSet) (u v : ℕ) → set.contains (set.insert s u) v ≡ (nat_eq v u || set.contains s v)
contains-insert s u v = rw (← unsigned_tied v u) (set.contains-insert nat_cmp_total s u v)

pub contains-remove : (s : NumberSet) (u v : ℕ) → set.contains (set.remove s u) v ≡ (not (nat_eq v u) && set.contains s v)
contains-remove s u v = rw (← unsigned_tied v u) (set.contains-remove nat_cmp_total s u v)

pub contains-union : (s t : NumberSet) (v : ℕ) → set.contains (set.union s t) v ≡ (set.contains s v || set.contains t v)
contains-union s t v = set.contains-union nat_cmp_total s t v

pub contains-intersection : (s t : NumberSet) (v : ℕ)
    → set.contains (set.intersection s t) v ≡ (set.contains s v && set.contains t v)
contains-intersection s t v = set.contains-intersection nat_cmp_total s t v

pub contains-difference : (s t : NumberSet) (v : ℕ)
    → set.contains (set.difference s t) v ≡ (set.contains s v && not (set.contains t v))
contains-difference s t v = set.contains-difference nat_cmp_total s t v

-- all of these, to rewrite by
pub ruleset tests = (contains-empty, contains-insert, contains-remove, contains-union, contains-intersection, contains-difference, nat_tests)

-- ## Facts: when a number is in what a call makes, for a proof that takes a membership apart or builds one

-- to split a proof by whether a number is in a set
pub member_or_not : (s : NumberSet) (v : ℕ) → IsMember v s ⊎ (IsMember v s → ⊥)
member_or_not s v = grind arith

pub member-empty : (v : ℕ) → IsMember v set.empty → ⊥
member-empty v = grind (arith, tests)

pub member-insert : (s : NumberSet) (u v : ℕ) → IsMember v (set.insert s u) ↔ ((v ≡ u) ⊎ IsMember v s)
member-insert s u v = grind (arith, tests)

pub member-remove : (s : NumberSet) (u v : ℕ) → IsMember v (set.remove s u) ↔ ((v ≢ u) × IsMember v s)
member-remove s u v = grind (arith, tests)

pub member-union : (s t : NumberSet) (v : ℕ) → IsMember v (set.union s t) ↔ (IsMember v s ⊎ IsMember v t)
member-union s t v = grind (arith, tests)

pub member-intersection : (s t : NumberSet) (v : ℕ) → IsMember v (set.intersection s t) ↔ (IsMember v s × IsMember v t)
member-intersection s t v = grind (arith, tests)

pub member-difference : (s t : NumberSet) (v : ℕ) → IsMember v (set.difference s t) ↔ (IsMember v s × (IsMember v t → ⊥))
member-difference s t v = grind (arith, tests)

-- ## Sets that are equal, and empty ones

-- two sets are equal where the same tests are true
pub same_tests : (s t : NumberSet) → ((v : ℕ) → set.contains s v ≡ set.contains t v) → s ≡ t
same_tests s t same = set.same_set nat_cmp_total set.nat_cmp-IsAntisymmetric s t same

-- two sets are equal where they have the same members
pub same_members : (s t : NumberSet) → ((v : ℕ) → IsMember v s ↔ IsMember v t) → s ≡ t
same_members s t same = same_tests s t (λ v. grind (arith, same v))

-- a set with no member is the empty one
pub empty_of_none : (s : NumberSet) → ((v : ℕ) → IsMember v s → ⊥) → s ≡ set.empty
empty_of_none s none = same_tests s set.empty (λ v. grind (arith, tests, none v))

-- a set that equals the empty one has no member
pub none_of_empty : (s : NumberSet) → s ≡ set.empty → (v : ℕ) → IsMember v s → ⊥
none_of_empty s none v = rw none (member-empty v)

-- to split a proof by whether a set is empty
pub empty_or_member : (s : NumberSet) → (s ≡ set.empty) ⊎ HasMember s
empty_or_member s = go (set.items s) refl
  where
    first : (k : ℕ) (ks : List ℕ) → list_any (eq_by_cmp nat_cmp k) (k ∷ ks) ≡ true
    first k ks = rw (unsigned_tied k k) (grind (arith, nat_tests))

    go : (ks : List ℕ) → set.items s ≡ ks → (s ≡ set.empty) ⊎ HasMember s
    go [] none =
        inl (same_tests s set.empty (λ v. set.contains-items s v ∙ ap (list_any (eq_by_cmp nat_cmp v)) none ∙ sym (contains-empty v)))
    go (k ∷ ks) some = inr (k, set.contains-items s k ∙ ap (list_any (eq_by_cmp nat_cmp k)) some ∙ first k ks)

-- ## Subsets: an order, in which a union is a least upper bound and a meet a greatest lower one

pub subset-refl : (s : NumberSet) → IsSubset s s
subset-refl s v m = m

pub subset-trans : (s t u : NumberSet) → IsSubset s t → IsSubset t u → IsSubset s u
subset-trans s t u first second v m = second v (first v m)

pub subset-antisym : (s t : NumberSet) → IsSubset s t → IsSubset t s → s ≡ t
subset-antisym s t there back = same_members s t (λ v. (there v, back v))

pub subset-empty : (s : NumberSet) → IsSubset set.empty s
subset-empty s v m = absurd (member-empty v m)

pub subset-union_left : (s t : NumberSet) → IsSubset s (set.union s t)
subset-union_left s t v m = (member-union s t v).1 (inl m)

pub subset-union_right : (s t : NumberSet) → IsSubset t (set.union s t)
subset-union_right s t v m = (member-union s t v).1 (inr m)

-- to show a union a subset
pub subset-union : (s t u : NumberSet) → IsSubset s u → IsSubset t u → IsSubset (set.union s t) u
subset-union s t u left right v m = elim ((member-union s t v).0 m) [ inl l ↦ left v l | inr r ↦ right v r ]

pub subset-intersection_left : (s t : NumberSet) → IsSubset (set.intersection s t) s
subset-intersection_left s t v m = ((member-intersection s t v).0 m).0

pub subset-intersection_right : (s t : NumberSet) → IsSubset (set.intersection s t) t
subset-intersection_right s t v m = ((member-intersection s t v).0 m).1

-- to show a subset of a meet
pub subset-intersection : (s t u : NumberSet) → IsSubset u s → IsSubset u t → IsSubset u (set.intersection s t)
subset-intersection s t u left right v m = (member-intersection s t v).1 (left v m, right v m)

pub subset-difference : (s t : NumberSet) → IsSubset (set.difference s t) s
subset-difference s t v m = ((member-difference s t v).0 m).0

pub subset-insert : (s : NumberSet) (u : ℕ) → IsSubset s (set.insert s u)
subset-insert s u v m = (member-insert s u v).1 (inr m)

pub subset-remove : (s : NumberSet) (u : ℕ) → IsSubset (set.remove s u) s
subset-remove s u v m = ((member-remove s u v).0 m).1

-- ## What an empty meet and an empty difference say

-- from an empty meet: no number is in both sets
pub apart_of_empty : (s t : NumberSet) → set.intersection s t ≡ set.empty → (v : ℕ) → IsMember v s → IsMember v t → ⊥
apart_of_empty s t none v in_s in_t = none_of_empty _ none v ((member-intersection s t v).1 (in_s, in_t))

-- to show a meet empty
pub empty_of_apart : (s t : NumberSet) → ((v : ℕ) → IsMember v s → IsMember v t → ⊥) → set.intersection s t ≡ set.empty
empty_of_apart s t none = empty_of_none _ (λ v m. let both = (member-intersection s t v).0 m in none v both.0 both.1)

-- from an empty difference: the first set is a subset of the second
pub subset_of_empty : (s t : NumberSet) → set.difference s t ≡ set.empty → (v : ℕ) → IsMember v s → IsMember v t
subset_of_empty s t none v m = grind (arith, none_of_empty _ none v, member-difference s t v, m)

-- to show a difference empty
pub empty_of_subset : (s t : NumberSet) → IsSubset s t → set.difference s t ≡ set.empty
empty_of_subset s t within = empty_of_none _ (λ v m. let left = (member-difference s t v).0 m in left.1 (within v left.0))

-- ## Bounds: what is below one in what a call takes is below it in what the call makes

pub below-subset : (bound : ℕ) (s t : NumberSet) → IsSubset s t → IsBelow bound t → IsBelow bound s
below-subset bound s t within below v m = below v (within v m)

pub below-insert : (bound : ℕ) (s : NumberSet) (u : ℕ) → u < bound → IsBelow bound s → IsBelow bound (set.insert s u)
below-insert bound s u small below v m = elim ((member-insert s u v).0 m) [ inl same ↦ rw same small | inr there ↦ below v there ]

pub below-union : (bound : ℕ) (s t : NumberSet) → IsBelow bound s → IsBelow bound t → IsBelow bound (set.union s t)
below-union bound s t left right v m = elim ((member-union s t v).0 m) [ inl l ↦ left v l | inr r ↦ right v r ]

-- What a caller names, as `#[tactic(auto, using(sch_sets::proofs::Membership::sets))]`: its goals on members, subsets, bounds
-- and empty sets then need no answer.
pub ruleset sets = (tests, same_members, apart_of_empty, empty_of_apart, subset_of_empty, empty_of_subset)

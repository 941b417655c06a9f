-- How what is counted over a tree goes together with what is counted over another: a relation between
-- counts, as equality, implication or a bound, that the joining of counts keeps. A pass that relates its
-- answer's nodes to its argument's, one by one, has so related every count over the whole trees.
use Rattle.std.proofs.Common.{◌≡◌, ℕ, ◌+◌, ◌≤◌, Bool, true, refl, ◌∙◌, arith}
use Rattle.std.specs.Prelude.{IsTrue, ◌&&◌}
use Rattle.sch_word.proofs.facts.Booleans.{and_of, and_parts}

pub record Joins {A : Type 0} (Related : A → A → Type 0) (nothing : A) (join : A → A → A) : Type 0 where
  pub empty : Related nothing nothing
  pub joined : (a a' b b' : A) → Related a a' → Related b b' → Related (join a b) (join a' b')

abbrev pub Equal : {A : Type 0} → A → A → Type 0
Equal a b = b ≡ a

-- equality is kept by any joining
pub equal_joins : {A : Type 0} (nothing : A) (join : A → A → A) → Joins Equal nothing join
equal_joins nothing join = record { empty = refl; joined = λ a a' b b' p q. rw (p, q) refl }

-- what holds of one holds of the other
abbrev pub Implies : Bool → Bool → Type 0
Implies a b = IsTrue a → IsTrue b

pub implies_joins : Joins Implies true (λ a b. a && b)
implies_joins = record { empty = λ h. h; joined = λ a a' b b' p q h. let k = and_parts a b h in and_of a' b' (p k.0) (q k.1) }

pub same_implies : {a b : Bool} → Equal a b → Implies a b
same_implies e h = e ∙ h

-- the second holds
abbrev pub Holds : Bool → Bool → Type 0
Holds a b = IsTrue b

pub holds_joins : Joins Holds true (λ a b. a && b)
holds_joins = record { empty = refl; joined = λ a a' b b' p q. and_of a' b' p q }

-- the second is at most the first
abbrev pub AtMost : ℕ → ℕ → Type 0
AtMost a b = b ≤ a

pub at_most_joins : Joins AtMost 0 (λ a b. a + b)
at_most_joins = record { empty = omega arith; joined = λ a a' b b' p q. omega (arith, p, q) }

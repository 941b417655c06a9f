-- What each variable of a list has, and what stands in the lists of members and of heads of regions.
use Rattle.std.proofs.Common.{◌≡◌, ℕ, Bool, true, false, List, [], ◌∷◌, refl, ap, sym, ◌∙◌, subst}
use Rattle.std.specs.Prelude.{nat_eq, ◌||◌}
use Rattle.std.proofs.lemmas.Bool.{eqb-true, eq-eqb}
use Rattle.sch_word.specs.trees.NumberSets.{has, unless}
use Rattle.sch_word.proofs.facts.Booleans.{or_left, or_right, false_true}
use Rattle.sch_control.specs.declared.operation.Member.{Member}
use Rattle.sch_control.specs.Meaning.{among, binds, heads}
use Rattle.sch_control.specs.Tree.{Expression}
use Rattle.sch_control.specs.Valid.{member_variables}
use Rattle.sch_control.specs.flow.Apart.{EachHas}

-- ## What each variable of a list has

pub each_at : (P : ℕ → Type 0) (ys : List ℕ) → EachHas P ys → (x : ℕ) → has x ys ≡ true → P x
each_at P [] h x m = absurd (cc)
each_at P (y ∷ ys) h x m = by (nat_eq x y) refl (each_at P ys h.1 x) m where
  by : (t : Bool) → nat_eq x y ≡ t → (has x ys ≡ true → P x) → (t || has x ys) ≡ true → P x
  by true e f m = subst P (sym (eqb-true x y e)) h.0
  by false e f m = f m

pub each_of : (P : ℕ → Type 0) (ys : List ℕ) → ((x : ℕ) → has x ys ≡ true → P x) → EachHas P ys
each_of P [] f = tt
each_of P (y ∷ ys) f = (f y (ap (λ t. t || has y ys) (eq-eqb y y refl)), each_of P ys (λ x h. f x (or_right (nat_eq x y) (has x ys) h)))

pub each_more : (P Q : ℕ → Type 0) → ((x : ℕ) → P x → Q x) → (xs : List ℕ) → EachHas P xs → EachHas Q xs
each_more P Q f [] h = tt
each_more P Q f (x ∷ xs) h = (f x h.0, each_more P Q f xs h.1)

-- ## Members and heads

pub among_is : (x : ℕ) (members : List (Member ℕ)) → among x members ≡ has x (member_variables members)
among_is x [] = refl
among_is x (m ∷ members) = ap (λ t. nat_eq x m.at || t) (among_is x members)

-- at the head of a region stands what it saves and does not bind
pub heads_has : (e : Expression) (xs : List ℕ) (z : ℕ) → has z xs ≡ true → binds z e ≡ false → has z (heads e xs) ≡ true
heads_has e [] z h n = absurd (cc)
heads_has e (x ∷ xs) z h n = by (nat_eq z x) refl (binds x e) refl h (λ h. heads_has e xs z h n) where
  by : (t : Bool) → nat_eq z x ≡ t → (b : Bool) → binds x e ≡ b → (t || has z xs) ≡ true → (has z xs ≡ true → has z (heads e xs) ≡ true) → has z (unless b x (heads e xs)) ≡ true
  by true i true b h more = absurd (false_true b (ap (λ y. binds y e) (sym (eqb-true z x i)) ∙ n))
  by true i false b h more = or_left (nat_eq z x) _ i
  by false i true b h more = more h
  by false i false b h more = or_right (nat_eq z x) _ (more h)

-- Parts keep their places, have no word in common, and a new one lies behind the others.
use Rattle.std.proofs.Common.{◌≡◌, ℕ, suc, ◌+◌, ◌≤◌, List, [], ◌∷◌, ◌++◌, Bool, true, false, cond, Some, None, refl, sym, ap, ◌∙◌, subst, arith, ◌⊎◌, inl, inr, ⊎_elim, eq-eqb, ◌||◌}
use Rattle.std.proofs.lemmas.Bool.{eqb-true}
use Rattle.sch_select_memory.specs.Parts.{Owner, a_procedure, a_cell, a_pair, a_vector, a_string, same_owner, Part, Parts, units, end_of, Spot, spot_from, spot, grown}

-- ---- owners

pub owner_same : (o : Owner) → same_owner o o ≡ true
owner_same (a_procedure n) = eq-eqb n n refl
owner_same (a_cell n) = eq-eqb n n refl
owner_same (a_pair n) = eq-eqb n n refl
owner_same (a_vector n) = eq-eqb n n refl
owner_same (a_string n) = eq-eqb n n refl

pub same_says : (a b : Owner) → same_owner a b ≡ true → a ≡ b
same_says (a_procedure m) (a_procedure n) e = ap a_procedure (eqb-true m n e)
same_says (a_cell m) (a_cell n) e = ap a_cell (eqb-true m n e)
same_says (a_pair m) (a_pair n) e = ap a_pair (eqb-true m n e)
same_says (a_vector m) (a_vector n) e = ap a_vector (eqb-true m n e)
same_says (a_string m) (a_string n) e = ap a_string (eqb-true m n e)
same_says (a_procedure m) (a_cell n) e = absurd (let bad : false ≡ true = e in cc)
same_says (a_procedure m) (a_pair n) e = absurd (let bad : false ≡ true = e in cc)
same_says (a_procedure m) (a_vector n) e = absurd (let bad : false ≡ true = e in cc)
same_says (a_procedure m) (a_string n) e = absurd (let bad : false ≡ true = e in cc)
same_says (a_cell m) (a_procedure n) e = absurd (let bad : false ≡ true = e in cc)
same_says (a_cell m) (a_pair n) e = absurd (let bad : false ≡ true = e in cc)
same_says (a_cell m) (a_vector n) e = absurd (let bad : false ≡ true = e in cc)
same_says (a_cell m) (a_string n) e = absurd (let bad : false ≡ true = e in cc)
same_says (a_pair m) (a_procedure n) e = absurd (let bad : false ≡ true = e in cc)
same_says (a_pair m) (a_cell n) e = absurd (let bad : false ≡ true = e in cc)
same_says (a_pair m) (a_vector n) e = absurd (let bad : false ≡ true = e in cc)
same_says (a_pair m) (a_string n) e = absurd (let bad : false ≡ true = e in cc)
same_says (a_vector m) (a_procedure n) e = absurd (let bad : false ≡ true = e in cc)
same_says (a_vector m) (a_cell n) e = absurd (let bad : false ≡ true = e in cc)
same_says (a_vector m) (a_pair n) e = absurd (let bad : false ≡ true = e in cc)
same_says (a_vector m) (a_string n) e = absurd (let bad : false ≡ true = e in cc)
same_says (a_string m) (a_procedure n) e = absurd (let bad : false ≡ true = e in cc)
same_says (a_string m) (a_cell n) e = absurd (let bad : false ≡ true = e in cc)
same_says (a_string m) (a_pair n) e = absurd (let bad : false ≡ true = e in cc)
same_says (a_string m) (a_vector n) e = absurd (let bad : false ≡ true = e in cc)

-- ---- one part, by a case on its owner

-- the first part is the one, or another is behind it
by_first : (unit : ℕ) (p : Part) (parts : List Part) (o : Owner) (at : Spot) (A : Type 0) → spot_from unit (p ∷ parts) o ≡ Some at
    → (same_owner p.owner o ≡ true → record { unit = unit; more = p.more } ≡ at → A)
    → (same_owner p.owner o ≡ false → spot_from (unit + suc p.more) parts o ≡ Some at → A) → A
by_first unit p parts o at A e here there = by (same_owner p.owner o) refl
  where
    by : (b : Bool) → same_owner p.owner o ≡ b → A
    by true s =
        let f : Some (record { unit = unit; more = p.more }) ≡ Some at = sym (ap (λ b. cond b (Some (record { unit = unit; more = p.more })) (spot_from (unit + suc p.more) parts o)) s) ∙ e in
        here s cc
    by false s = there s (sym (ap (λ b. cond b (Some (record { unit = unit; more = p.more })) (spot_from (unit + suc p.more) parts o)) s) ∙ e)

pub found_first : (unit : ℕ) (p : Part) (parts : List Part) (o : Owner) → same_owner p.owner o ≡ true → spot_from unit (p ∷ parts) o ≡ Some (record { unit = unit; more = p.more })
found_first unit p parts o s = ap (λ b. cond b (Some (record { unit = unit; more = p.more })) (spot_from (unit + suc p.more) parts o)) s

pub found_behind : (unit : ℕ) (p : Part) (parts : List Part) (o : Owner) → same_owner p.owner o ≡ false → spot_from unit (p ∷ parts) o ≡ spot_from (unit + suc p.more) parts o
found_behind unit p parts o s = ap (λ b. cond b (Some (record { unit = unit; more = p.more })) (spot_from (unit + suc p.more) parts o)) s

-- ---- where a part is

within_from : (unit : ℕ) (parts : List Part) (o : Owner) (at : Spot) → spot_from unit parts o ≡ Some at → (unit ≤ at.unit) × (at.unit + suc at.more ≤ unit + units parts)
within_from unit [] o at e = absurd (let bad : None ≡ Some at = e in cc)
within_from unit (p ∷ parts) o at e =
    by_first unit p parts o at ((unit ≤ at.unit) × (at.unit + suc at.more ≤ unit + units (p ∷ parts))) e
    (λ s f. let u : unit ≡ at.unit = ap (λ t. t.unit) f in let m : p.more ≡ at.more = ap (λ t. t.more) f in (omega (arith, u), omega (arith, u, m)))
    (λ s f. let r = within_from (unit + suc p.more) parts o at f in let a = r.0 in let b = r.1 in (omega (arith, a), omega (arith, b)))

pub spot_within : (parts : Parts) (o : Owner) (at : Spot) → spot parts o ≡ Some at → (parts.first ≤ at.unit) × (at.unit + suc at.more ≤ end_of parts)
spot_within parts o at e = within_from parts.first parts.list o at e

-- a part stays where it is
stays_from : (unit : ℕ) (parts others : List Part) (o : Owner) (at : Spot) → spot_from unit parts o ≡ Some at → spot_from unit (parts ++ others) o ≡ Some at
stays_from unit [] others o at e = absurd (let bad : None ≡ Some at = e in cc)
stays_from unit (p ∷ parts) others o at e =
    by_first unit p parts o at (spot_from unit (p ∷ (parts ++ others)) o ≡ Some at) e
    (λ s f. found_first unit p (parts ++ others) o s ∙ ap Some f)
    (λ s f. found_behind unit p (parts ++ others) o s ∙ stays_from (unit + suc p.more) parts others o at f)

pub spot_stays : (parts : Parts) (others : List Part) (o : Owner) (at : Spot) → spot parts o ≡ Some at → spot (grown parts others) o ≡ Some at
spot_stays parts others o at e = stays_from parts.first parts.list others o at e

-- two parts have no unit in common
abbrev pub AreApart : Spot → Spot → Type 0
AreApart s t = (s.unit + suc s.more ≤ t.unit) ⊎ (t.unit + suc t.more ≤ s.unit)

apart_from : (unit : ℕ) (parts : List Part) (a b : Owner) (s t : Spot) → spot_from unit parts a ≡ Some s → spot_from unit parts b ≡ Some t → same_owner a b ≡ false → AreApart s t
apart_from unit [] a b s t e f n = absurd (let bad : None ≡ Some s = e in cc)
apart_from unit (p ∷ parts) a b s t e f n =
    by_first unit p parts a s (AreApart s t) e
    (λ i is. by_first unit p parts b t (AreApart s t) f
    (λ j js. let both : same_owner a b ≡ true = subst (λ x. same_owner x b ≡ true) (same_says p.owner a i) j in absurd (let bad : true ≡ false = sym both ∙ n in cc))
    (λ j js. let u : unit ≡ s.unit = ap (λ t. t.unit) is in let m : p.more ≡ s.more = ap (λ t. t.more) is in let w = (within_from (unit + suc p.more) parts b t js).0 in inl (omega (arith, u, m, w))))
    (λ i is. by_first unit p parts b t (AreApart s t) f
    (λ j js. let u : unit ≡ t.unit = ap (λ t. t.unit) js in let m : p.more ≡ t.more = ap (λ t. t.more) js in let w = (within_from (unit + suc p.more) parts a s is).0 in inr (omega (arith, u, m, w)))
    (λ j js. apart_from (unit + suc p.more) parts a b s t is js n))

pub spots_apart : (parts : Parts) (a b : Owner) (s t : Spot) → spot parts a ≡ Some s → spot parts b ≡ Some t → same_owner a b ≡ false → AreApart s t
spots_apart parts a b s t e f n = apart_from parts.first parts.list a b s t e f n

-- ---- a new part

by_absent : (unit : ℕ) (p : Part) (parts : List Part) (o : Owner) (b : Bool) → same_owner p.owner o ≡ b → spot_from unit (p ∷ parts) o ≡ None
    → (same_owner p.owner o ≡ false) × (spot_from (unit + suc p.more) parts o ≡ None)
by_absent unit p parts o true s e = absurd (let bad : Some (record { unit = unit; more = p.more }) ≡ None = sym (found_first unit p parts o s) ∙ e in cc)
by_absent unit p parts o false s e = (s, sym (found_behind unit p parts o s) ∙ e)

newest_from : (unit : ℕ) (parts : List Part) (o : Owner) (more : ℕ) (others : List Part) → spot_from unit parts o ≡ None
    → spot_from unit (parts ++ (record { owner = o; more = more } ∷ others)) o ≡ Some (record { unit = unit + units parts; more = more })
newest_from unit [] o more others e = found_first unit (record { owner = o; more = more }) others o (owner_same o)
    ∙ (let z : unit ≡ unit + 0 = omega arith in ap (λ u. Some (record { unit = u; more = more })) z)
newest_from unit (p ∷ parts) o more others e =
    let h = by_absent unit p parts o (same_owner p.owner o) refl e in
    found_behind unit p (parts ++ (record { owner = o; more = more } ∷ others)) o h.0
    ∙ newest_from (unit + suc p.more) parts o more others h.1
    ∙ (let z : unit + suc p.more + units parts ≡ unit + units (p ∷ parts) = omega arith in ap (λ u. Some (record { unit = u; more = more })) z)

-- it lies behind the others
pub spot_newest : (parts : Parts) (o : Owner) (more : ℕ) (others : List Part) → spot parts o ≡ None
    → spot (grown parts (record { owner = o; more = more } ∷ others)) o ≡ Some (record { unit = end_of parts; more = more })
spot_newest parts o more others e = newest_from parts.first parts.list o more others e

other_from : (unit : ℕ) (parts : List Part) (o n : Owner) (more : ℕ) → spot_from unit parts o ≡ None → same_owner n o ≡ false
    → spot_from unit (parts ++ record { owner = n; more = more } ∷ []) o ≡ None
other_from unit [] o n more e s = found_behind unit (record { owner = n; more = more }) [] o s
other_from unit (p ∷ parts) o n more e s =
    let h = by_absent unit p parts o (same_owner p.owner o) refl e in
    found_behind unit p (parts ++ record { owner = n; more = more } ∷ []) o h.0 ∙ other_from (unit + suc p.more) parts o n more h.1 s

-- who has no part still has none
pub spot_other : (parts : Parts) (o n : Owner) (more : ℕ) → spot parts o ≡ None → same_owner n o ≡ false → spot (grown parts (record { owner = n; more = more } ∷ [])) o ≡ None
spot_other parts o n more e s = other_from parts.first parts.list o n more e s

pub units_append : (xs ys : List Part) → units (xs ++ ys) ≡ units xs + units ys
units_append [] ys = omega arith
units_append (x ∷ xs) ys = let h = units_append xs ys in omega (arith, h)

pub end_grown : (parts : Parts) (others : List Part) → end_of (grown parts others) ≡ end_of parts + units others
end_grown parts others = let h = units_append parts.list others in omega (arith, h)

-- ---- among more parts

abbrev pub among : List Part → Owner → Bool
among [] o = false
among (p ∷ parts) o = same_owner p.owner o || among parts o

found_among : (unit : ℕ) (parts : List Part) (o : Owner) (at : Spot) → spot_from unit parts o ≡ Some at → among parts o ≡ true
found_among unit [] o at e = absurd (let bad : None ≡ Some at = e in cc)
found_among unit (p ∷ parts) o at e =
    by_first unit p parts o at (among (p ∷ parts) o ≡ true) e
    (λ s f. ap (λ b. b || among parts o) s)
    (λ s f. ap (λ b. b || among parts o) s ∙ found_among (unit + suc p.more) parts o at f)

split_from : (unit : ℕ) (parts others : List Part) (o : Owner) (at : Spot) → spot_from unit (parts ++ others) o ≡ Some at → (spot_from unit parts o ≡ Some at) ⊎ (among others o ≡ true)
split_from unit [] others o at e = inr (found_among unit others o at e)
split_from unit (p ∷ parts) others o at e =
    by_first unit p (parts ++ others) o at ((spot_from unit (p ∷ parts) o ≡ Some at) ⊎ (among others o ≡ true)) e
    (λ s f. inl (found_first unit p parts o s ∙ ap Some f))
    (λ s f. ⊎_elim (λ h. inl (found_behind unit p parts o s ∙ h)) (λ h. inr h) (split_from (unit + suc p.more) parts others o at f))

-- a part is one of the old, or its owner is among those of the new
pub spot_split : (parts : Parts) (others : List Part) (o : Owner) (at : Spot) → spot (grown parts others) o ≡ Some at → (spot parts o ≡ Some at) ⊎ (among others o ≡ true)
spot_split parts others o at e = split_from parts.first parts.list others o at e

-- ---- an owner for each place

pub same_place : (parts : Parts) (a b : Owner) (s t : Spot) → spot parts a ≡ Some s → spot parts b ≡ Some t → s.unit ≡ t.unit → same_owner a b ≡ true
same_place parts a b s t e f u = by (same_owner a b) refl
  where
    by : (q : Bool) → same_owner a b ≡ q → same_owner a b ≡ true
    by true q = q
    by false q = absurd (apart (spots_apart parts a b s t e f q))
      where
        apart : AreApart s t → ⊥
        apart (inl le) = omega (arith, le, u)
        apart (inr le) = omega (arith, le, u)

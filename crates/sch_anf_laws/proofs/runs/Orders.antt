-- An order in which some parts come first gives the values of all parts, where the others change nothing.
use Rattle.std.proofs.Common.{◌≡◌, ℕ, zero, suc, ◌+◌, ◌<◌, Bool, true, false, not, List, [], ◌∷◌, ◌++◌, length, Some, refl, sym, ap, ◌∙◌, arith}
use Rattle.std.specs.Prelude.{slice_get, slice_set, nat_eq, nat_lt, ◌||◌}
use Rattle.std.proofs.lemmas.Bool.{eq-eqb, eqb-true, eqb-false, ltb-true, ltb-false}
use Rattle.std.proofs.lemmas.List.{length-set}
use Rattle.std.proofs.lemmas.Option.{slice_get_past, slice_get_within}
use Rattle.sch_word.specs.values.Values.{Value, unspecified}
use Rattle.sch_word.specs.trees.NumberSets.{has}
use Rattle.sch_word.specs.runs.Computation.{Outcome, gives, at_place, in_order}
use Rattle.sch_word.specs.runs.Orders.{is_permutation}
use Rattle.sch_word.proofs.facts.Lists.{set_here, set_elsewhere}
use Rattle.sch_word.proofs.facts.Booleans.{and_left, and_right}
use Rattle.sch_word.proofs.facts.Occurrences.{times_append, times_has, times_none}
use Rattle.sch_control.specs.Fits.{begins_with}
use Rattle.sch_control.proofs.NumberRows.{permutation_times}

-- ## Lists

same_list : {A : Type 0} (l m : List A) → length l ≡ length m → ((i : ℕ) → slice_get l i ≡ slice_get m i) → l ≡ m
same_list [] [] e h = refl
same_list [] (y ∷ m) e h = absurd (omega arith)
same_list (x ∷ l) [] e h = absurd (omega arith)
same_list (x ∷ l) (y ∷ m) e h =
    let here : x ≡ y = let q = h zero in cc in
    let rest = same_list l m (omega arith) (λ i. h (suc i)) in
    cc

-- ## Computations that change nothing

-- a computation at a place gives a value, which us has there, and changes nothing
record Given {S : Type 0} (cs : List (S → Outcome S Value)) (us : List Value) (s : S) (p : ℕ) : Type 0 where
  value : Value
  is : at_place (slice_get cs p) s ≡ gives value s
  there : p < length us → slice_get us p ≡ Some value

in_any_order : {S : Type 0} (rest : List ℕ) (cs : List (S → Outcome S Value)) (vs us : List Value) (s : S) → length vs ≡ length us
    → ((p : ℕ) → has p rest ≡ true → Given cs us s p) → ((q : ℕ) → has q rest ≡ false → slice_get vs q ≡ slice_get us q) → in_order rest cs vs s ≡ gives us s
in_any_order [] cs vs us s l g h = ap (λ l. gives l s) (same_list vs us l (λ q. h q refl))
in_any_order (p ∷ rest) cs vs us s l g h = rw a.is (in_any_order rest cs (slice_set vs p a.value) us s (length-set vs p a.value ∙ l) (λ q i. g q (more q i)) (λ q i. next q (nat_eq q p) refl i))
  where
    here : has p (p ∷ rest) ≡ true
    here = rw (eq-eqb p p refl) refl

    a : Given cs us s p
    a = g p here

    more : (q : ℕ) → has q rest ≡ true → has q (p ∷ rest) ≡ true
    more q i = go (nat_eq q p) i
      where
        go : (b : Bool) → has q rest ≡ true → (b || has q rest) ≡ true
        go true i = refl
        go false i = i

    at : (b : Bool) → nat_lt p (length us) ≡ b → slice_get (slice_set vs p a.value) p ≡ slice_get us p
    at true e = let k = ltb-true p (length us) e in set_here vs p a.value (omega (arith, l, k)) ∙ sym (a.there k)
    at false e =
        let k = ltb-false p (length us) e in
        slice_get_past (slice_set vs p a.value) p (omega (arith, l, k, length-set vs p a.value)) ∙ sym (slice_get_past us p (omega (arith, k)))

    next : (q : ℕ) (b : Bool) → nat_eq q p ≡ b → has q rest ≡ false → slice_get (slice_set vs p a.value) q ≡ slice_get us q
    next q true e i = let m : q ≡ p = eqb-true q p e in rw m (at (nat_lt p (length us)) refl)
    next q false e i = set_elsewhere vs p q a.value (eqb-false q p e) ∙ h q (rw e i)

-- ## Parts

-- What is known of some computations and of values for them: a simple part gives its value and changes nothing,
-- a part that was bound has the value that it was bound to.
pub data Parts {S : Type 0} (s : S) : List (S → Outcome S Value) → (vs us : List Value) → (simple : List Bool) → Type 0 where
  no_parts : Parts s [] [] [] []
  and_simple : {c : S → Outcome S Value} {v u : Value} {cs : List (S → Outcome S Value)} {vs us : List Value} {simple : List Bool} → c s ≡ gives u s → Parts s cs vs us simple
      → Parts s (c ∷ cs) (v ∷ vs) (u ∷ us) (true ∷ simple)
  and_bound : {c : S → Outcome S Value} {v : Value} {cs : List (S → Outcome S Value)} {vs us : List Value} {simple : List Bool} → Parts s cs vs us simple
      → Parts s (c ∷ cs) (v ∷ vs) (v ∷ us) (false ∷ simple)

module _ {S : Type 0} {s : S} where
  parts_length : {cs : List (S → Outcome S Value)} {vs us : List Value} {simple : List Bool} → Parts s cs vs us simple → length vs ≡ length us
  parts_length no_parts = refl
  parts_length (and_simple e h) = ap suc (parts_length h)
  parts_length (and_bound h) = ap suc (parts_length h)

  given_at : {cs : List (S → Outcome S Value)} {vs us : List Value} {simple : List Bool} → Parts s cs vs us simple → (p : ℕ) → (slice_get simple p ≡ Some false → ⊥) → Given cs us s p
  given_at no_parts p f = record { value = unspecified; is = refl; there = λ l. absurd (omega (arith, l)) }
  given_at (and_simple {u = u} e h) zero f = record { value = u; is = e; there = λ l. refl }
  given_at (and_simple e h) (suc p) f = let g = given_at h p f in record { value = g.value; is = g.is; there = λ l. g.there (omega (arith, l)) }
  given_at (and_bound h) zero f = absurd (f refl)
  given_at (and_bound h) (suc p) f = let g = given_at h p f in record { value = g.value; is = g.is; there = λ l. g.there (omega (arith, l)) }

  same_at : {cs : List (S → Outcome S Value)} {vs us : List Value} {simple : List Bool} → Parts s cs vs us simple → (p : ℕ) → (slice_get simple p ≡ Some true → ⊥) → slice_get vs p ≡ slice_get us p
  same_at no_parts p f = refl
  same_at (and_simple e h) zero f = absurd (f refl)
  same_at (and_simple e h) (suc p) f = same_at h p f
  same_at (and_bound h) zero f = refl
  same_at (and_bound h) (suc p) f = same_at h p f

  -- once the first places are written, the rest of a permutation gives the values of all parts
  pub settled : {cs : List (S → Outcome S Value)} {vs us : List Value} {simple : List Bool} (first rest : List ℕ) → is_permutation (length simple) (first ++ rest) ≡ true
      → ((q : ℕ) (b : Bool) → slice_get simple q ≡ Some b → has q first ≡ not b) → Parts s cs vs us simple → in_order rest cs vs s ≡ gives us s
  settled {cs} {vs} {us} {simple} first rest permutation places h =
      in_any_order rest cs vs us s (parts_length h) (λ p i. given_at h p (λ e. complex p i e)) (λ q i. same_at h q (λ e. missing q i e))
    where
      complex : (p : ℕ) → has p rest ≡ true → slice_get simple p ≡ Some false → ⊥
      complex p i e =
          let once = permutation_times (length simple) (first ++ rest) permutation p (slice_get_within simple p false e) in
          let a = times_has p first (places p false e) in
          let b = times_has p rest i in
          omega (arith, once, a, b, times_append p first rest)

      missing : (q : ℕ) → has q rest ≡ false → slice_get simple q ≡ Some true → ⊥
      missing q i e =
          let once = permutation_times (length simple) (first ++ rest) permutation q (slice_get_within simple q true e) in
          let a = times_none q first (places q true e) in
          let b = times_none q rest i in
          omega (arith, once, a, b, times_append q first rest)

-- ## What begins with some places

pub begins : (xs order : List ℕ) → begins_with xs order ≡ true → (rest : List ℕ) × (order ≡ xs ++ rest)
begins [] order h = (order, refl)
begins (x ∷ xs) [] h = absurd (cc)
begins (x ∷ xs) (y ∷ order) h =
    let e : x ≡ y = eqb-true x y (and_left (nat_eq x y) (begins_with xs order) h) in
    let more = begins xs order (and_right (nat_eq x y) (begins_with xs order) h) in
    (more.0, cc)

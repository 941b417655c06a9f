-- Temporaries are distinct: registers that pass a test, and behind them slots.
use Rattle.std.proofs.Common.{◌≡◌, ◌≢◌, ℕ, zero, suc, ◌+◌, ◌-◌, ◌<◌, ◌≤◌, List, [], ◌∷◌, length, map, get_or, Some, None, Bool, true, false, cond, refl, sym, ap, ◌∙◌, arith, inl, inr, ◌⊎◌}
use Rattle.std.specs.Prelude.{filter, slice_get}
use Rattle.std.proofs.lemmas.Option.{slice_get_cases}
use Rattle.std.specs.Option.{unwrap_or}
use Rattle.sch_word.specs.declared.place.Place.{Place}
use Rattle.sch_word.specs.declared.place.Place.TheVariants.{Reg, Slot}
use Rattle.sch_word.specs.trees.NumberSets.{has}
use Rattle.sch_word.specs.values.Registers.{argument_registers}
use Rattle.sch_word.proofs.facts.NumberSets.{in_here, in_more}
use Rattle.sch_shuffle.specs.Assignment.{AreDistinct}
use Rattle.sch_shuffle.proofs.WaitingArguments.{Once, not_in}
use Rattle.sch_homes.specs.CallMoves.{temporaries, temporary}
use Rattle.sch_homes.proofs.Numbered.{map_at, map_length}

-- ## Registers that pass a test

abbrev number : Place → ℕ
number (Reg r) = r
number (Slot j) = j

module _ (test : Place → Bool) where
  -- each passes, and stands in the list
  pub filtered : (xs : List Place) (i : ℕ) (p : Place) → slice_get (filter test xs) i ≡ Some p → (test p ≡ true) × ((j : ℕ) × (slice_get xs j ≡ Some p))
  filtered [] i p e = absurd (cc)
  filtered (x ∷ xs) i p e = by (test x) refl i e (filtered xs) where
    by : (t : Bool) → test x ≡ t → (i : ℕ) → slice_get (cond t (x ∷ filter test xs) (filter test xs)) i ≡ Some p
        → ((i : ℕ) (p : Place) → slice_get (filter test xs) i ≡ Some p → (test p ≡ true) × ((j : ℕ) × (slice_get xs j ≡ Some p)))
        → (test p ≡ true) × ((j : ℕ) × (slice_get (x ∷ xs) j ≡ Some p))
    by true h zero e more = one e where
      one : Some x ≡ Some p → (test p ≡ true) × ((j : ℕ) × (slice_get (x ∷ xs) j ≡ Some p))
      one e = let same : x ≡ p = cc in (ap test (sym same) ∙ h, (0, e))
    by true h (suc i) e more = let m = more i p e in (m.0, (suc m.1.0, m.1.1))
    by false h i e more = let m = more i p e in (m.0, (suc m.1.0, m.1.1))

-- no place stands in a list twice
abbrev Apart : List Place → Type 0
Apart [] = Unit {0}
Apart (p ∷ ps) = ((j : ℕ) (q : Place) → slice_get ps j ≡ Some q → p ≢ q) × Apart ps

filter_apart : (test : Place → Bool) (xs : List Place) → Apart xs → Apart (filter test xs)
filter_apart test [] a = tt
filter_apart test (x ∷ xs) a = by (test x) (filter_apart test xs a.1) where
  by : (t : Bool) → Apart (filter test xs) → Apart (cond t (x ∷ filter test xs) (filter test xs))
  by true more = ((λ j q e. let f = filtered test xs j q e in a.0 f.1.0 q f.1.1), more)
  by false more = more

apart_once : (xs : List Place) → Apart xs → (i j : ℕ) (p q : Place) → slice_get xs i ≡ Some p → slice_get xs j ≡ Some q → p ≡ q → i ≡ j
apart_once [] a i j p q e f s = absurd (cc)
apart_once (x ∷ xs) a zero zero p q e f s = refl
apart_once (x ∷ xs) a zero (suc j) p q e f s = by e where
  by : Some x ≡ Some p → zero ≡ suc j
  by e = let same : x ≡ p = cc in absurd (a.0 j q f (same ∙ s))
apart_once (x ∷ xs) a (suc i) zero p q e f s = by f where
  by : Some x ≡ Some q → suc i ≡ zero
  by f = let same : x ≡ q = cc in absurd (a.0 i p e (same ∙ sym s))
apart_once (x ∷ xs) a (suc i) (suc j) p q e f s = ap suc (apart_once xs a.1 i j p q e f s)

not_listed : (r : ℕ) (rs : List ℕ) → has r rs ≡ false → (j : ℕ) (q : Place) → slice_get (map Reg rs) j ≡ Some q → Reg r ≢ q
not_listed r [] h j q e n = cc
not_listed r (x ∷ rs) h zero q e n = by e where
  by : Some (Reg x) ≡ Some q → ⊥
  by e = let same : x ≡ r = cc in (not_in x r rs h).0 same
not_listed r (x ∷ rs) h (suc j) q e n = not_listed r rs (not_in x r rs h).1 j q e n

once_apart : (rs : List ℕ) → Once rs → Apart (map Reg rs)
once_apart [] o = tt
once_apart (r ∷ rs) o = (not_listed r rs o.0, once_apart rs o.1)

registers_apart : Apart (map Reg argument_registers)
registers_apart = once_apart argument_registers (refl, (refl, (refl, (refl, (refl, (refl, tt))))))

is_register : (rs : List ℕ) (j : ℕ) (p : Place) → slice_get (map Reg rs) j ≡ Some p → (r : ℕ) × ((p ≡ Reg r) × (has r rs ≡ true))
is_register [] j p e = absurd (cc)
is_register (x ∷ rs) zero p e = by e where
  by : Some (Reg x) ≡ Some p → (r : ℕ) × ((p ≡ Reg r) × (has r (x ∷ rs) ≡ true))
  by e = let same : p ≡ Reg x = cc in (x, (same, in_here x rs))
is_register (x ∷ rs) (suc j) p e = let m = is_register rs j p e in (m.0, (m.1.0, in_more m.0 x rs m.1.1))

-- ## Temporaries

module _ (test : Place → Bool) (first : ℕ) where
  abbrev spare : List Place
  spare = filter test (map Reg argument_registers)

  -- a temporary is a register that passes, or a slot
  pub data IsTemporary (u : ℕ) : Type 0 where
    register : (r : ℕ) → slice_get spare u ≡ Some (Reg r) → test (Reg r) ≡ true → has r argument_registers ≡ true → IsTemporary u
    slot : length spare ≤ u → slice_get spare u ≡ None → IsTemporary u

  pub is_temporary : (u : ℕ) → IsTemporary u
  is_temporary u = by (slice_get_cases spare u).1 where
    one : (p : Place) → slice_get spare u ≡ Some p → IsTemporary u
    one p e =
        let f = filtered test (map Reg argument_registers) u p e in
        let r = is_register argument_registers f.1.0 p f.1.1 in
        register r.0 (e ∙ ap Some r.1.0) (ap test (sym r.1.0) ∙ f.0) r.1.1

    by : ((x : Place) × (u < length spare) × (slice_get spare u ≡ Some x) × (get_or spare u x ≡ x)) ⊎ ((length spare ≤ u) × (slice_get spare u ≡ None)) → IsTemporary u
    by (inl h) = one h.0 h.2
    by (inr h) = slot h.0 h.1

  -- which it is
  pub at_register : (u r : ℕ) → slice_get spare u ≡ Some (Reg r) → temporary spare first u ≡ Reg r
  at_register u r e = ap (λ o. unwrap_or o (Slot (first + (u - length spare)))) e

  pub at_slot : (u : ℕ) → slice_get spare u ≡ None → temporary spare first u ≡ Slot (first + (u - length spare))
  at_slot u e = ap (λ o. unwrap_or o (Slot (first + (u - length spare)))) e

  once : (u v : ℕ) → temporary spare first u ≡ temporary spare first v → u ≡ v
  once u v e = by (is_temporary u) (is_temporary v) where
    by : IsTemporary u → IsTemporary v → u ≡ v
    by (register r i t h) (register q j s k) =
        apart_once spare (filter_apart test (map Reg argument_registers) registers_apart) u v (Reg r) (Reg q) i j
        (sym (at_register u r i) ∙ (e ∙ at_register v q j))
    by (register r i t h) (slot le j) = absurd (let bad = sym (at_register u r i) ∙ (e ∙ at_slot v j) in cc)
    by (slot le i) (register q j s k) = absurd (let bad = sym (at_slot u i) ∙ (e ∙ at_register v q j) in cc)
    by (slot le i) (slot more j) =
        let same : first + (u - length spare) ≡ first + (v - length spare) = ap number (sym (at_slot u i) ∙ (e ∙ at_slot v j)) in
        omega (arith, same, le, more)

  pub temporaries_distinct : (count : ℕ) → AreDistinct (temporaries spare first count)
  temporaries_distinct count i j a b e =
      let l = map_length (temporary spare first) count in
      once i j (sym (map_at (temporary spare first) count i (omega (arith, a, l))) ∙ (e ∙ map_at (temporary spare first) count j (omega (arith, b, l))))

-- Loops that find the end of the slots and give homes, with one turn more.
use Rattle.std.proofs.Common.{◌≡◌, ℕ, zero, suc, ◌+◌, ◌<◌, ◌≤◌, List, [], ◌∷◌, Option, length, drop, get_or, max, Bool, true, false, cond, refl, sym, ap, ◌∙◌, arith}
use Rattle.std.proofs.lemmas.List.{drop_more}
use Rattle.sch_word.specs.declared.place.Place.{Place}
use Rattle.sch_word.specs.declared.place.Place.TheVariants.{Reg, Slot}
use Rattle.sch_homes.specs.Homes.{count_below, slots_end}
use Rattle.sch_homes.specs.HomeTable.{home_slots}

-- ## The end of the slots

ends_larger : (m n : ℕ) (places : List Place) → slots_end (max n m) places ≡ max n (slots_end m places)
ends_larger m n [] = refl
ends_larger m n (Reg r ∷ places) = ends_larger m n places
ends_larger m n (Slot j ∷ places) = let h = ends_larger m n places in omega (arith, h)

first_end : (m : ℕ) (p : Place) (places : List Place) → slots_end (slots_end m (p ∷ [])) places ≡ slots_end m (p ∷ places)
first_end m (Reg r) places = refl
first_end m (Slot j) places = ends_larger m (suc j) places

-- with one place more, the others are left
pub next_end : (i m n whole : ℕ) (places : List Place) (p : Place) → i < length places → n ≡ slots_end m (get_or places i p ∷ [])
    → slots_end m (drop i places) ≡ whole → slots_end n (drop (i + 1) places) ≡ whole
next_end i m n whole places p lt e h =
    ap (λ k. slots_end k (drop (i + 1) places)) e
    ∙ first_end m (get_or places i p) (drop (i + 1) places)
    ∙ ap (slots_end m) (sym (drop_more places i p lt))
    ∙ h

pub end_least : (m : ℕ) (places : List Place) → m ≤ slots_end m places
end_least m [] = omega arith
end_least m (Reg r ∷ places) = end_least m places
end_least m (Slot j ∷ places) = let h = end_least m places in omega (arith, h)

-- one of those that are left ends no further than they all
pub one_end : (i m whole most : ℕ) (places : List Place) (p : Place) → i < length places → slots_end m (drop i places) ≡ whole → whole ≤ most
    → slots_end m (get_or places i p ∷ []) ≤ most
one_end i m whole most places p lt h few =
    let next = first_end m (get_or places i p) (drop (i + 1) places) in
    let least = end_least (slots_end m (get_or places i p ∷ [])) (drop (i + 1) places) in
    let left = ap (slots_end m) (drop_more places i p lt) in
    omega (arith, next, least, left, h, few)

-- ## Homes

pub count_within : (test : ℕ → Bool) (n : ℕ) → count_below test n ≤ n
count_within test zero = omega arith
count_within test (suc n) = by (test n) (count_within test n) where
  by : (t : Bool) → count_below test n ≤ n → cond t (suc (count_below test n)) (count_below test n) ≤ suc n
  by true le = omega (arith, le)
  by false le = omega (arith, le)

module _ (first : ℕ) (test : ℕ → Bool) where
  -- the homes of the variables below one, and the slot behind them
  pub record Given (x : ℕ) (homes : List (Option ℕ)) (end : ℕ) : Type 0 where
    pub listed : homes ≡ home_slots first test x
    pub ends : end ≡ first + count_below test x

-- A worked row: n arguments in one cycle, and 200 of them.
use Rattle.std.proofs.Common.{◌≡◌, ◌≢◌, ℕ, zero, suc, ◌+◌, ◌<◌, cond, List, [], ◌∷◌, length, refl, ap, sym, ◌∙◌, arith}
use Rattle.std.proofs.lemmas.List.{length-map}
use Rattle.sch_word.specs.trees.Bindings.{numbers}
use Rattle.sch_word.specs.declared.place.Place.{Place}
use Rattle.sch_word.specs.declared.place.Place.TheVariants.{Slot}
use Rattle.sch_shuffle.specs.Tree.{Tree, place}
use Rattle.sch_shuffle.specs.Assignment.{operand_at, place_at, AreDistinct, AreSpare, temps}
use Rattle.sch_shuffle.specs.Plans.{AreAtoms}
use Rattle.sch_shuffle.specs.Greedy.{made}
use Rattle.sch_shuffle.specs.CycleSearch.{successor, is_ring, rings, all_rings, places_at, cycles}
use Rattle.sch_shuffle.proofs.WaitingArguments.{AllBelow, below_numbers}
use Rattle.sch_shuffle.proofs.Paths.{walk, ring_walk}
use Rattle.sch_word.proofs.facts.Places.{place_other, slot_number}
use Rattle.sch_shuffle.proofs.Promises.{as_few}

-- n slots from j on, and what places hold
abbrev slots : (n j : ℕ) → List Place
slots zero j = []
slots (suc n) j = Slot j ∷ slots n (suc j)

abbrev held : List Place → List Tree
held [] = []
held (p ∷ ps) = place p ∷ held ps

-- the slots 0 to n with the last first
abbrev turned_slots : ℕ → List Place
turned_slots n = Slot n ∷ slots n 0

-- the last of n + 1 slots to the first, and each of the others to the next
abbrev turned : ℕ → List Tree
turned n = held (turned_slots n)

-- the rings that walks from these numbers find
abbrev walked_rings : (ℕ → ℕ) → ℕ → List ℕ → List (List ℕ)
walked_rings S n [] = []
walked_rings S n (k ∷ ks) = cond (is_ring (walk S n k n [] k)) (walk S n k n [] k ∷ walked_rings S n ks) (walked_rings S n ks)

rings_walked : (S : ℕ → ℕ) (n : ℕ) (ks : List ℕ) → AllBelow n ks → rings S n ks ≡ walked_rings S n ks
rings_walked S n [] h = refl
rings_walked S n (k ∷ ks) h =
    let here = ring_walk S n k h.0 in
    let rest = rings_walked S n ks h.1 in
    rw (here, rest) refl

cycles_walked : (args : List Tree) (targets : List Place)
    → length (cycles args targets) ≡ length (walked_rings (successor args targets) (length targets) (numbers 0 (length targets)))
cycles_walked args targets =
    let n : ℕ = length targets in
    length-map (all_rings args targets) (places_at targets)
    ∙ ap length (rings_walked (successor args targets) n (numbers 0 n) (below_numbers n 0 n (omega arith)))

long_walk : length (walked_rings (successor (turned 199) (slots 200 0)) 200 (numbers 0 200)) ≡ 1
long_walk = refl

long_cycle : length (cycles (turned 199) (slots 200 0)) ≡ 1
long_cycle = cycles_walked (turned 199) (slots 200 0) ∙ long_walk

slots_length : (n j : ℕ) → length (slots n j) ≡ n
slots_length zero j = refl
slots_length (suc n) j = ap suc (slots_length n (suc j))

slots_at : (n j i : ℕ) → i < n → place_at (slots n j) i ≡ Slot (j + i)
slots_at zero j i lt = absurd (omega (arith, lt))
slots_at (suc n) j zero lt = ap Slot (omega arith)
slots_at (suc n) j (suc i) lt = slots_at n (suc j) i (omega (arith, lt)) ∙ ap Slot (omega arith)

held_length : (ps : List Place) → length (held ps) ≡ length ps
held_length [] = refl
held_length (p ∷ ps) = ap suc (held_length ps)

held_at : (ps : List Place) (i : ℕ) → i < length ps → operand_at (held ps) i ≡ place (place_at ps i)
held_at [] i lt = absurd (omega (arith, lt))
held_at (p ∷ ps) zero lt = refl
held_at (p ∷ ps) (suc i) lt = held_at ps i (omega (arith, lt))

slots_distinct : (n j : ℕ) → AreDistinct (slots n j)
slots_distinct n j a b x y e =
    let len = slots_length n j in
    let at : Slot (j + a) ≡ Slot (j + b) = sym (slots_at n j a (omega (arith, x, len))) ∙ e ∙ slots_at n j b (omega (arith, y, len)) in
    let same : j + a ≡ j + b = ap slot_number at in omega (arith, same)

turned_length : (n : ℕ) → length (turned n) ≡ suc n
turned_length n = held_length (turned_slots n) ∙ ap suc (slots_length n 0)

-- an argument is one of the slots 0 to n
turned_at : (n i : ℕ) → i < suc n → (k : ℕ) × (k < suc n) × (operand_at (turned n) i ≡ place (Slot k))
turned_at n zero lt = (n, omega arith, refl)
turned_at n (suc i) lt =
    let len = slots_length n 0 in
    let at = held_at (slots n 0) i (omega (arith, lt, len)) ∙ ap place (slots_at n 0 i (omega (arith, lt))) in (0 + i, omega (arith, lt), at)

turned_atoms : (n : ℕ) → AreAtoms (turned n)
turned_atoms n i lt = let len = turned_length n in let t = turned_at n i (omega (arith, lt, len)) in rw t.2 tt

slots_differ : (j k : ℕ) → j ≢ k → Slot j ≢ Slot k
slots_differ j k h e = h (ap slot_number e)

-- the next slots are spare
turned_spare : (n : ℕ) → AreSpare (turned n) (slots (suc n) 0) (slots (suc n) (suc n))
turned_spare n u x i y =
    let len = turned_length n in
    let more = slots_length (suc n) (suc n) in
    let free = slots_at (suc n) (suc n) u (omega (arith, x, more)) in
    let target = slots_at (suc n) 0 i (omega (arith, y, len)) in
    let t = turned_at n i (omega (arith, y, len)) in
    let below = t.1 in
    let other = place_other (Slot t.0) (Slot (suc n + u)) (slots_differ t.0 (suc n + u) (λ e. absurd (omega (arith, e, below)))) in
    let off : Slot (0 + i) ≢ Slot (suc n + u) = slots_differ (0 + i) (suc n + u) (λ e. absurd (omega (arith, e, y, len))) in
    ((λ e. off (sym target ∙ e ∙ free)), rw (free, t.2) other)

long_temps : (n : ℕ) → temps (made (turned n) (slots (suc n) 0) (slots (suc n) (suc n))) ≡ length (cycles (turned n) (slots (suc n) 0))
long_temps n =
    let len = turned_length n in
    let targets = slots_length (suc n) 0 in
    let free = slots_length (suc n) (suc n) in
    as_few (turned n) (slots (suc n) 0) (slots (suc n) (suc n)) (targets ∙ sym len) (free ∙ sym len) (slots_distinct (suc n) 0) (slots_distinct (suc n) (suc n))
    (turned_spare n) _ _ refl refl (turned_atoms n)

-- 200 arguments in one cycle take one temporary
two_hundred_row : temps (made (turned 199) (slots 200 0) (slots 200 200)) ≡ 1
two_hundred_row = long_temps 199 ∙ long_cycle

-- Worked rows: what operands use and give, moves and cycles.
use Rattle.std.specs.Prelude.{◌≡◌, ℕ, zero, suc, ◌+◌, ◌*◌, Bool, true, false, List, [], ◌∷◌, length, take}
use Rattle.std.proofs.Common.{refl, ap, arith, inl, inr, ◌<◌, ◌≤◌}
use Rattle.std.proofs.lemmas.List.Elements.{All-from_recursion, recursion_from_All}
use Rattle.sch_word.specs.declared.place.Place.{Place}
use Rattle.sch_word.specs.trees.NumberSets.{has}
use Rattle.sch_word.specs.declared.place.Place.TheVariants.{Reg, Slot}
use Rattle.sch_word.specs.declared.primitive.Primitive.{Primitive}
use Rattle.sch_word.specs.declared.primitive.Primitive.TheVariants.{Eq, IsPair}
use Rattle.sch_shuffle.specs.declared.choice.Choice.TheVariants.{Direct, Aside}
use Rattle.sch_shuffle.specs.Tree.{Tree, place, fixed, literal, read, trees, uses}
use Rattle.sch_word.specs.values.Places.{same_place}
use Rattle.sch_shuffle.specs.Meaning.{Reading, given}
use Rattle.sch_shuffle.specs.Assignment.{place_at, Transfer, after, Assigns, Carries, AlwaysAssigns, IsAmong, IsSpare, AreDistinct, temps}
use Rattle.sch_shuffle.specs.Plans.{direct, aside, across, onward, transfer, transfers, evaluates, sets_aside, goes_on, is_across, count, IsAct, IsPlan, IsMove, AreAtoms, NeedsTemporaries}
use Rattle.sch_shuffle.specs.Greedy.{uses_target, needed, goes_before, all_choices, acts, made}
use Rattle.sch_shuffle.specs.GreedySteps.{waiting, order, IsGreedy, IsOrdered, GoesOnInOrder}
use Rattle.sch_shuffle.specs.Cycles.{IsRing, AreTheCycles}
use Rattle.sch_shuffle.specs.CycleSearch.{successor, path, period, ring, cycles}
use Rattle.sch_shuffle.proofs.ExactCycles.{the_cycles}

abbrev rax : Place
rax = Reg 0

abbrev rcx : Place
rcx = Reg 1

abbrev rdx : Place
rdx = Reg 2

abbrev rbx : Place
rbx = Reg 3

abbrev r8 : Place
r8 = Reg 8

abbrev r9 : Place
r9 = Reg 9

abbrev r10 : Place
r10 = Reg 10

abbrev r11 : Place
r11 = Reg 11

abbrev move : Tree → Place → ℕ → Bool → Transfer
move from to argument temp = record { from = from; to = to; argument = argument; temp = temp }

-- the number of a place, to tell places apart
abbrev place_number : Place → ℕ
place_number (Reg r) = r
place_number (Slot j) = 1000 + j

abbrev held_number : Tree → ℕ
held_number (place p) = place_number p
held_number _ = 2000

-- ## Operands

-- a register and a slot of one number are two places
register_row : same_place (Reg 3) (Reg 3) ≡ true
register_row = refl

slot_row : same_place (Slot 3) (Slot 4) ≡ false
slot_row = refl

kinds_row : same_place (Reg 3) (Slot 3) ≡ false
kinds_row = refl

-- `(eq? r8 7)` uses r8 and not r9
used_row : uses (read Eq (trees (fixed 7 ∷ place r8 ∷ []))) r8 ≡ true
used_row = refl

unused_row : uses (read Eq (trees (fixed 7 ∷ literal 9 ∷ place r8 ∷ []))) r9 ≡ false
unused_row = refl

-- A reading of numbers: a word is itself, literal k is 100 + k, and a primitive reads its operands as the digits of a
-- number, the first the least, behind a number of its own.
abbrev digits : List ℕ → ℕ
digits [] = 0
digits (n ∷ ns) = n + 10 * digits ns

abbrev weight : Primitive → ℕ
weight Eq = 1000
weight IsPair = 2000
weight _ = 3000

abbrev numbered : Reading ℕ
numbered = record { fixed = λ n. n; literal = λ k. 100 + k; read = λ primitive xs. weight primitive + digits xs }

-- where each place holds its number
abbrev at_start : Place → ℕ
at_start = place_number

given_place : given numbered at_start (place r8) ≡ 8
given_place = refl

given_literal : given numbered at_start (literal 5) ≡ 105
given_literal = refl

given_fixed : given numbered at_start (fixed 7) ≡ 7
given_fixed = refl

-- which primitive reads matters, and the order of what it reads
given_read : given numbered at_start (read Eq (trees (fixed 7 ∷ place r8 ∷ []))) ≡ 1087
given_read = refl

given_turned : given numbered at_start (read Eq (trees (place r8 ∷ fixed 7 ∷ []))) ≡ 1078
given_turned = refl

given_pair : given numbered at_start (read IsPair (trees (place r8 ∷ []))) ≡ 2008
given_pair = refl

given_inside : given numbered at_start (read Eq (trees (read IsPair (trees (place r8 ∷ [])) ∷ literal 5 ∷ []))) ≡ 4058
given_inside = refl

-- a place, a word and a literal are read by no primitive
atoms_row : AreAtoms (fixed 7 ∷ literal 1 ∷ place r8 ∷ [])
atoms_row zero h = tt
atoms_row (suc zero) h = tt
atoms_row (suc (suc zero)) h = tt
atoms_row (suc (suc (suc i))) h = absurd (omega (arith, h))

no_atom_row : AreAtoms (fixed 7 ∷ read IsPair (trees (place r8 ∷ [])) ∷ []) → ⊥
no_atom_row h = h 1 (omega arith)

-- ## A swap: r8 and rbx to rbx and r8, one by way of rax

abbrev swap : List Tree
swap = place r8 ∷ place rbx ∷ []

abbrev swap_targets : List Place
swap_targets = rbx ∷ r8 ∷ []

abbrev swap_moves : List Transfer
swap_moves = move (place r8) rax 0 true ∷ move (place rbx) r8 1 false ∷ move (place rax) rbx 0 false ∷ []

swap_made : made swap swap_targets (rax ∷ rcx ∷ []) ≡ swap_moves
swap_made = refl

swap_cycles : cycles swap swap_targets ≡ (rbx ∷ r8 ∷ []) ∷ []
swap_cycles = refl

swap_choices : all_choices swap swap_targets ≡ Aside 0 ∷ Direct 1 ∷ []
swap_choices = refl

swap_acts : acts (rax ∷ rcx ∷ []) (all_choices swap swap_targets) ≡ aside 0 rax ∷ direct 1 ∷ onward 0 rax ∷ []
swap_acts = refl

swapped_rbx : after numbered swap_moves at_start rbx ≡ 8
swapped_rbx = refl

swapped_r8 : after numbered swap_moves at_start r8 ≡ 3
swapped_r8 = refl

-- From left to right r8 is lost: such moves do not assign, and the second does not take what its argument gave.
abbrev lost : List Transfer
lost = move (place r8) rbx 0 false ∷ move (place rbx) r8 1 false ∷ []

lost_r8 : after numbered lost at_start r8 ≡ 8
lost_r8 = refl

lost_assigns : Assigns numbered swap swap_targets lost → ⊥
lost_assigns h = let e : 8 ≡ 3 = h at_start 1 (omega arith) in omega (arith, e)

lost_carries : Carries numbered swap lost → ⊥
lost_carries h = let e : 8 ≡ 3 = h at_start (move (place r8) rbx 0 false ∷ []) [] (move (place rbx) r8 1 false) refl in omega (arith, e)

-- a place is no temporary where it is a target, and two equal places are not distinct
target_row : IsSpare swap swap_targets rbx → ⊥
target_row h = (h 0 (omega arith)).0 refl

equal_places_row : AreDistinct (rax ∷ rax ∷ []) → ⊥
equal_places_row h = let e : 0 ≡ 1 = h 0 1 (omega arith) (omega arith) refl in omega (arith, e)

swap_temps : temps swap_moves ≡ 1
swap_temps = refl

swap_order : order 2 swap_moves ≡ 0 ∷ 1 ∷ []
swap_order = refl

swap_waiting : waiting (0 ∷ 1 ∷ []) (take 1 swap_moves) ≡ 1 ∷ []
swap_waiting = refl

-- from one temporary to another a value stays in a temporary
across_transfer : transfer swap swap_targets (across 0 rax rcx) ≡ move (place rax) rcx 0 true
across_transfer = refl

across_row : count is_across (aside 0 rax ∷ across 0 rax rcx ∷ direct 1 ∷ onward 0 rcx ∷ []) ≡ 1
across_row = refl

across_evaluates : count (evaluates 0) (across 0 rax rcx ∷ []) ≡ 0
across_evaluates = refl

evaluated_row : count (evaluates 0) (aside 0 rax ∷ direct 1 ∷ onward 0 rax ∷ []) ≡ 1
evaluated_row = refl

aside_row : count (sets_aside 1) (aside 0 rax ∷ direct 1 ∷ onward 0 rax ∷ []) ≡ 0
aside_row = refl

set_aside_row : count (sets_aside 0) (aside 0 rax ∷ direct 1 ∷ onward 0 rax ∷ []) ≡ 1
set_aside_row = refl

onward_row : count (goes_on 0) (aside 0 rax ∷ direct 1 ∷ onward 0 rax ∷ []) ≡ 1
onward_row = refl

-- ## Plans

-- an argument that is evaluated twice, or not at all
twice_planned : IsPlan swap (IsAmong (rax ∷ rcx ∷ [])) (aside 0 rax ∷ direct 1 ∷ direct 0 ∷ []) → ⊥
twice_planned h = let e : 2 ≡ 1 = h.once 0 (omega arith) in omega (arith, e)

not_planned : IsPlan swap (IsAmong (rax ∷ rcx ∷ [])) (direct 1 ∷ []) → ⊥
not_planned h = let e : 0 ≡ 1 = h.once 0 (omega arith) in omega (arith, e)

-- one that goes on though nothing set it aside
onward_planned : IsPlan swap (IsAmong (rax ∷ rcx ∷ [])) (direct 0 ∷ direct 1 ∷ onward 0 rax ∷ []) → ⊥
onward_planned h = let e : 1 ≡ 0 = h.onward 0 (omega arith) refl in omega (arith, e)

-- a temporary that is no free place, and an argument that is not there
elsewhere_planned : IsPlan swap (IsAmong []) (aside 0 rax ∷ direct 1 ∷ onward 0 rax ∷ []) → ⊥
elsewhere_planned h =
    let all = recursion_from_All (IsAct swap (IsAmong [])) (aside 0 rax ∷ direct 1 ∷ onward 0 rax ∷ []) h.each in
    let none = all.0.1.1 in omega (arith, none)

third_planned : IsPlan swap (IsAmong []) (direct 0 ∷ direct 1 ∷ direct 2 ∷ []) → ⊥
third_planned h =
    let all = recursion_from_All (IsAct swap (IsAmong [])) (direct 0 ∷ direct 1 ∷ direct 2 ∷ []) h.each in
    let below : 2 < 2 = all.1.1.0 in omega (arith, below)

-- a move of an argument that is not there, from elsewhere, or to elsewhere
third_move : IsMove swap swap_targets (rax ∷ []) (move (place r8) rax 2 true) → ⊥
third_move h = let below : 2 < 2 = h.within in omega (arith, below)

other_move : IsMove swap swap_targets [] (move (place rcx) rbx 0 false) → ⊥
other_move h = elim h.takes [ inl e ↦ absurd (let n = ap held_number e in omega (arith, n)) | inr free ↦ let none = free.1.1 in absurd (omega (arith, none)) ]

other_target_move : IsMove swap swap_targets (rax ∷ []) (move (place r8) r8 0 false) → ⊥
other_target_move h = let n = ap place_number h.goes in omega (arith, n)

not_free_move : IsMove swap swap_targets [] (move (place r8) rax 0 true) → ⊥
not_free_move h = let none = h.goes.1 in omega (arith, none)

-- a swap needs one temporary and not two
swap_apart : AreDistinct swap_targets
swap_apart zero zero a b e = refl
swap_apart zero (suc zero) a b e = let n = ap place_number e in absurd (omega (arith, n))
swap_apart (suc zero) zero a b e = let n = ap place_number e in absurd (omega (arith, n))
swap_apart (suc zero) (suc zero) a b e = refl
swap_apart (suc (suc i)) j a b e = absurd (omega (arith, a))
swap_apart i (suc (suc j)) a b e = absurd (omega (arith, b))

rax_spare : IsSpare swap swap_targets rax
rax_spare zero h = (λ e. let n = ap place_number e in omega (arith, n), refl)
rax_spare (suc zero) h = (λ e. let n = ap place_number e in omega (arith, n), refl)
rax_spare (suc (suc i)) h = absurd (omega (arith, h))

swap_plan : IsPlan swap (IsSpare swap swap_targets) (aside 0 rax ∷ direct 1 ∷ onward 0 rax ∷ [])
swap_plan =
    record {
      each = All-from_recursion (IsAct swap (IsSpare swap swap_targets)) (aside 0 rax ∷ direct 1 ∷ onward 0 rax ∷ [])
          ((omega arith, rax_spare), (omega arith, ((omega arith, rax_spare), tt)));
      once = once;
      onward = onwards;
    }
  where
    once : (i : ℕ) → i < 2 → count (evaluates i) (aside 0 rax ∷ direct 1 ∷ onward 0 rax ∷ []) ≡ 1
    once zero h = refl
    once (suc zero) h = refl
    once (suc (suc i)) h = absurd (omega (arith, h))

    onwards : (i : ℕ) → i < 2 → count (sets_aside i) (aside 0 rax ∷ direct 1 ∷ onward 0 rax ∷ []) ≡ 0
        → count (goes_on i) (aside 0 rax ∷ direct 1 ∷ onward 0 rax ∷ []) ≡ 0
    onwards zero h none = absurd (let e : 1 ≡ 0 = none in omega (arith, e))
    onwards (suc zero) h none = refl
    onwards (suc (suc i)) h none = absurd (omega (arith, h))

swap_assigns : AlwaysAssigns swap swap_targets swap_moves
swap_assigns r s zero h = refl
swap_assigns r s (suc zero) h = refl
swap_assigns r s (suc (suc i)) h = absurd (omega (arith, h))

two_needed : NeedsTemporaries swap swap_targets 2 → ⊥
two_needed h = let few : 2 ≤ 1 = h (aside 0 rax ∷ direct 1 ∷ onward 0 rax ∷ []) swap_plan swap_assigns in omega (arith, few)

-- two evaluations of one argument are no evaluation of the other, and one move does not evaluate two
twice_ordered : IsOrdered 2 (move (place r8) rax 0 true ∷ move (place r8) rbx 0 false ∷ move (place rbx) r8 1 false ∷ []) → ⊥
twice_ordered h = let e : false ≡ true = h.each 1 (omega arith) in absurd (cc)

short_ordered : IsOrdered 2 (move (place r8) rbx 0 false ∷ []) → ⊥
short_ordered h = let e : 1 ≡ 2 = h.whole in omega (arith, e)

-- what goes on takes the place to which it was brought, to its target, behind the others
swap_goes_on : GoesOnInOrder 2 swap_targets swap_moves
swap_goes_on = refl

stays_aside : GoesOnInOrder 2 swap_targets (move (place r8) rax 0 true ∷ move (place rbx) r8 1 false ∷ []) → ⊥
stays_aside h = let e : 0 ≡ 1 = ap length h in omega (arith, e)

-- ## The order of arguments

-- a target that no other uses, before one that two use, before one that one uses; the earlier stays among equals
none_row : goes_before 0 2 ≡ true
none_row = refl

more_row : goes_before 2 1 ≡ true
more_row = refl

fewer_row : goes_before 1 2 ≡ false
fewer_row = refl

equal_row : goes_before 2 2 ≡ false
equal_row = refl

stays_row : goes_before 2 0 ≡ false
stays_row = refl

in_row : has 2 (0 ∷ 2 ∷ []) ≡ true
in_row = refl

not_in_row : has 1 (0 ∷ 2 ∷ []) ≡ false
not_in_row = refl

-- ## A chain, and an argument that stands where it should

-- r8 and r9 to rbx and r8
chain_made : made (place r8 ∷ place r9 ∷ []) (rbx ∷ r8 ∷ []) (rax ∷ rcx ∷ []) ≡ move (place r8) rbx 0 false ∷ move (place r9) r8 1 false ∷ []
chain_made = refl

chain_cycles : cycles (place r8 ∷ place r9 ∷ []) (rbx ∷ r8 ∷ []) ≡ []
chain_cycles = refl

chain_end : successor (place r8 ∷ place r9 ∷ []) (rbx ∷ r8 ∷ []) 1 ≡ 2
chain_end = refl

-- a temporary that is not needed is not greedy
needless_row : IsGreedy (place r8 ∷ place r9 ∷ []) (rbx ∷ r8 ∷ []) (rax ∷ rcx ∷ [])
    (move (place r8) rax 0 true ∷ move (place r9) r8 1 false ∷ move (place rax) rbx 0 false ∷ []) → ⊥
needless_row h =
    let step = (h [] (move (place r9) r8 1 false ∷ move (place rax) rbx 0 false ∷ []) (move (place r8) rax 0 true) refl).0 in
    let used : 0 < 0 = step.stuck 0 refl in omega (arith, used)

-- of two that may go to their targets the first goes first
later_first_row : IsGreedy (place r8 ∷ place r9 ∷ []) (r10 ∷ r11 ∷ []) (rax ∷ rcx ∷ [])
    (move (place r9) r11 1 false ∷ move (place r8) r10 0 false ∷ []) → ⊥
later_first_row h =
    let step = (h [] (move (place r8) r10 0 false ∷ []) (move (place r9) r11 1 false) refl).0 refl in
    let least : 1 ≤ 0 = step.least 0 refl refl in omega (arith, least)

-- one whose target another uses does not go there
used_target_row : IsGreedy swap swap_targets (rax ∷ rcx ∷ []) lost → ⊥
used_target_row h =
    let step = (h [] (move (place rbx) r8 1 false ∷ []) (move (place r8) rbx 0 false) refl).0 refl in
    let clear : 1 ≡ 0 = step.clear in omega (arith, clear)

-- of two that are used as much the first is set aside, to the first free place
later_aside_row : IsGreedy swap swap_targets (rax ∷ rcx ∷ [])
    (move (place rbx) rax 1 true ∷ move (place r8) rbx 0 false ∷ move (place rax) r8 1 false ∷ []) → ⊥
later_aside_row h =
    let step = (h [] (move (place r8) rbx 0 false ∷ move (place rax) r8 1 false ∷ []) (move (place rbx) rax 1 true) refl).0 in
    let least : 1 ≤ 0 = step.least 0 refl refl in omega (arith, least)

later_free_row : IsGreedy swap swap_targets (rcx ∷ rax ∷ []) swap_moves → ⊥
later_free_row h =
    let first = (h [] (move (place rbx) r8 1 false ∷ move (place rax) rbx 0 false ∷ []) (move (place r8) rax 0 true) refl).1 refl in
    let n = ap place_number first in omega (arith, n)

-- r9 and r8 to r8 and rbx: the second goes first
turned_chain_made : made (place r9 ∷ place r8 ∷ []) (r8 ∷ rbx ∷ []) (rax ∷ rcx ∷ []) ≡ move (place r8) rbx 1 false ∷ move (place r9) r8 0 false ∷ []
turned_chain_made = refl

-- rbx to rbx, and a slot to r8: a move from a place to itself is listed, and is no cycle
self_made : made (place rbx ∷ place (Slot 4) ∷ []) (rbx ∷ r8 ∷ []) (rax ∷ rcx ∷ [])
    ≡ move (place rbx) rbx 0 false ∷ move (place (Slot 4)) r8 1 false ∷ []
self_made = refl

self_cycles : cycles (place rbx ∷ place (Slot 4) ∷ []) (rbx ∷ r8 ∷ []) ≡ []
self_cycles = refl

self_ring : IsRing (place rbx ∷ place (Slot 4) ∷ []) (rbx ∷ r8 ∷ []) (0 ∷ []) → ⊥
self_ring h = let two : 2 ≤ 1 = h.two in omega (arith, two)

-- a chain closes no ring, and a ring begins with its least argument
chain_ring : IsRing (place r8 ∷ place r9 ∷ []) (rbx ∷ r8 ∷ []) (0 ∷ 1 ∷ []) → ⊥
chain_ring h = let n = ap held_number h.closes in omega (arith, n)

turned_ring : IsRing swap swap_targets (1 ∷ 0 ∷ []) → ⊥
turned_ring h = let least : 1 ≤ 0 = h.least 1 (omega arith) in omega (arith, least)

-- a cycle that is left out, and one that is listed twice
left_out : AreTheCycles swap swap_targets [] → ⊥
left_out h =
    let found = h.complete (rbx ∷ r8 ∷ []) ((the_cycles swap swap_targets refl swap_apart).sound 0 (omega arith)) in
    let none = found.1 in omega (arith, none)

listed_twice : AreTheCycles swap swap_targets ((rbx ∷ r8 ∷ []) ∷ ((rbx ∷ r8 ∷ []) ∷ [])) → ⊥
listed_twice h = h.once 0 1 (omega arith) (omega arith) refl

-- ## Longer cycles

-- r9, rbx, r8 to rbx, r8, r9: what is set aside frees the target of the last
abbrev three : List Tree
three = place r9 ∷ place rbx ∷ place r8 ∷ []

abbrev three_targets : List Place
three_targets = rbx ∷ r8 ∷ r9 ∷ []

three_made : made three three_targets (rax ∷ rcx ∷ rdx ∷ [])
    ≡ move (place r9) rax 0 true ∷ move (place r8) r9 2 false ∷ move (place rbx) r8 1 false ∷ move (place rax) rbx 0 false ∷ []
three_made = refl

three_cycles : cycles three three_targets ≡ (rbx ∷ r9 ∷ r8 ∷ []) ∷ []
three_cycles = refl

three_successor : successor three three_targets 0 ≡ 2
three_successor = refl

-- the way from argument 0 comes back after three steps; from 1 it comes to 0, which is less
three_path : path (successor three three_targets) 3 0 ≡ 0 ∷ 2 ∷ 1 ∷ []
three_path = refl

three_period : period (successor three three_targets) 3 0 ≡ 3
three_period = refl

three_ring : ring (successor three three_targets) 3 0 ≡ 0 ∷ 2 ∷ 1 ∷ []
three_ring = refl

three_other_ring : ring (successor three three_targets) 3 1 ≡ []
three_other_ring = refl

-- and r8 to r10 too, which goes first
four_made : made (place r9 ∷ place rbx ∷ place r8 ∷ place r8 ∷ []) (rbx ∷ r8 ∷ r9 ∷ r10 ∷ []) (rax ∷ rcx ∷ rdx ∷ r11 ∷ [])
    ≡ move (place r8) r10 3 false ∷ move (place r9) rax 0 true ∷ move (place r8) r9 2 false
    ∷ move (place rbx) r8 1 false ∷ move (place rax) rbx 0 false ∷ []
four_made = refl

-- r8 and r9 each take what the other has, and rbx and r10 too: one temporary for each of two cycles
two_made : made (place r9 ∷ place r10 ∷ place r8 ∷ place rbx ∷ []) (r8 ∷ rbx ∷ r9 ∷ r10 ∷ []) (rax ∷ rcx ∷ rdx ∷ r11 ∷ [])
    ≡ move (place r9) rax 0 true ∷ move (place r8) r9 2 false ∷ move (place r10) rcx 1 true ∷ move (place rbx) r10 3 false
    ∷ move (place rax) r8 0 false ∷ move (place rcx) rbx 1 false ∷ []
two_made = refl

two_cycles : cycles (place r9 ∷ place r10 ∷ place r8 ∷ place rbx ∷ []) (r8 ∷ rbx ∷ r9 ∷ r10 ∷ []) ≡ (r8 ∷ r9 ∷ []) ∷ ((rbx ∷ r10 ∷ []) ∷ [])
two_cycles = refl

-- the cycle of the later argument stands behind the other
abbrev two_targets : List Place
two_targets = r8 ∷ rbx ∷ r9 ∷ r10 ∷ []

where_rbx : (i : ℕ) → i < 4 → rbx ≡ place_at two_targets i → i ≡ 1
where_rbx zero h e = let n = ap place_number e in absurd (omega (arith, n))
where_rbx (suc zero) h e = refl
where_rbx (suc (suc zero)) h e = let n = ap place_number e in absurd (omega (arith, n))
where_rbx (suc (suc (suc zero))) h e = let n = ap place_number e in absurd (omega (arith, n))
where_rbx (suc (suc (suc (suc i)))) h e = absurd (omega (arith, h))

where_r8 : (i : ℕ) → i < 4 → r8 ≡ place_at two_targets i → i ≡ 0
where_r8 zero h e = refl
where_r8 (suc zero) h e = let n = ap place_number e in absurd (omega (arith, n))
where_r8 (suc (suc zero)) h e = let n = ap place_number e in absurd (omega (arith, n))
where_r8 (suc (suc (suc zero))) h e = let n = ap place_number e in absurd (omega (arith, n))
where_r8 (suc (suc (suc (suc i)))) h e = absurd (omega (arith, h))

wrong_order : AreTheCycles (place r9 ∷ place r10 ∷ place r8 ∷ place rbx ∷ []) two_targets ((rbx ∷ r10 ∷ []) ∷ ((r8 ∷ r9 ∷ []) ∷ [])) → ⊥
wrong_order h =
    let at = h.ordered 0 1 (omega arith) (omega arith) in
    let i : ℕ = at.0 in
    let j : ℕ = at.1 in
    let less : i < j = at.2 in
    let below : j < 4 = at.3 in
    let a : i ≡ 1 = where_rbx i (omega (arith, less, below)) at.4 in
    let b : j ≡ 0 = where_r8 j below at.5 in omega (arith, a, b, less)

-- ## Operands that read

-- `(pair? r8)` to rbx and rbx to r8: no cycle of places, and yet one temporary
read_made : made (read IsPair (trees (place r8 ∷ [])) ∷ place rbx ∷ []) (rbx ∷ r8 ∷ []) (rax ∷ rcx ∷ [])
    ≡ move (read IsPair (trees (place r8 ∷ []))) rax 0 true ∷ move (place rbx) r8 1 false ∷ move (place rax) rbx 0 false ∷ []
read_made = refl

read_cycles : cycles (read IsPair (trees (place r8 ∷ [])) ∷ place rbx ∷ []) (rbx ∷ r8 ∷ []) ≡ []
read_cycles = refl

-- rbx, rbx, `(eq? r8 r9)` to r8, r9, rbx: most use rbx, so the last is set aside
abbrev most : List Tree
most = place rbx ∷ place rbx ∷ read Eq (trees (place r8 ∷ place r9 ∷ [])) ∷ []

most_needed : needed (uses_target most (r8 ∷ r9 ∷ rbx ∷ [])) (0 ∷ 1 ∷ 2 ∷ []) 2 ≡ 2
most_needed = refl

most_choices : all_choices most (r8 ∷ r9 ∷ rbx ∷ []) ≡ Aside 2 ∷ Direct 0 ∷ Direct 1 ∷ []
most_choices = refl

-- A constant to rbx, r9 to r8 and `(eq? rbx r8)` to r9: the greedy moves take two temporaries, the constant
-- among them, though one would do. So with operands that read the greedy moves are not always the fewest.
abbrev mixed : List Tree
mixed = fixed 7 ∷ place r9 ∷ read Eq (trees (place rbx ∷ place r8 ∷ [])) ∷ []

greedy_takes_two : temps (made mixed (rbx ∷ r8 ∷ r9 ∷ []) (rax ∷ rcx ∷ rdx ∷ [])) ≡ 2
greedy_takes_two = refl

one_would_do : temps (transfers mixed (rbx ∷ r8 ∷ r9 ∷ []) (aside 1 rax ∷ direct 2 ∷ direct 0 ∷ onward 1 rax ∷ [])) ≡ 1
one_would_do = refl

one_does_r9 : after numbered (transfers mixed (rbx ∷ r8 ∷ r9 ∷ []) (aside 1 rax ∷ direct 2 ∷ direct 0 ∷ onward 1 rax ∷ [])) at_start r9 ≡ 1083
one_does_r9 = refl

one_does_r8 : after numbered (transfers mixed (rbx ∷ r8 ∷ r9 ∷ []) (aside 1 rax ∷ direct 2 ∷ direct 0 ∷ onward 1 rax ∷ [])) at_start r8 ≡ 9
one_does_r8 = refl

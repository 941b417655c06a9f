-- What the moves and the cycles are.
use Rattle.std.proofs.Common.{◌≡◌, List, length, refl, ap, arith}
use Rattle.std.specs.Prelude.{All}
use Rattle.std.proofs.lemmas.List.Elements.{All-from_recursion, recursion_from_All}
use Rattle.std.proofs.lemmas.List.{length-map}
use Rattle.sch_word.specs.declared.place.Place.{Place}
use Rattle.sch_shuffle.specs.Tree.{Tree}
use Rattle.sch_shuffle.specs.Assignment.{Transfer, AlwaysAssigns, AlwaysCarries, AreDistinct, IsAmong, IsSpare, AreSpare, temps}
use Rattle.sch_shuffle.specs.Plans.{ArePlanned, AreAtoms, NeedsTemporaries, IsMove, Act, IsAct, transfers}
use Rattle.sch_shuffle.specs.Greedy.{made, acts, all_choices}
use Rattle.sch_shuffle.specs.GreedySteps.{IsGreedy, IsOrdered, GoesOnInOrder}
use Rattle.sch_shuffle.specs.Cycles.{AreTheCycles}
use Rattle.sch_shuffle.specs.CycleSearch.{cycles, all_rings, places_at}
use Rattle.sch_shuffle.proofs.ArgumentOrder.{ordered, goes_on_in_order}
use Rattle.sch_shuffle.proofs.MovesAssign.{assigns, carries}
use Rattle.sch_shuffle.proofs.PlanOfChoices.{acts_move, none_across, planned}
use Rattle.sch_shuffle.proofs.GreedyMoves.{greedy}
use Rattle.sch_shuffle.proofs.ExactCycles.{the_cycles}
use Rattle.sch_shuffle.proofs.AtLeastRings.{at_least}
use Rattle.sch_shuffle.proofs.AtMostRings.{at_most}

module _ (args : List Tree) (targets free : List Place) (l : length targets ≡ length args) (f : length free ≡ length args)
    (apart : AreDistinct targets) (free_apart : AreDistinct free) (spare : AreSpare args targets free) where
  pub always_assigns : (ts : List Transfer) → ts ≡ made args targets free → AlwaysAssigns args targets ts
  always_assigns ts e = λ r. let h = assigns r args targets free l f apart free_apart spare in rw e h

  pub always_carries : (ts : List Transfer) → ts ≡ made args targets free → AlwaysCarries args ts
  always_carries ts e = λ r. let h = carries r args targets free l f apart free_apart spare in rw e h

  pub are_planned : (ts : List Transfer) → ts ≡ made args targets free → ArePlanned args targets free ts
  are_planned ts e = (acts free (all_choices args targets), planned args targets free (IsAmong free) (λ u h. (u, h, refl)) f, none_across free (all_choices args targets), e)

  pub are_moves : (ts : List Transfer) → ts ≡ made args targets free → All (IsMove args targets free) ts
  are_moves ts e =
      let plan = planned args targets free (IsAmong free) (λ u h. (u, h, refl)) f in
      let list : List Act = acts free (all_choices args targets) in
      let each = acts_move args targets free list (recursion_from_All (IsAct args (IsAmong free)) list plan.each) in
      rw e (All-from_recursion (IsMove args targets free) (transfers args targets list) each)

  pub is_greedy : (ts : List Transfer) → ts ≡ made args targets free → IsGreedy args targets free ts
  is_greedy ts e = let h = greedy args targets free in rw e h

  pub are_cycles : (cs : List (List Place)) → cs ≡ cycles args targets → AreTheCycles args targets cs
  are_cycles cs e = let h = the_cycles args targets l apart in rw e h

  cycle_count : length (cycles args targets) ≡ length (all_rings args targets)
  cycle_count = length-map (all_rings args targets) (places_at targets)

  pub needs : (cs : List (List Place)) → cs ≡ cycles args targets → NeedsTemporaries args targets (length cs)
  needs cs e list plan real =
      let h = at_least args targets l apart list plan real in
      let c = cycle_count in
      let d = ap length e in omega (arith, h, c, d)

  pub as_few : (ts : List Transfer) (cs : List (List Place)) → ts ≡ made args targets free → cs ≡ cycles args targets → AreAtoms args → temps ts ≡ length cs
  as_few ts cs e g atoms =
      let high = at_most args targets free l apart atoms in
      let low = at_least args targets l apart (acts free (all_choices args targets)) (planned args targets free (IsSpare args targets) spare f) (always_assigns (made args targets free) refl) in
      let c = cycle_count in
      let d = ap length g in
      let t = ap temps e in omega (arith, high, low, c, d, t)

  pub is_ordered : (ts : List Transfer) → ts ≡ made args targets free → IsOrdered (length args) ts
  is_ordered ts e = let h = ordered args targets free in rw e h

  pub go_on_in_order : (ts : List Transfer) → ts ≡ made args targets free → GoesOnInOrder (length args) targets ts
  go_on_in_order ts e = let h = goes_on_in_order args targets free in rw e h

-- The moves of a call as a greedy shuffle makes them (PLDI 1995: Burger, Waddell and Dybvig). This is said without the function
-- that makes them.
use Rattle.std.specs.Prelude.{◌≡◌, ℕ, suc, Bool, List, length, map}
use Rattle.sch_word.specs.declared.place.Place.{Place}
use Rattle.sch_word.specs.trees.Bindings.{numbers}
use Rattle.sch_control.specs.declared.operation.Application.{Application}
use Rattle.sch_layout.specs.BodyLayout.{Plan, arguments_at, target}
use Rattle.sch_shuffle.specs.Assignment.{AreSpare, Transfer, temps}
use Rattle.sch_shuffle.specs.Cycles.{AreTheCycles}
use Rattle.sch_shuffle.specs.GreedySteps.{GoesOnInOrder, IsGreedy, IsOrdered}
use Rattle.sch_shuffle.specs.Plans.{AreAtoms, ArePlanned, NeedsTemporaries}
use Rattle.sch_shuffle.specs.Tree.{Tree}
use Rattle.sch_homes.specs.CallMoves.{move_of, operand_tree}

module _ (plan : Plan) (tail : Bool) (a : Application ℕ) where
  -- what a shuffle is told of the operator and the operands, which is what places they use; and where it brings them
  abbrev pub arguments : List Tree
  arguments = map operand_tree (arguments_at plan.place a)

  abbrev pub targets : List Place
  targets = map (target tail plan.limit) (numbers 0 (suc (length a.operands)))

  -- Each argument is evaluated once. Of those that wait and whose target no other one that waits uses, the first goes to its
  -- target; where there is none, the first of those whose target most others use goes to the first free place that is not yet
  -- used. Behind these moves, what was set aside goes on to its target, in the same order. Where no argument reads by a
  -- primitive, as many are set aside as there are cycles among the targets; and no plan sets fewer aside than there are cycles.
  pub record IsGreedyCall : Type 0 where
    pub free : List Place
    pub steps : List Transfer
    pub cycles : List (List Place)
    pub moves : plan.moves tail a ≡ map (move_of (arguments_at plan.place a)) steps
    pub spare : AreSpare arguments targets free
    pub planned : ArePlanned arguments targets free steps
    pub greedy : IsGreedy arguments targets free steps
    pub ordered : IsOrdered (length arguments) steps
    pub onward : GoesOnInOrder (length arguments) targets steps
    pub exact : AreTheCycles arguments targets cycles
    pub few : AreAtoms arguments → temps steps ≡ length cycles
    pub fewest : NeedsTemporaries arguments targets (length cycles)

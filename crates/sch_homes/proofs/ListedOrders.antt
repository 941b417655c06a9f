-- What is listed of a call: in which order it moves its arguments first.
use Rattle.std.proofs.Common.{◌≡◌, ℕ, zero, suc, ◌<◌, Bool, true, List, [], ◌∷◌, length, map, take, refl, sym, ap, ◌∙◌, subst}
use Rattle.sch_word.specs.declared.place.Place.{Place}
use Rattle.sch_word.specs.runs.Orders.{is_permutation}
use Rattle.sch_word.specs.trees.NumberSets.{has}
use Rattle.sch_word.proofs.facts.Occurrences.{times_has}
use Rattle.sch_control.specs.declared.operation.Application.{Application}
use Rattle.sch_control.specs.declared.operation.Operand.{Operand}
use Rattle.sch_layout.specs.BodyLayout.{arguments_at}
use Rattle.sch_shuffle.specs.Assignment.{Transfer}
use Rattle.sch_shuffle.specs.CycleSearch.{cycles}
use Rattle.sch_shuffle.specs.Greedy.{made}
use Rattle.sch_shuffle.specs.GreedySteps.{order}
use Rattle.sch_shuffle.specs.Tree.{Tree}
use Rattle.sch_shuffle.proofs.ArgumentOrder.{ordered}
use Rattle.sch_orders.specs.declared.listed_call.ListedCall.{ListedCall}
use Rattle.sch_orders.proofs.EachOnce.{each_once}
use Rattle.sch_homes.specs.CallMoves.{call_arguments, call_free, call_targets, move_of, targets}
use Rattle.sch_homes.specs.ListedMoves.{first_moves, listed_call}
use Rattle.sch_homes.proofs.CallLists.{trees_length}

-- moves, as a call has them, are of the arguments of which they are in a shuffle
same_arguments : (arguments : List (Operand Place)) (n : ℕ) (ts : List Transfer) → map (λ m. m.argument) (take n (map (move_of arguments) ts)) ≡ order n ts
same_arguments arguments zero ts = refl
same_arguments arguments (suc n) [] = refl
same_arguments arguments (suc n) (t ∷ ts) = ap (λ ks. t.argument ∷ ks) (same_arguments arguments n ts)

abbrev call_with : ℕ → List ℕ → List (List Place) → ListedCall
call_with site order cycles = record { site = site; order = order; cycles = cycles }

module _ (end : ℕ) (lives : ℕ → Place) (tail : Bool) (a : Application ℕ) where
  abbrev free : List Place
  free = call_free end lives tail a

  moved_is : first_moves end lives tail a ≡ order (suc (length a.operands)) (made (call_arguments lives a) (call_targets tail a) free)
  moved_is = same_arguments (arguments_at lives a) (suc (length a.operands)) (made (call_arguments lives a) (call_targets tail a) free)

  -- each argument is moved first once
  pub moved_once : is_permutation (suc (length a.operands)) (first_moves end lives tail a) ≡ true
  moved_once =
      let n : ℕ = suc (length a.operands) in
      let moves : List Transfer = made (call_arguments lives a) (call_targets tail a) free in
      let long = trees_length lives a in
      let all = ordered (call_arguments lives a) (call_targets tail a) free in
      subst (λ ks. is_permutation n ks ≡ true) (sym moved_is)
      (each_once n (order n moves) (subst (λ m. length (order m moves) ≡ m) long all.whole)
      (λ k l. times_has k (order n moves) (subst (λ m. has k (order m moves) ≡ true) long (all.each k (subst (λ m. k < m) (sym long) l)))))

  -- what is made of the arguments and their targets
  pub listed_is : (args : List Tree) (to : List Place) (count m : ℕ) (moved : List ℕ) (round : List (List Place)) → args ≡ call_arguments lives a → count ≡ suc (length a.operands)
      → to ≡ targets tail count → m ≡ count → ((free : List Place) → moved ≡ order m (made args to free)) → round ≡ cycles args to
      → call_with a.site moved round ≡ listed_call end lives tail a
  listed_is args to count m moved round ea n et em eo ec =
      let there : to ≡ call_targets tail a = et ∙ ap (targets tail) n in
      let first : moved ≡ first_moves end lives tail a =
      eo free ∙ (ap (λ k. order k (made args to free)) (em ∙ n) ∙ (ap (λ ts. order (suc (length a.operands)) (made ts to free)) ea
      ∙ (ap (λ ps. order (suc (length a.operands)) (made (call_arguments lives a) ps free)) there ∙ sym moved_is))) in
      let rings : round ≡ cycles (call_arguments lives a) (call_targets tail a) = ec ∙ (ap (λ ts. cycles ts to) ea ∙ ap (cycles (call_arguments lives a)) there) in
      ap (λ o. call_with a.site o round) first ∙ ap (call_with a.site (first_moves end lives tail a)) rings

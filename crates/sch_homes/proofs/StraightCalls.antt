-- Of a call of which no argument uses the target of an earlier one the moves of a shuffle are those from each argument to its target.
use Rattle.std.proofs.Common.{◌≡◌, ℕ, zero, suc, ◌+◌, ◌-◌, ◌<◌, ◌≤◌, Bool, true, false, List, [], ◌∷◌, length, map, take, refl, ap, sym, ◌∙◌, arith}
use Rattle.std.specs.Prelude.{not, ◌||◌}
use Rattle.std.specs.List.{list_all, list_any}
use Rattle.std.proofs.lemmas.Bool.{not-true}
use Rattle.sch_word.specs.declared.place.Place.{Place}
use Rattle.sch_word.specs.trees.Bindings.{numbers}
use Rattle.sch_control.specs.declared.operation.Application.{Application}
use Rattle.sch_control.specs.declared.operation.Atom.{Atom}
use Rattle.sch_control.proofs.NumberRows.{each_number}
use Rattle.sch_layout.specs.BodyLayout.{arguments_at, atom_at, atoms_at, target}
use Rattle.sch_layout.specs.Moves.{Move}
use Rattle.sch_orders.specs.declared.listed_call.ListedCall.{ListedCall}
use Rattle.sch_shuffle.specs.Assignment.{place_at}
use Rattle.sch_shuffle.specs.CycleSearch.{cycles}
use Rattle.sch_shuffle.specs.Greedy.{uses_target}
use Rattle.sch_shuffle.specs.Plans.{direct}
use Rattle.sch_shuffle.specs.Tree.{Tree, trees, uses, uses_one}
use Rattle.sch_shuffle.proofs.WaitingArguments.{numbers_next}
use Rattle.sch_homes.specs.CallMoves.{aside_end, argument_of, atom_tree, call_arguments, call_end, call_free, call_moves, call_targets, first_temporary, move_of, next_frame, operand_tree}
use Rattle.sch_homes.specs.ListedMoves.{first_moves, listed_call, straight_call}
use Rattle.sch_homes.specs.StraightCalls.{are_in_order, keeps_off_earlier, straight_move, straight_moves}
use Rattle.sch_homes.proofs.CallLists.{trees_length}
use Rattle.sch_homes.proofs.CallSpare as spare
use Rattle.sch_homes.proofs.Numbered.{map_at}
use Rattle.sch_homes.proofs.ShuffledMoves.{act_move, moves_back, tree_at}
use Rattle.sch_homes.proofs.StraightArguments.{no_cycles, straight_made}

-- ## Tests of numbers

module _ (f : ℕ → Bool) (n : ℕ) where
  -- one number more passes
  pub passed : (j : ℕ) → j < n → list_all f (numbers j (n - j)) ≡ list_all f (numbers 0 n) → f j ≡ true → list_all f (numbers (j + 1) (n - (j + 1))) ≡ list_all f (numbers 0 n)
  passed j lt e t = let r = sym (ap (list_all f) (numbers_next n j lt)) ∙ e in rw t at r

  -- one does not
  pub failed : (j : ℕ) → j < n → list_all f (numbers j (n - j)) ≡ list_all f (numbers 0 n) → f j ≡ false → false ≡ list_all f (numbers 0 n)
  failed j lt e t = let r = sym (ap (list_all f) (numbers_next n j lt)) ∙ e in rw t at r

  -- all have
  pub all_passed : (j : ℕ) → j ≡ n → list_all f (numbers j (n - j)) ≡ list_all f (numbers 0 n) → true ≡ list_all f (numbers 0 n)
  all_passed j e h = let none : n - j ≡ 0 = omega (arith, e) in sym (ap (λ m. list_all f (numbers j m)) none) ∙ h

-- ## What arguments use

pub one_of_atoms : (lives : ℕ → Place) (p : Place) (atoms : List (Atom ℕ))
    → list_any (λ a. uses (atom_tree (atom_at lives a)) p) atoms ≡ uses_one (trees (map atom_tree (atoms_at lives atoms))) p
one_of_atoms lives p [] = refl
one_of_atoms lives p (a ∷ atoms) = ap (λ t. uses (atom_tree (atom_at lives a)) p || t) (one_of_atoms lives p atoms)

-- what uses nothing keeps off all targets
pub nothing_used : (ks : List ℕ) → true ≡ list_all (λ k. true) ks
nothing_used [] = refl
nothing_used (k ∷ ks) = nothing_used ks

-- ## The moves

module _ (lives : ℕ → Place) (tail : Bool) (a : Application ℕ) (ordered : are_in_order lives tail a ≡ true) where
  abbrev n : ℕ
  n = suc (length a.operands)

  abbrev args : List Tree
  args = call_arguments lives a

  abbrev to : List Place
  to = call_targets tail a

  -- what a shuffle is told of an argument, by its number
  abbrev told : ℕ → Tree
  told j = operand_tree (argument_of (arguments_at lives a) j)

  targets_off : (j k : ℕ) → k < j → j < length args → uses_target args to j k ≡ false
  targets_off j k earlier within =
      let long = trees_length lives a in
      let off : keeps_off_earlier tail j (told j) ≡ true = each_number (λ i. keeps_off_earlier tail i (told i)) 0 n j ordered (omega arith) (omega (arith, within, long)) in
      let free : not (uses (told j) (target tail next_frame k)) ≡ true = each_number (λ i. not (uses (told j) (target tail next_frame i))) 0 j k off (omega arith) (omega (arith, earlier)) in
      ap (λ x. uses x (place_at to k)) (tree_at (arguments_at lives a) j)
      ∙ (ap (uses (told j)) (map_at (target tail next_frame) n k (omega (arith, earlier, within, long))) ∙ not-true (uses (told j) (target tail next_frame k)) free)

  abbrev move_to : ℕ → Place → Move
  move_to k p = record { argument = k; from = argument_of (arguments_at lives a) k; to = p; temp = false }

  each_straight : (count first : ℕ) → first + count ≤ n → map (act_move (arguments_at lives a) to) (map direct (numbers first count)) ≡ map (straight_move lives tail a) (numbers first count)
  each_straight zero first le = refl
  each_straight (suc count) first le =
      ap (λ p. move_to first p ∷ map (act_move (arguments_at lives a) to) (map direct (numbers (suc first) count))) (map_at (target tail next_frame) n first (omega (arith, le)))
      ∙ ap (λ ms. straight_move lives tail a first ∷ ms) (each_straight count (suc first) (omega (arith, le)))

  pub straight_is : (end : ℕ) → straight_moves lives tail a ≡ call_moves end lives tail a
  straight_is end =
      sym (ap (map (move_of (arguments_at lives a))) (straight_made args to targets_off (call_free end lives tail a))
      ∙ (moves_back (arguments_at lives a) to (map direct (numbers 0 (length args)))
      ∙ (ap (λ m. map (act_move (arguments_at lives a) to) (map direct (numbers 0 m))) (trees_length lives a) ∙ each_straight n 0 (omega arith))))

  none_aside : (first : ℕ) (ks : List ℕ) → aside_end first (map (straight_move lives tail a) ks) ≡ first
  none_aside first [] = refl
  none_aside first (k ∷ ks) = let h = none_aside first ks in omega (arith, h)

  -- nothing is set aside
  pub straight_end : (end : ℕ) → first_temporary end (length a.operands) ≡ call_end end lives tail a
  straight_end end = sym (ap (aside_end (first_temporary end (length a.operands))) (sym (straight_is end)) ∙ none_aside (first_temporary end (length a.operands)) (numbers 0 n))

  -- ## What is listed

  abbrev moved_first : List Move → List ℕ
  moved_first ms = map (λ m. m.argument) (take n ms)

  abbrev listed : List ℕ → List (List Place) → ListedCall
  listed order round = record { site = a.site; order = order; cycles = round }

  in_order : (count first : ℕ) → map (λ m. m.argument) (take count (map (straight_move lives tail a) (numbers first count))) ≡ numbers first count
  in_order zero first = refl
  in_order (suc count) first = ap (λ ks. first ∷ ks) (in_order count (suc first))

  pub straight_listed : (end : ℕ) → straight_call a ≡ listed_call end lives tail a
  straight_listed end =
      let long = spare.targets_count tail n in
      let many = trees_length lives a in
      let order : first_moves end lives tail a ≡ numbers 0 n = ap moved_first (sym (straight_is end)) ∙ in_order n 0 in
      let none : cycles args to ≡ [] = no_cycles args to targets_off (long ∙ sym many) (spare.targets_distinct tail n) in
      ap (λ order. listed order []) (sym order) ∙ ap (listed (first_moves end lives tail a)) (sym none)

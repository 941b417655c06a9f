-- The moves of a call do no more than bring each argument into its place, by way of another at most.
use Rattle.std.proofs.Common.{◌≡◌, ℕ, suc, ◌+◌, ◌*◌, ◌≤◌, List, [], ◌∷◌, ◌++◌, length, map, Option, Some, None, Bool, true, false, cond, refl, sym, ap, ◌∙◌, subst, arith}
use Rattle.std.proofs.lemmas.List.{length-map, map-append}
use Rattle.sch_word.specs.declared.mark.MarkKind.{MarkKind}
use Rattle.sch_word.specs.declared.place.Place.{Place}
use Rattle.sch_word.specs.trees.Bindings.{numbers}
use Rattle.sch_word.proofs.facts.NumberSets.{numbers_length}
use Rattle.sch_control.specs.declared.body.Entry.{Entry}
use Rattle.sch_control.specs.declared.operation.Application.{Application}
use Rattle.sch_control.specs.declared.operation.Atom.TheVariants.{Constant, Literal, Variable}
use Rattle.sch_control.specs.declared.operation.Operand.{Operand}
use Rattle.sch_control.specs.declared.operation.Operand.TheVariants as operand
use Rattle.sch_control.specs.declared.operation.Operation.TheVariants as operation
use Rattle.sch_control.specs.Tree.{Expression}
use Rattle.sch_control.specs.Work.{operands_work}
use Rattle.sch_frames.specs.declared.instruction.Instruction.{Instruction}
use Rattle.sch_frames.specs.declared.instruction.Instruction.TheVariants.{Do, Copy}
use Rattle.sch_word.specs.values.Places.{same_place}
use Rattle.sch_frames.specs.Sizes.{copies_of, grouped, instructions_size}
use Rattle.sch_layout.specs.BodyLayout.{arguments_at, is_direct, move_all, move_into, move_mark, operand_at, operands_at, under, writing}
use Rattle.sch_layout.specs.FewCopies.{MovesFew, work_in}
use Rattle.sch_layout.specs.Moves.{Move}
use Rattle.sch_layout.proofs.layouts.LayoutSize.{given, operand_kept}
use Rattle.sch_layout.proofs.layouts.MovesSize.{writing_as}
use Rattle.sch_shuffle.specs.declared.choice.Choice.{Choice}
use Rattle.sch_shuffle.specs.declared.choice.Choice.TheVariants.{Direct, Aside}
use Rattle.sch_shuffle.specs.Assignment.{place_at}
use Rattle.sch_shuffle.specs.Greedy.{acts, all_choices, evaluations, onwards, uses_target}
use Rattle.sch_shuffle.specs.Plans.{Act, direct, aside, onward}
use Rattle.sch_shuffle.specs.Tree.{Tree}
use Rattle.sch_shuffle.proofs.SetAside.{all_asides_less, asides_in, sum_chosen, sum_of}
use Rattle.sch_shuffle.proofs.WaitingArguments.{length_choices, members}
use Rattle.sch_homes.specs.CallMoves.{argument_of, call_arguments, call_free, call_moves, call_targets, next_frame, operand_tree}
use Rattle.sch_homes.specs.Homes.{homes_end, homes_plan, place}
use Rattle.sch_homes.proofs.CallLists.{trees_length}
use Rattle.sch_homes.proofs.ShuffledMoves.{act_move, moves_back}

-- how much there is more to do and to copy than in what follows
record Adds (done copies : ℕ) (more rest : List Instruction) : Type 0 where
  done_less : work_in more ≤ done + work_in rest
  copies_less : copies_of more ≤ copies + copies_of rest

copied : (m : Option MarkKind) (to p : Place) (rest : List Instruction) → Adds 0 1 (under m (Copy to p) rest) rest
copied None to p rest = record { done_less = omega arith; copies_less = omega arith }
copied (Some m) to p rest = record { done_less = omega arith; copies_less = omega arith }

module _ (limit : ℕ) where
  written : (o : Operand Place) (m : Option MarkKind) (to : Place) (rest : List Instruction) → Adds (given o) 1 (Do (operation.Operand o) ∷ under m (writing limit to) rest) rest
  written o m to rest = by m where
    by : (m : Option MarkKind) → Adds (given o) 1 (Do (operation.Operand o) ∷ under m (writing limit to) rest) rest
    by None =
        let e = writing_as limit instructions_size (λ to rest. refl) (λ k rest. refl) to rest in
        let f = writing_as limit grouped (λ to rest. refl) (λ k rest. refl) to rest in
        let g = writing_as limit copies_of (λ to rest. refl) (λ k rest. refl) to rest in
        record { done_less = omega (arith, e, f); copies_less = omega (arith, g) }
    by (Some m) =
        let e = writing_as limit instructions_size (λ to rest. refl) (λ k rest. refl) to rest in
        let f = writing_as limit grouped (λ to rest. refl) (λ k rest. refl) to rest in
        let g = writing_as limit copies_of (λ to rest. refl) (λ k rest. refl) to rest in
        record { done_less = omega (arith, e, f); copies_less = omega (arith, g) }

  one_move : (to : Place) (m : Option MarkKind) (o : Operand Place) (rest : List Instruction) → Adds (given o) 1 (move_into limit to m o rest) rest
  one_move to m (operand.Atom (Variable p)) rest = by (same_place to p) (is_direct limit to p) where
    by : (t d : Bool)
        → Adds (given (operand.Atom (Variable p))) 1 (cond t rest (cond d (under m (Copy to p) rest) (Do (operation.Operand (operand.Atom (Variable p))) ∷ under m (writing limit to) rest))) rest
    by true d = record { done_less = omega arith; copies_less = omega arith }
    by false true = let c = copied m to p rest in let d = c.done_less in let k = c.copies_less in record { done_less = omega (arith, d); copies_less = omega (arith, k) }
    by false false = written (operand.Atom (Variable p)) m to rest
  one_move to m (operand.Atom (Constant c)) rest = written (operand.Atom (Constant c)) m to rest
  one_move to m (operand.Atom (Literal n)) rest = written (operand.Atom (Literal n)) m to rest
  one_move to m (operand.Read site which atoms) rest = written (operand.Read site which atoms) m to rest

  joined : (xs ys : List Move) (rest : List Instruction) → move_all limit (xs ++ ys) rest ≡ move_all limit xs (move_all limit ys rest)
  joined [] ys rest = refl
  joined (m ∷ xs) ys rest = ap (move_into limit m.to (move_mark m) m.from) (joined xs ys rest)

abbrev given_each : List (Operand Place) → ℕ
given_each [] = 0
given_each (o ∷ os) = given o + given_each os

given_work : (lives : ℕ → Place) (operands : List (Operand ℕ)) → given_each (operands_at lives operands) + 2 * length operands ≡ operands_work operands
given_work lives [] = refl
given_work lives (o ∷ operands) =
    let h = given_work lives operands in
    let k = operand_kept lives o in
    omega (arith, h, k)

module _ (os : List (Operand Place)) (targets free : List Place) where
  abbrev cost : ℕ → ℕ
  cost k = given (argument_of os k)

  abbrev laid : List Act → List Instruction → List Instruction
  laid list rest = move_all next_frame (map (act_move os targets) list) rest

  -- each argument goes to its target or is set aside
  evaluations_add : (W : ℕ → ℕ → Bool) (cs : List Choice) (u : ℕ) (rest : List Instruction) → Adds (sum_of W cost (members cs)) (length cs) (laid (evaluations free u cs) rest) rest
  evaluations_add W [] u rest = record { done_less = omega arith; copies_less = omega arith }
  evaluations_add W (Direct k ∷ cs) u rest =
      let more = laid (evaluations free u cs) rest in
      let a = one_move next_frame (place_at targets k) (move_mark (act_move os targets (direct k))) (argument_of os k) more in
      let b = evaluations_add W cs u rest in
      let ad = a.done_less in let ac = a.copies_less in let bd = b.done_less in let bc = b.copies_less in
      record { done_less = omega (arith, ad, bd); copies_less = omega (arith, ac, bc) }
  evaluations_add W (Aside k ∷ cs) u rest =
      let more = laid (evaluations free (suc u) cs) rest in
      let a = one_move next_frame (place_at free u) (move_mark (act_move os targets (aside k (place_at free u)))) (argument_of os k) more in
      let b = evaluations_add W cs (suc u) rest in
      let ad = a.done_less in let ac = a.copies_less in let bd = b.done_less in let bc = b.copies_less in
      record { done_less = omega (arith, ad, bd); copies_less = omega (arith, ac, bc) }

  -- and what is set aside goes on
  onwards_add : (cs : List Choice) (u : ℕ) (rest : List Instruction) → Adds (2 * length (asides_in cs)) (length (asides_in cs)) (laid (onwards free u cs) rest) rest
  onwards_add [] u rest = record { done_less = omega arith; copies_less = omega arith }
  onwards_add (Direct k ∷ cs) u rest = onwards_add cs u rest
  onwards_add (Aside k ∷ cs) u rest =
      let more = laid (onwards free (suc u) cs) rest in
      let a = one_move next_frame (place_at targets k) (move_mark (act_move os targets (onward k (place_at free u)))) (operand.Atom (Variable (place_at free u))) more in
      let b = onwards_add cs (suc u) rest in
      let ad = a.done_less in let ac = a.copies_less in let bd = b.done_less in let bc = b.copies_less in
      record { done_less = omega (arith, ad, bd); copies_less = omega (arith, ac, bc) }

  -- what all arguments give, by their numbers and one after the other
  sum_listed : (W : ℕ → ℕ → Bool) (xs : List (Operand Place)) (from : ℕ) → ((k : ℕ) → argument_of os (from + k) ≡ argument_of xs k) → sum_of W cost (numbers from (length xs)) ≡ given_each xs
  sum_listed W [] from h = refl
  sum_listed W (x ∷ xs) from h =
      let z : from + 0 ≡ from = omega arith in
      let here : cost from ≡ given x = ap given (ap (argument_of os) (sym z) ∙ h 0) in
      let more = sum_listed W xs (suc from) (λ k. let s : suc from + k ≡ from + suc k = omega arith in ap (argument_of os) s ∙ h (suc k)) in
      omega (arith, here, more)

module _ (used : ℕ) (lives : ℕ → Place) (tail : Bool) (a : Application ℕ) (rest : List Instruction) where
  abbrev arguments : List (Operand Place)
  arguments = arguments_at lives a

  abbrev trees : List Tree
  trees = call_arguments lives a

  abbrev to : List Place
  to = call_targets tail a

  abbrev free : List Place
  free = call_free used lives tail a

  abbrev cs : List Choice
  cs = all_choices trees to

  laid_both : move_all next_frame (call_moves used lives tail a) rest ≡ laid arguments to free (evaluations free 0 cs) (laid arguments to free (onwards free 0 cs) rest)
  laid_both =
      ap (λ ms. move_all next_frame ms rest) (moves_back arguments to (acts free cs) ∙ map-append (act_move arguments to) (evaluations free 0 cs) (onwards free 0 cs))
      ∙ joined next_frame (map (act_move arguments to) (evaluations free 0 cs)) (map (act_move arguments to) (onwards free 0 cs)) rest

  moves_add : Adds (given (operand_at lives a.operator) + operands_work a.operands) (suc (2 * length a.operands)) (move_all next_frame (call_moves used lives tail a) rest) rest
  moves_add =
      subst (λ is. Adds (given (operand_at lives a.operator) + operands_work a.operands) (suc (2 * length a.operands)) is rest) (sym laid_both)
      (let W = uses_target trees to in
      let many = trees_length lives a in
      let first = evaluations_add arguments to free W cs 0 (laid arguments to free (onwards free 0 cs) rest) in
      let second = onwards_add arguments to free cs 0 rest in
      let chosen = sum_chosen W (cost arguments to free) (length trees) (numbers 0 (length trees)) (numbers_length 0 (length trees)) in
      let same = length-map arguments operand_tree in
      let listed = sum_listed arguments to free W arguments 0 (λ k. let z : 0 + k ≡ k = omega arith in ap (argument_of arguments) z) in
      let all : sum_of W (cost arguments to free) (members cs) ≡ given_each arguments = chosen ∙ (ap (λ n. sum_of W (cost arguments to free) (numbers 0 n)) same ∙ listed) in
      let each = length_choices W (length trees) (numbers 0 (length trees)) in
      let few = all_asides_less trees to (length a.operands) many in
      let w = given_work lives a.operands in
      let fd = first.done_less in let fc = first.copies_less in let sd = second.done_less in let sc = second.copies_less in
      record { done_less = omega (arith, fd, sd, all, few, w); copies_less = omega (arith, fc, sc, each, many, few) })

pub moves_few : (entry : Option Entry) (e : Expression) (places : List Place) (tail : Bool) (a : Application ℕ) → MovesFew (homes_plan entry e places) tail a
moves_few entry e places tail a = record {
  done = λ rest. (
      let m = moves_add (homes_end entry e places) (place entry e places) tail a rest in
      let d = m.done_less in
      let k = operand_kept (place entry e places) a.operator in
      omega (arith, d, k)
      );
  copies = λ rest. (let m = moves_add (homes_end entry e places) (place entry e places) tail a rest in let c = m.copies_less in omega (arith, c));
}

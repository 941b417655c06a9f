-- The moves of a call need labels for what its operator and its operands read alone: each of these is evaluated once.
use Rattle.std.proofs.Common.{◌≡◌, ℕ, zero, suc, ◌+◌, ◌*◌, ◌<◌, ◌≤◌, Bool, true, false, cond, List, [], ◌∷◌, length, map, Option, Some, None, refl, sym, ap, ◌∙◌, arith, length-append}
use Rattle.std.specs.Prelude.{nat_eq, nat_lt, ◌-◌}
use Rattle.std.specs.List.{AllByRecursion, sum_by}
use Rattle.std.proofs.lemmas.Bool.{eqb-false, ltb-false, ltb-true}
use Rattle.std.proofs.lemmas.List.{length-map}
use Rattle.std.proofs.lemmas.List.Elements.{recursion_from_All}
use Rattle.std.proofs.lemmas.List.Sums.{sum_by-cons}
use Rattle.sch_word.specs.declared.mark.MarkKind.{MarkKind}
use Rattle.sch_word.specs.declared.place.Place.{Place}
use Rattle.sch_word.specs.declared.place.Place.TheVariants.{Reg, Slot}
use Rattle.sch_word.specs.trees.Bindings.{numbers}
use Rattle.sch_word.specs.values.Places.{same_place}
use Rattle.sch_word.proofs.facts.Occurrences.{one, one_other, times, times_cons}
use Rattle.sch_control.specs.declared.operation.Application.{Application}
use Rattle.sch_control.specs.declared.operation.Atom.TheVariants.{Constant, Literal, Variable}
use Rattle.sch_control.specs.declared.operation.Operand.{Operand}
use Rattle.sch_control.specs.declared.operation.Operand.TheVariants as operand
use Rattle.sch_control.specs.declared.operation.Operation.TheVariants as operation
use Rattle.sch_control.specs.AtomsAndSites.{operand_sites, operands_sites}
use Rattle.sch_frames.specs.declared.instruction.Instruction.{Instruction}
use Rattle.sch_frames.specs.declared.instruction.Instruction.TheVariants.{Do, Store, Copy, Pass}
use Rattle.sch_layout.specs.BodyLayout.{Plan, arguments_at, is_direct, move_all, move_into, move_mark, operand_at, operands_at, under, writing}
use Rattle.sch_layout.specs.Moves.{Move}
use Rattle.sch_shuffle.specs.Assignment as shuffle
use Rattle.sch_shuffle.specs.Assignment.{IsAmong}
use Rattle.sch_shuffle.specs.Plans.{Act, IsAct, IsPlan, across, aside, count, direct, evaluates, onward, transfers}
use Rattle.sch_shuffle.specs.Tree.{Tree, fixed, literal, place, read}
use Rattle.sch_homes.specs.CallMoves.{argument_of, move_of, operand_tree, taken}
use Rattle.sch_registers.specs.GreedyCalls.{IsGreedyCall, targets}
use Rattle.sch_select.specs.Select.{all_labels_needed, labels_needed, operand_needs}
use Rattle.sch_driver.proofs.labels.Occurring.{sum_within}

-- ## One move

pub under_needs : (m : Option MarkKind) (i : Instruction) (rest : List Instruction) → all_labels_needed (under m i rest) ≡ labels_needed i + all_labels_needed rest
under_needs None i rest = refl
under_needs (Some m) i rest = omega arith

abbrev each_needs : List Move → ℕ
each_needs [] = 0
each_needs (m ∷ ms) = operand_needs m.from + each_needs ms

module _ (limit : ℕ) where
  writing_needs : (to : Place) → labels_needed (writing limit to) ≡ 0
  writing_needs (Reg r) = refl
  writing_needs (Slot j) = by (nat_lt j limit) where
    by : (b : Bool) → labels_needed (cond b (Store (Slot j)) (Pass (j - limit))) ≡ 0
    by true = refl
    by false = refl

  written_needs : (to : Place) (m : Option MarkKind) (o : Operand Place) (rest : List Instruction)
      → all_labels_needed (Do (operation.Operand o) ∷ under m (writing limit to) rest) ≡ operand_needs o + all_labels_needed rest
  written_needs to m o rest = let u = under_needs m (writing limit to) rest in let w = writing_needs to in omega (arith, u, w)

  move_needs : (to : Place) (m : Option MarkKind) (o : Operand Place) (rest : List Instruction)
      → all_labels_needed (move_into limit to m o rest) ≡ operand_needs o + all_labels_needed rest
  move_needs to m (operand.Atom (Variable p)) rest = by (same_place to p) (is_direct limit to p) where
    by : (t d : Bool)
        → all_labels_needed (cond t rest (cond d (under m (Copy to p) rest) (Do (operation.Operand (operand.Atom (Variable p))) ∷ under m (writing limit to) rest)))
        ≡ operand_needs (operand.Atom (Variable p)) + all_labels_needed rest
    by true d = omega arith
    by false true = under_needs m (Copy to p) rest
    by false false = written_needs to m (operand.Atom (Variable p)) rest
  move_needs to m (operand.Atom (Constant c)) rest = written_needs to m (operand.Atom (Constant c)) rest
  move_needs to m (operand.Atom (Literal n)) rest = written_needs to m (operand.Atom (Literal n)) rest
  move_needs to m (operand.Read site which atoms) rest = written_needs to m (operand.Read site which atoms) rest

  moves_need : (ms : List Move) (rest : List Instruction) → all_labels_needed (move_all limit ms rest) ≡ each_needs ms + all_labels_needed rest
  moves_need [] rest = omega arith
  moves_need (m ∷ ms) rest =
      let here = move_needs m.to (move_mark m) m.from (move_all limit ms rest) in
      let more = moves_need ms rest in
      omega (arith, here, more)

-- ## The moves of a plan

-- the arguments that acts evaluate
abbrev evaluated : List Act → List ℕ
evaluated [] = []
evaluated (direct k ∷ acts) = k ∷ evaluated acts
evaluated (aside k p ∷ acts) = k ∷ evaluated acts
evaluated (across k p q ∷ acts) = evaluated acts
evaluated (onward k p ∷ acts) = evaluated acts

count_more : (b : Bool) (n m : ℕ) → n ≡ m → cond b 1 0 + n ≡ cond b (suc m) m
count_more true n m e = omega (arith, e)
count_more false n m e = omega (arith, e)

evaluated_times : (i : ℕ) (acts : List Act) → times i (evaluated acts) ≡ count (evaluates i) acts
evaluated_times i [] = refl
evaluated_times i (direct k ∷ acts) = times_cons i k (evaluated acts) ∙ count_more (nat_eq k i) _ _ (evaluated_times i acts)
evaluated_times i (aside k p ∷ acts) = times_cons i k (evaluated acts) ∙ count_more (nat_eq k i) _ _ (evaluated_times i acts)
evaluated_times i (across k p q ∷ acts) = evaluated_times i acts
evaluated_times i (onward k p ∷ acts) = evaluated_times i acts

-- no number is evaluated that is no argument's
evaluated_low : (args : List Tree) (T : Place → Type 0) (i : ℕ) → length args ≤ i → (acts : List Act) → AllByRecursion (IsAct args T) acts → times i (evaluated acts) ≡ 0
evaluated_low args T i low [] h = refl
evaluated_low args T i low (direct k ∷ acts) h =
    let here = h.0 in
    let more = evaluated_low args T i low acts h.1 in
    omega (arith, more, times_cons i k (evaluated acts), one_other i k (λ e. omega (arith, e, low, here)))
evaluated_low args T i low (aside k p ∷ acts) h =
    let here = h.0.0 in
    let more = evaluated_low args T i low acts h.1 in
    omega (arith, more, times_cons i k (evaluated acts), one_other i k (λ e. omega (arith, e, low, here)))
evaluated_low args T i low (across k p q ∷ acts) h = evaluated_low args T i low acts h.1
evaluated_low args T i low (onward k p ∷ acts) h = evaluated_low args T i low acts h.1

-- each number of a row stands in it
row_times : (i x n : ℕ) → x ≤ i → i < x + n → 1 ≤ times i (numbers x n)
row_times i x zero from to = absurd (omega (arith, from, to))
row_times i x (suc n) from to = by (nat_eq x i) refl (row_times i (suc x) n) where
  by : (b : Bool) → nat_eq x i ≡ b → (suc x ≤ i → i < suc x + n → 1 ≤ times i (numbers (suc x) n)) → 1 ≤ times i (x ∷ numbers (suc x) n)
  by true e more = let m : one i x ≡ 1 = ap (λ b. cond {A = ℕ} b 1 0) e in omega (arith, times_cons i x (numbers (suc x) n), m)
  by false e more = let rest = more (omega (arith, from, eqb-false x i e)) (omega (arith, to)) in omega (arith, rest, times_cons i x (numbers (suc x) n))

abbrev all_need : List (Operand Place) → ℕ
all_need [] = 0
all_need (o ∷ os) = operand_needs o + all_need os

module _ (os : List (Operand Place)) (targets : List Place) where
  abbrev trees : List Tree
  trees = map operand_tree os

  abbrev needs_at : ℕ → ℕ
  needs_at k = operand_needs (argument_of os k)

  taken_needs : (t : Tree) (o : Operand Place) → operand_needs (taken t o) ≤ operand_needs o
  taken_needs (place p) o = omega arith
  taken_needs (fixed n) o = omega arith
  taken_needs (literal n) o = omega arith
  taken_needs (read which xs) o = omega arith

  acts_need : (acts : List Act) → each_needs (map (move_of os) (transfers trees targets acts)) ≤ sum_by needs_at (evaluated acts)
  acts_need [] = omega arith
  acts_need (direct k ∷ acts) =
      let here = taken_needs (shuffle.operand_at trees k) (argument_of os k) in
      let more = acts_need acts in
      omega (arith, here, more, sum_by-cons needs_at k (evaluated acts))
  acts_need (aside k p ∷ acts) =
      let here = taken_needs (shuffle.operand_at trees k) (argument_of os k) in
      let more = acts_need acts in
      omega (arith, here, more, sum_by-cons needs_at k (evaluated acts))
  acts_need (across k p q ∷ acts) = let more = acts_need acts in omega (arith, more)
  acts_need (onward k p ∷ acts) = let more = acts_need acts in omega (arith, more)

  -- what all arguments need, by their numbers and one after the other
  row_needs : (xs : List (Operand Place)) (from : ℕ) → ((k : ℕ) → argument_of os (from + k) ≡ argument_of xs k)
      → sum_by needs_at (numbers from (length xs)) ≡ all_need xs
  row_needs [] from h = refl
  row_needs (x ∷ xs) from h =
      let z : from + 0 ≡ from = omega arith in
      let here : needs_at from ≡ operand_needs x = ap operand_needs (ap (argument_of os) (sym z) ∙ h 0) in
      let more = row_needs xs (suc from) (λ k. let s : suc from + k ≡ from + suc k = omega arith in ap (argument_of os) s ∙ h (suc k)) in
      omega (arith, here, more, sum_by-cons needs_at from (numbers (suc from) (length xs)))

  plan_needs : (T : Place → Type 0) (acts : List Act) → IsPlan trees T acts → each_needs (map (move_of os) (transfers trees targets acts)) ≤ all_need os
  plan_needs T acts plan =
      let same = length-map os operand_tree in
      let each = recursion_from_All (IsAct trees T) acts plan.each in
      let once : (i : ℕ) → times i (evaluated acts) ≤ times i (numbers 0 (length os)) = λ i. by i (nat_lt i (length os)) refl (evaluated_times i acts) each in
      let within = sum_within needs_at (evaluated acts) (numbers 0 (length os)) once in
      let all = row_needs os 0 (λ k. let z : 0 + k ≡ k = omega arith in ap (argument_of os) z) in
      let need = acts_need acts in
      omega (arith, within, all, need)
    where
      by : (i : ℕ) (b : Bool) → nat_lt i (length os) ≡ b → times i (evaluated acts) ≡ count (evaluates i) acts → AllByRecursion (IsAct trees T) acts
          → times i (evaluated acts) ≤ times i (numbers 0 (length os))
      by i true e t each =
          let lt = ltb-true i (length os) e in
          let same = length-map os operand_tree in
          let o = plan.once i (omega (arith, lt, same)) in
          let r = row_times i 0 (length os) (omega arith) (omega (arith, lt)) in
          omega (arith, t, o, r)
      by i false e t each =
          let ge = ltb-false i (length os) e in
          let same = length-map os operand_tree in
          let none = evaluated_low trees T i (omega (arith, ge, same)) acts each in
          omega (arith, none)

-- ## The moves of a call

operand_reads : (lives : ℕ → Place) (o : Operand ℕ) → operand_needs (operand_at lives o) ≤ 4 * length (operand_sites o)
operand_reads lives (operand.Atom a) = omega arith
operand_reads lives (operand.Read site which atoms) = omega arith

operands_read : (lives : ℕ → Place) (os : List (Operand ℕ)) → all_need (operands_at lives os) ≤ 4 * length (operands_sites os)
operands_read lives [] = omega arith
operands_read lives (o ∷ os) =
    let here = operand_reads lives o in
    let more = operands_read lives os in
    omega (arith, here, more, length-append (operand_sites o) (operands_sites os))

pub greedy_needs : (plan : Plan) (tail : Bool) (a : Application ℕ) → IsGreedyCall plan tail a → (rest : List Instruction)
    → all_labels_needed (move_all plan.limit (plan.moves tail a) rest) ≤ 4 * length (operands_sites (a.operator ∷ a.operands)) + all_labels_needed rest
greedy_needs plan tail a g rest =
    let arguments = arguments_at plan.place a in
    let goes = targets plan tail a in
    let planned = g.planned in
    let moves : each_needs (plan.moves tail a) ≡ each_needs (map (move_of arguments) (transfers (map operand_tree arguments) goes planned.0)) =
    ap each_needs (g.moves ∙ ap (map (move_of arguments)) planned.3) in
    let need = plan_needs arguments goes (IsAmong g.free) planned.0 planned.1 in
    let reads = operands_read plan.place (a.operator ∷ a.operands) in
    let all = moves_need plan.limit (plan.moves tail a) rest in
    omega (arith, moves, need, reads, all)

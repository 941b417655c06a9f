-- The lists of a call's arguments, their targets and where they may be set aside, as they are made one after the other.
use Rattle.std.proofs.Common.{◌≡◌, ◌≢◌, ℕ, zero, suc, ◌+◌, ◌-◌, ◌<◌, List, [], ◌∷◌, ◌++◌, length, map, take, get_or, Some, None, Bool, refl, sym, ap, ◌∙◌, subst, arith}
use Rattle.std.specs.Prelude.{◌||◌, filter, slice_get}
use Rattle.std.specs.List.{list_any}
use Rattle.std.proofs.lemmas.List.{length-map, map-append, take_more}
use Rattle.std.proofs.lemmas.List.Elements.{filter-append}
use Rattle.sch_word.specs.declared.constant.Const.TheVariants.{Nil}
use Rattle.sch_word.specs.declared.place.Place.{Place}
use Rattle.sch_word.specs.declared.place.Place.TheVariants.{Reg}
use Rattle.sch_control.specs.declared.operation.Application.{Application}
use Rattle.sch_control.specs.declared.operation.Atom.TheVariants.{Constant}
use Rattle.sch_control.specs.declared.operation.Operand.{Operand}
use Rattle.sch_control.specs.declared.operation.Operand.TheVariants as operand
use Rattle.sch_layout.specs.BodyLayout.{arguments_at, operand_at, operands_at, target}
use Rattle.sch_layout.specs.Moves.{Move}
use Rattle.sch_layout.proofs.layouts.InstructionTests.{length_operands}
use Rattle.sch_shuffle.specs.declared.operand.Operand.{Operand as Argument}
use Rattle.sch_shuffle.specs.Assignment.{Transfer}
use Rattle.sch_shuffle.specs.Greedy.{made}
use Rattle.sch_shuffle.specs.View.{tree}
use Rattle.sch_homes.specs.CallMoves.{argument_of, call_arguments, call_moves, first_temporary, move_of, next_frame, operand_tree, spare_registers, targets, temporaries, temporary}
use Rattle.sch_homes.proofs.Numbered.{map_length}

-- a test of what a list is made into
pub any_mapped : {A B : Type 0} (test : B → Bool) (f : A → B) (xs : List A) → list_any (λ x. test (f x)) xs ≡ list_any test (map f xs)
any_mapped test f [] = refl
any_mapped test f (x ∷ xs) = ap (λ b. test (f x) || b) (any_mapped test f xs)

module _ (lives : ℕ → Place) where
  -- an argument by its number
  found_at : (os : List (Operand ℕ)) (k : ℕ) (o : Operand ℕ) → slice_get os k ≡ Some o → argument_of (operands_at lives os) k ≡ operand_at lives o
  found_at [] k o e = absurd (cc)
  found_at (x ∷ os) zero o e = by e where
    by : Some x ≡ Some o → operand_at lives x ≡ operand_at lives o
    by e = let same : x ≡ o = cc in ap (operand_at lives) same
  found_at (x ∷ os) (suc k) o e = found_at os k o e

  none_at : (os : List (Operand ℕ)) (k : ℕ) → slice_get os k ≡ None → argument_of (operands_at lives os) k ≡ operand.Atom (Constant Nil)
  none_at [] zero e = refl
  none_at [] (suc k) e = refl
  none_at (x ∷ os) zero e = absurd (cc)
  none_at (x ∷ os) (suc k) e = none_at os k e

  pub argument_found : (a : Application ℕ) (k : ℕ) (o : Operand ℕ) → k ≢ 0 → slice_get a.operands (k - 1) ≡ Some o → argument_of (arguments_at lives a) k ≡ operand_at lives o
  argument_found a zero o n e = absurd (n refl)
  argument_found a (suc k) o n e = let same : suc k - 1 ≡ k = omega arith in found_at a.operands k o (subst (λ j. slice_get a.operands j ≡ Some o) same e)

  pub argument_past : (a : Application ℕ) (k : ℕ) → k ≢ 0 → slice_get a.operands (k - 1) ≡ None → argument_of (arguments_at lives a) k ≡ operand.Atom (Constant Nil)
  argument_past a zero n e = absurd (n refl)
  argument_past a (suc k) n e = let same : suc k - 1 ≡ k = omega arith in none_at a.operands k (subst (λ j. slice_get a.operands j ≡ None) same e)

  pub arguments_length : (a : Application ℕ) (args : List Argument) → map tree args ≡ call_arguments lives a → length args ≡ suc (length a.operands)
  arguments_length a args e =
      sym (length-map args tree) ∙ (ap length e ∙ (length-map (arguments_at lives a) operand_tree ∙ length_operands lives (a.operator ∷ a.operands)))

  pub trees_length : (a : Application ℕ) → length (call_arguments lives a) ≡ suc (length a.operands)
  trees_length a = length-map (arguments_at lives a) operand_tree ∙ length_operands lives (a.operator ∷ a.operands)

  -- the moves are made of what is made before them
  pub moves_whole : (end : ℕ) (tail : Bool) (a : Application ℕ) (args : List Argument) (operands count first : ℕ) (to spare free : List Place) (steps : List Transfer) (moves : List Move)
      → map tree args ≡ call_arguments lives a → operands ≡ length a.operands → count ≡ operands + 1 → to ≡ targets tail count
      → spare ≡ spare_registers (map tree args) to → first ≡ first_temporary end operands → free ≡ temporaries spare first count
      → steps ≡ made (map tree args) to free → moves ≡ map (move_of (arguments_at lives a)) steps → moves ≡ call_moves end lives tail a
  moves_whole end tail a args operands count first to spare free steps moves ea eo ec et es ef er em ms =
      let n : count ≡ suc (length a.operands) = omega (arith, ec, eo) in
      let to_is : to ≡ targets tail (suc (length a.operands)) = et ∙ ap (targets tail) n in
      let spare_is : spare ≡ spare_registers (call_arguments lives a) (targets tail (suc (length a.operands))) =
      es ∙ (ap (λ ts. spare_registers ts to) ea ∙ ap (spare_registers (call_arguments lives a)) to_is) in
      let first_is : first ≡ first_temporary end (length a.operands) = ef ∙ ap (first_temporary end) eo in
      ms ∙ ap (map (move_of (arguments_at lives a)))
      (em ∙ (ap (λ ts. made ts to free) ea ∙ (ap (λ to. made (call_arguments lives a) to free) to_is ∙ ap (made (call_arguments lives a) (targets tail (suc (length a.operands))))
      (er ∙ (ap (λ ps. temporaries ps first count) spare_is ∙ (ap (λ first. temporaries (spare_registers (call_arguments lives a) (targets tail (suc (length a.operands)))) first count) first_is
      ∙ ap (temporaries (spare_registers (call_arguments lives a) (targets tail (suc (length a.operands)))) (first_temporary end (length a.operands))) n))))))

  args_many : (a : Application ℕ) (args slice : List Argument) (operands count : ℕ) → map tree args ≡ call_arguments lives a → slice ≡ args → operands ≡ length a.operands → count ≡ operands + 1
      → count ≡ length slice
  args_many a args slice operands count e s o c = let l = arguments_length a args e in let same = ap length s in omega (arith, l, same, o, c)

  pub targets_many : (a : Application ℕ) (tail : Bool) (args slice : List Argument) (operands count : ℕ) {to : List Place}
      → map tree args ≡ call_arguments lives a → slice ≡ args → operands ≡ length a.operands → count ≡ operands + 1 → to ≡ targets tail count → length to ≡ length slice
  targets_many a tail args slice operands count e s o c t = ap length t ∙ (map_length (target tail next_frame) count ∙ args_many a args slice operands count e s o c)

  pub temporaries_many : (a : Application ℕ) (spare : List Place) (first : ℕ) (args slice : List Argument) (operands count : ℕ) {free : List Place}
      → map tree args ≡ call_arguments lives a → slice ≡ args → operands ≡ length a.operands → count ≡ operands + 1 → free ≡ temporaries spare first count → length free ≡ length slice
  temporaries_many a spare first args slice operands count e s o c f = ap length f ∙ (map_length (temporary spare first) count ∙ args_many a args slice operands count e s o c)

-- with one register more, those that pass
pub spare_more : (test : Place → Bool) (rs : List ℕ) (i : ℕ) (before after : List Place) → i < length rs → before ≡ filter test (map Reg (take i rs))
    → after ≡ before ++ filter test (Reg (get_or rs i 0) ∷ []) → after ≡ filter test (map Reg (take (i + 1) rs))
spare_more test rs i before after lt b a =
    a ∙ (ap (λ ps. ps ++ filter test (Reg (get_or rs i 0) ∷ [])) b
    ∙ (sym (filter-append test (map Reg (take i rs)) (Reg (get_or rs i 0) ∷ []))
    ∙ ap (filter test) (sym (map-append Reg (take i rs) (get_or rs i 0 ∷ [])) ∙ ap (map Reg) (sym (take_more rs i 0 lt)))))

-- The acts of a shuffle as the moves of a layout: they carry and bring what arguments give.
use Rattle.std.proofs.Common.{◌≡◌, ℕ, zero, suc, ◌<◌, List, [], ◌∷◌, length, map, Option, Some, true, false, refl, sym, ap, ◌∙◌, subst, arith}
use Rattle.std.specs.Prelude.{slice_get}
use Rattle.std.specs.List.{AllByRecursion}
use Rattle.std.proofs.lemmas.List.{length-map}
use Rattle.std.proofs.Math.Bool.{or-true}
use Rattle.std.proofs.lemmas.Option.{slice_get_within}
use Rattle.sch_word.specs.declared.place.Place.{Place}
use Rattle.sch_word.specs.runs.Store.{Store}
use Rattle.sch_word.specs.values.Values.{Value}
use Rattle.sch_control.specs.declared.operation.Atom.{Atom}
use Rattle.sch_control.specs.declared.operation.Atom.TheVariants.{Constant, Literal, Variable}
use Rattle.sch_control.specs.declared.operation.Operand.{Operand}
use Rattle.sch_control.specs.declared.operation.Operand.TheVariants as operand
use Rattle.sch_control.specs.Operations.{and_value, atom_value, atom_values, operand_value, read}
use Rattle.sch_layout.specs.Moves.{Carries, Contents, EachMove, Move, Shuffled, moved, moved_one}
use Rattle.sch_shuffle.specs.ActValues.{Depends, EachBrings, act_number, acted, after_acts, brings}
use Rattle.sch_shuffle.specs.Assignment.{AreDistinct, AreSpare, place_at}
use Rattle.sch_shuffle.specs.Assignment as shuffle
use Rattle.sch_shuffle.specs.Greedy.{acts, all_choices, made}
use Rattle.sch_shuffle.specs.Plans.{Act, IsAct, direct, aside, across, onward, transfer, transfers}
use Rattle.sch_shuffle.specs.Tree.{Tree, trees, uses, uses_one}
use Rattle.sch_shuffle.proofs.MovesAssign.{acts_bring}
use Rattle.sch_word.proofs.facts.Places.{place_same}
use Rattle.sch_homes.specs.CallMoves.{argument_of, atom_tree, move_of, operand_tree, taken}

-- ## Arguments

-- what a shuffle is told of an argument
pub tree_at : (os : List (Operand Place)) (k : ℕ) → shuffle.operand_at (map operand_tree os) k ≡ operand_tree (argument_of os k)
tree_at [] zero = refl
tree_at [] (suc k) = refl
tree_at (o ∷ os) zero = refl
tree_at (o ∷ os) (suc k) = tree_at os k

pub argument_there : (os : List (Operand Place)) (k : ℕ) → k < length os → slice_get os k ≡ Some (argument_of os k)
argument_there [] k lt = absurd (omega (arith, lt))
argument_there (o ∷ os) zero lt = refl
argument_there (o ∷ os) (suc k) lt = argument_there os k (omega (arith, lt))

pub argument_is : (os : List (Operand Place)) (k : ℕ) (o : Operand Place) → slice_get os k ≡ Some o → argument_of os k ≡ o
argument_is [] k o e = absurd (cc)
argument_is (x ∷ os) zero o e = by e where
  by : Some x ≡ Some o → x ≡ o
  by e = cc
argument_is (x ∷ os) (suc k) o e = argument_is os k o e

taken_itself : (o : Operand Place) → taken (operand_tree o) o ≡ o
taken_itself (operand.Atom (Constant c)) = refl
taken_itself (operand.Atom (Literal n)) = refl
taken_itself (operand.Atom (Variable p)) = refl
taken_itself (operand.Read site which atoms) = refl

-- ## What an operand gives

module _ (t : Store) where
  atoms_same : (c d : Contents) (atoms : List (Atom Place)) → ((p : Place) → uses_one (trees (map atom_tree atoms)) p ≡ true → d p ≡ c p) → atom_values d t atoms ≡ atom_values c t atoms
  atoms_same c d [] h = refl
  atoms_same c d (Constant k ∷ atoms) h = ap (λ os. and_value (atom_value c t (Constant k)) os) (atoms_same c d atoms h)
  atoms_same c d (Literal n ∷ atoms) h = ap (λ os. and_value (atom_value c t (Literal n)) os) (atoms_same c d atoms h)
  atoms_same c d (Variable p ∷ atoms) h =
      ap (λ o. and_value o (atom_values d t atoms)) (h p (let yes_ = place_same p p refl in rw yes_ refl))
      ∙ ap (λ os. and_value (c p) os) (atoms_same c d atoms (λ q u. h q (rw u (or-true (uses (atom_tree (Variable p)) q)))))

  -- it gives the same where the places that it uses hold the same
  operand_same : (c d : Contents) (o : Operand Place) → ((p : Place) → uses (operand_tree o) p ≡ true → d p ≡ c p) → operand_value d t o ≡ operand_value c t o
  operand_same c d (operand.Atom (Constant k)) h = refl
  operand_same c d (operand.Atom (Literal n)) h = refl
  operand_same c d (operand.Atom (Variable p)) h = h p (place_same p p refl)
  operand_same c d (operand.Read site which atoms) h = ap (λ os. read which t os) (atoms_same c d atoms h)

-- ## Moves

module _ (os : List (Operand Place)) (targets : List Place) where
  -- the move of an act
  abbrev pub act_move : Act → Move
  act_move (direct k) = record { argument = k; from = argument_of os k; to = place_at targets k; temp = false }
  act_move (aside k p) = record { argument = k; from = argument_of os k; to = p; temp = true }
  act_move (across k p q) = record { argument = k; from = operand.Atom (Variable p); to = q; temp = true }
  act_move (onward k p) = record { argument = k; from = operand.Atom (Variable p); to = place_at targets k; temp = false }

  abbrev args : List Tree
  args = map operand_tree os

  argument_taken : (k : ℕ) → taken (shuffle.operand_at args k) (argument_of os k) ≡ argument_of os k
  argument_taken k = ap (λ x. taken x (argument_of os k)) (tree_at os k) ∙ taken_itself (argument_of os k)

  moved_back : (a : Act) → move_of os (transfer args targets a) ≡ act_move a
  moved_back (direct k) = ap (λ o. record { argument = k; from = o; to = place_at targets k; temp = false }) (argument_taken k)
  moved_back (aside k p) = ap (λ o. record { argument = k; from = o; to = p; temp = true }) (argument_taken k)
  moved_back (across k p q) = refl
  moved_back (onward k p) = refl

  pub moves_back : (list : List Act) → map (move_of os) (transfers args targets list) ≡ map act_move list
  moves_back [] = refl
  moves_back (a ∷ list) = ap (λ m. m ∷ map (move_of os) (transfers args targets list)) (moved_back a) ∙ ap (λ ms. act_move a ∷ ms) (moves_back list)

  -- what is so of each kind of act is so of each move
  pub each_act : (P : Move → Type 0) (T : Place → Type 0) → ((k : ℕ) → k < length args → P (act_move (direct k))) → ((k : ℕ) (p : Place) → k < length args → T p → P (act_move (aside k p)))
      → ((k : ℕ) (p q : Place) → k < length args → T p → T q → P (act_move (across k p q))) → ((k : ℕ) (p : Place) → k < length args → T p → P (act_move (onward k p)))
      → (list : List Act) → AllByRecursion (IsAct args T) list → EachMove P (map act_move list)
  each_act P T d s x o [] h = tt
  each_act P T d s x o (direct k ∷ list) h = (d k h.0, each_act P T d s x o list h.1)
  each_act P T d s x o (aside k p ∷ list) h = (s k p h.0.0 h.0.1, each_act P T d s x o list h.1)
  each_act P T d s x o (across k p q ∷ list) h = (x k p q h.0.0 h.0.1 h.0.2, each_act P T d s x o list h.1)
  each_act P T d s x o (onward k p ∷ list) h = (o k p h.0.0 h.0.1, each_act P T d s x o list h.1)

  module _ (t : Store) where
    abbrev given : ℕ → Contents → Option Value
    given k c = operand_value c t (argument_of os k)

    given_depends : Depends args given
    given_depends k c d h = operand_same t c d (argument_of os k) (λ p u. h p (ap (λ x. uses x p) (tree_at os k) ∙ u))

    one_acted : (a : Act) (c : Contents) → moved_one t (act_move a) c ≡ acted targets given a c
    one_acted (direct k) c = refl
    one_acted (aside k p) c = refl
    one_acted (across k p q) c = refl
    one_acted (onward k p) c = refl

    all_acted : (list : List Act) (c : Contents) → moved t (map act_move list) c ≡ after_acts targets given list c
    all_acted [] c = refl
    all_acted (a ∷ list) c = ap (moved t (map act_move list)) (one_acted a c) ∙ all_acted list (acted targets given a c)

    value_taken : (a : Act) (c : Contents) → operand_value c t (act_move a).from ≡ brings targets given a c
    value_taken (direct k) c = refl
    value_taken (aside k p) c = refl
    value_taken (across k p q) c = refl
    value_taken (onward k p) c = refl

    number_kept : (a : Act) → (act_move a).argument ≡ act_number a
    number_kept (direct k) = refl
    number_kept (aside k p) = refl
    number_kept (across k p q) = refl
    number_kept (onward k p) = refl

    within : (T : Place → Type 0) (a : Act) → IsAct args T a → act_number a < length args
    within T (direct k) h = h
    within T (aside k p) h = h.0
    within T (across k p q) h = h.0
    within T (onward k p) h = h.0

    all_carry : (T : Place → Type 0) (start : Contents) (list : List Act) (c : Contents) → AllByRecursion (IsAct args T) list
        → EachBrings targets given start c list → Carries t os start c (map act_move list)
    all_carry T start [] c each h = tt
    all_carry T start (a ∷ list) c each h =
        let lt = within T a each.0 in
        let l = length-map os operand_tree in (
          (
            argument_of os (act_number a),
            (ap (slice_get os) (number_kept a) ∙ argument_there os (act_number a) (omega (arith, lt, l)), value_taken a c ∙ h.0),
          ),
          subst (λ d. Carries t os start d (map act_move list)) (sym (one_acted a c)) (all_carry T start list (acted targets given a c) each.1 h.1),
        )

  -- where the conditions of a shuffle hold, they are a shuffle of the arguments
  pub acts_shuffled : (free : List Place) (target : ℕ → Place) (T : Place → Type 0) → length targets ≡ length args → length free ≡ length args
      → AreDistinct targets → AreDistinct free → AreSpare args targets free → ((k : ℕ) → k < length args → place_at targets k ≡ target k)
      → AllByRecursion (IsAct args T) (acts free (all_choices args targets)) → Shuffled os target (map (move_of os) (made args targets free))
  acts_shuffled free target T l f apart free_apart spare at each =
      subst (Shuffled os target) (sym (moves_back (acts free (all_choices args targets)))) (record {
        carries = λ t start. all_carry t T start (acts free (all_choices args targets)) start each (acts_bring (given t) args targets free l f apart free_apart spare (given_depends t) start).0;
        arrives = λ t start k o e.
            (let lt = slice_get_within os k o e in
            let m = length-map os operand_tree in
            let less : k < length args = omega (arith, lt, m) in
            ap (λ c. c (target k)) (all_acted t (acts free (all_choices args targets)) start)
            ∙ (ap (after_acts targets (given t) (acts free (all_choices args targets)) start) (sym (at k less))
            ∙ ((acts_bring (given t) args targets free l f apart free_apart spare (given_depends t) start).1 k less ∙ ap (λ o. operand_value start t o) (argument_is os k o e))));
      })

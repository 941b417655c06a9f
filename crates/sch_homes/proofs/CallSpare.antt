-- What a shuffle of a call's arguments asks for: targets that are distinct, and temporaries that are distinct, no targets, and used by
-- no argument.
use Rattle.std.proofs.Common.{◌≡◌, ◌≢◌, ℕ, zero, suc, ◌+◌, ◌-◌, ◌<◌, ◌≤◌, List, [], ◌∷◌, length, map, Bool, true, false, refl, sym, ap, ◌∙◌, subst, arith, inl, inr, ◌⊎◌}
use Rattle.std.specs.Prelude.{nat_lt}
use Rattle.std.specs.List.{list_any}
use Rattle.std.proofs.Math.Nat.{le-max_left, le-max_right}
use Rattle.std.proofs.lemmas.Bool.{and_parts, cases_eq, ltb-false, ltb-true, ne_eqb}
use Rattle.sch_word.proofs.facts.Booleans.{false_true, not_left, not_right, not_true}
use Rattle.sch_word.specs.declared.place.Place.{Place}
use Rattle.sch_word.specs.declared.place.Place.TheVariants.{Reg, Slot}
use Rattle.sch_word.specs.values.Registers.{argument_registers}
use Rattle.sch_control.specs.declared.operation.Application.{Application}
use Rattle.sch_control.specs.declared.operation.Atom.{Atom}
use Rattle.sch_control.specs.declared.operation.Atom.TheVariants.{Constant, Literal, Variable}
use Rattle.sch_control.specs.declared.operation.Operand.{Operand}
use Rattle.sch_control.specs.declared.operation.Operand.TheVariants as operand
use Rattle.sch_control.specs.AtomsAndSites.{application_atoms, operand_atoms, operands_atoms}
use Rattle.sch_word.specs.values.Places.{same_place}
use Rattle.sch_word.proofs.facts.Places.{place_itself}
use Rattle.sch_layout.specs.BodyLayout.{arguments_at, atoms_at, operand_at, operands_at, target}
use Rattle.sch_layout.specs.Laws.{AtomsHave}
use Rattle.sch_layout.proofs.Targets.{targets_apart}
use Rattle.sch_layout.proofs.does.OperationsFollow.{have_left, have_right}
use Rattle.sch_shuffle.specs.Assignment.{AreDistinct, AreSpare, IsSpare, place_at}
use Rattle.sch_shuffle.specs.Assignment as shuffle
use Rattle.sch_shuffle.specs.Greedy.{all_choices, uses_target}
use Rattle.sch_shuffle.specs.Tree.{Tree, trees, uses, uses_one}
use Rattle.sch_shuffle.proofs.SetAside.{all_asides_less, all_asides_used, asides_in}
use Rattle.sch_homes.specs.CallMoves.{argument_of, atom_tree, call_arguments, call_free, call_targets, first_temporary, is_spare, next_frame, operand_tree, spare_registers, targets, temporary}
use Rattle.sch_homes.proofs.CallLists.{trees_length}
use Rattle.sch_homes.proofs.Numbered.{map_at, map_length}
use Rattle.sch_homes.proofs.ShuffledMoves.{tree_at}
use Rattle.sch_homes.proofs.SpareTemporaries.{IsTemporary, at_register, at_slot, is_temporary, register, slot, temporaries_distinct}

-- ## Targets

-- the targets of operands past the sixth
slot_target : (tail : Bool) (k : ℕ) → 7 ≤ k → (j : ℕ) × ((target tail next_frame k ≡ Slot j) × (((tail ≡ true) × (j ≡ k - 7)) ⊎ (next_frame ≤ j)))
slot_target tail zero le = absurd (omega (arith, le))
slot_target tail (suc zero) le = absurd (omega (arith, le))
slot_target tail (suc (suc zero)) le = absurd (omega (arith, le))
slot_target tail (suc (suc (suc zero))) le = absurd (omega (arith, le))
slot_target tail (suc (suc (suc (suc zero)))) le = absurd (omega (arith, le))
slot_target tail (suc (suc (suc (suc (suc zero))))) le = absurd (omega (arith, le))
slot_target tail (suc (suc (suc (suc (suc (suc zero)))))) le = absurd (omega (arith, le))
slot_target true (suc (suc (suc (suc (suc (suc (suc k))))))) le = (k, (refl, inl (refl, omega arith)))
slot_target false (suc (suc (suc (suc (suc (suc (suc k))))))) le = (next_frame + (suc (suc (suc (suc (suc (suc k))))) - 6), (refl, inr (omega arith)))

-- a slot behind those that a tail call hands over in, and before those of the next frame, is none
target_off : (tail : Bool) (k m operands : ℕ) → k < suc operands → operands - length argument_registers ≤ m → m < next_frame → same_place (target tail next_frame k) (Slot m) ≡ false
target_off tail zero m operands lt le low = refl
target_off tail (suc zero) m operands lt le low = by tail where
  by : (tail : Bool) → same_place (target tail next_frame 1) (Slot m) ≡ false
  by true = refl
  by false = refl
target_off tail (suc (suc zero)) m operands lt le low = by tail where
  by : (tail : Bool) → same_place (target tail next_frame 2) (Slot m) ≡ false
  by true = refl
  by false = refl
target_off tail (suc (suc (suc zero))) m operands lt le low = by tail where
  by : (tail : Bool) → same_place (target tail next_frame 3) (Slot m) ≡ false
  by true = refl
  by false = refl
target_off tail (suc (suc (suc (suc zero)))) m operands lt le low = by tail where
  by : (tail : Bool) → same_place (target tail next_frame 4) (Slot m) ≡ false
  by true = refl
  by false = refl
target_off tail (suc (suc (suc (suc (suc zero))))) m operands lt le low = by tail where
  by : (tail : Bool) → same_place (target tail next_frame 5) (Slot m) ≡ false
  by true = refl
  by false = refl
target_off tail (suc (suc (suc (suc (suc (suc zero)))))) m operands lt le low = by tail where
  by : (tail : Bool) → same_place (target tail next_frame 6) (Slot m) ≡ false
  by true = refl
  by false = refl
target_off true (suc (suc (suc (suc (suc (suc (suc k))))))) m operands lt le low = ne_eqb k m (λ e. omega (arith, e, lt, le))
target_off false (suc (suc (suc (suc (suc (suc (suc k))))))) m operands lt le low = ne_eqb (next_frame + (suc (suc (suc (suc (suc (suc k))))) - 6)) m (λ e. omega (arith, e, low))

module _ (tail : Bool) (count : ℕ) where
  pub target_at : (k : ℕ) → k < count → place_at (targets tail count) k ≡ target tail next_frame k
  target_at = map_at (target tail next_frame) count

  pub targets_count : length (targets tail count) ≡ count
  targets_count = map_length (target tail next_frame) count

  pub targets_distinct : AreDistinct (targets tail count)
  targets_distinct i j a b e = by (cases_eq i j) where
    by : (i ≡ j) ⊎ (i ≢ j) → i ≡ j
    by (inl same) = same
    by (inr other) =
        let l = targets_count in
        let both : target tail next_frame i ≡ target tail next_frame j = sym (target_at i (omega (arith, a, l))) ∙ (e ∙ target_at j (omega (arith, b, l))) in
        absurd (false_true (ap (same_place (target tail next_frame i)) (sym both) ∙ place_itself (target tail next_frame i)) (targets_apart tail next_frame i j other))

-- ## What arguments use

module _ (lives : ℕ → Place) (Low : ℕ → Type 0) (p : Place) (off : (x : ℕ) → Low x → same_place (lives x) p ≡ false) where
  atoms_unused : (atoms : List (Atom ℕ)) → AtomsHave Low atoms → uses_one (trees (map atom_tree (atoms_at lives atoms))) p ≡ false
  atoms_unused [] h = refl
  atoms_unused (Constant c ∷ atoms) h = atoms_unused atoms h.1
  atoms_unused (Literal n ∷ atoms) h = atoms_unused atoms h.1
  atoms_unused (Variable x ∷ atoms) h = let no_ = off x h.0 in rw no_ (atoms_unused atoms h.1)

  operand_unused : (o : Operand ℕ) → AtomsHave Low (operand_atoms o) → uses (operand_tree (operand_at lives o)) p ≡ false
  operand_unused (operand.Atom (Constant c)) h = refl
  operand_unused (operand.Atom (Literal n)) h = refl
  operand_unused (operand.Atom (Variable x)) h = off x h.0
  operand_unused (operand.Read site which atoms) h = atoms_unused atoms h

  argument_unused : (operands : List (Operand ℕ)) → AtomsHave Low (operands_atoms operands) → (k : ℕ) → uses (operand_tree (argument_of (operands_at lives operands) k)) p ≡ false
  argument_unused [] h zero = refl
  argument_unused [] h (suc k) = refl
  argument_unused (o ∷ operands) h zero = operand_unused o (have_left Low (operand_atoms o) _ h)
  argument_unused (o ∷ operands) h (suc k) = argument_unused operands (have_right Low (operand_atoms o) _ h) k

  -- no argument of a call uses a place where none of its variables lives
  pub call_unused : (a : Application ℕ) → AtomsHave Low (application_atoms a) → (k : ℕ) → uses (shuffle.operand_at (call_arguments lives a) k) p ≡ false
  call_unused a h k = ap (λ x. uses x p) (tree_at (arguments_at lives a) k) ∙ argument_unused (a.operator ∷ a.operands) h k

-- ## Spare places

none_here : (test : Place → Bool) (xs : List Place) (i : ℕ) → i < length xs → list_any test xs ≡ false → test (place_at xs i) ≡ false
none_here test [] i lt h = absurd (omega (arith, lt))
none_here test (x ∷ xs) zero lt h = not_left (test x) _ h
none_here test (x ∷ xs) (suc i) lt h = none_here test xs i (omega (arith, lt)) (not_right (test x) _ h)

none_there : (test : Tree → Bool) (xs : List Tree) (i : ℕ) → i < length xs → list_any test xs ≡ false → test (shuffle.operand_at xs i) ≡ false
none_there test [] i lt h = absurd (omega (arith, lt))
none_there test (x ∷ xs) zero lt h = not_left (test x) _ h
none_there test (x ∷ xs) (suc i) lt h = none_there test xs i (omega (arith, lt)) (not_right (test x) _ h)

not_there : (q p : Place) → same_place q p ≡ false → q ≢ p
not_there q p h e = false_true (ap (same_place q) (sym e) ∙ place_itself q) h

-- `end`: behind the slots in use, `low`: behind those in which variables live
module _ (end low : ℕ) (lives : ℕ → Place) (Low : ℕ → Type 0) (below : (x j : ℕ) → Low x → lives x ≡ Slot j → j < low) (more : low ≤ end)
    (tail : Bool) (a : Application ℕ) (reads : AtomsHave Low (application_atoms a)) where
  abbrev args : List Tree
  args = call_arguments lives a

  abbrev places : List Place
  places = call_targets tail a

  abbrev free : List Place
  free = call_free end lives tail a

  abbrev operands : ℕ
  operands = length a.operands

  abbrev first : ℕ
  first = first_temporary end operands

  abbrev test : Place → Bool
  test = is_spare args places

  pub args_count : length args ≡ suc operands
  args_count = trees_length lives a

  pub targets_many : length places ≡ length args
  targets_many = targets_count tail (suc operands) ∙ sym args_count

  pub free_many : length free ≡ length args
  free_many = map_length (temporary (spare_registers args places) first) (suc operands) ∙ sym args_count

  pub free_distinct : AreDistinct free
  free_distinct = temporaries_distinct test first (suc operands)

  -- a temporary by its number
  pub free_at : (u : ℕ) → u < suc operands → place_at free u ≡ temporary (spare_registers args places) first u
  free_at = map_at (temporary (spare_registers args places) first) (suc operands)

  lives_off : (m : ℕ) → low ≤ m → (x : ℕ) → Low x → same_place (lives x) (Slot m) ≡ false
  lives_off m le x l = by (lives x) refl where
    by : (q : Place) → lives x ≡ q → same_place q (Slot m) ≡ false
    by (Reg r) e = refl
    by (Slot j) e = let lt = below x j l e in ne_eqb j m (λ i. omega (arith, i, lt, le))

  module _ (fits : first + suc operands ≤ next_frame) where
    slot_spare : (m : ℕ) → first ≤ m → m < next_frame → IsSpare args places (Slot m)
    slot_spare m le lt i h =
        let c = args_count in
        let left = le-max_left end (operands - length argument_registers) in
        let right = le-max_right end (operands - length argument_registers) in (
          not_there _ _ (ap (λ q. same_place q (Slot m)) (target_at tail (suc operands) i (omega (arith, h, c))) ∙ target_off tail i m operands (omega (arith, h, c)) (omega (arith, right, le)) lt),
          call_unused lives Low (Slot m) (lives_off m (omega (arith, more, left, le))) a reads i,
        )

    register_spare : (r : ℕ) → test (Reg r) ≡ true → IsSpare args places (Reg r)
    register_spare r h i lt =
        let parts = and_parts _ _ h in
        let l = targets_many in (
          not_there _ _ (none_here (λ q. same_place q (Reg r)) places i (omega (arith, lt, l)) (not_true (list_any (λ q. same_place q (Reg r)) places) parts.0)),
          none_there (λ x. uses x (Reg r)) args i lt (not_true (list_any (λ x. uses x (Reg r)) args) parts.1),
        )

    pub free_spare : AreSpare args places free
    free_spare u lt = by (is_temporary test first u) where
      less : u < suc operands
      less = let l = free_many in let c = args_count in omega (arith, lt, l, c)

      by : IsTemporary test first u → IsSpare args places (place_at free u)
      by (register r e t h) = subst (IsSpare args places) (sym (free_at u less ∙ at_register test first u r e)) (register_spare r t)
      by (slot le e) =
          let u_less = less in
          subst (IsSpare args places) (sym (free_at u less ∙ at_slot test first u e)) (slot_spare (first + (u - length (spare_registers args places))) (omega arith) (omega (arith, u_less, fits)))

  -- ## How many are set aside

  -- which targets arguments may use
  used_low : low ≤ next_frame → (i j : ℕ) → i < length args → j < length args → uses_target args places i j ≡ true → j < 7 + low
  used_low fit i j x y u = by (nat_lt j (7 + low)) refl where
    by : (t : Bool) → nat_lt j (7 + low) ≡ t → j < 7 + low
    by true h = ltb-true j (7 + low) h
    by false h =
        let past : 7 + low ≤ j = ltb-false j (7 + low) h in
        let s = slot_target tail j (omega (arith, past)) in
        let c = args_count in
        let high : low ≤ s.0 = elim s.1.1 [ inl e ↦ (let e' = e.1 in omega (arith, e', past)) | inr e ↦ omega (arith, e, fit) ] in
        let at : place_at places j ≡ Slot s.0 = target_at tail (suc operands) j (omega (arith, y, c)) ∙ s.1.0 in
        absurd (false_true (sym (ap (uses (shuffle.operand_at args i)) at) ∙ u) (call_unused lives Low (Slot s.0) (lives_off s.0 high) a reads i))

  abbrev pub asides : ℕ
  asides = length (asides_in (all_choices args places))

  -- fewer than there are arguments, and no more than the targets that may be used
  pub asides_few : asides ≤ operands
  asides_few = all_asides_less args places operands args_count

  pub asides_low : low ≤ next_frame → asides ≤ 7 + low
  asides_low fit = all_asides_used args places (7 + low) (used_low fit)

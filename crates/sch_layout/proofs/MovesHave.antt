-- What holds of instructions and of one more move in front holds of moves in front of them; so moves have no labels, and are
-- valid where they read and write places of a frame.
use Rattle.std.proofs.Common.{◌≡◌, ℕ, List, [], ◌∷◌, Option, Some, None, Bool, true, false, cond, refl, sym, ap, ◌∙◌}
use Rattle.std.specs.Prelude.{nat_lt, ◌-◌, ◌&&◌, not}
use Rattle.std.specs.List.{list_all}
use Rattle.std.proofs.lemmas.Bool.{and_from, and_parts}
use Rattle.sch_word.specs.declared.place.Place.{Place}
use Rattle.sch_word.specs.declared.place.Place.TheVariants.{Reg, Slot}
use Rattle.sch_word.specs.declared.mark.MarkKind.{MarkKind}
use Rattle.sch_word.specs.declared.mark.MarkKind.TheVariants as mark
use Rattle.sch_word.specs.runs.Activations.{is_enter}
use Rattle.sch_control.specs.declared.operation.Atom.TheVariants.{Constant, Literal, Variable}
use Rattle.sch_control.specs.declared.operation.Operand.{Operand}
use Rattle.sch_control.specs.declared.operation.Operand.TheVariants as operand
use Rattle.sch_control.specs.declared.operation.Operation.TheVariants as operation
use Rattle.sch_control.specs.AtomsAndSites.{operand_atoms}
use Rattle.sch_frames.specs.declared.instruction.Instruction.{Instruction}
use Rattle.sch_frames.specs.declared.instruction.Instruction.TheVariants.{Do, Store, Copy, Pass, Mark}
use Rattle.sch_word.specs.values.Places.{same_place, is_slot}
use Rattle.sch_frames.specs.Valid.{instruction_placed, is_atom, is_place, is_register}
use Rattle.sch_layout.specs.BodyLayout.{under, move_mark, writing, is_direct, move_into, move_all}
use Rattle.sch_layout.specs.Moves.{EachMove, Move}

-- whether it is the mark of an entry
abbrev pub is_entry : Option MarkKind → Bool
is_entry None = false
is_entry (Some m) = is_enter m

-- `P`: what holds of instructions; it is kept by a copy and by what goes through the accumulator, each under its mark or none
module _ (limit : ℕ) (P : List Instruction → Type 0) (Good : (from : Operand Place) → (to : Place) → Type 0)
    (copied : (p to : Place) → Good (operand.Atom (Variable p)) to → is_direct limit to p ≡ true → (m : Option MarkKind) → is_entry m ≡ false → (rest : List Instruction) → P rest → P (under m (Copy to p) rest))
    (written : (o : Operand Place) (to : Place) → Good o to → (m : Option MarkKind) → is_entry m ≡ false → (rest : List Instruction) → P rest → P (Do (operation.Operand o) ∷ under m (writing limit to) rest)) where
  one_has : (to : Place) (m : Option MarkKind) → is_entry m ≡ false → (o : Operand Place) → Good o to → (rest : List Instruction) → P rest → P (move_into limit to m o rest)
  one_has to m e (operand.Atom (Variable p)) good rest h = by (same_place to p) (is_direct limit to p) refl where
    by : (t d : Bool) → is_direct limit to p ≡ d → P (cond t rest (cond d (under m (Copy to p) rest) (Do (operation.Operand (operand.Atom (Variable p))) ∷ under m (writing limit to) rest)))
    by true d i = h
    by false true i = copied p to good i m e rest h
    by false false i = written (operand.Atom (Variable p)) to good m e rest h
  one_has to m e (operand.Atom (Constant c)) good rest h = written (operand.Atom (Constant c)) to good m e rest h
  one_has to m e (operand.Atom (Literal n)) good rest h = written (operand.Atom (Literal n)) to good m e rest h
  one_has to m e (operand.Read site which atoms) good rest h = written (operand.Read site which atoms) to good m e rest h

  pub moves_have : (moves : List Move) → EachMove (λ m. Good m.from m.to) moves → (rest : List Instruction) → P rest → P (move_all limit moves rest)
  moves_have [] good rest h = h
  moves_have (m ∷ moves) good rest h = one_has m.to (move_mark m) (no_entry m.temp (is_slot m.to)) m.from good.0 _ (moves_have moves good.1 rest h) where
    no_entry : (t s : Bool) → is_entry (cond t (Some mark.Temp) (cond s (Some mark.Argument) None)) ≡ false
    no_entry true s = refl
    no_entry false true = refl
    no_entry false false = refl

-- each move of a list has what it has for each
pub each_move : (P : Move → Type 0) → ((m : Move) → P m) → (moves : List Move) → EachMove P moves
each_move P h [] = tt
each_move P h (m ∷ moves) = (h m, each_move P h moves)

pub each_mapped : (P Q : Move → Type 0) (moves : List Move) → ((m : Move) → P m → Q m) → EachMove P moves → EachMove Q moves
each_mapped P Q [] f h = tt
each_mapped P Q (m ∷ moves) f h = (f m h.0, each_mapped P Q moves f h.1)

-- ## What is kept

-- What a walk over instructions gives is not changed by moves, where it is changed by no instruction of a move and no mark.
module _ {A : Type 0} (limit : ℕ) (walk : List Instruction → A) (marks : (m : MarkKind) (rest : List Instruction) → walk (Mark m ∷ rest) ≡ walk rest)
    (does : (o : Operand Place) (rest : List Instruction) → walk (Do (operation.Operand o) ∷ rest) ≡ walk rest) (copies : (to from : Place) (rest : List Instruction) → walk (Copy to from ∷ rest) ≡ walk rest)
    (stores : (to : Place) (rest : List Instruction) → walk (Store to ∷ rest) ≡ walk rest) (passes : (k : ℕ) (rest : List Instruction) → walk (Pass k ∷ rest) ≡ walk rest) where
  under_kept : (m : Option MarkKind) (i : Instruction) → ((rest : List Instruction) → walk (i ∷ rest) ≡ walk rest) → (rest : List Instruction) → walk (under m i rest) ≡ walk rest
  under_kept None i e rest = e rest
  under_kept (Some m) i e rest = marks m (i ∷ rest) ∙ e rest

  writing_kept : (to : Place) (rest : List Instruction) → walk (writing limit to ∷ rest) ≡ walk rest
  writing_kept (Reg r) rest = stores (Reg r) rest
  writing_kept (Slot j) rest = by (nat_lt j limit) where
    by : (t : Bool) → walk (cond t (Store (Slot j)) (Pass (j - limit)) ∷ rest) ≡ walk rest
    by true = stores (Slot j) rest
    by false = passes (j - limit) rest

  pub moves_kept : (moves : List Move) (rest : List Instruction) → walk (move_all limit moves rest) ≡ walk rest
  moves_kept moves rest = moves_have limit (λ is. walk is ≡ walk rest) (λ o to. Unit {0})
      (λ p to good d m e is h. under_kept m (Copy to p) (copies to p) is ∙ h)
      (λ o to good m e is h. does o _ ∙ (under_kept m (writing limit to) (writing_kept to) is ∙ h)) moves (each_move _ (λ m. tt) moves) rest refl

-- ## Places

module _ (limit words : ℕ) where
  -- a place of the frame, or a slot of the next one that is no further than its own are
  abbrev pub is_target : Place → Bool
  is_target (Reg r) = is_register r
  is_target (Slot j) = cond (nat_lt j limit) (nat_lt j words) (nat_lt (j - limit) words)

  abbrev pub Fits : Operand Place → Place → Type 0
  Fits o to = (list_all (is_atom words) (operand_atoms o) ≡ true) × (is_target to ≡ true)

  abbrev Valid : List Instruction → Type 0
  Valid is = list_all (instruction_placed words) is ≡ true

  pub under_valid : (m : Option MarkKind) (i : Instruction) → instruction_placed words i ≡ true → (rest : List Instruction) → Valid rest → Valid (under m i rest)
  under_valid None i e rest h = and_from _ _ e h
  under_valid (Some m) i e rest h = and_from _ _ e h

  pub moves_valid : (moves : List Move) → EachMove (λ m. Fits m.from m.to) moves → (rest : List Instruction) → Valid rest → Valid (move_all limit moves rest)
  moves_valid moves fits rest h = moves_have limit Valid Fits copied written moves fits rest h where
    direct : (to p : Place) → is_direct limit to p ≡ true → is_target to ≡ true → (not (is_slot to && is_slot p) ≡ true) × (is_place words to ≡ true)
    direct (Reg r) p d e = (refl, e)
    direct (Slot j) (Reg r) d e = (refl, sym (ap (λ t. cond t (nat_lt j words) (nat_lt (j - limit) words)) d) ∙ e)
    direct (Slot j) (Slot i) d e = absurd (cc)

    copied : (p to : Place) → Fits (operand.Atom (Variable p)) to → is_direct limit to p ≡ true → (m : Option MarkKind) → is_entry m ≡ false → (is : List Instruction) → Valid is → Valid (under m (Copy to p) is)
    copied p to fits d m n is h =
        let e = direct to p d fits.1 in under_valid m (Copy to p) (and_from _ _ e.0 (and_from _ _ e.1 (and_parts (is_place words p) true fits.0).0)) is h

    written : (o : Operand Place) (to : Place) → Fits o to → (m : Option MarkKind) → is_entry m ≡ false → (is : List Instruction) → Valid is → Valid (Do (operation.Operand o) ∷ under m (writing limit to) is)
    written o to fits m n is h = and_from _ _ fits.0 (under_valid m (writing limit to) (by to fits.1) is h) where
      one : (j : ℕ) (t : Bool) → cond t (nat_lt j words) (nat_lt (j - limit) words) ≡ true → instruction_placed words (cond t (Store (Slot j)) (Pass (j - limit))) ≡ true
      one j true e = e
      one j false e = e

      by : (to : Place) → is_target to ≡ true → instruction_placed words (writing limit to) ≡ true
      by (Reg r) e = e
      by (Slot j) e = one j (nat_lt j limit) e

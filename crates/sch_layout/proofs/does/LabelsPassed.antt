-- A label that is sought and does not stand in an expression's layout is sought behind it.
use Rattle.std.proofs.Common.{◌≡◌, ℕ, suc, ◌+◌, ◌<◌, List, [], ◌∷◌, length, Option, Some, None, Bool, true, false, cond, refl, ap, ◌∙◌, arith}
use Rattle.std.specs.Prelude.{filter, nat_lt, ◌-◌}
use Rattle.std.proofs.lemmas.Bool.{ne_eqb}
use Rattle.sch_word.specs.declared.place.Place.{Place}
use Rattle.sch_word.specs.declared.place.Place.TheVariants.{Reg, Slot}
use Rattle.sch_word.specs.declared.mark.MarkKind.{MarkKind}
use Rattle.sch_word.specs.declared.mark.MarkKind.TheVariants as mark
use Rattle.sch_control.specs.declared.operation.Atom.TheVariants.{Constant, Literal, Variable}
use Rattle.sch_control.specs.declared.operation.Operand.{Operand}
use Rattle.sch_control.specs.declared.operation.Operand.TheVariants as operand
use Rattle.sch_control.specs.declared.operation.Operation.TheVariants as operation
use Rattle.sch_control.specs.Meaning.{World, Result, Callee, heads, with_region}
use Rattle.sch_control.specs.Tree.{Expression, perform, bind, sequence, branch, fix, call, tail_call, return, end, save}
use Rattle.sch_control.specs.Valid.{member_variables}
use Rattle.sch_frames.specs.declared.instruction.Instruction.{Instruction}
use Rattle.sch_frames.specs.declared.instruction.Instruction.TheVariants.{Do, Store, Copy, Pass, Call, Tail, Label, Mark}
use Rattle.sch_frames.specs.Meaning.{Frame, sought, execute_each}
use Rattle.sch_word.specs.values.Places.{same_place, is_slot}
use Rattle.sch_layout.specs.BodyLayout.{Plan, under, spill, move_mark, writing, is_direct, move_into, move_all, carried, stored, loaded, leave, labels, lay}
use Rattle.sch_layout.specs.Moves.{Move}

-- what writes a place is no label
pub sought_writing : (words l : ℕ) (to : Place) → sought l (writing words to) ≡ Some l
sought_writing words l (Reg r) = refl
sought_writing words l (Slot j) = by (nat_lt j words) where
  by : (t : Bool) → sought l (cond t (Store (Slot j)) (Pass (j - words))) ≡ Some l
  by true = refl
  by false = refl

-- the label of a test, if it has one, is below a number
abbrev pub Below : Option ℕ → ℕ → Type 0
Below None n = Unit {0}
Below (Some l) n = l < n

pub below_up : (test : Option ℕ) (n m : ℕ) → n < suc m → Below test n → Below test m
below_up None n m h b = tt
below_up (Some l) n m h b = omega (arith, h, b)

module _ (callee : Callee) (depth : ℕ) (plan : Plan) where
  abbrev run : List Instruction → Option ℕ → Frame → World → Result
  run is seeking f w = execute_each callee depth is seeking f w

  pub past_label : (m l : ℕ) (rest : List Instruction) (f : Frame) (w : World) → l < m → run (Label m ∷ rest) (Some l) f w ≡ run rest (Some l) f w
  past_label m l rest f w lt = ap (λ t. run rest (cond t None (Some l)) f w) (ne_eqb m l (λ e. omega (arith, lt, e)))

  past_leave : (test : Option ℕ) (rest : List Instruction) (l : ℕ) (f : Frame) (w : World) → run (leave test rest) (Some l) f w ≡ run rest (Some l) f w
  past_leave None rest l f w = refl
  past_leave (Some m) rest l f w = refl

  past_under : (m : Option MarkKind) (i : Instruction) (l : ℕ) → sought l i ≡ Some l → (rest : List Instruction) (f : Frame) (w : World) → run (under m i rest) (Some l) f w ≡ run rest (Some l) f w
  past_under None i l e rest f w = ap (λ t. run rest t f w) e
  past_under (Some m) i l e rest f w = ap (λ t. run rest t f w) e

  -- ## Moves

  past_move : (words : ℕ) (to : Place) (m : Option MarkKind) (o : Operand Place) (rest : List Instruction) (l : ℕ) (f : Frame) (w : World)
      → run (move_into words to m o rest) (Some l) f w ≡ run rest (Some l) f w
  past_move words to m (operand.Atom (Variable p)) rest l f w = by (same_place to p) (is_direct words to p) where
    by : (t d : Bool) → run (cond t rest (cond d (under m (Copy to p) rest) (Do (operation.Operand (operand.Atom (Variable p))) ∷ under m (writing words to) rest))) (Some l) f w ≡ run rest (Some l) f w
    by true d = refl
    by false true = past_under m (Copy to p) l refl rest f w
    by false false = past_under m (writing words to) l (sought_writing words l to) rest f w
  past_move words to m (operand.Atom (Constant c)) rest l f w = past_under m (writing words to) l (sought_writing words l to) rest f w
  past_move words to m (operand.Atom (Literal n)) rest l f w = past_under m (writing words to) l (sought_writing words l to) rest f w
  past_move words to m (operand.Read site which atoms) rest l f w = past_under m (writing words to) l (sought_writing words l to) rest f w

  past_moves : (words : ℕ) (moves : List Move) (rest : List Instruction) (l : ℕ) (f : Frame) (w : World) → run (move_all words moves rest) (Some l) f w ≡ run rest (Some l) f w
  past_moves words [] rest l f w = refl
  past_moves words (m ∷ moves) rest l f w = past_move words m.to (move_mark m) m.from _ l f w ∙ past_moves words moves rest l f w

  -- ## Expressions

  past_carried : (kind : ℕ → MarkKind) (to from : ℕ → Place) (xs : List ℕ) (rest : List Instruction) (l : ℕ) (f : Frame) (w : World)
      → run (carried plan kind to from xs rest) (Some l) f w ≡ run rest (Some l) f w
  past_carried kind to from [] rest l f w = refl
  past_carried kind to from (x ∷ xs) rest l f w = one (is_slot (plan.place x)) ∙ past_carried kind to from xs rest l f w where
    one : (t : Bool) → run (cond t (carried plan kind to from xs rest) (Mark (kind x) ∷ (Copy (to x) (from x) ∷ carried plan kind to from xs rest))) (Some l) f w
        ≡ run (carried plan kind to from xs rest) (Some l) f w
    one true = refl
    one false = refl

  past_stored : (xs : List ℕ) (rest : List Instruction) (l : ℕ) (f : Frame) (w : World) → run (stored plan xs rest) (Some l) f w ≡ run rest (Some l) f w
  past_stored = past_carried mark.Save plan.home plan.place

  past_loaded : (xs : List ℕ) (rest : List Instruction) (l : ℕ) (f : Frame) (w : World) → run (loaded plan xs rest) (Some l) f w ≡ run rest (Some l) f w
  past_loaded = past_carried mark.Restore plan.place plan.home

  pub past : (e : Expression) (inside : ℕ → Bool) (n : ℕ) (test : Option ℕ) (rest : List Instruction) (l : ℕ) (f : Frame) (w : World) → l < n
      → run (lay plan e inside n test rest) (Some l) f w ≡ run rest (Some l) f w
  past (perform o) inside n test rest l f w lt = past_leave test rest l f w
  past (bind x a b) inside n test rest l f w lt =
      past a inside n None _ l f w lt
      ∙ (past_under (spill plan x) (Store (plan.place x)) l refl _ f w
      ∙ (past_stored (filter inside (x ∷ [])) _ l f w ∙ past b inside (n + labels a) test rest l f w (omega (arith, lt))))
  past (sequence a b) inside n test rest l f w lt = past a inside n None _ l f w lt ∙ past b inside (n + labels a) test rest l f w (omega (arith, lt))
  past (branch a b c) inside n test rest l f w lt =
      past a inside (suc (suc n)) (Some n) _ l f w (omega (arith, lt))
      ∙ (past b inside (suc (suc (n + labels a))) test _ l f w (omega (arith, lt))
      ∙ (past_label n l _ f w lt
      ∙ (past c inside (suc (suc (n + labels a + labels b))) test _ l f w (omega (arith, lt))
      ∙ past_label (suc n) l rest f w (omega (arith, lt)))))
  past (return e) inside n test rest l f w lt = past e inside n None _ l f w lt
  past (end e) inside n test rest l f w lt = past e inside n None _ l f w lt
  past (fix members e) inside n test rest l f w lt = past_stored (filter inside (member_variables members)) _ l f w ∙ past e inside n test rest l f w lt
  past (call a restores) inside n test rest l f w lt =
      past_moves plan.limit (plan.moves false a) (Mark (mark.Call a.site) ∷ (Call a.spread (length a.operands) ∷ loaded plan restores (leave test rest))) l f w
      ∙ (past_loaded restores (leave test rest) l f w ∙ past_leave test rest l f w)
  past (tail_call a) inside n test rest l f w lt = past_moves plan.limit (plan.moves true a) (Mark (mark.Tail a.site) ∷ (Tail a.spread (length a.operands) ∷ rest)) l f w
  past (save saves e) inside n test rest l f w lt = past_stored (heads e saves) _ l f w ∙ past e (with_region saves inside) n test rest l f w lt

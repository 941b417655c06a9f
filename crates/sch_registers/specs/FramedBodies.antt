-- What a frame body owes to the body that it is made of, by registers.
use Rattle.std.specs.Prelude.{◌≡◌, ◌≤◌, ◌+◌, ◌*◌, List, [], ◌∷◌, true}
use Rattle.sch_word.specs.trees.Shape.{max_operands}
use Rattle.sch_control.specs.Covered as control_covered
use Rattle.sch_control.specs.Tree as control
use Rattle.sch_control.specs.Work as control_work
use Rattle.sch_frames.specs.Covered.{code_begins, is_covered_code}
use Rattle.sch_frames.specs.Does.{FrameOf}
use Rattle.sch_frames.specs.Sizes.{code_work, copies_of}
use Rattle.sch_frames.specs.Standing.{code_marks_stand}
use Rattle.sch_frames.specs.Tree.{Code}
use Rattle.sch_registers.specs.MadeFrom.{IsMadeFrom}
use Rattle.sch_registers.specs.OwnMarks.{CallsItsSaves}
use Rattle.sch_registers.specs.Registers.{registers_code}

pub record IsFramedBody (c : control.Code) (f : Code) : Type 0 where
  -- it is what the passes are defined to make, one of what the one before it made
  pub made : f ≡ registers_code c
  -- it does what the body does
  pub same : FrameOf c f
  pub begins : code_begins f ≡ true
  -- each write of a slot and each call, return and tail call stands directly behind one mark, of its kind
  pub stand : code_marks_stand f ≡ true
  pub covered : control_covered.is_covered_code c ≡ true → is_covered_code f ≡ true
  -- beside its variables a frame has at most as many words as a call may have operands
  pub words : f.words ≤ max_operands + c.variables
  -- its text, 64 bytes for what there is to do and 8 for each copy, is within 72 for each unit of the body's work
  pub fits : 64 * code_work f + 8 * copies_of f.instructions ≤ 72 * control_work.code_work c
  pub called : CallsItsSaves f
  -- it is the layout of the body's tree with lazy saves, eager restores, places and moves, whatever the passes are
  pub chain : IsMadeFrom c f

-- one frame body for each body, in their order
abbrev pub AreFramedBodies : List control.Code → List Code → Type 0
AreFramedBodies [] [] = Unit {0}
AreFramedBodies (c ∷ cs) (f ∷ fs) = IsFramedBody c f × AreFramedBodies cs fs
AreFramedBodies _ _ = ⊥

-- When a layout has few copies: no more variables are saved at the head of a body or of an arm, or restored behind a call,
-- than there are registers to keep, and no argument of a call is moved more than twice.
use Rattle.std.specs.Prelude.{ℕ, ◌+◌, ◌*◌, ◌≤◌, Bool, true, false, cond, List, [], ◌∷◌, Option, Some, None}
use Rattle.sch_control.specs.declared.body.Entry.{Entry}
use Rattle.sch_control.specs.declared.operation.Application.{Application}
use Rattle.sch_control.specs.Meaning.{heads, no_region}
use Rattle.sch_control.specs.RegisterWork.{arguments_copies, arguments_done, most_kept, entry_done}
use Rattle.sch_control.specs.Tree.{Expression, perform, bind, sequence, branch, fix, call, tail_call, return, end, save}
use Rattle.sch_control.specs.Work.{entry_work, expression_work}
use Rattle.sch_control.specs.flow.Bare.{erased}
use Rattle.sch_frames.specs.declared.instruction.Instruction.{Instruction}
use Rattle.sch_word.specs.values.Places.{is_slot}
use Rattle.sch_frames.specs.Sizes.{copies_of, grouped, instructions_size}
use Rattle.sch_layout.specs.BodyLayout.{Plan, entering, lay, move_all}

-- what there is to do in instructions, with the closures of groups and the calls
abbrev pub work_in : List Instruction → ℕ
work_in is = instructions_size is + grouped is

module _ (plan : Plan) where
  -- how many of some variables live in registers: the others have nothing to be saved from
  abbrev pub in_registers : List ℕ → ℕ
  in_registers [] = 0
  in_registers (x ∷ xs) = cond (is_slot (plan.place x)) 0 1 + in_registers xs

  -- the moves of a call do no more than bring each argument into its place, by way of another at most
  pub record MovesFew (tail : Bool) (a : Application ℕ) : Type 0 where
    pub done : (rest : List Instruction) → work_in (move_all plan.limit (plan.moves tail a) rest) ≤ arguments_done a + work_in rest
    pub copies : (rest : List Instruction) → copies_of (move_all plan.limit (plan.moves tail a) rest) ≤ arguments_copies a + copies_of rest

  -- a region may stand where there is a number, and save no more at its head
  abbrev pub MayStand : (head : Option ℕ) → (saved : ℕ) → Type 0
  MayStand None saved = ⊥
  MayStand (Some most) saved = saved ≤ most

  -- regions stand round arms of branches, and where `head` says so
  abbrev pub Few : (head : Option ℕ) → Expression → Type 0
  Few head (perform o) = Unit {0}
  Few head (bind x a b) = Few None a × Few None b
  Few head (sequence a b) = Few None a × Few None b
  Few head (branch a b c) = Few None a × (Few (Some most_kept) b × Few (Some most_kept) c)
  Few head (fix members e) = Few None e
  Few head (call a restores) = (in_registers restores ≤ most_kept) × MovesFew false a
  Few head (tail_call a) = MovesFew true a
  Few head (return e) = Few None e
  Few head (end e) = Few None e
  Few head (save saves e) = MayStand head (in_registers (heads e saves)) × Few None e

  -- a form has nothing to save at its head
  abbrev pub most_saved : Option Entry → ℕ
  most_saved None = 0
  most_saved (Some e) = most_kept

  abbrev pub body_layout : Option Entry → Expression → List Instruction
  body_layout entry e = entering plan entry (lay plan e no_region 0 None [])

-- The text of such a layout, 64 bytes for what there is to do and 8 for each copy, is within 72 for each unit of work of the
-- body without regions and restores.
abbrev pub FewCopiesFit : Type 0
FewCopiesFit =
    (plan : Plan) (entry : Option Entry) (e : Expression) → Few plan (Some (most_saved plan entry)) e
    → 64 * (work_in (body_layout plan entry e) + entry_done entry) + 8 * copies_of (body_layout plan entry e) ≤ 72 * (entry_work entry + expression_work (erased e))

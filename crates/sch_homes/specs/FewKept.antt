-- When a placed body keeps few variables: no more are saved at the head of the body or of an arm, or restored behind a call,
-- than there are registers to keep.
use Rattle.std.specs.Prelude.{ℕ, ◌≤◌, List, Option, None, Some}
use Rattle.sch_word.specs.declared.place.Place.{Place}
use Rattle.sch_control.specs.declared.body.Entry.{Entry}
use Rattle.sch_control.specs.Meaning.{heads}
use Rattle.sch_control.specs.RegisterWork.{most_kept}
use Rattle.sch_control.specs.Tree.{Expression, perform, bind, sequence, branch, fix, call, tail_call, return, end, save}
use Rattle.sch_layout.specs.BodyLayout.{Plan}
use Rattle.sch_layout.specs.FewCopies.{MayStand, in_registers, most_saved}
use Rattle.sch_homes.specs.Homes.{homes_plan}

module _ (plan : Plan) where
  -- regions stand round arms of branches, and where `head` says so
  abbrev pub KeepsFew : (head : Option ℕ) → Expression → Type 0
  KeepsFew head (perform o) = Unit {0}
  KeepsFew head (bind x a b) = KeepsFew None a × KeepsFew None b
  KeepsFew head (sequence a b) = KeepsFew None a × KeepsFew None b
  KeepsFew head (branch a b c) = KeepsFew None a × (KeepsFew (Some most_kept) b × KeepsFew (Some most_kept) c)
  KeepsFew head (fix members e) = KeepsFew None e
  KeepsFew head (call a restores) = in_registers plan restores ≤ most_kept
  KeepsFew head (tail_call a) = Unit {0}
  KeepsFew head (return e) = KeepsFew None e
  KeepsFew head (end e) = KeepsFew None e
  KeepsFew head (save saves e) = MayStand plan head (in_registers plan (heads e saves)) × KeepsFew None e

-- a form has nothing to save at its head
abbrev pub BodyKeepsFew : Option Entry → Expression → List Place → Type 0
BodyKeepsFew entry e places = KeepsFew (homes_plan entry e places) (Some (most_saved (homes_plan entry e places) entry)) e

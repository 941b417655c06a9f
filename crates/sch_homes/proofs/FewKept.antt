-- The layout of a placed body that keeps few variables has few copies.
use Rattle.std.proofs.Common.{ℕ, ◌≤◌, ◌+◌, ◌*◌, List, Option, Some, None, true, false, subst}
use Rattle.sch_word.specs.declared.place.Place.{Place}
use Rattle.sch_control.specs.declared.body.Entry.{Entry}
use Rattle.sch_control.specs.RegisterWork.{most_kept}
use Rattle.sch_control.specs.Tree as control
use Rattle.sch_control.specs.Tree.{Expression, perform, bind, sequence, branch, fix, call, tail_call, return, end, save}
use Rattle.sch_control.specs.Work as work
use Rattle.sch_frames.specs.Sizes.{code_work, copies_of}
use Rattle.sch_layout.specs.FewCopies.{Few, most_saved}
use Rattle.sch_layout.proofs.layouts.FewCopies.{few_copies_fit}
use Rattle.sch_homes.specs.FewKept.{BodyKeepsFew, KeepsFew}
use Rattle.sch_homes.specs.Homes.{homes_code, homes_plan}
use Rattle.sch_homes.specs.Laws.{IsPlaced}
use Rattle.sch_homes.proofs.FewMoves.{moves_few}

module _ (entry : Option Entry) (whole : Expression) (places : List Place) where
  few : (head : Option ℕ) (e : Expression) → KeepsFew (homes_plan entry whole places) head e → Few (homes_plan entry whole places) head e
  few head (perform o) k = tt
  few head (bind x a b) k = (few None a k.0, few None b k.1)
  few head (sequence a b) k = (few None a k.0, few None b k.1)
  few head (branch a b c) k = (few None a k.0, (few (Some most_kept) b k.1.0, few (Some most_kept) c k.1.1))
  few head (fix members e) k = few None e k
  few head (call a restores) k = (k, moves_few entry whole places false a)
  few head (tail_call a) k = moves_few entry whole places true a
  few head (return e) k = few None e k
  few head (end e) k = few None e k
  few head (save saves e) k = (k.0, few None e k.1)

pub homes_fit : (c : control.Code) (e : Expression) (places : List Place) → IsPlaced c e places → BodyKeepsFew c.entry e places
    → 64 * code_work (homes_code c.entry e places) + 8 * copies_of (homes_code c.entry e places).instructions ≤ 72 * work.code_work c
homes_fit c e places p k =
    let fit = few_copies_fit (homes_plan c.entry e places) c.entry e (few c.entry e places (Some (most_saved (homes_plan c.entry e places) c.entry)) e k) in
    subst (λ z. 64 * code_work (homes_code c.entry e places) + 8 * copies_of (homes_code c.entry e places).instructions ≤ 72 * (work.entry_work c.entry + work.expression_work z)) p.body fit

-- A program that is one short body has few labels.
use Rattle.std.proofs.Common.{◌≡◌, ℕ, ◌≤◌, ◌<◌, List, [], ◌∷◌, length, slice_index_or, subst, arith}
use Rattle.sch_frames.specs.declared.frame_body.FrameBody.{FrameBody}
use Rattle.sch_frames.specs.SourceView.{codes_of}
use Rattle.sch_select_memory.specs.Addresses.{max_labels}
use Rattle.sch_select.specs.Program.{labels_of}
use Rattle.sch_select.proofs.items.ProgramFacts.{needed_few}

pub short_labels : (b : FrameBody) → b.labels ≤ 1000 → length b.instructions ≤ 1000 → labels_of (codes_of (b ∷ [])) ≤ max_labels
short_labels b labels few = let needed = needed_few b.instructions in omega (arith, labels, few, needed)

-- the same of a list that has one body
pub one_short : (bs : List FrameBody) (b : FrameBody) → 1 ≤ length bs → length bs < 2 → b ≡ slice_index_or bs 0 b → b.labels ≤ 1000
    → length b.instructions ≤ 1000 → labels_of (codes_of bs) ≤ max_labels
one_short [] b least most is labels few = absurd (omega (arith, least))
one_short (d ∷ []) b least most is labels few =
    short_labels d (subst (λ x. x.labels ≤ 1000) is labels) (subst (λ x. length x.instructions ≤ 1000) is few)
one_short (d ∷ (e ∷ ds)) b least most is labels few = absurd (omega (arith, most))

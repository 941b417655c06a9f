-- Worked rows: how much there is to do in bodies and in their layouts.
use Rattle.std.proofs.Common.{◌≡◌, refl, [], ◌∷◌}
use Rattle.sch_control.specs.Work as control_work
use Rattle.sch_frames.specs.Sizes.{closures_in, code_work, copies_of, program_size, program_work}
use Rattle.sch_layout.proofs.LayoutExamples.{covered, calling, framed, twice}
use Rattle.sch_layout.proofs.SlotPlan.{slots_code}

-- the group of one closure has one field, and its procedure is jumped over
group_rows : (program_size (framed covered) ∷ closures_in (framed covered).bodies ∷ program_work (framed covered) ∷ control_work.codes_work covered.bodies ∷ []) ≡ 10 ∷ 2 ∷ 12 ∷ 15 ∷ []
group_rows = refl

-- two procedures, whose closures are made one by one, and two calls
closure_row : closures_in (framed calling).bodies ≡ 4
closure_row = refl

-- what is copied is counted apart, and each is within what is counted of the body
call_rows : (code_work (slots_code twice) ∷ copies_of (slots_code twice).instructions ∷ control_work.code_work twice ∷ []) ≡ 12 ∷ 14 ∷ 22 ∷ []
call_rows = refl

-- What is left of a loop that writes, with one turn more.
use Rattle.std.proofs.Common.{◌≡◌, suc, ◌+◌, ◌-◌, ◌<◌, ℕ, List, ◌++◌, refl, sym, ap, ◌∙◌, arith}
use Rattle.sch_frames.specs.declared.instruction.Instruction.{Instruction}
use Rattle.sch_layout.specs.BodyLayout.{Plan, arrivals, brought}

-- with one variable more brought into its place, the others are left
pub next_brought : (plan : Plan) (k count : ℕ) (before after first rest whole : List Instruction) → k < count
    → ((rest : List Instruction) → after ++ rest ≡ before ++ brought plan (k + 1) rest)
    → before ++ arrivals plan (k + 1) (count - k) rest ≡ first ++ whole
    → after ++ arrivals plan (k + 1 + 1) (count - (k + 1)) rest ≡ first ++ whole
next_brought plan k count before after first rest whole lt w h =
    let i : k + 1 + 1 ≡ suc (k + 1) = omega arith in
    let j : count - (k + 1) ≡ count - suc k = omega arith in
    let n : count - k ≡ suc (count - suc k) = omega (arith, lt) in
    w (arrivals plan (k + 1 + 1) (count - (k + 1)) rest)
    ∙ (rw (i, j) refl
    ∙ (ap (λ m. before ++ arrivals plan (k + 1) m rest) (sym n) ∙ h))

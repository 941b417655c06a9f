-- A device may tell what it holds, or not.
use Rattle.std.specs.Prelude.{Option, Some, None}

-- What is told after a call was told before it, and the two are so related. A device that has ceased
-- to tell does not tell again.
abbrev pub Tells : {A : Type 0} → Option A → Option A → (A → A → Type 0) → Type 0
Tells before None Related = Unit {0}
Tells None (Some after) Related = ⊥
Tells (Some before) (Some after) Related = Related before after

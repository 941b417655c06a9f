-- The order of faults: by their places, and at one place by their causes.
use Rattle.std.specs.Prelude.{ℕ, ◌+◌, ◌*◌, cond, nat_le, List, [], ◌∷◌, Option, Some, None}
use Rattle.sch_sketch.specs.declared.fault.Fault.{Fault}
use Rattle.sch_sketch.specs.declared.fault.Fault.TheVariants.{KeywordDefined, BadForm, Unbound, Operands, Core}

-- there are five causes
abbrev pub rank : Fault → ℕ
rank (KeywordDefined at) = at * 5
rank (BadForm at) = at * 5 + 1
rank (Unbound at x) = at * 5 + 2
rank (Operands at) = at * 5 + 3
rank (Core at) = at * 5 + 4

-- the least fault so far and one more
abbrev pub reported : Fault → Option Fault → Option Fault
reported f None = Some f
reported f (Some g) = cond (nat_le (rank g) (rank f)) (Some g) (Some f)

abbrev pub all_reported : List Fault → Option Fault → Option Fault
all_reported [] o = o
all_reported (f ∷ fs) o = all_reported fs (reported f o)

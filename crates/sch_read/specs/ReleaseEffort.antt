-- What is left to do while data are let go, in numbers.
use Rattle.std.specs.Prelude.{ℕ, Option, Some, None}
use Rattle.std.specs.Global.{Box}
use Rattle.sch_read.specs.Valid.{weight}
use Rattle.sch_read.specs.Views.{tree_of}
use Rattle.sch_read.specs.declared.datum.Datum.{Datum}

-- the weight of the datum that is next, if there is one
abbrev pub weight_next : Option Datum → ℕ
weight_next None = 0
weight_next (Some d) = weight (tree_of d)

-- the weight of the datum after a dot, if there is one
abbrev pub weight_last : Option (Box Datum) → ℕ
weight_last None = 0
weight_last (Some d) = weight (tree_of d.value)

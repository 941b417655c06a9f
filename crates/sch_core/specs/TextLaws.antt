-- Laws of the readings of a text.
use Rattle.std.specs.Prelude.{◌≡◌, ℕ, List}
use Rattle.sch_read.specs.Grammar.{Data}
use Rattle.sch_sketch.specs.Draft.{Drafts}
use Rattle.sch_toplevel.specs.Assigned.{assigned_in_each}
use Rattle.sch_toplevel.specs.Texts.{TextExpands}

-- the drafts of a text assign the globals that its first reading found to be assigned, in the same order
abbrev pub AssignsTheNamesFound : Type 0
AssignsTheNamesFound =
    (seen : List (List ℕ)) (items : Data) (names : List (List ℕ)) (es : Drafts) → TextExpands seen items names es → assigned_in_each es ≡ names

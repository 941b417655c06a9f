-- Sets of variables as tests, and what one walk from the end finds.
use Rattle.std.specs.Prelude.{◌≡◌, ◌<◌, ℕ, List, [], ◌∷◌, length, slice_index_or, slice_set}
use Rattle.std.specs.FinSet as set
use Rattle.sch_sets.specs.Members.{NumberSet}
use Rattle.sch_control.specs.declared.operation.Member.{Member}
use Rattle.sch_control.specs.Tree.{Expression}
use Rattle.sch_control.specs.flow.LiveTests.{behind, is_live}
use Rattle.sch_regs.specs.NotedSets.{Noted, note}

-- what is noted in a list of sets; nothing past its end
abbrev pub noted_in : List NumberSet → Noted
noted_in sets y = set.contains (slice_index_or sets y set.empty)

-- a set is noted under the first variable of a group
abbrev pub with_first : List (Member ℕ) → NumberSet → List NumberSet → List NumberSet
with_first [] s sets = sets
with_first (m ∷ members) s sets = slice_set sets m.at s

-- A set has what is live before an expression, and the sets that are noted are the old ones with those of its bindings.
abbrev pub IsNotedBack : Expression → (on_true on_false before : NumberSet) → (old new : List NumberSet) → Type 0
IsNotedBack e on_true on_false before old new =
    ((x : ℕ) → set.contains before x ≡ is_live x e (behind on_true on_false x))
    × (((z : ℕ) → z < length old → noted_in new z ≡ note e (behind on_true on_false) (noted_in old) z) × (length new ≡ length old))

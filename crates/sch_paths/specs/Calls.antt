-- What is live after a call of a path.
use Rattle.std.specs.Prelude.{◌≡◌, ◌↔◌, ℕ, Bool, true, List, ◌∷◌, ◌++◌}
use Rattle.sch_word.specs.trees.NumberSets.{has}
use Rattle.sch_control.specs.declared.operation.Application.{Application}
use Rattle.sch_control.specs.Meaning.{no_region}
use Rattle.sch_control.specs.Tree.{Expression}
use Rattle.sch_control.specs.flow.Live.{nothing_later}
use Rattle.sch_control.specs.flow.Paths.{Event, Calls, IsPath, Meets, live}

-- some path goes on from a call so that the variable is referenced before it is bound, or as `L` says behind the expression
abbrev pub MeetsAfter : ℕ → (inside : ℕ → Bool) → Expression → (L : Bool → Type 0) → (before : List Event) → Application ℕ → (listed : List ℕ) → Type 0
MeetsAfter x inside e L before a listed =
    (after : List Event) × (r : Bool) × IsPath inside e (before ++ Calls a listed ∷ after) r × Meets (live x) after (L r)

-- At each call of each path, what is listed is what is live after it: what some path from there references before it binds it.
abbrev pub ListsLive : Expression → Type 0
ListsLive e =
    (es : List Event) (r : Bool) → IsPath no_region e es r
    → (before after : List Event) (a : Application ℕ) (listed : List ℕ) → es ≡ before ++ Calls a listed ∷ after
    → (x : ℕ) → (has x listed ≡ true) ↔ MeetsAfter x no_region e (nothing_later x) before a listed

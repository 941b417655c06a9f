-- Which argument a greedy list of moves takes at each step.
use Rattle.std.specs.Prelude.{◌≡◌, ℕ, ◌<◌, ◌≤◌, Bool, true, false, List, [], ◌∷◌, ◌++◌, length, map, take, drop, filter}
use Rattle.sch_word.specs.trees.Bindings.{numbers}
use Rattle.sch_word.specs.trees.NumberSets.{has}
use Rattle.sch_word.specs.declared.place.Place.{Place}
use Rattle.sch_shuffle.specs.Tree.{Tree, place}
use Rattle.sch_shuffle.specs.Assignment.{place_at, Transfer, temps}
use Rattle.sch_shuffle.specs.Greedy.{uses_target, needed, remove_first}

-- those of ws that no move has evaluated yet
abbrev pub waiting : List ℕ → List Transfer → List ℕ
waiting ws [] = ws
waiting ws (t ∷ ts) = waiting (remove_first t.argument ws) ts

-- k waits and no other waiting argument uses its target, and it is the first such
pub record IsFirstClear (W : ℕ → ℕ → Bool) (ws : List ℕ) (k : ℕ) : Type 0 where
  pub waits : has k ws ≡ true
  pub clear : needed W ws k ≡ 0
  pub least : (j : ℕ) → has j ws ≡ true → needed W ws j ≡ 0 → k ≤ j

-- the target of each waiting argument is used by another, that of k by most, and k is the first such
pub record IsMostUsed (W : ℕ → ℕ → Bool) (ws : List ℕ) (k : ℕ) : Type 0 where
  pub waits : has k ws ≡ true
  pub stuck : (j : ℕ) → has j ws ≡ true → 0 < needed W ws j
  pub most : (j : ℕ) → has j ws ≡ true → needed W ws j ≤ needed W ws k
  pub least : (j : ℕ) → has j ws ≡ true → needed W ws j ≡ needed W ws k → k ≤ j

-- What a move for argument k may do while ws wait: it is into a temporary only where none can go to its target.
-- A move into no temporary, of an argument that waits, goes to its target; any other goes on.
abbrev pub IsGreedyStep : (ℕ → ℕ → Bool) → List ℕ → ℕ → (temp : Bool) → Type 0
IsGreedyStep W ws k true = IsMostUsed W ws k
IsGreedyStep W ws k false = has k ws ≡ true → IsFirstClear W ws k

-- each move takes the argument that it should, and each temporary is the first free place that is not yet used
abbrev pub IsGreedy : List Tree → List Place → List Place → List Transfer → Type 0
IsGreedy args targets free ts =
    (before later : List Transfer) (t : Transfer) → ts ≡ before ++ t ∷ later
    → IsGreedyStep (uses_target args targets) (waiting (numbers 0 (length args)) before) t.argument t.temp
    × (t.temp ≡ true → t.to ≡ place_at free (temps before))

-- the arguments of the first n moves
abbrev pub order : ℕ → List Transfer → List ℕ
order n ts = map (λ t. t.argument) (take n ts)

-- the first n moves are for n arguments, each once
pub record IsOrdered (n : ℕ) (ts : List Transfer) : Type 0 where
  pub whole : length (order n ts) ≡ n
  pub each : (k : ℕ) → k < n → has k (order n ts) ≡ true

-- how a value goes on from the temporary to which a move brought it
abbrev pub onward_from : List Place → Transfer → Transfer
onward_from targets t = record { from = place t.to; to = place_at targets t.argument; argument = t.argument; temp = false }

-- behind the first n moves what was set aside goes on, each from its temporary to its target, in the same order
abbrev pub GoesOnInOrder : ℕ → List Place → List Transfer → Type 0
GoesOnInOrder n targets ts = drop n ts ≡ map (onward_from targets) (filter (λ t. t.temp) ts)

-- Sets of what is live before an expression and at its calls, from two sets of what is live behind it: where its value counts
-- as true, and where it is `#f`.
use Rattle.std.specs.Prelude.{◌≡◌, ◌↔◌, ℕ, true, cond}
use Rattle.std.specs.FinSet as set
use Rattle.std.specs.Bool.{MatchBool}
use Rattle.sch_sets.specs.Members.{NumberSet}
use Rattle.sch_word.specs.trees.NumberSets.{has}
use Rattle.sch_control.specs.Tree.{Expression, perform, bind, sequence, branch, fix, call, tail_call, return, end, save}
use Rattle.sch_control.specs.flow.Live.{Perhaps, Across, Live, Later}

-- what two sets say is live behind an expression
abbrev pub later_of : (on_true on_false : NumberSet) → Later
later_of on_true on_false x t = set.contains (cond t on_true on_false) x ≡ true

-- a set has exactly what is live before an expression
abbrev pub IsLiveBefore : Expression → (on_true on_false before : NumberSet) → Type 0
IsLiveBefore e on_true on_false before = (x : ℕ) → (set.contains before x ≡ true) ↔ Live x e (later_of on_true on_false x)

-- Each call lists what is live after it, also one to which no path comes.
abbrev pub ListsAllLive : Expression → Later → Type 0
ListsAllLive (perform o) L = Unit {0}
ListsAllLive (bind y a b) L = ListsAllLive a (λ x t. Across y x (Live x b (L x))) × ListsAllLive b L
ListsAllLive (sequence a b) L = ListsAllLive a (λ x t. Live x b (L x)) × ListsAllLive b L
ListsAllLive (branch a b c) L =
    ListsAllLive a (λ x t. MatchBool t (Live x b (L x)) (Live x c (L x))) × (ListsAllLive b L × ListsAllLive c L)
ListsAllLive (fix members e) L = ListsAllLive e L
ListsAllLive (call a listed) L = (x : ℕ) → (has x listed ≡ true) ↔ Perhaps (L x)
ListsAllLive (tail_call a) L = Unit {0}
ListsAllLive (return e) L = ListsAllLive e (λ x t. x ≡ 0)
ListsAllLive (end e) L = ListsAllLive e (λ x t. ⊥)
ListsAllLive (save saves e) L = ListsAllLive e L

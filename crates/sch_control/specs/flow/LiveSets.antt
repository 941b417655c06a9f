-- The live sets of a body, where each call lists what is live after it.
use Rattle.std.specs.Prelude.{◌≡◌, ◌↔◌, ℕ, true, false}
use Rattle.std.specs.Bool.{MatchBool}
use Rattle.sch_word.specs.trees.NumberSets.{has}
use Rattle.sch_control.specs.Tree.{Expression, perform, bind, sequence, branch, fix, call, tail_call, return, end, save}
use Rattle.sch_control.specs.flow.Live.{Perhaps, Across, MayGive, Live, Later, nothing_later}

-- What is listed at each call is what is live after it, where `L` has what is live behind the expression. `Met` says that some
-- path comes to the expression: at a call to which none comes, nothing is listed.
abbrev pub LiveSets : Expression → (Met : Type 0) → Later → Type 0
LiveSets (perform o) Met L = Unit {0}
LiveSets (bind y a b) Met L = LiveSets a Met (λ x t. Across y x (Live x b (L x))) × LiveSets b Met L
LiveSets (sequence a b) Met L = LiveSets a Met (λ x t. Live x b (L x)) × LiveSets b Met L
LiveSets (branch a b c) Met L =
    LiveSets a Met (λ x t. MatchBool t (Live x b (L x)) (Live x c (L x)))
    × (LiveSets b (Met × MayGive a true) L × LiveSets c (Met × MayGive a false) L)
LiveSets (fix members e) Met L = LiveSets e Met L
LiveSets (call a listed) Met L = (x : ℕ) → (has x listed ≡ true) ↔ (Met × Perhaps (L x))
LiveSets (tail_call a) Met L = Unit {0}
LiveSets (return e) Met L = LiveSets e Met (λ x t. x ≡ 0)
LiveSets (end e) Met L = LiveSets e Met (λ x t. ⊥)
LiveSets (save saves e) Met L = LiveSets e Met L

-- so it is in a whole body
abbrev pub HasLiveSets : Expression → Type 0
HasLiveSets e = LiveSets e (Unit {0}) nothing_later

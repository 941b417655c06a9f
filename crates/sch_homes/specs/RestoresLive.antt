-- What calls restore, by what is live behind them.
use Rattle.std.specs.Prelude.{◌≡◌, true, false}
use Rattle.std.specs.Bool.{MatchBool}
use Rattle.sch_control.specs.Tree.{Expression, perform, bind, sequence, branch, fix, call, tail_call, return, end, save}
use Rattle.sch_control.specs.flow.Apart.{EachHas}
use Rattle.sch_control.specs.flow.Live.{Across, Later, Live, MayGive, Perhaps}

-- each call restores what is live after it, and nothing where no path comes
abbrev pub RestoresLive : Expression → (Met : Type 0) → Later → Type 0
RestoresLive (perform o) Met L = Unit {0}
RestoresLive (bind y a b) Met L = RestoresLive a Met (λ x t. Across y x (Live x b (L x))) × RestoresLive b Met L
RestoresLive (sequence a b) Met L = RestoresLive a Met (λ x t. Live x b (L x)) × RestoresLive b Met L
RestoresLive (branch a b c) Met L =
    RestoresLive a Met (λ x t. MatchBool t (Live x b (L x)) (Live x c (L x)))
    × (RestoresLive b (Met × MayGive a true) L × RestoresLive c (Met × MayGive a false) L)
RestoresLive (fix members e) Met L = RestoresLive e Met L
RestoresLive (call a restores) Met L = EachHas (λ x. Met × Perhaps (L x)) restores
RestoresLive (tail_call a) Met L = Unit {0}
RestoresLive (return e) Met L = RestoresLive e Met (λ x t. x ≡ 0)
RestoresLive (end e) Met L = RestoresLive e Met (λ x t. ⊥)
RestoresLive (save saves e) Met L = RestoresLive e Met L

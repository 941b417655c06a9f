-- The live sets of a body are the same with regions and without them.
use Rattle.std.proofs.Common.{◌≡◌, ℕ, Bool, true, false, refl, ap, sym, ◌∙◌, subst}
use Rattle.std.specs.Bool.{MatchBool}
use Rattle.std.proofs.Math.Path.{fun_ext}
use Rattle.sch_control.specs.Tree.{Expression, perform, bind, sequence, branch, fix, call, tail_call, return, end, save}
use Rattle.sch_control.specs.flow.Bare.{unsaved}
use Rattle.sch_control.specs.flow.Live.{Across, MayGive, Live, Later, nothing_later}
use Rattle.sch_control.specs.flow.LiveSets.{LiveSets, HasLiveSets}
use Rattle.sch_paths.proofs.paths.UnlistedTrees.{both_are, LiveBefore}

gives_unsaved : (e : Expression) (r : Bool) → MayGive (unsaved e) r ≡ MayGive e r
gives_unsaved (perform o) r = refl
gives_unsaved (bind y a b) r = gives_unsaved b r
gives_unsaved (sequence a b) r = gives_unsaved b r
gives_unsaved (branch a b c) r = rw (gives_unsaved a true, gives_unsaved a false, gives_unsaved b r, gives_unsaved c r) refl
gives_unsaved (fix members e) r = gives_unsaved e r
gives_unsaved (call a listed) r = refl
gives_unsaved (tail_call a) r = refl
gives_unsaved (return e) r = refl
gives_unsaved (end e) r = refl
gives_unsaved (save saves e) r = gives_unsaved e r

live_unsaved : (x : ℕ) (e : Expression) (L : Bool → Type 0) → Live x (unsaved e) L ≡ Live x e L
live_unsaved x (perform o) L = refl
live_unsaved x (bind y a b) L =
    ap (λ A. Live x (unsaved a) (λ t. Across y x A)) (live_unsaved x b L) ∙ live_unsaved x a (λ t. Across y x (Live x b L))
live_unsaved x (sequence a b) L = ap (λ A. Live x (unsaved a) (λ t. A)) (live_unsaved x b L) ∙ live_unsaved x a (λ t. Live x b L)
live_unsaved x (branch a b c) L =
    ap (λ A. Live x (unsaved a) (λ t. MatchBool t A (Live x (unsaved c) L))) (live_unsaved x b L)
    ∙ (ap (λ A. Live x (unsaved a) (λ t. MatchBool t (Live x b L) A)) (live_unsaved x c L) ∙ live_unsaved x a (λ t. MatchBool t (Live x b L) (Live x c L)))
live_unsaved x (fix members e) L = rw (live_unsaved x e L) refl
live_unsaved x (call a listed) L = refl
live_unsaved x (tail_call a) L = refl
live_unsaved x (return e) L = live_unsaved x e (λ t. x ≡ 0)
live_unsaved x (end e) L = live_unsaved x e (λ t. ⊥)
live_unsaved x (save saves e) L = live_unsaved x e L

behind_unsaved : (e : Expression) (L : Later) → LiveBefore (unsaved e) L ≡ LiveBefore e L
behind_unsaved e L = fun_ext (λ x. live_unsaved x e (L x))

sets_unsaved : (e : Expression) (Met : Type 0) (L : Later) → LiveSets (unsaved e) Met L ≡ LiveSets e Met L
sets_unsaved (perform o) Met L = refl
sets_unsaved (bind y a b) Met L =
    both_are (ap (λ P. LiveSets (unsaved a) Met (λ x t. Across y x (P x))) (behind_unsaved b L) ∙ sets_unsaved a Met (λ x t. Across y x (Live x b (L x)))) (sets_unsaved b Met L)
sets_unsaved (sequence a b) Met L =
    both_are (ap (λ P. LiveSets (unsaved a) Met (λ x t. P x)) (behind_unsaved b L) ∙ sets_unsaved a Met (λ x t. Live x b (L x))) (sets_unsaved b Met L)
sets_unsaved (branch a b c) Met L =
    both_are
    (ap (λ P. LiveSets (unsaved a) Met (λ x t. MatchBool t (P x) (Live x (unsaved c) (L x)))) (behind_unsaved b L)
    ∙ (ap (λ P. LiveSets (unsaved a) Met (λ x t. MatchBool t (Live x b (L x)) (P x))) (behind_unsaved c L)
    ∙ sets_unsaved a Met (λ x t. MatchBool t (Live x b (L x)) (Live x c (L x)))))
    (both_are (ap (λ E. LiveSets (unsaved b) (Met × E) L) (gives_unsaved a true) ∙ sets_unsaved b (Met × MayGive a true) L)
    (ap (λ E. LiveSets (unsaved c) (Met × E) L) (gives_unsaved a false) ∙ sets_unsaved c (Met × MayGive a false) L))
sets_unsaved (fix members e) Met L = sets_unsaved e Met L
sets_unsaved (call a listed) Met L = refl
sets_unsaved (tail_call a) Met L = refl
sets_unsaved (return e) Met L = sets_unsaved e Met (λ x t. x ≡ 0)
sets_unsaved (end e) Met L = sets_unsaved e Met (λ x t. ⊥)
sets_unsaved (save saves e) Met L = sets_unsaved e Met L

pub same_sets : (e r : Expression) → unsaved r ≡ e → HasLiveSets e → HasLiveSets r
same_sets e r is sets = subst (λ T. T) (sets_unsaved r (Unit {0}) nothing_later) (subst HasLiveSets (sym is) sets)

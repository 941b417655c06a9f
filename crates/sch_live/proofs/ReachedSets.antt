-- Sets at calls, once those are emptied to which no path comes.
use Rattle.std.proofs.Common.{◌≡◌, ℕ, Bool, true, false, List, [], cond, Option, Some, None, refl, ap, sym, ◌∙◌, subst, inl, inr}
use Rattle.std.specs.Prelude.{◌↔◌, ◌&&◌}
use Rattle.std.specs.Bool.{MatchBool}
use Rattle.std.proofs.Math.Path.{fun_ext}
use Rattle.sch_word.specs.trees.NumberSets.{has}
use Rattle.sch_control.specs.Tree.{Expression, perform, bind, sequence, branch, fix, call, tail_call, return, end, save}
use Rattle.sch_control.specs.flow.Bare.{unlisted}
use Rattle.sch_control.specs.flow.Live.{Perhaps, known, ByResult, Across, MayGive, Live, Later}
use Rattle.sch_control.specs.flow.LiveSets.{LiveSets}
use Rattle.sch_paths.proofs.paths.LiveByPaths.{then_is, either_same, both_same}
use Rattle.sch_paths.proofs.paths.LiveTested.{and_is, or_is}
use Rattle.sch_paths.proofs.paths.UnlistedTrees.{live_unlisted, may_give_unlisted, LiveBefore}
use Rattle.sch_live.specs.BackwardSets.{ListsAllLive}
use Rattle.sch_live.specs.Reached.{may_be, gives, where_reached}

-- ## What an expression gives

may_be_is : (k : Option Bool) (r : Bool) → (may_be k r ≡ true) ↔ ByResult k (λ t. t ≡ r)
may_be_is None true = (λ h. inl refl, λ w. refl)
may_be_is None false = (λ h. inr refl, λ w. refl)
may_be_is (Some true) r = (λ h. sym h, λ h. sym h)
may_be_is (Some false) true = (λ h. absurd (cc), λ h. absurd (cc))
may_be_is (Some false) false = (λ h. refl, λ h. refl)

pub gives_is : (e : Expression) (r : Bool) → (gives e r ≡ true) ↔ MayGive e r
gives_is (perform o) r = may_be_is (known o) r
gives_is (bind y a b) r = gives_is b r
gives_is (sequence a b) r = gives_is b r
gives_is (branch a b c) r =
    then_is (or_is (gives a true && gives b r) (gives a false && gives c r))
    (either_same (then_is (and_is (gives a true) (gives b r)) (both_same (gives_is a true) (gives_is b r)))
    (then_is (and_is (gives a false) (gives c r)) (both_same (gives_is a false) (gives_is c r))))
gives_is (fix members e) r = gives_is e r
gives_is (call a listed) r = (λ h. tt, λ w. refl)
gives_is (tail_call a) r = (λ h. tt, λ w. refl)
gives_is (return e) r = (λ h. tt, λ w. refl)
gives_is (end e) r = (λ h. tt, λ w. refl)
gives_is (save saves e) r = gives_is e r

-- ## Nothing else is changed

pub reached_unlisted : (m : Bool) (e : Expression) → unlisted (where_reached m e) ≡ unlisted e
reached_unlisted m (perform o) = refl
reached_unlisted m (bind y a b) = rw (reached_unlisted m a, reached_unlisted m b) refl
reached_unlisted m (sequence a b) = rw (reached_unlisted m a, reached_unlisted m b) refl
reached_unlisted m (branch a b c) = rw (reached_unlisted m a, reached_unlisted (m && gives a true) b, reached_unlisted (m && gives a false) c) refl
reached_unlisted m (fix members e) = rw (reached_unlisted m e) refl
reached_unlisted m (call a listed) = refl
reached_unlisted m (tail_call a) = refl
reached_unlisted m (return e) = rw (reached_unlisted m e) refl
reached_unlisted m (end e) = rw (reached_unlisted m e) refl
reached_unlisted m (save saves e) = rw (reached_unlisted m e) refl

behind_reached : (m : Bool) (e : Expression) (L : Later) → LiveBefore (where_reached m e) L ≡ LiveBefore e L
behind_reached m e L =
    fun_ext (λ x. sym (live_unlisted x (where_reached m e) (L x)) ∙ (ap (λ z. Live x z (L x)) (reached_unlisted m e) ∙ live_unlisted x e (L x)))

gives_reached : (m : Bool) (e : Expression) (r : Bool) → MayGive (where_reached m e) r ≡ MayGive e r
gives_reached m e r = sym (may_give_unlisted (where_reached m e) r) ∙ (ap (λ z. MayGive z r) (reached_unlisted m e) ∙ may_give_unlisted e r)

-- ## The sets

at_call : (m : Bool) (Met : Type 0) (listed : List ℕ) (L : Later) → (m ≡ true) ↔ Met → ((x : ℕ) → (has x listed ≡ true) ↔ Perhaps (L x))
    → (x : ℕ) → (has x (cond m listed []) ≡ true) ↔ (Met × Perhaps (L x))
at_call true Met listed L f h x = (λ e. (f.0 refl, (h x).0 e), λ w. (h x).1 w.1)
at_call false Met listed L f h x = (λ e. absurd (cc), λ w. absurd (let e : false ≡ true = f.1 w.0 in cc))

pub reached_sets : (e : Expression) (m : Bool) (Met : Type 0) → (m ≡ true) ↔ Met → (L : Later) → ListsAllLive e L → LiveSets (where_reached m e) Met L
reached_sets (perform o) m Met f L h = tt
reached_sets (bind y a b) m Met f L h = (
  subst (λ P. LiveSets (where_reached m a) Met (λ x t. Across y x (P x))) (sym (behind_reached m b L)) (reached_sets a m Met f _ h.0),
  reached_sets b m Met f L h.1,
)
reached_sets (sequence a b) m Met f L h = (
  subst (λ P. LiveSets (where_reached m a) Met (λ x t. P x)) (sym (behind_reached m b L)) (reached_sets a m Met f _ h.0),
  reached_sets b m Met f L h.1,
)
reached_sets (branch a b c) m Met f L h =
    let first = m && gives a true in
    let second = m && gives a false in
    let arm : (r : Bool) → ((m && gives a r) ≡ true) ↔ (Met × MayGive a r) = λ r. then_is (and_is m (gives a r)) (both_same f (gives_is a r)) in (
      subst (λ P. LiveSets (where_reached m a) Met (λ x t. MatchBool t (P x) (Live x (where_reached second c) (L x)))) (sym (behind_reached first b L))
          (subst (λ P. LiveSets (where_reached m a) Met (λ x t. MatchBool t (Live x b (L x)) (P x))) (sym (behind_reached second c L))
          (reached_sets a m Met f _ h.0)),
      (
        subst (λ E. LiveSets (where_reached first b) (Met × E) L) (sym (gives_reached m a true))
            (reached_sets b first (Met × MayGive a true) (arm true) L h.1.0),
        subst (λ E. LiveSets (where_reached second c) (Met × E) L) (sym (gives_reached m a false))
            (reached_sets c second (Met × MayGive a false) (arm false) L h.1.1),
      ),
    )
reached_sets (fix members e) m Met f L h = reached_sets e m Met f L h
reached_sets (call a listed) m Met f L h = at_call m Met listed L f h
reached_sets (tail_call a) m Met f L h = tt
reached_sets (return e) m Met f L h = reached_sets e m Met f _ h
reached_sets (end e) m Met f L h = reached_sets e m Met f _ h
reached_sets (save saves e) m Met f L h = reached_sets e m Met f L h

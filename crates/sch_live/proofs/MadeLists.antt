-- A tree whose calls list what is live after them lists it as the function of the tree does.
use Rattle.std.proofs.Common.{◌≡◌, ℕ, Bool, true, false, List, refl, ap, sym, ◌∙◌, subst}
use Rattle.std.specs.Prelude.{◌↔◌, ◌&&◌, filter}
use Rattle.std.proofs.Math.Path.{fun_ext}
use Rattle.sch_word.specs.trees.Bindings.{numbers}
use Rattle.sch_word.specs.trees.NumberSets.{has}
use Rattle.sch_control.specs.Tree.{Expression, perform, bind, sequence, branch, fix, call, tail_call, return, end, save}
use Rattle.sch_control.specs.flow.Bare.{unlisted}
use Rattle.sch_control.specs.flow.Live.{Perhaps, MayGive, Live, Later, nothing_later}
use Rattle.sch_control.specs.flow.LiveSets.{HasLiveSets, LiveSets}
use Rattle.sch_control.specs.flow.LiveTests.{is_live, Behind}
use Rattle.sch_paths.proofs.paths.LiveByPaths.{then_is, both_same, flip}
use Rattle.sch_paths.proofs.paths.LiveTested.{and_is, differ_is, equal_is, false_is, live_test, match_is, perhaps_is}
use Rattle.sch_paths.proofs.paths.UnlistedTrees.{live_unlisted, may_give_unlisted}
use Rattle.sch_live.specs.LiveListed.{in_order, listing_live, lists_in_order, live_behind, live_listed}
use Rattle.sch_live.specs.Reached.{gives}
use Rattle.sch_live.proofs.ReachedSets.{gives_is}

-- ## Trees without lists

bare_test : (e : Expression) (l : Behind) (L : Later) → ((x : ℕ) (t : Bool) → (l x t ≡ true) ↔ L x t) → (x : ℕ) → (is_live x (unlisted e) (l x) ≡ true) ↔ Live x e (L x)
bare_test e l L f x = subst (λ P. (is_live x (unlisted e) (l x) ≡ true) ↔ P) (live_unlisted x e (L x)) (live_test x (unlisted e) (l x) (L x) (f x))

bare_gives : (e : Expression) (r : Bool) → (gives (unlisted e) r ≡ true) ↔ MayGive e r
bare_gives e r = subst (λ P. (gives (unlisted e) r ≡ true) ↔ P) (may_give_unlisted e r) (gives_is (unlisted e) r)

same_test : (b c : Bool) → (b ≡ true) ↔ (c ≡ true) → b ≡ c
same_test true c f = sym (f.0 refl)
same_test false true f = f.1 refl
same_test false false f = refl

-- ## The lists

module _ (n : ℕ) where
  at_call : (m : Bool) (Met : Type 0) → (m ≡ true) ↔ Met → (l : Behind) (L : Later) → ((x : ℕ) (t : Bool) → (l x t ≡ true) ↔ L x t)
      → (listed : List ℕ) → ((x : ℕ) → (has x listed ≡ true) ↔ (Met × Perhaps (L x))) → in_order n listed ≡ live_behind n m l
  at_call m Met g l L f listed h =
      ap (λ test. filter test (numbers 0 n))
      (fun_ext (λ x. same_test _ _ (then_is (h x) (flip (then_is (and_is m _) (both_same g (perhaps_is (l x) (L x) (f x))))))))

  made : (e : Expression) (m : Bool) (Met : Type 0) → (m ≡ true) ↔ Met → (l : Behind) (L : Later) → ((x : ℕ) (t : Bool) → (l x t ≡ true) ↔ L x t)
      → LiveSets e Met L → lists_in_order n e ≡ listing_live n m (unlisted e) l
  made (perform o) m Met g l L f h = refl
  made (bind y a b) m Met g l L f h =
      rw (made a m Met g _ _ (λ x t. then_is (and_is _ _) (both_same (differ_is x y) (bare_test b l L f x))) h.0, made b m Met g l L f h.1) refl
  made (sequence a b) m Met g l L f h = rw (made a m Met g _ _ (λ x t. bare_test b l L f x) h.0, made b m Met g l L f h.1) refl
  made (branch a b c) m Met g l L f h =
      let arm : (r : Bool) → ((m && gives (unlisted a) r) ≡ true) ↔ (Met × MayGive a r) = λ r. then_is (and_is m _) (both_same g (bare_gives a r)) in
      rw (
        made a m Met g _ _ (λ x t. match_is t _ _ _ _ (bare_test b l L f x) (bare_test c l L f x)) h.0,
        made b (m && gives (unlisted a) true) (Met × MayGive a true) (arm true) l L f h.1.0,
        made c (m && gives (unlisted a) false) (Met × MayGive a false) (arm false) l L f h.1.1,
      ) refl
  made (fix members e) m Met g l L f h = rw (made e m Met g l L f h) refl
  made (call a listed) m Met g l L f h = ap (call a) (at_call m Met g l L f listed h)
  made (tail_call a) m Met g l L f h = refl
  made (return e) m Met g l L f h = rw (made e m Met g _ _ (λ x t. equal_is x 0) h) refl
  made (end e) m Met g l L f h = rw (made e m Met g _ _ (λ x t. false_is) h) refl
  made (save saves e) m Met g l L f h = rw (made e m Met g l L f h) refl

  pub made_lists : (e bare : Expression) → HasLiveSets e → unlisted e ≡ bare → lists_in_order n e ≡ live_listed n bare
  made_lists e bare h same =
      made e true (Unit {0}) (λ e. tt, λ u. refl) (λ x r. false) nothing_later (λ x t. false_is) h ∙ ap (live_listed n) same

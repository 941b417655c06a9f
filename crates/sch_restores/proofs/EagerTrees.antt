-- A body in which each call restores what is wanted.
use Rattle.std.proofs.Common.{◌≡◌, ℕ, ◌<◌, ◌≤◌, Bool, true, false, cond, List, [], ◌∷◌, refl, ap, sym, ◌∙◌, subst, arith}
use Rattle.std.specs.Prelude.{◌↔◌, nat_eq, nat_lt, ◌&&◌, ◌||◌, not, filter}
use Rattle.std.specs.Bool.{MatchBool}
use Rattle.std.specs.List.{list_all}
use Rattle.std.proofs.Math.Path.{fun_ext}
use Rattle.std.proofs.lemmas.Bool.Decides.{nat_tests}
use Rattle.sch_word.specs.trees.NumberSets.{has, without_repeats}
use Rattle.sch_word.specs.trees.Bindings.{numbers}
use Rattle.sch_word.proofs.facts.Booleans.{and_left, and_right, and_of}
use Rattle.sch_word.proofs.facts.Lists.{all_passing}
use Rattle.sch_control.specs.Meaning.{plain, do_body, no_region, with_region}
use Rattle.sch_control.specs.Tree.{Expression, perform, bind, sequence, branch, fix, call, tail_call, return, end, save, Code}
use Rattle.sch_control.specs.Valid.{in_scope_whole, numbered}
use Rattle.sch_control.specs.flow.Bare.{unlisted, erased}
use Rattle.sch_control.specs.flow.Live.{Across, MayGive, Live, Soon, Later, nothing_later}
use Rattle.sch_control.specs.flow.LiveSets.{LiveSets, HasLiveSets}
use Rattle.sch_control.specs.flow.LiveTests.{is_soon, Behind}
use Rattle.sch_control.specs.flow.Middle.{silent}
use Rattle.sch_control.specs.flow.Regions.{regions_apart, restores_saved, SavesBelow}
use Rattle.sch_control.proofs.NumberLists.{has_filter, has_first}
use Rattle.sch_paths.specs.EachLiveSaved.{EachLiveSaved}
use Rattle.sch_paths.specs.EachSoonRestored.{EachSoonRestored}
use Rattle.sch_paths.specs.Exact.{EagerRestores, EagerSets}
use Rattle.sch_paths.proofs.paths.LiveTested.{and_is, differ_is, equal_is, false_is, match_is, perhaps_is, soon_test}
use Rattle.sch_paths.proofs.paths.LiveByPaths.{then_is, both_same}
use Rattle.sch_paths.proofs.paths.UnlistedTrees.{live_unlisted, may_give_unlisted, saved_alike, soon_unlisted, LiveBefore}
use Rattle.sch_paths.proofs.runs.PlainlyTheSame.{plainly}
use Rattle.sch_paths.proofs.runs.RestoresAreEnough.{valid_fresh}
use Rattle.sch_paths.proofs.runs.SameWithoutMarks.{silently}
use Rattle.sch_paths.proofs.saves.ListedBelow.{ListsBelow, body_below}
use Rattle.sch_paths.proofs.saves.SavedAndRestored.{all_restored, eager_between}
use Rattle.sch_restores.specs.Restores.{eager, eagerly_restored, wanted, RestoresSuffice}
use Rattle.sch_restores.proofs.EagerSteps.{once_first}

module _ (n : ℕ) where
  -- ## The tree is the same but for what is listed at calls

  pub unlisted_eager : (inside : ℕ → Bool) (e : Expression) (s : Behind) → unlisted (eager n inside e s) ≡ unlisted e
  unlisted_eager inside (perform o) s = refl
  unlisted_eager inside (bind y a b) s = rw (unlisted_eager inside a (λ x t. not (nat_eq x y) && is_soon x b (s x)), unlisted_eager inside b s) refl
  unlisted_eager inside (sequence a b) s = rw (unlisted_eager inside a (λ x t. is_soon x b (s x)), unlisted_eager inside b s) refl
  unlisted_eager inside (branch a b c) s =
      rw (unlisted_eager inside a (λ x t. cond t (is_soon x b (s x)) (is_soon x c (s x))), unlisted_eager inside b s, unlisted_eager inside c s) refl
  unlisted_eager inside (fix members e) s = rw (unlisted_eager inside e s) refl
  unlisted_eager inside (call a live) s = refl
  unlisted_eager inside (tail_call a) s = refl
  unlisted_eager inside (return e) s = rw (unlisted_eager inside e (λ x t. nat_eq x 0)) refl
  unlisted_eager inside (end e) s = rw (unlisted_eager inside e (λ x t. false)) refl
  unlisted_eager inside (save saves e) s = rw (unlisted_eager (with_region saves inside) e s) refl

  pub erased_eager : (inside : ℕ → Bool) (e : Expression) (s : Behind) → erased (eager n inside e s) ≡ erased e
  erased_eager inside (perform o) s = refl
  erased_eager inside (bind y a b) s = rw (erased_eager inside a (λ x t. not (nat_eq x y) && is_soon x b (s x)), erased_eager inside b s) refl
  erased_eager inside (sequence a b) s = rw (erased_eager inside a (λ x t. is_soon x b (s x)), erased_eager inside b s) refl
  erased_eager inside (branch a b c) s =
      rw (erased_eager inside a (λ x t. cond t (is_soon x b (s x)) (is_soon x c (s x))), erased_eager inside b s, erased_eager inside c s) refl
  erased_eager inside (fix members e) s = rw (erased_eager inside e s) refl
  erased_eager inside (call a live) s = refl
  erased_eager inside (tail_call a) s = refl
  erased_eager inside (return e) s = rw (erased_eager inside e (λ x t. nat_eq x 0)) refl
  erased_eager inside (end e) s = rw (erased_eager inside e (λ x t. false)) refl
  erased_eager inside (save saves e) s = erased_eager (with_region saves inside) e s

  gives_eager : (inside : ℕ → Bool) (e : Expression) (s : Behind) (r : Bool) → MayGive (eager n inside e s) r ≡ MayGive e r
  gives_eager inside e s r =
      sym (may_give_unlisted (eager n inside e s) r) ∙ (ap (λ z. MayGive z r) (unlisted_eager inside e s) ∙ may_give_unlisted e r)

  abbrev AllSoon : Expression → Later → ℕ → Type 0
  AllSoon e S x = Soon x e (S x)

  live_eager : (inside : ℕ → Bool) (e : Expression) (s : Behind) (L : Later) → LiveBefore (eager n inside e s) L ≡ LiveBefore e L
  live_eager inside e s L =
      fun_ext (λ x. sym (live_unlisted x (eager n inside e s) (L x)) ∙ (ap (λ z. Live x z (L x)) (unlisted_eager inside e s) ∙ live_unlisted x e (L x)))

  soon_eager : (inside : ℕ → Bool) (e : Expression) (s : Behind) (S : Later) → AllSoon (eager n inside e s) S ≡ AllSoon e S
  soon_eager inside e s S =
      fun_ext (λ x. sym (soon_unlisted x (eager n inside e s) (S x)) ∙ (ap (λ z. Soon x z (S x)) (unlisted_eager inside e s) ∙ soon_unlisted x e (S x)))

  -- ## Regions and restores

  pub apart_eager : (e : Expression) (inside inside' : ℕ → Bool) (s : Behind) → regions_apart n (eager n inside' e s) inside ≡ regions_apart n e inside
  apart_eager (perform o) inside inside' s = refl
  apart_eager (bind y a b) inside inside' s =
      rw (apart_eager a inside inside' (λ x t. not (nat_eq x y) && is_soon x b (s x)), apart_eager b inside inside' s) refl
  apart_eager (sequence a b) inside inside' s = rw (apart_eager a inside inside' (λ x t. is_soon x b (s x)), apart_eager b inside inside' s) refl
  apart_eager (branch a b c) inside inside' s =
      rw (
        apart_eager a inside inside' (λ x t. cond t (is_soon x b (s x)) (is_soon x c (s x))),
        apart_eager b inside inside' s,
        apart_eager c inside inside' s,
      ) refl
  apart_eager (fix members e) inside inside' s = apart_eager e inside inside' s
  apart_eager (call a live) inside inside' s = refl
  apart_eager (tail_call a) inside inside' s = refl
  apart_eager (return e) inside inside' s = apart_eager e inside inside' (λ x t. nat_eq x 0)
  apart_eager (end e) inside inside' s = apart_eager e inside inside' (λ x t. false)
  apart_eager (save saves e) inside inside' s =
      ap (λ b. without_repeats saves && (list_all (λ x. nat_lt x n && not (inside x)) saves && b))
      (apart_eager e (with_region saves inside) (with_region saves inside') s)

  pub saved_eager : (e : Expression) (inside : ℕ → Bool) (s : Behind) → restores_saved (eager n inside e s) inside ≡ true
  saved_eager (perform o) inside s = refl
  saved_eager (bind y a b) inside s =
      and_of (restores_saved (eager n inside a (λ x t. not (nat_eq x y) && is_soon x b (s x))) inside) _ (saved_eager a inside _) (saved_eager b inside s)
  saved_eager (sequence a b) inside s =
      and_of (restores_saved (eager n inside a (λ x t. is_soon x b (s x))) inside) _ (saved_eager a inside _) (saved_eager b inside s)
  saved_eager (branch a b c) inside s =
      and_of (restores_saved (eager n inside a (λ x t. cond t (is_soon x b (s x)) (is_soon x c (s x)))) inside) _ (saved_eager a inside _)
      (and_of (restores_saved (eager n inside b s) inside) _ (saved_eager b inside s) (saved_eager c inside s))
  saved_eager (fix members e) inside s = saved_eager e inside s
  saved_eager (call a live) inside s =
      let test : ℕ → Bool = λ x. has x live && (inside x && (s x true || s x false)) in
      and_of (without_repeats (filter test (numbers 0 n))) _ (once_first test n)
      (all_passing test inside (numbers 0 n) (λ x h. and_left (inside x) _ (and_right (has x live) _ h)))
  saved_eager (tail_call a) inside s = refl
  saved_eager (return e) inside s = saved_eager e inside (λ x t. nat_eq x 0)
  saved_eager (end e) inside s = saved_eager e inside (λ x t. false)
  saved_eager (save saves e) inside s = saved_eager e (with_region saves inside) s

  some_below : (bound : ℕ) → n ≤ bound → (inside : ℕ → Bool) (xs : List ℕ) → list_all (λ x. nat_lt x n && not (inside x)) xs ≡ true → list_all (λ x. nat_lt x bound) xs ≡ true
  some_below bound l inside [] h = refl
  some_below bound l inside (x ∷ xs) h =
      let lt : nat_lt x n ≡ true = and_left (nat_lt x n) _ (and_left (nat_lt x n && not (inside x)) _ h) in
      let here : nat_lt x bound ≡ true = grind (arith, nat_tests, l, lt) in
      and_of (nat_lt x bound) _ here (some_below bound l inside xs (and_right (nat_lt x n && not (inside x)) _ h))

  pub apart_below : (bound : ℕ) → n ≤ bound → (e : Expression) (inside : ℕ → Bool) → regions_apart n e inside ≡ true → SavesBelow bound e
  apart_below bound l (perform o) inside h = tt
  apart_below bound l (bind y a b) inside h =
      (apart_below bound l a inside (and_left (regions_apart n a inside) _ h), apart_below bound l b inside (and_right (regions_apart n a inside) _ h))
  apart_below bound l (sequence a b) inside h =
      (apart_below bound l a inside (and_left (regions_apart n a inside) _ h), apart_below bound l b inside (and_right (regions_apart n a inside) _ h))
  apart_below bound l (branch a b c) inside h =
      let rest = and_right (regions_apart n a inside) _ h in (
        apart_below bound l a inside (and_left (regions_apart n a inside) _ h),
        (apart_below bound l b inside (and_left (regions_apart n b inside) _ rest), apart_below bound l c inside (and_right (regions_apart n b inside) _ rest)),
      )
  apart_below bound l (fix members e) inside h = apart_below bound l e inside h
  apart_below bound l (call a live) inside h = tt
  apart_below bound l (tail_call a) inside h = tt
  apart_below bound l (return e) inside h = apart_below bound l e inside h
  apart_below bound l (end e) inside h = apart_below bound l e inside h
  apart_below bound l (save saves e) inside h =
      let rest = and_right (without_repeats saves) _ h in (
        some_below bound l inside saves (and_left (list_all (λ x. nat_lt x n && not (inside x)) saves) _ rest),
        apart_below bound l e (with_region saves inside) (and_right (list_all (λ x. nat_lt x n && not (inside x)) saves) _ rest),
      )

  -- ## What is restored is exactly what is saved, live and wanted

  at_call : (inside : ℕ → Bool) (s : Behind) (live : List ℕ) (x : ℕ)
      → has x (wanted n (λ x. has x live) inside s) ≡ (nat_lt x n && (has x live && (inside x && (s x true || s x false))))
  at_call inside s live x =
      let test : ℕ → Bool = λ x. has x live && (inside x && (s x true || s x false)) in
      has_filter test x (numbers 0 n) ∙ ap (λ b. b && test x) (has_first x n)

  pub eager_sets : (e : Expression) (inside : ℕ → Bool) (s : Behind) (Met : Type 0) (L S : Later) → ((x : ℕ) (t : Bool) → (s x t ≡ true) ↔ S x t)
      → ListsBelow n e → LiveSets e Met L → EagerSets (eager n inside e s) Met inside L S
  eager_sets (perform o) inside s Met L S f below sets = tt
  eager_sets (bind y a b) inside s Met L S f below sets =
      let s' : Behind = λ x t. not (nat_eq x y) && is_soon x b (s x) in (
        subst (λ P. EagerSets (eager n inside a s') Met inside (λ x t. Across y x (P x)) (λ x t. Across y x (Soon x (eager n inside b s) (S x))))
            (sym (live_eager inside b s L))
            (subst (λ P. EagerSets (eager n inside a s') Met inside (λ x t. Across y x (Live x b (L x))) (λ x t. Across y x (P x))) (sym (soon_eager inside b s S))
            (eager_sets a inside s' Met _ _ (λ x t. then_is (and_is _ _) (both_same (differ_is x y) (soon_test x b (s x) (S x) (f x)))) below.0 sets.0)),
        eager_sets b inside s Met L S f below.1 sets.1,
      )
  eager_sets (sequence a b) inside s Met L S f below sets =
      let s' : Behind = λ x t. is_soon x b (s x) in (
        subst (λ P. EagerSets (eager n inside a s') Met inside (λ x t. P x) (λ x t. Soon x (eager n inside b s) (S x))) (sym (live_eager inside b s L))
            (subst (λ P. EagerSets (eager n inside a s') Met inside (λ x t. Live x b (L x)) (λ x t. P x)) (sym (soon_eager inside b s S))
            (eager_sets a inside s' Met _ _ (λ x t. soon_test x b (s x) (S x) (f x)) below.0 sets.0)),
        eager_sets b inside s Met L S f below.1 sets.1,
      )
  eager_sets (branch a b c) inside s Met L S f below sets =
      let s' : Behind = λ x t. cond t (is_soon x b (s x)) (is_soon x c (s x)) in (
        subst (λ P. EagerSets (eager n inside a s') Met inside (λ x t. MatchBool t (P x) (Live x (eager n inside c s) (L x)))
            (λ x t. MatchBool t (Soon x (eager n inside b s) (S x)) (Soon x (eager n inside c s) (S x)))) (sym (live_eager inside b s L))
            (subst (λ P. EagerSets (eager n inside a s') Met inside (λ x t. MatchBool t (Live x b (L x)) (P x))
            (λ x t. MatchBool t (Soon x (eager n inside b s) (S x)) (Soon x (eager n inside c s) (S x)))) (sym (live_eager inside c s L))
            (subst (λ P. EagerSets (eager n inside a s') Met inside (λ x t. MatchBool t (Live x b (L x)) (Live x c (L x)))
            (λ x t. MatchBool t (P x) (Soon x (eager n inside c s) (S x)))) (sym (soon_eager inside b s S))
            (subst (λ P. EagerSets (eager n inside a s') Met inside (λ x t. MatchBool t (Live x b (L x)) (Live x c (L x)))
            (λ x t. MatchBool t (Soon x b (S x)) (P x))) (sym (soon_eager inside c s S))
            (eager_sets a inside s' Met _ _
            (λ x t. match_is t _ _ _ _ (soon_test x b (s x) (S x) (f x)) (soon_test x c (s x) (S x) (f x))) below.0 sets.0)))),
        (
          subst (λ E. EagerSets (eager n inside b s) (Met × E) inside L S) (sym (gives_eager inside a s' true))
              (eager_sets b inside s (Met × MayGive a true) L S f below.1.0 sets.1.0),
          subst (λ E. EagerSets (eager n inside c s) (Met × E) inside L S) (sym (gives_eager inside a s' false))
              (eager_sets c inside s (Met × MayGive a false) L S f below.1.1 sets.1.1),
        ),
      )
  eager_sets (fix members e) inside s Met L S f below sets = eager_sets e inside s Met L S f below sets
  eager_sets (call a live) inside s Met L S f below sets = λ x. (
    λ h.
        let there = and_right (nat_lt x n) _ (sym (at_call inside s live x) ∙ h) in
        let rest = and_right (has x live) _ there in
        let w = (sets x).0 (and_left (has x live) _ there) in
        (and_left (inside x) _ rest, (w.0, (w.1, (perhaps_is (s x) (S x) (f x)).0 (and_right (inside x) _ rest)))),
    λ w.
        let h : has x live ≡ true = (sets x).1 (w.1.0, w.1.1.0) in
        let lt : x < n = below x h in
        let test : nat_lt x n ≡ true = grind (arith, nat_tests, lt) in
        at_call inside s live x
        ∙ and_of (nat_lt x n) _ test (and_of (has x live) _ h (and_of (inside x) _ w.0 ((perhaps_is (s x) (S x) (f x)).1 w.1.1.1))),
  )
  eager_sets (tail_call a) inside s Met L S f below sets = tt
  eager_sets (return e) inside s Met L S f below sets = eager_sets e inside (λ x t. nat_eq x 0) Met _ _ (λ x t. equal_is x 0) below sets
  eager_sets (end e) inside s Met L S f below sets = eager_sets e inside (λ x t. false) Met _ _ (λ x t. false_is) below sets
  eager_sets (save saved e) inside s Met L S f below sets = eager_sets e (with_region saved inside) s Met L S f below sets

-- ## Of a valid body

module _ (c : Code) (e r : Expression) (tree : erased e ≡ c.expression) (i : in_scope_whole c ≡ true) (m : numbered c ≡ true) (sets : HasLiveSets e)
    (made : r ≡ eagerly_restored c.variables e) where
  pub same_tree : erased r ≡ erased e
  same_tree = ap erased made ∙ erased_eager c.variables no_region e (λ x t. false)

  pub all_eager : EagerRestores r
  all_eager =
      subst EagerRestores (sym made)
      (eager_sets c.variables e no_region (λ x t. false) (Unit {0}) nothing_later nothing_later (λ x t. false_is) (body_below c e tree i m sets) sets)

  module _ (saves : EachLiveSaved e) where
    alike : unlisted e ≡ unlisted r
    alike = sym (ap unlisted made ∙ unlisted_eager c.variables no_region e (λ x t. false))

    live_saved : EachLiveSaved r
    live_saved = saved_alike (λ x. false) e r alike (Unit {0}) no_region nothing_later saves

    pub soon_restored : EachSoonRestored r
    soon_restored =
        all_restored (λ x. false) r (Unit {0}) no_region nothing_later nothing_later live_saved (eager_between r (Unit {0}) no_region nothing_later nothing_later all_eager)

    pub suffices : RestoresSuffice e r
    suffices callee depth environment w =
        sym (plainly c e tree i m callee depth environment w)
        ∙ subst (λ z. do_body plain callee depth z environment w ≡ do_body (silent (λ x. false)) callee depth r environment w) (same_tree ∙ tree)
        (silently (λ x. false) callee depth no_region r live_saved soon_restored (valid_fresh c r (same_tree ∙ tree) i m) environment w)

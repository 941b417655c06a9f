-- The regions of a body save, and its calls restore, no more variables than there are registers to keep.
use Rattle.std.proofs.Common.{◌≡◌, ℕ, ◌≤◌, Bool, true, false, List, [], ◌∷◌, ◌++◌, map, Option, Some, None, refl, ap, sym, ◌∙◌, subst, inl, inr, ◌⊎◌, arith}
use Rattle.std.specs.Prelude.{nat_lt, ◌||◌, ◌&&◌, not, filter}
use Rattle.std.specs.Bool.{MatchBool}
use Rattle.std.specs.List.{list_all}
use Rattle.sch_word.specs.declared.place.Place.{Place}
use Rattle.sch_word.specs.trees.Bindings.{numbers}
use Rattle.sch_word.specs.trees.NumberSets.{has, unless, without_repeats}
use Rattle.sch_word.proofs.facts.Booleans.{and_left, and_of, and_right, false_true, not_true, or_right_false}
use Rattle.sch_control.specs.AtomsAndSites.{application_atoms, member_atoms, operation_atoms}
use Rattle.sch_control.specs.Meaning.{binds, heads, no_region, with_region}
use Rattle.sch_control.specs.RegisterWork.{most_kept}
use Rattle.sch_control.specs.Tree.{Expression, perform, bind, sequence, branch, fix, call, tail_call, return, end, save}
use Rattle.sch_control.specs.Valid.{member_variables}
use Rattle.sch_control.specs.flow.Apart.{Apart, EachHas, PointsApart}
use Rattle.sch_control.specs.flow.Bare.{unlisted}
use Rattle.sch_control.specs.flow.Live.{Across, Later, Live, MayGive, Perhaps, named}
use Rattle.sch_control.specs.flow.LiveSets.{LiveSets}
use Rattle.sch_control.specs.flow.LiveTests.{Behind}
use Rattle.sch_control.specs.flow.Paths.{Event, References, Saves, IsPath, binding, calls, grouping}
use Rattle.sch_control.specs.flow.Regions.{regions_apart}
use Rattle.sch_control.proofs.NumberLists.{has_filter}
use Rattle.sch_control.proofs.VariableLists.{each_of}
use Rattle.sch_layout.specs.BodyLayout.{Plan}
use Rattle.sch_layout.specs.FewCopies.{MayStand, in_registers}
use Rattle.sch_paths.specs.Exact.{ArmsSave, SavesNeeds}
use Rattle.sch_paths.specs.Regions.{HeadsLive, regions_stand}
use Rattle.sch_paths.proofs.paths.MeetsByCases.{has_path}
use Rattle.sch_paths.proofs.paths.UnlistedPaths.{heads_unlisted}
use Rattle.sch_paths.proofs.paths.UnlistedTrees.{may_give_unlisted, both_are, behind_unlisted}
use Rattle.sch_paths.proofs.saves.LiveHeads.{head_is, call_in, call_behind}
use Rattle.sch_paths.proofs.saves.TwoSets.{binding_calls, grouping_calls, references_call, saves_call}
use Rattle.sch_homes.specs.FewKept.{KeepsFew}
use Rattle.sch_restores.specs.Restores.{eager}
use Rattle.sch_restores.proofs.EagerSteps.{once_first}
use Rattle.sch_restores.proofs.EagerTrees.{unlisted_eager}

-- ## A path with a call that lists something comes from where a path comes

in_front : (x : ℕ) (es xs ys : List Event) → es ≡ xs ++ ys → calls x ys ≡ false → calls x es ≡ true → calls x xs ≡ true
in_front x es xs ys e n h = elim (call_in x es xs ys e h) [ inl f ↦ f | inr s ↦ absurd (false_true s n) ]

met_called : (x : ℕ) (inside : ℕ → Bool) (e : Expression) (Met : Type 0) (L : Later) → LiveSets e Met L → (es : List Event) (r : Bool) → IsPath inside e es r → calls x es ≡ true → Met
met_called x inside (perform o) Met L sets es r path h = absurd (false_true h (ap (calls x) path.0 ∙ references_call x (named (operation_atoms o))))
met_called x inside (bind y a b) Met L sets es r path h = elim (call_in x es path.0 _ path.5 h) [
  | inl f ↦ met_called x inside a Met _ sets.0 path.0 path.2 path.3 f
  | inr s ↦ met_called x inside b Met L sets.1 path.1 r path.4 (call_behind x _ (binding inside y) path.1 refl (binding_calls x inside y) s)
]
met_called x inside (sequence a b) Met L sets es r path h = elim (call_in x es path.0 _ path.5 h) [
  | inl f ↦ met_called x inside a Met _ sets.0 path.0 path.2 path.3 f
  | inr s ↦ met_called x inside b Met L sets.1 path.1 r path.4 s
]
met_called x inside (branch a b c) Met L sets es r path h = elim (call_in x es path.0 _ path.5 h) [
  | inl f ↦ met_called x inside a Met _ sets.0 path.0 path.2 path.3 f
  | inr s ↦ by path.2 path.4 (λ arm. (met_called x inside b (Met × MayGive a true) L sets.1.0 path.1 r arm s).0)
      (λ arm. (met_called x inside c (Met × MayGive a false) L sets.1.1 path.1 r arm s).0)
] where
  by : (t : Bool) → MatchBool t (IsPath inside b path.1 r) (IsPath inside c path.1 r) → (IsPath inside b path.1 r → Met) → (IsPath inside c path.1 r → Met) → Met
  by true arm f g = f arm
  by false arm f g = g arm
met_called x inside (fix members e) Met L sets es r path h =
    met_called x inside e Met L sets path.0 r path.1 (call_behind x es (grouping inside members) path.0 path.2 (grouping_calls x inside members) h)
met_called x inside (call a listed) Met L sets es r path h =
    ((sets x).0 (sym (or_right_false (has x listed)) ∙ (call_behind x es (map References (named (application_atoms a))) _ path (references_call x (named (application_atoms a))) h))).0
met_called x inside (tail_call a) Met L sets es r path h =
    absurd (false_true (call_behind x es (map References (named (application_atoms a))) _ path (references_call x (named (application_atoms a))) h) refl)
met_called x inside (return e) Met L sets es r path h = met_called x inside e Met _ sets path.0 path.1 path.2 (in_front x es path.0 _ path.3 refl h)
met_called x inside (end e) Met L sets es r path h = met_called x inside e Met _ sets path.0 path.1 path.2 (in_front x es path.0 _ path.3 refl h)
met_called x inside (save saves e) Met L sets es r path h =
    met_called x (with_region saves inside) e Met L sets path.0 r path.1 (call_behind x es (map Saves (heads e saves)) path.0 path.2 (saves_call x (heads e saves)) h)

-- ## Points

module _ (place : ℕ → Place) where
  -- what is live as an expression begins lives apart
  pub start_apart : (e : Expression) (Met : Type 0) (L : Later) → PointsApart place e Met L → Met → Apart place (λ x. Live x e (L x))
  start_apart (perform o) Met L p met = p met
  start_apart (bind y a b) Met L p met = start_apart a Met _ p.0 met
  start_apart (sequence a b) Met L p met = start_apart a Met _ p.0 met
  start_apart (branch a b c) Met L p met = start_apart a Met _ p.0 met
  start_apart (fix members e) Met L p met = p.0 met
  start_apart (call a restores) Met L p met = (p met).0
  start_apart (tail_call a) Met L p met = p met
  start_apart (return e) Met L p met = start_apart e Met _ p met
  start_apart (end e) Met L p met = start_apart e Met _ p met
  start_apart (save saves e) Met L p met = start_apart e Met L p met

  points_unlisted : (e : Expression) (Met : Type 0) (L : Later) → PointsApart place (unlisted e) Met L ≡ PointsApart place e Met L
  points_unlisted (perform o) Met L = refl
  points_unlisted (bind y a b) Met L =
      both_are (ap (λ P. PointsApart place (unlisted a) Met (λ x t. Across y x (P x))) (behind_unlisted b L) ∙ points_unlisted a Met (λ x t. Across y x (Live x b (L x))))
      (points_unlisted b Met L)
  points_unlisted (sequence a b) Met L =
      both_are (ap (λ P. PointsApart place (unlisted a) Met (λ x t. P x)) (behind_unlisted b L) ∙ points_unlisted a Met (λ x t. Live x b (L x))) (points_unlisted b Met L)
  points_unlisted (branch a b c) Met L =
      both_are
      (ap (λ P. PointsApart place (unlisted a) Met (λ x t. MatchBool t (P x) (Live x (unlisted c) (L x)))) (behind_unlisted b L)
      ∙ (ap (λ P. PointsApart place (unlisted a) Met (λ x t. MatchBool t (Live x b (L x)) (P x))) (behind_unlisted c L)
      ∙ points_unlisted a Met (λ x t. MatchBool t (Live x b (L x)) (Live x c (L x)))))
      (both_are
      (ap (λ M. PointsApart place (unlisted b) (Met × M) L) (may_give_unlisted a true) ∙ points_unlisted b (Met × MayGive a true) L)
      (ap (λ M. PointsApart place (unlisted c) (Met × M) L) (may_give_unlisted a false) ∙ points_unlisted c (Met × MayGive a false) L))
  points_unlisted (fix members e) Met L =
      both_are (ap (λ P. Met → Apart place (λ x. (has x (member_variables members) ≡ false) × ((has x (named (member_atoms members)) ≡ true) ⊎ P x))) (behind_unlisted e L))
      (both_are (ap (λ P. Met → Apart place (λ x. (has x (named (member_atoms members)) ≡ true) ⊎ P x)) (behind_unlisted e L)) (points_unlisted e Met L))
  points_unlisted (call a restores) Met L = refl
  points_unlisted (tail_call a) Met L = refl
  points_unlisted (return e) Met L = points_unlisted e Met (λ x t. x ≡ 0)
  points_unlisted (end e) Met L = points_unlisted e Met (λ x t. ⊥)
  points_unlisted (save saves e) Met L = points_unlisted e Met L

  pub points_alike : (e e' : Expression) → unlisted e ≡ unlisted e' → (Met : Type 0) (L : Later) → PointsApart place e Met L → PointsApart place e' Met L
  points_alike e e' is Met L h =
      subst (λ P. P) (sym (points_unlisted e Met L) ∙ (ap (λ z. PointsApart place z Met L) is ∙ points_unlisted e' Met L)) h

-- ## Lists

heads_once : (e : Expression) (xs : List ℕ) → without_repeats xs ≡ true → without_repeats (heads e xs) ≡ true
heads_once e [] once = refl
heads_once e (x ∷ xs) once = by (binds x e) (heads_once e xs (and_right (not (has x xs)) _ once)) where
  gone : has x (heads e xs) ≡ false
  gone = none (has x (heads e xs)) refl where
    none : (t : Bool) → has x (heads e xs) ≡ t → t ≡ false
    none false h = refl
    none true h = absurd (false_true (head_is e xs x h).0 (not_true (has x xs) (and_left (not (has x xs)) _ once)))

  by : (t : Bool) → without_repeats (heads e xs) ≡ true → without_repeats (unless t x (heads e xs)) ≡ true
  by true h = h
  by false h = and_of (not (has x (heads e xs))) _ (ap not gone) h

each_second : (P Q : ℕ → Type 0) (xs : List ℕ) → EachHas (λ x. P x × Q x) xs → EachHas Q xs
each_second P Q [] h = tt
each_second P Q (x ∷ xs) h = (h.0.1, each_second P Q xs h.1)

-- ## The regions and the calls

module _ (n : ℕ) (place : ℕ → Place) (plan : Plan)
    (few : (live : ℕ → Type 0) → Apart place live → (xs : List ℕ) → without_repeats xs ≡ true → EachHas live xs → in_registers plan xs ≤ most_kept) where
  few_when : (Met : Type 0) (live : ℕ → Type 0) → (Met → Apart place live) → (xs : List ℕ) → without_repeats xs ≡ true → EachHas (λ x. Met × live x) xs → in_registers plan xs ≤ most_kept
  few_when Met live apart [] once each = omega arith
  few_when Met live apart (x ∷ xs) once each = few live (apart each.0.0) (x ∷ xs) once (each_second (λ x. Met) live (x ∷ xs) each)

  -- the region round an expression, if one stands there, may stand so
  abbrev pub HeadFew : (head : Option ℕ) → Expression → Type 0
  HeadFew head (save saves e) = MayStand plan head (in_registers plan (heads e saves))
  HeadFew head _ = Unit {0}

  no_head : (head : Option ℕ) (e : Expression) → regions_stand false e ≡ true → HeadFew head e
  no_head head (perform o) s = tt
  no_head head (bind y a b) s = tt
  no_head head (sequence a b) s = tt
  no_head head (branch a b c) s = tt
  no_head head (fix members e) s = tt
  no_head head (call a listed) s = tt
  no_head head (tail_call a) s = tt
  no_head head (return e) s = tt
  no_head head (end e) s = tt
  no_head head (save saves e) s = absurd (cc)

  -- what an arm saves is live there, where a path comes
  pub arm_head : (inside : ℕ → Bool) (e : Expression) (Met : Type 0) (L : Later) → SavesNeeds inside e → LiveSets e Met L → HeadsLive e L → PointsApart place e Met L
      → regions_apart n e inside ≡ true → HeadFew (Some most_kept) e
  arm_head inside (save saves e) Met L needs sets live points apart =
      few_when Met (λ x. Live x e (L x)) (start_apart place e Met L points) (heads e saves) (heads_once e saves (and_left (without_repeats saves) _ apart))
      (each_of (λ x. Met × Live x e (L x)) (heads e saves) (λ x h.
      let path = has_path no_region (save saves e) in
      (met_called x no_region (save saves e) Met L sets path.1 path.0 path.2 (((needs x).0 (head_is e saves x h).0).0 path.1 path.0 path.2), live.0 x h)))
  arm_head inside (perform o) Met L needs sets live points apart = tt
  arm_head inside (bind y a b) Met L needs sets live points apart = tt
  arm_head inside (sequence a b) Met L needs sets live points apart = tt
  arm_head inside (branch a b c) Met L needs sets live points apart = tt
  arm_head inside (fix members e) Met L needs sets live points apart = tt
  arm_head inside (call a listed) Met L needs sets live points apart = tt
  arm_head inside (tail_call a) Met L needs sets live points apart = tt
  arm_head inside (return e) Met L needs sets live points apart = tt
  arm_head inside (end e) Met L needs sets live points apart = tt

  heads_same : (inside : ℕ → Bool) (e : Expression) (soon : Behind) (saves : List ℕ) → heads (eager n inside e soon) saves ≡ heads e saves
  heads_same inside e soon saves =
      sym (heads_unlisted (eager n inside e soon) saves) ∙ (ap (λ z. heads z saves) (unlisted_eager n inside e soon) ∙ heads_unlisted e saves)

  pub few_regions : (inside : ℕ → Bool) (e : Expression) (soon : Behind) (here : Bool) (head : Option ℕ) (Met : Type 0) (L : Later) → regions_stand here e ≡ true → HeadFew head e → LiveSets e Met L
      → HeadsLive e L → PointsApart place e Met L → ArmsSave inside e → regions_apart n e inside ≡ true → KeepsFew plan head (eager n inside e soon)
  few_regions inside (perform o) soon here head Met L s f sets live points arms apart = tt
  few_regions inside (bind y a b) soon here head Met L s f sets live points arms apart =
      let first = and_left (regions_stand false a) _ s in
      let second = and_right (regions_stand false a) _ s in (
        few_regions inside a _ false None Met _ first (no_head None a first) sets.0 live.0 points.0 arms.0 (and_left (regions_apart n a inside) _ apart),
        few_regions inside b soon false None Met L second (no_head None b second) sets.1 live.1 points.1 arms.1 (and_right (regions_apart n a inside) _ apart),
      )
  few_regions inside (sequence a b) soon here head Met L s f sets live points arms apart =
      let first = and_left (regions_stand false a) _ s in
      let second = and_right (regions_stand false a) _ s in (
        few_regions inside a _ false None Met _ first (no_head None a first) sets.0 live.0 points.0 arms.0 (and_left (regions_apart n a inside) _ apart),
        few_regions inside b soon false None Met L second (no_head None b second) sets.1 live.1 points.1 arms.1 (and_right (regions_apart n a inside) _ apart),
      )
  few_regions inside (branch a b c) soon here head Met L s f sets live points arms apart =
      let first = and_left (regions_stand false a) _ s in
      let rest = and_right (regions_stand false a) _ s in
      let apart_rest = and_right (regions_apart n a inside) _ apart in
      let apart_b = and_left (regions_apart n b inside) _ apart_rest in
      let apart_c = and_right (regions_apart n b inside) _ apart_rest in (
        few_regions inside a _ false None Met _ first (no_head None a first) sets.0 live.0 points.0 arms.0 (and_left (regions_apart n a inside) _ apart),
        (
          few_regions inside b soon true (Some most_kept) (Met × MayGive a true) L (and_left (regions_stand true b) _ rest)
              (arm_head inside b (Met × MayGive a true) L arms.1.0.0 sets.1.0 live.1.0 points.1.0 apart_b) sets.1.0 live.1.0 points.1.0 arms.1.0.1 apart_b,
          few_regions inside c soon true (Some most_kept) (Met × MayGive a false) L (and_right (regions_stand true b) _ rest)
              (arm_head inside c (Met × MayGive a false) L arms.1.1.0 sets.1.1 live.1.1 points.1.1 apart_c) sets.1.1 live.1.1 points.1.1 arms.1.1.1 apart_c,
        ),
      )
  few_regions inside (fix members e) soon here head Met L s f sets live points arms apart = few_regions inside e soon false None Met L s (no_head None e s) sets live points.1.1 arms apart
  few_regions inside (call a listed) soon here head Met L s f sets live points arms apart =
      let test : ℕ → Bool = λ x. has x listed && (inside x && (soon x true || soon x false)) in
      few_when Met (λ x. Perhaps (L x)) (λ met. (points met).1) (filter test (numbers 0 n)) (once_first test n)
      (each_of (λ x. Met × Perhaps (L x)) (filter test (numbers 0 n)) (λ x h.
      (sets x).0 (and_left (has x listed) _ (and_right (has x (numbers 0 n)) _ (sym (has_filter test x (numbers 0 n)) ∙ h)))))
  few_regions inside (tail_call a) soon here head Met L s f sets live points arms apart = tt
  few_regions inside (return e) soon here head Met L s f sets live points arms apart = few_regions inside e _ false None Met _ s (no_head None e s) sets live points arms apart
  few_regions inside (end e) soon here head Met L s f sets live points arms apart = few_regions inside e _ false None Met _ s (no_head None e s) sets live points arms apart
  few_regions inside (save saves e) soon here head Met L s f sets live points arms apart =
      let stands = and_right here _ s in (
        subst (λ xs. MayStand plan head (in_registers plan xs)) (sym (heads_same (with_region saves inside) e soon saves)) f,
        few_regions (with_region saves inside) e soon false None Met L stands (no_head None e stands) sets live.1 points arms
            (and_right (list_all (λ x. nat_lt x n && not (inside x)) saves) _ (and_right (without_repeats saves) _ apart)),
      )

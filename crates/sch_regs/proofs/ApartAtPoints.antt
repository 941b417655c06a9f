-- Places apart at bindings are apart at each point to which some path comes.
use Rattle.std.proofs.Common.{◌≡◌, ◌≢◌, ℕ, Bool, true, false, List, [], ◌∷◌, refl, ap, sym, ◌∙◌, inl, inr}
use Rattle.std.specs.Prelude.{nat_eq}
use Rattle.std.specs.Bool.{MatchBool}
use Rattle.std.proofs.lemmas.Bool.{eqb-true, eqb-false}
use Rattle.sch_word.specs.trees.NumberSets.{has}
use Rattle.sch_word.specs.declared.place.Place.{Place}
use Rattle.sch_word.proofs.facts.Booleans.{and_left, and_right}
use Rattle.sch_control.specs.Meaning.{binds, no_region}
use Rattle.sch_control.specs.Tree.{Expression, perform, bind, sequence, branch, fix, call, tail_call, return, end, save}
use Rattle.sch_control.specs.Valid.{Position, value, no_call, positioned, is_value, ends_procedure, ends_form, with_variable, member_variables}
use Rattle.sch_control.specs.flow.Live.{Across, MayGive, Live, Later}
use Rattle.sch_paths.proofs.saves.LiveHeads.{through}
use Rattle.sch_paths.proofs.paths.MeetsByCases.{has_path}
use Rattle.sch_paths.proofs.paths.PathResults.{may_give_path}
use Rattle.sch_control.specs.flow.Apart.{EachHas, EachBinding, Around, Alone, BoundAlone, Apart, PointsApart}
use Rattle.sch_control.proofs.VariableLists.{each_at}
use Rattle.sch_regs.proofs.InScope.{Sits, Back, not_binds, reads, bind_first, bind_second, back_more, before_it, back_bind, seq_first, seq_second, branch_first, branch_second, branch_third, back_branch, fix_inner, back_fix, as_return, as_end, as_save}

-- what has one property at each binding has another that follows
pub each_binding : (P Q : (ℕ → Type 0) → ℕ → Type 0) → ((live : ℕ → Type 0) (y : ℕ) → P live y → Q live y) → (e : Expression) (L : Later)
    → EachBinding P e L → EachBinding Q e L
each_binding P Q f (perform o) L h = tt
each_binding P Q f (bind y a b) L h = (f _ y h.0, (each_binding P Q f a _ h.1.0, each_binding P Q f b L h.1.1))
each_binding P Q f (sequence a b) L h = (each_binding P Q f a _ h.0, each_binding P Q f b L h.1)
each_binding P Q f (branch a b c) L h = (each_binding P Q f a _ h.0, (each_binding P Q f b L h.1.0, each_binding P Q f c L h.1.1))
each_binding P Q f (fix members e) L h =
    (each (Around members (λ x. Live x e (L x))) (member_variables members) h.0, each_binding P Q f e L h.1) where
      each : (live : ℕ → Type 0) (ys : List ℕ) → EachHas (P live) ys → EachHas (Q live) ys
      each live [] h = tt
      each live (y ∷ ys) h = (f live y h.0, each live ys h.1)
each_binding P Q f (call a restores) L h = tt
each_binding P Q f (tail_call a) L h = tt
each_binding P Q f (return e) L h = each_binding P Q f e _ h
each_binding P Q f (end e) L h = each_binding P Q f e _ h
each_binding P Q f (save saves e) L h = each_binding P Q f e L h

module _ (place : ℕ → Place) where
  -- one more variable, alone in its place
  with_one : (live before : ℕ → Type 0) (y : ℕ) → Alone place live y → ((x : ℕ) → live x → x ≢ y → before x) → Apart place before → Apart place live
  with_one live before y alone f apart x1 x2 l1 l2 n = by (nat_eq x1 y) refl (nat_eq x2 y) refl where
    by : (t : Bool) → nat_eq x1 y ≡ t → (u : Bool) → nat_eq x2 y ≡ u → place x1 ≢ place x2
    by true e u g =
        let is : x1 ≡ y = eqb-true x1 y e in
        λ q. alone x2 l2 (λ z. n (is ∙ sym z)) (sym q ∙ ap place is)
    by false e true g =
        let is : x2 ≡ y = eqb-true x2 y g in
        λ q. alone x1 l1 (eqb-false x1 y e) (q ∙ ap place is)
    by false e false g = apart x1 x2 (f x1 l1 (eqb-false x1 y e)) (f x2 l2 (eqb-false x2 y g)) n

  -- the members of a group, each alone in its place
  with_group : (live before : ℕ → Type 0) (ys : List ℕ) → EachHas (Alone place live) ys → ((x : ℕ) → live x → has x ys ≡ false → before x) → Apart place before → Apart place live
  with_group live before ys alone f apart x1 x2 l1 l2 n = by (has x1 ys) refl (has x2 ys) refl where
    by : (t : Bool) → has x1 ys ≡ t → (u : Bool) → has x2 ys ≡ u → place x1 ≢ place x2
    by true e u g = λ q. each_at (Alone place live) ys alone x1 e x2 l2 (λ z. n (sym z)) (sym q)
    by false e true g = each_at (Alone place live) ys alone x2 g x1 l1 n
    by false e false g = apart x1 x2 (f x1 l1 e) (f x2 l2 g) n

  -- what is live behind an expression that may be passed is live before it
  passed : (x : ℕ) (e : Expression) (at : Position) → positioned e at ≡ true → is_value at ≡ true → binds x e ≡ false → (t : Bool) → MayGive e t → (K : Bool → Type 0) → K t → Live x e K
  passed x e at p v n t h K k = let path = may_give_path no_region e t h in through x no_region e at p v n path.0 t path.1 K k

  passed_both : (x : ℕ) (e : Expression) (at : Position) → positioned e at ≡ true → is_value at ≡ true → binds x e ≡ false → (K : Type 0) → K → Live x e (λ t. K)
  passed_both x e at p v n K k = let path = has_path no_region e in through x no_region e at p v n path.1 path.0 path.2 (λ t. K) k

  pub points : (e : Expression) (scope : ℕ → Bool) (at : Position) → Sits e scope → positioned e at ≡ true → (Met : Type 0) (L : Later) → Back scope L
      → BoundAlone place e L → (Met → Apart place (λ x. Live x e (L x))) → PointsApart place e Met L
  points (perform o) scope at s p Met L f bs first = first
  points (bind y a b) scope at s p Met L f bs first = (
    points a scope value (bind_first y a b scope s) (and_left (positioned a value) _ p) Met _ (back_bind y b scope L (bind_second y a b scope s) f) bs.1.0 first,
    points b (with_variable y scope) at (bind_second y a b scope s) (and_right (positioned a value) _ p) Met L (back_more scope y L f) bs.1.1
        (λ met. with_one (λ x. Live x b (L x)) (λ x. Live x (bind y a b) (L x)) y bs.0
        (λ x l n. passed_both x a value (and_left (positioned a value) _ p) refl
        (not_binds (bind_first y a b scope s) x (before_it scope x y n (reads (bind_second y a b scope s) L (back_more scope y L f) x l))) (Across y x (Live x b (L x))) (n, l))
        (first met)),
  )
  points (sequence a b) scope at s p Met L f bs first = (
    points a scope no_call (seq_first a b scope s) (and_left (positioned a no_call) _ p) Met _ (λ x t. reads (seq_second a b scope s) L f x) bs.0 first,
    points b scope at (seq_second a b scope s) (and_right (positioned a no_call) _ p) Met L f bs.1
        (λ met x1 x2 l1 l2.
        let back : (x : ℕ) → Live x b (L x) → Live x (sequence a b) (L x)
        = λ x l. passed_both x a no_call (and_left (positioned a no_call) _ p) refl (not_binds (seq_first a b scope s) x (reads (seq_second a b scope s) L f x l)) _ l in
        first met x1 x2 (back x1 l1) (back x2 l2)),
  )
  points (branch a b c) scope at s p Met L f bs first =
      let arms = and_right (positioned a value) _ p in
      let s1 = branch_first a b c scope s in
      let s2 = branch_second a b c scope s in
      let s3 = branch_third a b c scope s in
      let p1 = and_left (positioned a value) _ p in (
        points a scope value s1 p1 Met _ (back_branch a b c scope s L f) bs.0 first,
        (
          points b scope at s2 (and_left (positioned b at) _ arms) (Met × MayGive a true) L f bs.1.0
              (λ met x1 x2 l1 l2.
              let back : (x : ℕ) → Live x b (L x) → Live x (branch a b c) (L x)
              = λ x l. passed x a value p1 refl (not_binds s1 x (reads s2 L f x l)) true met.1 (λ t. MatchBool t (Live x b (L x)) (Live x c (L x))) l in
              first met.0 x1 x2 (back x1 l1) (back x2 l2)),
          points c scope at s3 (and_right (positioned b at) _ arms) (Met × MayGive a false) L f bs.1.1
              (λ met x1 x2 l1 l2.
              let back : (x : ℕ) → Live x c (L x) → Live x (branch a b c) (L x)
              = λ x l. passed x a value p1 refl (not_binds s1 x (reads s3 L f x l)) false met.1 (λ t. MatchBool t (Live x b (L x)) (Live x c (L x))) l in
              first met.0 x1 x2 (back x1 l1) (back x2 l2)),
        ),
      )
  points (fix members e) scope at s p Met L f bs first =
      let group : Met → Apart place (Around members (λ x. Live x e (L x)))
      = λ met.
      with_group (Around members (λ x. Live x e (L x))) (λ x. Live x (fix members e) (L x)) (member_variables members)
      bs.0 (λ x l n. (n, l)) (first met) in (
        first,
        (group, points e _ at (fix_inner members e scope s) p Met L (back_fix members e scope s L f) bs.1 (λ met x1 x2 l1 l2. group met x1 x2 (inr l1) (inr l2))),
      )
  points (call a restores) scope at s p Met L f bs first = λ met. (first met, λ x1 x2 l1 l2. first met x1 x2 (inr l1) (inr l2))
  points (tail_call a) scope at s p Met L f bs first = first
  points (return e) scope at s p Met L f bs first =
      points e scope no_call (as_return s) (and_right (ends_procedure at) _ p) Met _ (λ x t z. inl z) bs first
  points (end e) scope at s p Met L f bs first = points e scope value (as_end s) (and_right (ends_form at) _ p) Met _ (λ x t b. absurd b) bs first
  points (save saves e) scope at s p Met L f bs first = points e scope at (as_save s) p Met L f bs first

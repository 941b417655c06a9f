-- The walk gives places that are well bound.
use Rattle.std.proofs.Common.{◌≡◌, ◌≢◌, ℕ, Bool, true, false, List, [], ◌∷◌, ◌++◌, refl, ap, sym, ◌∙◌, subst, inl, inr, ◌⊎◌}
use Rattle.std.specs.Prelude.{nat_eq, ◌||◌, ◌&&◌, not, cond, ◌↔◌}
use Rattle.std.proofs.lemmas.Bool.{eqb-true, eq-eqb, or_cases}
use Rattle.sch_word.specs.trees.NumberSets.{has, without_repeats}
use Rattle.sch_word.specs.declared.place.Place.{Place}
use Rattle.sch_word.specs.declared.place.Place.TheVariants.{Reg}
use Rattle.sch_word.proofs.facts.Booleans.{and_left, and_right, and_of, or_left, or_right, not_left, not_right, not_true, neither, false_true, never_true, or_around}
use Rattle.sch_word.proofs.facts.NumberSets.{has_append, distinct_left, distinct_right}
use Rattle.sch_control.specs.Tree.{Expression, perform, bind, sequence, branch, fix, call, tail_call, return, end, save}
use Rattle.sch_control.specs.Valid.{with_variable, with_members, member_variables, bound_in}
use Rattle.sch_control.specs.flow.Live.{Live, Later}
use Rattle.sch_paths.proofs.paths.LiveByPaths.{itself, then_is, either_same, both_same}
use Rattle.sch_paths.proofs.saves.LiveInScope.{outer_scope, repeats_apart}
use Rattle.sch_paths.specs.Laws.{Readable}
use Rattle.sch_control.specs.flow.LiveTests.{is_live, Behind}
use Rattle.sch_regs.specs.PlaceChoice.{Table, placed, place_in, slots, choose, choose_each, live_first, around, assign}
use Rattle.sch_word.specs.values.Registers.{argument_registers}
use Rattle.sch_control.specs.flow.Apart.{EachHas, EachBinding, Around}
use Rattle.sch_control.proofs.VariableLists.{each_at, each_of}
use Rattle.sch_paths.proofs.paths.LiveTested.{or_is, and_is, differ_is, equal_is, live_test, match_is}
use Rattle.sch_regs.proofs.InScope.{Sits, Back, reads, bind_first, bind_second, bind_once, bind_apart, back_more, back_bind, seq_first, seq_second, seq_apart, branch_first, branch_second, branch_third, branch_apart, arms_apart, back_branch, fix_inner, fix_apart, members_once, members_read, back_fix, as_return, as_end, as_save}
use Rattle.sch_regs.proofs.OneChoice.{SlotsBelow, chosen_below, each_below, each_placed, each_kept, Extends, each_once, WellBound, group_well, has_ordered, ordered_once, ordered_live}

-- ## What has a place

around_bind : (y a b t : Bool) → (b || (y || (a || t))) ≡ ((y || (a || b)) || t)
around_bind true a true t = refl
around_bind true a false t = refl
around_bind false true true t = refl
around_bind false true false t = refl
around_bind false false b t = refl

around_three : (a b c t : Bool) → (c || (b || (a || t))) ≡ ((a || (b || c)) || t)
around_three true b true t = refl
around_three true true false t = refl
around_three true false false t = refl
around_three false true true t = refl
around_three false true false t = refl
around_three false false c t = refl

pub assign_placed : (e : Expression) (l : Behind) (t : Table) (x : ℕ) → has x (placed (assign e l t)) ≡ (has x (bound_in e) || has x (placed t))
assign_placed (perform o) l t x = refl
assign_placed (bind y a b) l t x =
    assign_placed b l _ x ∙ (ap (λ z. has x (bound_in b) || (nat_eq x y || z)) (assign_placed a _ t x)
    ∙ (around_bind (nat_eq x y) (has x (bound_in a)) (has x (bound_in b)) (has x (placed t))
    ∙ ap (λ z. (nat_eq x y || z) || has x (placed t)) (sym (has_append x (bound_in a) (bound_in b)))))
assign_placed (sequence a b) l t x =
    assign_placed b l _ x ∙ (ap (λ z. has x (bound_in b) || z) (assign_placed a _ t x)
    ∙ (or_around (has x (bound_in a)) (has x (bound_in b)) (has x (placed t)) ∙ ap (λ z. z || has x (placed t)) (sym (has_append x (bound_in a) (bound_in b)))))
assign_placed (branch a b c) l t x =
    assign_placed c l _ x ∙ (ap (λ z. has x (bound_in c) || z) (assign_placed b l _ x) ∙ (ap (λ z. has x (bound_in c) || (has x (bound_in b) || z)) (assign_placed a _ t x)
    ∙ (around_three (has x (bound_in a)) (has x (bound_in b)) (has x (bound_in c)) (has x (placed t))
    ∙ ap (λ z. z || has x (placed t))
    (sym (has_append x (bound_in a) (bound_in b ++ bound_in c) ∙ ap (λ z. has x (bound_in a) || z) (has_append x (bound_in b) (bound_in c)))))))
assign_placed (fix members e) l t x =
    let live : ℕ → Bool = around members (λ x. is_live x e (l x)) in
    assign_placed e l _ x
    ∙ (ap (λ z. has x (bound_in e) || z) (each_placed live (live_first live (member_variables members)) t x ∙ ap (λ z. z || has x (placed t)) (has_ordered live (member_variables members) x))
    ∙ (or_around (has x (member_variables members)) (has x (bound_in e)) (has x (placed t))
    ∙ ap (λ z. z || has x (placed t)) (sym (has_append x (member_variables members) (bound_in e)))))
assign_placed (call a restores) l t x = refl
assign_placed (tail_call a) l t x = refl
assign_placed (return e) l t x = assign_placed e _ t x
assign_placed (end e) l t x = assign_placed e _ t x
assign_placed (save saves e) l t x = assign_placed e l t x

pub assign_kept : (e : Expression) (l : Behind) (t : Table) (x : ℕ) → has x (bound_in e) ≡ false → place_in (assign e l t) x ≡ place_in t x
assign_kept (perform o) l t x n = refl
assign_kept (bind y a b) l t x n =
    let m : (has x (bound_in a) || has x (bound_in b)) ≡ false = sym (has_append x (bound_in a) (bound_in b)) ∙ not_right (nat_eq x y) _ n in
    let live : ℕ → Bool = λ x. is_live x b (l x) in
    assign_kept b l _ x (not_right (has x (bound_in a)) _ m)
    ∙ (each_kept live (y ∷ []) (assign a (λ x r. not (nat_eq x y) && is_live x b (l x)) t) x (neither (nat_eq x y) false (not_left (nat_eq x y) _ n) refl)
    ∙ assign_kept a _ t x (not_left (has x (bound_in a)) _ m))
assign_kept (sequence a b) l t x n =
    let m : (has x (bound_in a) || has x (bound_in b)) ≡ false = sym (has_append x (bound_in a) (bound_in b)) ∙ n in
    assign_kept b l _ x (not_right (has x (bound_in a)) _ m) ∙ assign_kept a _ t x (not_left (has x (bound_in a)) _ m)
assign_kept (branch a b c) l t x n =
    let m : (has x (bound_in a) || has x (bound_in b ++ bound_in c)) ≡ false = sym (has_append x (bound_in a) (bound_in b ++ bound_in c)) ∙ n in
    let k : (has x (bound_in b) || has x (bound_in c)) ≡ false = sym (has_append x (bound_in b) (bound_in c)) ∙ not_right (has x (bound_in a)) _ m in
    assign_kept c l _ x (not_right (has x (bound_in b)) _ k) ∙ (assign_kept b l _ x (not_left (has x (bound_in b)) _ k) ∙ assign_kept a _ t x (not_left (has x (bound_in a)) _ m))
assign_kept (fix members e) l t x n =
    let live : ℕ → Bool = around members (λ x. is_live x e (l x)) in
    let m : (has x (member_variables members) || has x (bound_in e)) ≡ false = sym (has_append x (member_variables members) (bound_in e)) ∙ n in
    assign_kept e l _ x (not_right (has x (member_variables members)) _ m)
    ∙ each_kept live (live_first live (member_variables members)) t x (has_ordered live (member_variables members) x ∙ not_left (has x (member_variables members)) _ m)
assign_kept (call a restores) l t x n = refl
assign_kept (tail_call a) l t x n = refl
assign_kept (return e) l t x n = assign_kept e _ t x n
assign_kept (end e) l t x n = assign_kept e _ t x n
assign_kept (save saves e) l t x n = assign_kept e l t x n

pub assign_below : (e : Expression) (l : Behind) (t : Table) → SlotsBelow (slots t) t → SlotsBelow (slots (assign e l t)) (assign e l t)
assign_below (perform o) l t s = s
assign_below (bind y a b) l t s = assign_below b l _ (chosen_below (λ x. is_live x b (l x)) y _ (assign_below a _ t s))
assign_below (sequence a b) l t s = assign_below b l _ (assign_below a _ t s)
assign_below (branch a b c) l t s = assign_below c l _ (assign_below b l _ (assign_below a _ t s))
assign_below (fix members e) l t s =
    let live : ℕ → Bool = around members (λ x. is_live x e (l x)) in assign_below e l _ (each_below live (live_first live (member_variables members)) t s)
assign_below (call a restores) l t s = s
assign_below (tail_call a) l t s = s
assign_below (return e) l t s = assign_below e _ t s
assign_below (end e) l t s = assign_below e _ t s
assign_below (save saves e) l t s = assign_below e l t s

-- ## Invariants of the walk

-- what may be read has a place
abbrev pub Known : (scope : ℕ → Bool) → Table → Type 0
Known scope t = (x : ℕ) → Readable scope x → has x (placed t) ≡ true

-- none of those has one
abbrev pub New : List ℕ → Table → Type 0
New ys t = (x : ℕ) → has x ys ≡ true → has x (placed t) ≡ false

pub extends_back : (P : ℕ → Place) (e : Expression) (l : Behind) (t : Table) → New (bound_in e) t → Extends P (assign e l t) → Extends P t
extends_back P e l t new ext x m =
    ext x (assign_placed e l t x ∙ or_right (has x (bound_in e)) _ m) ∙ assign_kept e l t x (never_true (has x (bound_in e)) (λ h. false_true m (new x h)))

known_more : (e : Expression) (l : Behind) (scope : ℕ → Bool) (t : Table) → Known scope t → Known scope (assign e l t)
known_more e l scope t known x r = assign_placed e l t x ∙ or_right (has x (bound_in e)) _ (known x r)

new_more : (ys : List ℕ) (e : Expression) (l : Behind) (t : Table) → New ys t → ((x : ℕ) → has x (bound_in e) ≡ true → has x ys ≡ false) → New ys (assign e l t)
new_more ys e l t new apart x h =
    assign_placed e l t x ∙ neither (has x (bound_in e)) (has x (placed t)) (never_true (has x (bound_in e)) (λ b. false_true h (apart x b))) (new x h)

well_same : (P : ℕ → Place) (A B : ℕ → Type 0) → ((x : ℕ) → A x ↔ B x) → (y : ℕ) → WellBound P A y → WellBound P B y
well_same P A B f y w = ((λ x l n e. w.0 x ((f x).1 l) n e), λ h. full argument_registers (w.1 h)) where
  full : (rs : List ℕ) → EachHas (λ r. (x : ℕ) × ((x ≢ y) × (A x × (P x ≡ Reg r)))) rs → EachHas (λ r. (x : ℕ) × ((x ≢ y) × (B x × (P x ≡ Reg r)))) rs
  full [] h = tt
  full (r ∷ rs) h = ((h.0.0, (h.0.1.0, ((f h.0.0).0 h.0.1.1.0, h.0.1.1.1))), full rs h.1)

abbrev pub Tests : Behind → Later → Type 0
Tests l L = (x : ℕ) (t : Bool) → (l x t ≡ true) ↔ L x t

-- each variable is placed once
pub assign_once : (e : Expression) (l : Behind) (t : Table) → New (bound_in e) t → without_repeats (bound_in e) ≡ true → without_repeats (placed t) ≡ true
    → without_repeats (placed (assign e l t)) ≡ true
assign_once (perform o) l t new once o1 = o1
assign_once (bind y a b) l t new once o =
    let la : Behind = λ x r. not (nat_eq x y) && is_live x b (l x) in
    let t1 : Table = assign a la t in
    let rest = and_right (not (has y (bound_in a ++ bound_in b))) _ once in
    let no_y : (has y (bound_in a) || has y (bound_in b)) ≡ false
    = sym (has_append y (bound_in a) (bound_in b)) ∙ not_true (has y (bound_in a ++ bound_in b)) (and_left (not (has y (bound_in a ++ bound_in b))) _ once) in
    let inner : (x : ℕ) → has x (bound_in a ++ bound_in b) ≡ true → has x (placed t) ≡ false = λ x h. new x (or_right (nat_eq x y) _ h) in
    let new_a : New (bound_in a) t = λ x h. inner x (has_append x (bound_in a) (bound_in b) ∙ or_left (has x (bound_in a)) _ h) in
    let y_new : has y (placed t1) ≡ false
    = assign_placed a la t y ∙ neither (has y (bound_in a)) (has y (placed t)) (not_left (has y (bound_in a)) _ no_y) (new y (or_left (nat_eq y y) _ (eq-eqb y y refl))) in
    let new_1 : New (bound_in b) t1
    = new_more (bound_in b) a la t (λ x h. inner x (has_append x (bound_in a) (bound_in b) ∙ or_right (has x (bound_in a)) _ h))
    (λ x h. never_true (has x (bound_in b)) (repeats_apart (bound_in a) (bound_in b) rest x h)) in
    assign_once b l (choose (λ x. is_live x b (l x)) y t1)
    (λ x h. neither (nat_eq x y) (has x (placed t1))
    (never_true (nat_eq x y) (λ e. false_true h (ap (λ z. has z (bound_in b)) (eqb-true x y e) ∙ not_right (has y (bound_in a)) _ no_y))) (new_1 x h))
    (distinct_right (bound_in a) (bound_in b) rest)
    (and_of (not (has y (placed t1))) _ (ap not y_new) (assign_once a la t new_a (distinct_left (bound_in a) (bound_in b) rest) o))
assign_once (sequence a b) l t new once o =
    let la : Behind = λ x r. is_live x b (l x) in
    assign_once b l (assign a la t)
    (new_more (bound_in b) a la t (λ x h. new x (has_append x (bound_in a) (bound_in b) ∙ or_right (has x (bound_in a)) _ h))
    (λ x h. never_true (has x (bound_in b)) (repeats_apart (bound_in a) (bound_in b) once x h)))
    (distinct_right (bound_in a) (bound_in b) once)
    (assign_once a la t (λ x h. new x (has_append x (bound_in a) (bound_in b) ∙ or_left (has x (bound_in a)) _ h)) (distinct_left (bound_in a) (bound_in b) once) o)
assign_once (branch a b c) l t new once o =
    let la : Behind = λ x r. cond r (is_live x b (l x)) (is_live x c (l x)) in
    let t1 : Table = assign a la t in
    let arms = distinct_right (bound_in a) (bound_in b ++ bound_in c) once in
    let new_arms : New (bound_in b ++ bound_in c) t1
    = new_more (bound_in b ++ bound_in c) a la t (λ x h. new x (has_append x (bound_in a) (bound_in b ++ bound_in c) ∙ or_right (has x (bound_in a)) _ h))
    (λ x h. never_true (has x (bound_in b ++ bound_in c)) (repeats_apart (bound_in a) (bound_in b ++ bound_in c) once x h)) in
    assign_once c l (assign b l t1)
    (new_more (bound_in c) b l t1 (λ x h. new_arms x (has_append x (bound_in b) (bound_in c) ∙ or_right (has x (bound_in b)) _ h))
    (λ x h. never_true (has x (bound_in c)) (repeats_apart (bound_in b) (bound_in c) arms x h)))
    (distinct_right (bound_in b) (bound_in c) arms)
    (assign_once b l t1 (λ x h. new_arms x (has_append x (bound_in b) (bound_in c) ∙ or_left (has x (bound_in b)) _ h)) (distinct_left (bound_in b) (bound_in c) arms)
    (assign_once a la t (λ x h. new x (has_append x (bound_in a) (bound_in b ++ bound_in c) ∙ or_left (has x (bound_in a)) _ h))
    (distinct_left (bound_in a) (bound_in b ++ bound_in c) once) o))
assign_once (fix members e) l t new once o =
    let ys : List ℕ = member_variables members in
    let live : ℕ → Bool = around members (λ x. is_live x e (l x)) in
    let order : List ℕ = live_first live ys in
    assign_once e l (choose_each live order t)
    (λ x h. each_placed live order t x ∙ (ap (λ z. z || has x (placed t)) (has_ordered live ys x)
    ∙ neither (has x ys) (has x (placed t)) (never_true (has x ys) (λ m. repeats_apart ys (bound_in e) once x m h))
    (new x (has_append x ys (bound_in e) ∙ or_right (has x ys) _ h))))
    (distinct_right ys (bound_in e) once)
    (each_once live order t (ordered_once live ys (distinct_left ys (bound_in e) once))
    (λ x h. new x (has_append x ys (bound_in e) ∙ or_left (has x ys) _ (sym (has_ordered live ys x) ∙ h))) o)
assign_once (call a restores) l t new once o = o
assign_once (tail_call a) l t new once o = o
assign_once (return e) l t new once o = assign_once e _ t new once o
assign_once (end e) l t new once o = assign_once e _ t new once o
assign_once (save saves e) l t new once o = assign_once e l t new once o

module _ (P : ℕ → Place) where
  pub well : (e : Expression) (scope : ℕ → Bool) → Sits e scope → (l : Behind) (L : Later) → Tests l L → Back scope L → (t : Table) → Known scope t → New (bound_in e) t
      → SlotsBelow (slots t) t → without_repeats (placed t) ≡ true → Extends P (assign e l t) → EachBinding (WellBound P) e L
  well (perform o) scope s l L same f t known new below u ext = tt
  well (bind y a b) scope s l L same f t known new below o ext =
      let la : Behind = λ x r. not (nat_eq x y) && is_live x b (l x) in
      let lb : ℕ → Bool = λ x. is_live x b (l x) in
      let t1 : Table = assign a la t in
      let t2 : Table = choose lb y t1 in
      let s1 = bind_first y a b scope s in
      let s2 = bind_second y a b scope s in
      let test : (x : ℕ) → (is_live x b (l x) ≡ true) ↔ Live x b (L x) = λ x. live_test x b (l x) (L x) (same x) in
      let y_apart : (has y (bound_in a) || has y (bound_in b)) ≡ false = sym (has_append y (bound_in a) (bound_in b)) ∙ bind_once y a b scope s in
      let in_first : (x : ℕ) → has x (bound_in a) ≡ true → has x (bound_in (bind y a b)) ≡ true
      = λ x h. or_right (nat_eq x y) _ (has_append x (bound_in a) (bound_in b) ∙ or_left (has x (bound_in a)) _ h) in
      let in_second : (x : ℕ) → has x (bound_in b) ≡ true → has x (bound_in (bind y a b)) ≡ true
      = λ x h. or_right (nat_eq x y) _ (has_append x (bound_in a) (bound_in b) ∙ or_right (has x (bound_in a)) _ h) in
      let new_a : New (bound_in a) t = λ x h. new x (in_first x h) in
      let new_y : New (y ∷ []) t1
      = λ x h. elim (or_cases (nat_eq x y) _ h) [
        | inl e ↦ subst (λ z. has z (placed t1) ≡ false) (sym (eqb-true x y e))
            (assign_placed a la t y ∙ neither (has y (bound_in a)) (has y (placed t)) (not_left (has y (bound_in a)) _ y_apart) (new y (or_left (nat_eq y y) _ (eq-eqb y y refl))))
        | inr k ↦ absurd (false_true k refl)
      ] in
      let new_b1 : New (bound_in b) t1 = new_more (bound_in b) a la t (λ x h. new x (in_second x h)) (bind_apart y a b scope s) in
      let new_b : New (bound_in b) t2
      = λ x h. neither (nat_eq x y) (has x (placed t1)) (never_true (nat_eq x y) (λ e. false_true h (ap (λ z. has z (bound_in b)) (eqb-true x y e) ∙ not_right (has y (bound_in a)) _ y_apart)))
      (new_b1 x h) in
      let known_1 : Known scope t1 = known_more a la scope t known in
      let known_2 : Known (with_variable y scope) t2
      = λ x r. elim r [
        | inl z ↦ or_right (nat_eq x y) _ (known_1 x (inl z))
        | inr k ↦ elim (or_cases (nat_eq x y) _ k) [ inl e ↦ or_left (nat_eq x y) _ e | inr m ↦ or_right (nat_eq x y) _ (known_1 x (inr m)) ]
      ] in
      let below_1 : SlotsBelow (slots t1) t1 = assign_below a la t below in
      let o1 : without_repeats (placed t1) ≡ true = assign_once a la t new_a s1.once o in
      let o2 : without_repeats (placed t2) ≡ true
      = and_of (not (has y (placed t1))) _ (ap not (new_y y (or_left (nat_eq y y) _ (eq-eqb y y refl)))) o1 in
      let ext_2 : Extends P t2 = extends_back P b l t2 new_b ext in
      let ext_1 : Extends P t1
      = λ x m. ext_2 x (or_right (nat_eq x y) _ m)
      ∙ each_kept lb (y ∷ []) t1 x (never_true (has x (y ∷ [])) (λ h. false_true m (new_y x h))) in
      let one : EachHas (WellBound P (λ x. is_live x b (l x) ≡ true)) (y ∷ [])
      = group_well lb P (y ∷ []) t1 refl new_y ((λ n x h. absurd (false_true h refl)), tt) below_1 o1 ext_2
      (λ x h. elim (reads s2 L (back_more scope y L f) x ((test x).0 h)) [
        | inl z ↦ inl (known_1 x (inl z))
        | inr k ↦ elim (or_cases (nat_eq x y) _ k) [ inl e ↦ inr (or_left (nat_eq x y) _ e) | inr m ↦ inl (known_1 x (inr m)) ]
      ]) in (
        well_same P (λ x. is_live x b (l x) ≡ true) (λ x. Live x b (L x)) test y one.0,
        (
          well a scope s1 la _ (λ x t. then_is (and_is _ _) (both_same (differ_is x y) (test x))) (back_bind y b scope L s2 f) t known new_a below o ext_1,
          well b (with_variable y scope) s2 l L same (back_more scope y L f) t2 known_2 new_b (chosen_below lb y t1 below_1) o2 ext,
        ),
      )
  well (sequence a b) scope s l L same f t known new below o ext =
      let la : Behind = λ x r. is_live x b (l x) in
      let t1 : Table = assign a la t in
      let s2 = seq_second a b scope s in
      let new_a : New (bound_in a) t = λ x h. new x (has_append x (bound_in a) (bound_in b) ∙ or_left (has x (bound_in a)) _ h) in
      let new_b : New (bound_in b) t1
      = new_more (bound_in b) a la t (λ x h. new x (has_append x (bound_in a) (bound_in b) ∙ or_right (has x (bound_in a)) _ h)) (seq_apart a b scope s) in (
        well a scope (seq_first a b scope s) la _ (λ x t. live_test x b (l x) (L x) (same x)) (λ x t. reads s2 L f x) t known new_a below o (extends_back P b l t1 new_b ext),
        well b scope s2 l L same f t1 (known_more a la scope t known) new_b (assign_below a la t below) (assign_once a la t new_a (seq_first a b scope s).once o) ext,
      )
  well (branch a b c) scope s l L same f t known new below o ext =
      let la : Behind = λ x r. cond r (is_live x b (l x)) (is_live x c (l x)) in
      let t1 : Table = assign a la t in
      let t2 : Table = assign b l t1 in
      let inner : (x : ℕ) → has x (bound_in b ++ bound_in c) ≡ true → has x (bound_in (branch a b c)) ≡ true
      = λ x h. has_append x (bound_in a) (bound_in b ++ bound_in c) ∙ or_right (has x (bound_in a)) _ h in
      let new_a : New (bound_in a) t = λ x h. new x (has_append x (bound_in a) (bound_in b ++ bound_in c) ∙ or_left (has x (bound_in a)) _ h) in
      let new_bc : New (bound_in b ++ bound_in c) t1 = new_more (bound_in b ++ bound_in c) a la t (λ x h. new x (inner x h)) (branch_apart a b c scope s) in
      let new_b : New (bound_in b) t1 = λ x h. new_bc x (has_append x (bound_in b) (bound_in c) ∙ or_left (has x (bound_in b)) _ h) in
      let new_c : New (bound_in c) t2
      = new_more (bound_in c) b l t1 (λ x h. new_bc x (has_append x (bound_in b) (bound_in c) ∙ or_right (has x (bound_in b)) _ h)) (arms_apart a b c scope s) in
      let known_1 : Known scope t1 = known_more a la scope t known in
      let below_1 : SlotsBelow (slots t1) t1 = assign_below a la t below in
      let o1 : without_repeats (placed t1) ≡ true = assign_once a la t new_a (branch_first a b c scope s).once o in
      let o2 : without_repeats (placed t2) ≡ true = assign_once b l t1 new_b (branch_second a b c scope s).once o1 in
      let ext_2 : Extends P t2 = extends_back P c l t2 new_c ext in (
        well a scope (branch_first a b c scope s) la _ (λ x t. match_is t _ _ _ _ (live_test x b (l x) (L x) (same x)) (live_test x c (l x) (L x) (same x))) (back_branch a b c scope s L f) t known new_a
            below o (extends_back P b l t1 new_b ext_2),
        (
          well b scope (branch_second a b c scope s) l L same f t1 known_1 new_b below_1 o1 ext_2,
          well c scope (branch_third a b c scope s) l L same f t2 (known_more b l scope t1 known_1) new_c (assign_below b l t1 below_1) o2 ext,
        ),
      )
  well (fix members e) scope s l L same f t known new below o ext =
      let ys : List ℕ = member_variables members in
      let live : ℕ → Bool = around members (λ x. is_live x e (l x)) in
      let order : List ℕ = live_first live ys in
      let t1 : Table = choose_each live order t in
      let s1 = fix_inner members e scope s in
      let test : (x : ℕ) → (live x ≡ true) ↔ Around members (λ x. Live x e (L x)) x = λ x. then_is (or_is _ _) (either_same itself (live_test x e (l x) (L x) (same x))) in
      let in_t1 : (x : ℕ) → has x (placed t1) ≡ (has x ys || has x (placed t)) = λ x. each_placed live order t x ∙ ap (λ z. z || has x (placed t)) (has_ordered live ys x) in
      let new_ys : New order t = λ x h. new x (has_append x ys (bound_in e) ∙ or_left (has x ys) _ (sym (has_ordered live ys x) ∙ h)) in
      let new_e : New (bound_in e) t1
      = λ x h. in_t1 x ∙ neither (has x ys) (has x (placed t)) (never_true (has x ys) (λ m. false_true h (fix_apart members e scope s x m)))
      (new x (has_append x ys (bound_in e) ∙ or_right (has x ys) _ h)) in
      let place_known : (x : ℕ) → Readable (with_members members scope) x → (has x ys ≡ true) ⊎ (has x (placed t) ≡ true)
      = λ x r. member_or (has x ys) refl (λ n. elim r [ inl z ↦ known x (inl z) | inr k ↦ known x (inr (sym (outer_scope members scope x n) ∙ k)) ]) in
      let known_1 : Known (with_members members scope) t1
      = λ x r. in_t1 x ∙ elim (place_known x r) [ inl m ↦ or_left (has x ys) _ m | inr k ↦ or_right (has x ys) _ k ] in
      let ext_1 : Extends P t1 = extends_back P e l t1 new_e ext in
      let grouped : EachHas (WellBound P (λ x. live x ≡ true)) order
      = group_well live P order t (ordered_once live ys (members_once members e scope s)) new_ys (ordered_live live ys) below o ext_1
      (λ x h. elim (place_known x (members_read members e scope s L f x ((test x).0 h))) [
        | inl m ↦ inr (has_ordered live ys x ∙ m)
        | inr k ↦ inl k
      ]) in (
        each_of (WellBound P (Around members (λ x. Live x e (L x)))) ys
            (λ x h. well_same P (λ x. live x ≡ true) (Around members (λ x. Live x e (L x))) test x
            (each_at (WellBound P (λ x. live x ≡ true)) order grouped x (has_ordered live ys x ∙ h))),
        well e (with_members members scope) s1 l L same (back_fix members e scope s L f) t1 known_1 new_e (each_below live order t below) (each_once live order t (ordered_once live ys (members_once members e scope s)) new_ys o) ext,
      )
    where
      member_or : (b : Bool) {c : Bool} {A : Type 0} → c ≡ b → (c ≡ false → A) → (c ≡ true) ⊎ A
      member_or true e g = inl e
      member_or false e g = inr (g e)
  well (call a restores) scope s l L same f t known new below o ext = tt
  well (tail_call a) scope s l L same f t known new below o ext = tt
  well (return e) scope s l L same f t known new below o ext = well e scope (as_return s) _ _ (λ x t. equal_is x 0) (λ x t z. inl z) t known new below o ext
  well (end e) scope s l L same f t known new below o ext = well e scope (as_end s) _ _ (λ x t. ((λ h. absurd (false_true h refl)), λ b. absurd b)) (λ x t b. absurd b) t known new below o ext
  well (save saves e) scope s l L same f t known new below o ext = well e scope (as_save s) l L same f t known new below o ext

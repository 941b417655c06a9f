-- The walk from the end notes what is live at each binding.
use Rattle.std.proofs.Common.{◌≡◌, ℕ, Bool, true, false, List, [], ◌∷◌, ◌++◌, refl, ap, sym, ◌∙◌}
use Rattle.std.specs.Prelude.{not, nat_eq, ◌&&◌, ◌||◌, cond}
use Rattle.std.proofs.lemmas.Bool.{eqb-true, eq-eqb}
use Rattle.sch_word.specs.trees.NumberSets.{has, without_repeats}
use Rattle.sch_word.proofs.facts.Booleans.{and_left, and_right, or_left, or_right, not_left, not_right, not_true, false_true, never_true}
use Rattle.sch_word.proofs.facts.NumberSets.{has_append, distinct_left, distinct_right}
use Rattle.sch_control.specs.Tree.{Expression, perform, bind, sequence, branch, fix, call, tail_call, return, end, save}
use Rattle.sch_control.specs.Valid.{member_variables, bound_in}
use Rattle.sch_paths.proofs.saves.LiveInScope.{repeats_apart}
use Rattle.sch_control.specs.flow.LiveTests.{is_live, Behind}
use Rattle.sch_regs.specs.PlaceChoice.{around}
use Rattle.sch_regs.specs.NotedSets.{Noted, IsNoted, put, put_group, note}

put_kept : (ys : List ℕ) (live : ℕ → Bool) (n : Noted) (z : ℕ) → has z ys ≡ false → put_group ys live n z ≡ n z
put_kept [] live n z h = refl
put_kept (y ∷ ys) live n z h = ap (λ b. cond b live (n z)) (not_left (nat_eq z y) _ h)

note_kept : (e : Expression) (l : Behind) (n : Noted) (z : ℕ) → has z (bound_in e) ≡ false → note e l n z ≡ n z
note_kept (perform o) l n z h = refl
note_kept (bind y a b) l n z h =
    let m : (has z (bound_in a) || has z (bound_in b)) ≡ false = sym (has_append z (bound_in a) (bound_in b)) ∙ not_right (nat_eq z y) _ h in
    note_kept a _ _ z (not_left (has z (bound_in a)) _ m)
    ∙ (ap (λ b'. cond b' (λ x. is_live x b (l x)) (note b l n z)) (not_left (nat_eq z y) _ h) ∙ note_kept b l n z (not_right (has z (bound_in a)) _ m))
note_kept (sequence a b) l n z h =
    let m : (has z (bound_in a) || has z (bound_in b)) ≡ false = sym (has_append z (bound_in a) (bound_in b)) ∙ h in
    note_kept a _ _ z (not_left (has z (bound_in a)) _ m) ∙ note_kept b l n z (not_right (has z (bound_in a)) _ m)
note_kept (branch a b c) l n z h =
    let m : (has z (bound_in a) || has z (bound_in b ++ bound_in c)) ≡ false = sym (has_append z (bound_in a) (bound_in b ++ bound_in c)) ∙ h in
    let k : (has z (bound_in b) || has z (bound_in c)) ≡ false = sym (has_append z (bound_in b) (bound_in c)) ∙ not_right (has z (bound_in a)) _ m in
    note_kept a _ _ z (not_left (has z (bound_in a)) _ m) ∙ (note_kept b l _ z (not_left (has z (bound_in b)) _ k) ∙ note_kept c l n z (not_right (has z (bound_in b)) _ k))
note_kept (fix members e) l n z h =
    let m : (has z (member_variables members) || has z (bound_in e)) ≡ false = sym (has_append z (member_variables members) (bound_in e)) ∙ h in
    put_kept (member_variables members) _ _ z (not_left (has z (member_variables members)) _ m) ∙ note_kept e l n z (not_right (has z (member_variables members)) _ m)
note_kept (call a restores) l n z h = refl
note_kept (tail_call a) l n z h = refl
note_kept (return e) l n z h = note_kept e _ n z h
note_kept (end e) l n z h = note_kept e _ n z h
note_kept (save saves e) l n z h = note_kept e l n z h

-- what is noted for other variables does not matter
pub noted_same : (e : Expression) (l : Behind) (n n' : Noted) → ((z : ℕ) → has z (bound_in e) ≡ true → n' z ≡ n z) → IsNoted n e l → IsNoted n' e l
noted_same (perform o) l n n' s w = tt
noted_same (bind y a b) l n n' s w = (
  λ x. ap (λ f. f x) (s y (or_left (nat_eq y y) _ (eq-eqb y y refl))) ∙ w.0 x,
  (
    noted_same a _ n n' (λ z h. s z (or_right (nat_eq z y) _ (has_append z (bound_in a) (bound_in b) ∙ or_left (has z (bound_in a)) _ h))) w.1.0,
    noted_same b l n n' (λ z h. s z (or_right (nat_eq z y) _ (has_append z (bound_in a) (bound_in b) ∙ or_right (has z (bound_in a)) _ h))) w.1.1,
  ),
)
noted_same (sequence a b) l n n' s w = (
  noted_same a _ n n' (λ z h. s z (has_append z (bound_in a) (bound_in b) ∙ or_left (has z (bound_in a)) _ h)) w.0,
  noted_same b l n n' (λ z h. s z (has_append z (bound_in a) (bound_in b) ∙ or_right (has z (bound_in a)) _ h)) w.1,
)
noted_same (branch a b c) l n n' s w =
    let inner : (z : ℕ) → has z (bound_in b ++ bound_in c) ≡ true → has z (bound_in (branch a b c)) ≡ true
    = λ z h. has_append z (bound_in a) (bound_in b ++ bound_in c) ∙ or_right (has z (bound_in a)) _ h in (
      noted_same a _ n n' (λ z h. s z (has_append z (bound_in a) (bound_in b ++ bound_in c) ∙ or_left (has z (bound_in a)) _ h)) w.0,
      (
        noted_same b l n n' (λ z h. s z (inner z (has_append z (bound_in b) (bound_in c) ∙ or_left (has z (bound_in b)) _ h))) w.1.0,
        noted_same c l n n' (λ z h. s z (inner z (has_append z (bound_in b) (bound_in c) ∙ or_right (has z (bound_in b)) _ h))) w.1.1,
      ),
    )
noted_same (fix [] e) l n n' s w = ((λ y h. absurd (false_true h refl)), noted_same e l n n' s w.1)
noted_same (fix (m ∷ members) e) l n n' s w = (
  λ y h x. ap (λ f. f x) (s m.at (or_left (nat_eq m.at m.at) _ (eq-eqb m.at m.at refl))) ∙ w.0 y h x,
  noted_same e l n n' (λ z h. s z (or_right (nat_eq z m.at) _ (has_append z (member_variables members) (bound_in e) ∙ or_right (has z (member_variables members)) _ h))) w.1,
)
noted_same (call a restores) l n n' s w = tt
noted_same (tail_call a) l n n' s w = tt
noted_same (return e) l n n' s w = noted_same e _ n n' s w
noted_same (end e) l n n' s w = noted_same e _ n n' s w
noted_same (save saves e) l n n' s w = noted_same e l n n' s w

apart : (xs ys : List ℕ) → without_repeats (xs ++ ys) ≡ true → (z : ℕ) → has z ys ≡ true → has z xs ≡ false
apart xs ys o z h = never_true (has z xs) (λ m. repeats_apart xs ys o z m h)

pub notes : (e : Expression) → without_repeats (bound_in e) ≡ true → (l : Behind) (n : Noted) → IsNoted (note e l n) e l
notes (perform o) once l n = tt
notes (bind y a b) once l n =
    let rest = and_right (not (has y (bound_in a ++ bound_in b))) _ once in
    let no_y : (has y (bound_in a) || has y (bound_in b)) ≡ false
    = sym (has_append y (bound_in a) (bound_in b)) ∙ not_true (has y (bound_in a ++ bound_in b)) (and_left (not (has y (bound_in a ++ bound_in b))) _ once) in
    let live : ℕ → Bool = λ x. is_live x b (l x) in
    let n1 : Noted = note b l n in
    let n2 : Noted = put y live n1 in
    let la : Behind = λ x r. not (nat_eq x y) && is_live x b (l x) in (
      λ x. ap (λ f. f x) (note_kept a la n2 y (not_left (has y (bound_in a)) _ no_y) ∙ ap (λ t. cond t live (n1 y)) (eq-eqb y y refl)),
      (
        notes a (distinct_left (bound_in a) (bound_in b) rest) la n2,
        noted_same b l n1 (note a la n2) (λ z h. note_kept a la n2 z (apart (bound_in a) (bound_in b) rest z h)
            ∙ ap (λ t. cond t live (n1 z)) (never_true (nat_eq z y) (λ e. false_true h (ap (λ k. has k (bound_in b)) (eqb-true z y e) ∙ not_right (has y (bound_in a)) _ no_y))))
            (notes b (distinct_right (bound_in a) (bound_in b) rest) l n),
      ),
    )
notes (sequence a b) once l n = (
  notes a (distinct_left (bound_in a) (bound_in b) once) _ _,
  noted_same b l (note b l n) _ (λ z h. note_kept a _ _ z (apart (bound_in a) (bound_in b) once z h)) (notes b (distinct_right (bound_in a) (bound_in b) once) l n),
)
notes (branch a b c) once l n =
    let arms = distinct_right (bound_in a) (bound_in b ++ bound_in c) once in
    let n1 : Noted = note c l n in
    let n2 : Noted = note b l n1 in
    let past : (z : ℕ) → has z (bound_in b ++ bound_in c) ≡ true → note (branch a b c) l n z ≡ n2 z
    = λ z h. note_kept a _ n2 z (apart (bound_in a) (bound_in b ++ bound_in c) once z h) in (
      notes a (distinct_left (bound_in a) (bound_in b ++ bound_in c) once) _ n2,
      (
        noted_same b l n2 _ (λ z h. past z (has_append z (bound_in b) (bound_in c) ∙ or_left (has z (bound_in b)) _ h)) (notes b (distinct_left (bound_in b) (bound_in c) arms) l n1),
        noted_same c l n1 _
            (λ z h. past z (has_append z (bound_in b) (bound_in c) ∙ or_right (has z (bound_in b)) _ h) ∙ note_kept b l n1 z (apart (bound_in b) (bound_in c) arms z h))
            (notes c (distinct_right (bound_in b) (bound_in c) arms) l n),
      ),
    )
notes (fix [] e) once l n = ((λ y h. absurd (false_true h refl)), notes e once l n)
notes (fix (m ∷ members) e) once l n =
    let live : ℕ → Bool = around (m ∷ members) (λ x. is_live x e (l x)) in
    let ys : List ℕ = m.at ∷ member_variables members in
    let n1 : Noted = note e l n in (
      λ y h x. ap (λ t. cond t live (n1 m.at) x) (eq-eqb m.at m.at refl),
      noted_same e l n1 (put m.at live n1) (λ z h. put_kept ys live n1 z (apart ys (bound_in e) once z h)) (notes e (distinct_right ys (bound_in e) once) l n),
    )
notes (call a restores) once l n = tt
notes (tail_call a) once l n = tt
notes (return e) once l n = notes e once _ n
notes (end e) once l n = notes e once _ n
notes (save saves e) once l n = notes e once l n

-- Marks of variables that are assigned.
use Rattle.std.proofs.Common.{◌≡◌, ℕ, zero, suc, ◌+◌, ◌<◌, ◌≤◌, Bool, true, false, List, [], ◌∷◌, length, refl, sym, ap, ◌∙◌, arith, ◌++◌, map, slice_set, nat_eq, drop, reverse, ◌-◌, take, length-drop}
use Rattle.std.specs.Prelude.{◌||◌, nat_le}
use Rattle.std.proofs.lemmas.Bool.{eqb-true, eq-eqb, leb-true, leb-false}
use Rattle.std.proofs.lemmas.List.{reverse-append, set-append_left, length-reverse, take-append-drop, drop_all}
use Rattle.std.proofs.Math.Seq.{set-append_seam, drop-append_seam}
use Rattle.sch_word.specs.trees.Bindings.{numbers}
use Rattle.sch_word.proofs.facts.Booleans.{false_true}
use Rattle.sch_word.proofs.facts.Lists.{reverse_cons, cons_same}
use Rattle.sch_lang.specs.Measures.{onto_all}
use Rattle.sch_word.specs.trees.Assigned.{marked}
use Rattle.sch_word.proofs.facts.AssignedMarks.{marked_shift, before_marked, marked_far, marked_at}
use Rattle.sch_variable_counts.specs.Walked.{marks_of}

-- ## New variables in scope

marked_onto : (f : ℕ → Bool) (n j : ℕ) (bs : List Bool) → marked f j (onto_all n false bs) ≡ map f (numbers j n) ++ marked f (j + n) bs
marked_onto f zero j bs = ap (λ i. marked f i bs) (omega arith)
marked_onto f (suc n) j bs =
    let e : suc j + n ≡ j + suc n = omega arith in
    cons_same refl (marked_onto f n (suc j) bs ∙ ap (λ i. map f (numbers (suc j) n) ++ marked f i bs) e)

-- a walk with n new variables in scope: their marks, and those of the others
pub under_marked : (f : ℕ → Bool) (n : ℕ) (bs : List Bool) {cs ds : List Bool} → cs ≡ onto_all n false bs → ds ≡ marked f 0 cs → ds ≡ map f (numbers 0 n) ++ marked (λ i. f (i + n)) 0 bs
under_marked f n bs e h = h ∙ ap (marked f 0) e ∙ marked_onto f n 0 bs ∙ ap (λ l. map f (numbers 0 n) ++ l) (sym (marked_shift f n 0 bs))

drop_marks : (f : ℕ → Bool) (n j : ℕ) (bs : List Bool) → drop n (map f (numbers j n) ++ bs) ≡ bs
drop_marks f zero j bs = refl
drop_marks f (suc n) j bs = drop_marks f n (suc j) bs

-- two walks with n new variables in scope, and without them again
pub group_marked : (f g : ℕ → Bool) (n : ℕ) (bs : List Bool) {cs ds es fs : List Bool} → cs ≡ onto_all n false bs → ds ≡ marked g 0 cs → es ≡ marked f 0 ds → fs ≡ drop n es → fs ≡ marked (λ i. f (i + n) || g (i + n)) 0 bs
group_marked f g n bs {cs = cs} e h k l =
    l ∙ ap (drop n) (under_marked (λ i. f i || g i) n bs e (before_marked f g 0 cs h k)) ∙ drop_marks (λ i. f i || g i) n 0 (marked (λ i. f (i + n) || g (i + n)) 0 bs)

-- a turn of the loop that takes variables out of the scope
pub close_turn : (f : ℕ → Bool) (n left : ℕ) (rest start xs xs' ys ys' : List Bool) (b : Bool) → 0 < left → left ≤ n → xs ≡ xs' ++ b ∷ [] → ys' ≡ ys ++ b ∷ [] →
    (reverse xs ≡ map f (numbers (n - left) left) ++ rest) × (reverse ys ≡ marks_of (n - left) f start) →
    (reverse xs' ≡ map f (numbers (n - (left - 1)) (left - 1)) ++ rest) × (reverse ys' ≡ marks_of (n - (left - 1)) f start)
close_turn f n left rest start xs xs' ys ys' b l g e h k =
    let p : left ≡ suc (left - 1) = omega (arith, l) in
    let q : n - (left - 1) ≡ suc (n - left) = omega (arith, l, g) in
    let r : b ∷ reverse xs' ≡ f (n - left) ∷ (map f (numbers (suc (n - left)) (left - 1)) ++ rest) =
    sym (reverse-append xs' (b ∷ [])) ∙ ap reverse (sym e) ∙ k.0 ∙ ap (λ m. map f (numbers (n - left) m) ++ rest) p in
    let b_is : b ≡ f (n - left) = cc in
    let rest_is : reverse xs' ≡ map f (numbers (suc (n - left)) (left - 1)) ++ rest = cc in
    rw q (rest_is, ap reverse h ∙ reverse-append ys (b ∷ []) ∙ ap (λ m. m ∷ reverse ys) b_is ∙ ap (λ m. f (n - left) ∷ m) k.1)

-- ## A variable by how many are bound nearer

-- the first of a list is the last of it reversed
set_first : (x : Bool) (xs : List Bool) (k : ℕ) (v : Bool) → k ≡ length xs → reverse (slice_set (x ∷ xs) (length (x ∷ xs) - 1 - k) v) ≡ slice_set (reverse (x ∷ xs)) k v
set_first x xs k v h =
    let i : length (x ∷ xs) - 1 - k ≡ 0 = omega (arith, h) in
    let m : k ≡ length (reverse xs) = h ∙ sym (length-reverse xs) in
    rw (i, reverse_cons x xs, reverse_cons v xs, m) (sym (set-append_seam (reverse xs) x [] v))

set_further : (x : Bool) (xs : List Bool) (k : ℕ) (v : Bool) → k < length xs → reverse (slice_set xs (length xs - 1 - k) v) ≡ slice_set (reverse xs) k v →
    reverse (slice_set (x ∷ xs) (length (x ∷ xs) - 1 - k) v) ≡ slice_set (reverse (x ∷ xs)) k v
set_further x xs k v m h =
    let m' : k < length (reverse xs) = omega (arith, m, length-reverse xs) in
    let i : length (x ∷ xs) - 1 - k ≡ suc (length xs - 1 - k) = omega (arith, m) in
    rw i (reverse_cons x (slice_set xs (length xs - 1 - k) v) ∙ ap (λ l. l ++ x ∷ []) h ∙ sym (set-append_left (reverse xs) (x ∷ []) k v m') ∙ ap (λ l. slice_set l k v) (sym (reverse_cons x xs)))

set_last : (xs : List Bool) (k : ℕ) (v : Bool) → k < length xs → reverse (slice_set xs (length xs - 1 - k) v) ≡ slice_set (reverse xs) k v
set_last [] k v l = absurd (omega (arith, l))
set_last (x ∷ xs) k v l = go (nat_eq k (length xs)) refl (λ m. set_last xs k v m)
  where
    go : (b : Bool) → nat_eq k (length xs) ≡ b → (k < length xs → reverse (slice_set xs (length xs - 1 - k) v) ≡ slice_set (reverse xs) k v) → reverse (slice_set (x ∷ xs) (length (x ∷ xs) - 1 - k) v) ≡ slice_set (reverse (x ∷ xs)) k v
    go true e f = set_first x xs k v (eqb-true k (length xs) e)
    go false e f =
        let n : k ≡ length xs → ⊥ = λ h. false_true (eq-eqb k (length xs) h) e in
        let m : k < length xs = omega (arith, l, n) in
        set_further x xs k v m (f m)

pub set_marked_last : (xs ys : List Bool) (k n : ℕ) → n ≡ length xs → k < n → ys ≡ slice_set xs (n - 1 - k) true → reverse ys ≡ marked (λ j. nat_eq k j) 0 (reverse xs)
set_marked_last xs ys k n e l h =
    let m : k < length xs = omega (arith, l, e) in
    let i : k ≡ 0 + k = omega arith in
    let m' : k < length (reverse xs) = omega (arith, m, length-reverse xs) in
    rw (h, e) (set_last xs k true m ∙ marked_at k 0 k (reverse xs) i m')

pub far_marked : (xs : List Bool) (k n : ℕ) → n ≡ length xs → n ≤ k → reverse xs ≡ marked (λ j. nat_eq k j) 0 (reverse xs)
far_marked xs k n e l = sym (marked_far k 0 (reverse xs) (omega (arith, l, e, length-reverse xs)))

drop_reversed : (xs : List Bool) (n : ℕ) → reverse (take (length xs - n) xs) ≡ drop n (reverse xs)
drop_reversed xs n = go (nat_le n (length xs)) refl
  where
    front : (ys zs : List Bool) → drop (length zs) (reverse (ys ++ zs)) ≡ reverse ys
    front ys zs = rw (reverse-append ys zs, sym (length-reverse zs)) (drop-append_seam (reverse zs) (reverse ys))

    go : (b : Bool) → nat_le n (length xs) ≡ b → reverse (take (length xs - n) xs) ≡ drop n (reverse xs)
    go true e =
        let l = leb-true n (length xs) e in
        let m : length (drop (length xs - n) xs) ≡ n = omega (arith, length-drop (length xs - n) xs, l) in
        sym (front (take (length xs - n) xs) (drop (length xs - n) xs)) ∙ ap (λ k. drop k (reverse (take (length xs - n) xs ++ drop (length xs - n) xs))) m ∙ ap (λ ys. drop n (reverse ys)) (take-append-drop (length xs - n) xs)
    go false e =
        let l = leb-false n (length xs) e in
        let m : length xs - n ≡ 0 = omega (arith, l) in
        let k : length (reverse xs) ≤ n = omega (arith, l, length-reverse xs) in
        rw m (sym (drop_all n (reverse xs) k))

pub left_scope : (xs ys : List Bool) (n len less : ℕ) → len ≡ length xs → less ≡ len - n → ys ≡ take less xs → reverse ys ≡ drop n (reverse xs)
left_scope xs ys n len less e h k = rw (k, h, e) (drop_reversed xs n)

-- a stack on which marks stand is not empty
pub none_bound : (f : ℕ → Bool) (a n : ℕ) (rest items : List Bool) → 0 < n → items ≡ [] → reverse items ≡ map f (numbers a n) ++ rest → ⊥
none_bound f a zero rest items l e h = omega (arith, l)
none_bound f a (suc n) rest items l e h = let k = rw e at h in cc

pub none_marked : (test : ℕ → Bool) (n : ℕ) (rest items : List Bool) → 0 < n → items ≡ [] → reverse items ≡ marks_of n test rest → ⊥
none_marked test zero rest items l e h = omega (arith, l)
none_marked test (suc n) rest items l e h = let k = rw e at h in cc

-- Marks of variables that are assigned: one walk after another, inside a binding, and of one variable.
use Rattle.std.proofs.Common.{◌≡◌, ℕ, zero, suc, ◌+◌, ◌<◌, ◌≤◌, Bool, true, false, List, [], ◌∷◌, length, refl, sym, ap, ◌∙◌, arith, map, replicate, slice_set, nat_eq}
use Rattle.std.specs.Prelude.{◌||◌}
use Rattle.std.proofs.lemmas.Bool.{eq-eqb}
use Rattle.std.proofs.Math.Bool.{or-true}
use Rattle.sch_word.specs.trees.Assigned.{marked}
use Rattle.sch_word.specs.trees.Bindings.{numbers}
use Rattle.sch_word.proofs.facts.Booleans.{or_right_false, or_or, or_swap}
use Rattle.sch_word.proofs.facts.NumberTests.{differ}
use Rattle.sch_word.proofs.facts.Lists.{cons_same}

pub marked_same : (f g : ℕ → Bool) (j : ℕ) (bs : List Bool) → ((i : ℕ) → f i ≡ g i) → marked f j bs ≡ marked g j bs
marked_same f g j [] h = refl
marked_same f g j (b ∷ bs) h = cons_same (ap (λ x. b || x) (h j)) (marked_same f g (suc j) bs h)

pub marked_none : (j : ℕ) (bs : List Bool) → marked (λ i. false) j bs ≡ bs
marked_none j [] = refl
marked_none j (b ∷ bs) = cons_same (or_right_false b) (marked_none (suc j) bs)

pub marked_twice : (f g : ℕ → Bool) (j : ℕ) (bs : List Bool) → marked g j (marked f j bs) ≡ marked (λ i. f i || g i) j bs
marked_twice f g j [] = refl
marked_twice f g j (b ∷ bs) = cons_same (or_or b (f j) (g j)) (marked_twice f g (suc j) bs)

pub marked_shift : (f : ℕ → Bool) (n j : ℕ) (bs : List Bool) → marked (λ i. f (i + n)) j bs ≡ marked f (j + n) bs
marked_shift f n j [] = refl
marked_shift f n j (b ∷ bs) =
    let e : suc j + n ≡ suc (j + n) = omega arith in
    cons_same refl (marked_shift f n (suc j) bs ∙ ap (λ i. marked f i bs) e)

-- two walks, one after the other
pub then_marked : (f g : ℕ → Bool) (j : ℕ) (bs : List Bool) {cs ds : List Bool} → cs ≡ marked f j bs → ds ≡ marked g j cs → ds ≡ marked (λ i. f i || g i) j bs
then_marked f g j bs e h = h ∙ ap (marked g j) e ∙ marked_twice f g j bs

-- two walks, the second before the first
pub before_marked : (f g : ℕ → Bool) (j : ℕ) (bs : List Bool) {cs ds : List Bool} → cs ≡ marked g j bs → ds ≡ marked f j cs → ds ≡ marked (λ i. f i || g i) j bs
before_marked f g j bs e h = then_marked g f j bs e h ∙ marked_same (λ i. g i || f i) (λ i. f i || g i) j bs (λ i. or_swap (g i) (f i))

-- a walk inside a binding of n variables
pub inside_marked : (f : ℕ → Bool) (n j m : ℕ) (bs : List Bool) {cs : List Bool} → m ≡ j + n → cs ≡ marked f m bs → cs ≡ marked (λ i. f (i + n)) j bs
inside_marked f n j m bs e h = h ∙ ap (λ i. marked f i bs) e ∙ sym (marked_shift f n j bs)

pub marked_past : (k j : ℕ) (bs : List Bool) → k < j → marked (λ i. nat_eq k i) j bs ≡ bs
marked_past k j [] h = refl
marked_past k j (b ∷ bs) h =
    cons_same (ap (λ x. b || x) (differ k j (λ e. omega (arith, e, h))) ∙ or_right_false b) (marked_past k (suc j) bs (omega (arith, h)))

pub marked_far : (k j : ℕ) (bs : List Bool) → j + length bs ≤ k → marked (λ i. nat_eq k i) j bs ≡ bs
marked_far k j [] h = refl
marked_far k j (b ∷ bs) h =
    cons_same (ap (λ x. b || x) (differ k j (λ e. omega (arith, e, h))) ∙ or_right_false b) (marked_far k (suc j) bs (omega (arith, h)))

pub marked_at : (k j i : ℕ) (bs : List Bool) → k ≡ j + i → i < length bs → slice_set bs i true ≡ marked (λ n. nat_eq k n) j bs
marked_at k j i [] e h = absurd (omega (arith, h))
marked_at k j zero (b ∷ bs) e h =
    cons_same (sym (ap (λ x. b || x) (eq-eqb k j (omega (arith, e))) ∙ or-true b)) (sym (marked_past k (suc j) bs (omega (arith, e))))
marked_at k j (suc i) (b ∷ bs) e h =
    cons_same (sym (ap (λ x. b || x) (differ k j (λ d. omega (arith, d, e))) ∙ or_right_false b)) (marked_at k (suc j) i bs (omega (arith, e)) (omega (arith, h)))

pub all_marked : (f : ℕ → Bool) (n j : ℕ) → marked f j (replicate n false) ≡ map f (numbers j n)
all_marked f zero j = refl
all_marked f (suc n) j = cons_same refl (all_marked f n (suc j))

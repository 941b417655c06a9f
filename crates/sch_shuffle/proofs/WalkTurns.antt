-- Walks from argument to argument.
use Rattle.std.proofs.Common.{◌≡◌, ◌≢◌, ℕ, zero, suc, ◌+◌, ◌-◌, ◌<◌, Bool, true, false, cond, List, [], ◌∷◌, ◌++◌, length, map, refl, ap, sym, ◌∙◌, arith, get_or}
use Rattle.std.specs.Prelude.{◌&&◌, nat_eq, nat_lt}
use Rattle.std.proofs.lemmas.List.{append_assoc}
use Rattle.std.proofs.lemmas.Bool.{eq-eqb, ne_eqb}
use Rattle.sch_word.specs.trees.Bindings.{numbers}
use Rattle.sch_shuffle.specs.declared.operand.Operand.{Operand}
use Rattle.sch_shuffle.specs.View.{tree, arguments}
use Rattle.sch_shuffle.specs.Assignment.{operand_at}
use Rattle.sch_shuffle.specs.CycleSearch.{first, ring, is_ring, rings}
use Rattle.sch_shuffle.proofs.Paths.{is_later_true, walk, ring_walk}
use Rattle.sch_shuffle.proofs.WaitingArguments.{AllBelow, numbers_next, standing}

pub operand_tree : (args : List Operand) (i : ℕ) (x : Operand) → i < length args → x ≡ get_or args i x → operand_at (arguments args) i ≡ tree x
operand_tree [] i x lt e = absurd (omega (arith, lt))
operand_tree (y ∷ ys) zero x lt e = ap tree (sym e)
operand_tree (y ∷ ys) (suc i) x lt e = operand_tree ys i x (omega (arith, lt)) e

pub first_next : (test : ℕ → Bool) (n j : ℕ) → j < n → test j ≡ false → first test (n - j) j ≡ first test (n - (j + 1)) (j + 1)
first_next test n j lt h = let e : n - j ≡ suc (n - (j + 1)) = omega (arith, lt) in rw (e, h) refl

module _ (S : ℕ → ℕ) (n start : ℕ) where
  pub walk_turn : (m i : ℕ) (done : List ℕ) (at : ℕ) → i < m → walk S n start (m - i) done at
      ≡ cond (nat_eq (S at) start) (done ++ at ∷ []) (cond (nat_lt start (S at) && nat_lt (S at) n) (walk S n start (m - (i + 1)) (done ++ at ∷ []) (S at)) [])
  walk_turn m i done at lt = let e : m - i ≡ suc (m - (i + 1)) = omega (arith, lt) in rw e refl

  pub walk_back : (m i : ℕ) (done : List ℕ) (at : ℕ) → i < m → S at ≡ start → walk S n start (m - i) done at ≡ done ++ at ∷ []
  walk_back m i done at lt h = let yes_ = eq-eqb (S at) start h in walk_turn m i done at lt ∙ rw yes_ refl

  pub walk_on : (m i : ℕ) (done : List ℕ) (at : ℕ) → i < m → S at ≢ start → (nat_lt start (S at) && nat_lt (S at) n) ≡ true
      → walk S n start (m - i) done at ≡ walk S n start (m - (i + 1)) (done ++ at ∷ []) (S at)
  walk_on m i done at lt h k = let no_ = ne_eqb (S at) start h in walk_turn m i done at lt ∙ rw (no_, k) refl

  pub walk_ends : (m i : ℕ) (done : List ℕ) (at : ℕ) → i < m → S at ≢ start → (nat_lt start (S at) && nat_lt (S at) n) ≡ false → walk S n start (m - i) done at ≡ []
  walk_ends m i done at lt h k = let no_ = ne_eqb (S at) start h in walk_turn m i done at lt ∙ rw (no_, k) refl

below_push : (n at : ℕ) (done : List ℕ) → AllBelow n done → at < n → AllBelow n (done ++ at ∷ [])
below_push n at [] h k = (k, tt)
below_push n at (x ∷ done) h k = (h.0, below_push n at done h.1 k)

pub walk_below : (S : ℕ → ℕ) (n start steps : ℕ) (done : List ℕ) (at : ℕ) → AllBelow n done → at < n → AllBelow n (walk S n start steps done at)
walk_below S n start zero done at h k = tt
walk_below S n start (suc steps) done at h k =
    let all = below_push n at done h k in
    go (nat_eq (S at) start) (nat_lt start (S at) && nat_lt (S at) n) all
    (λ e. walk_below S n start steps (done ++ at ∷ []) (S at) all (is_later_true start (S at) n e).1) refl
  where
    go : (b c : Bool) → AllBelow n (done ++ at ∷ []) → (c ≡ true → AllBelow n (walk S n start steps (done ++ at ∷ []) (S at))) → c ≡ c
        → AllBelow n (cond b (done ++ at ∷ []) (cond c (walk S n start steps (done ++ at ∷ []) (S at)) []))
    go true c x y z = x
    go false true x y z = y refl
    go false false x y z = tt

pub walk_same : (S R : ℕ → ℕ) (n start steps : ℕ) (done : List ℕ) (at : ℕ) → ((j : ℕ) → j < n → S j ≡ R j) → at < n
    → walk S n start steps done at ≡ walk R n start steps done at
walk_same S R n start zero done at each lt = refl
walk_same S R n start (suc steps) done at each lt =
    let here = each at lt in
    rw here (go (nat_eq (R at) start) (nat_lt start (R at) && nat_lt (R at) n)
    (λ e. walk_same S R n start steps (done ++ at ∷ []) (R at) each (is_later_true start (R at) n e).1))
  where
    go : (b c : Bool) → (c ≡ true → walk S n start steps (done ++ at ∷ []) (R at) ≡ walk R n start steps (done ++ at ∷ []) (R at))
        → cond b (done ++ at ∷ []) (cond c (walk S n start steps (done ++ at ∷ []) (R at)) [])
        ≡ cond b (done ++ at ∷ []) (cond c (walk R n start steps (done ++ at ∷ []) (R at)) [])
    go true c y = refl
    go false true y = y refl
    go false false y = refl

pub ring_below : (S : ℕ → ℕ) (n k : ℕ) → k < n → AllBelow n (ring S n k)
ring_below S n k h = let e = ring_walk S n k h in rw e (walk_below S n k n [] k tt h)

-- one start more
pub rings_turn : {A : Type 0} (f : List ℕ → A) (S : ℕ → ℕ) (n k : ℕ) (all : List A) (found : List ℕ) (b : Bool) → k < n → found ≡ ring S n k → b ≡ nat_lt 1 (length found)
    → cond b (all ++ f found ∷ []) all ++ map f (rings S n (numbers (k + 1) (n - (k + 1)))) ≡ all ++ map f (rings S n (numbers k (n - k)))
rings_turn f S n k all found b lt e is =
    let nn = numbers_next n k lt in
    let t : is_ring (ring S n k) ≡ b = ap (λ x. nat_lt 1 (length x)) (sym e) ∙ sym is in
    rw (nn, t, ← e) (go b)
  where
    go : (b : Bool) → cond b (all ++ f found ∷ []) all ++ map f (rings S n (numbers (k + 1) (n - (k + 1))))
        ≡ all ++ map f (cond b (found ∷ rings S n (numbers (k + 1) (n - (k + 1)))) (rings S n (numbers (k + 1) (n - (k + 1)))))
    go true = append_assoc all (f found ∷ []) (map f (rings S n (numbers (k + 1) (n - (k + 1)))))
    go false = refl

pub ring_found : (items slice successors : List ℕ) (n k : ℕ) (R : ℕ → ℕ) → items ≡ ring (λ j. get_or slice j 0) (length slice) k → slice ≡ successors → length successors ≡ n
    → ((j : ℕ) → j < n → get_or successors j 0 ≡ R j) → k < n → items ≡ ring R n k
ring_found items slice successors n k R is e l each lt =
    is ∙ ap (λ xs. ring (λ j. get_or xs j 0) (length xs) k) e ∙ ap (λ m. ring (λ j. get_or successors j 0) m k) l
    ∙ ring_walk (λ j. get_or successors j 0) n k lt ∙ walk_same (λ j. get_or successors j 0) R n k n [] k each lt ∙ sym (ring_walk R n k lt)

pub found_below : (items slice : List ℕ) (n k : ℕ) (R : ℕ → ℕ) → items ≡ ring R n k → slice ≡ items → k < n → (i : ℕ) → i < length slice → get_or slice i 0 < n
found_below items slice n k R is e lt i h =
    let all : AllBelow n slice = rw (e, is) (ring_below R n k lt) in standing n slice i all h

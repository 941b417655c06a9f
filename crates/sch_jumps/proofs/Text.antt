-- The size of a text.
use Rattle.std.proofs.Common.{◌≡◌, ℕ, zero, suc, ◌+◌, ◌*◌, ◌<◌, ◌≤◌, List, [], ◌∷◌, ◌++◌, length, Bool, true, false, refl, sym, ap, ◌∙◌, arith, cond}
use Rattle.std.proofs.lemmas.Bool.{false≢true}
use Rattle.sch_jumps.specs.declared.piece.Piece.{Piece}
use Rattle.sch_jumps.specs.declared.piece.Piece.TheVariants.{Bytes, Label, Jump}
use Rattle.sch_jumps.specs.Sizes.{Set, none, jump_count, end_from, size, ArePieces, grown}
use Rattle.sch_jumps.specs.Least.{Suffices, IsLeast, least, text_size, long_size}
use Rattle.sch_jumps.proofs.Searching.{grown_same}
use Rattle.sch_jumps.proofs.Least.{growth, size_is, has_least, only_one}

-- ---- each least set gives the size

pub size_same : (ps : List Piece) (s t : Set) → ArePieces ps → ((k : ℕ) → k < jump_count ps → s k ≡ t k) → size s ps ≡ size t ps
size_same ps s t sound h = size_is ps sound s ∙ ap (λ m. size none ps + m) (grown_same (growth ps) t s (jump_count ps) h) ∙ sym (size_is ps sound t)

pub the_size : (ps : List Piece) (s : Set) → ArePieces ps → IsLeast ps s → size s ps ≡ text_size ps
the_size ps s sound h = size_same ps s (least ps) sound (only_one ps s (least ps) sound h (has_least ps sound))

-- ---- bounds

grown_up : (g : ℕ → ℕ) (s t : Set) (n : ℕ) → ((k : ℕ) → k < n → s k ≡ true → t k ≡ true) → grown g s n ≤ grown g t n
grown_up g s t zero h = omega arith
grown_up g s t (suc n) h =
    let r = grown_up g s t n (λ k lt. h k (omega arith)) in
    let m = by (s n) (t n) (h n (omega arith)) in
    omega (arith, r, m)
  where
    by : (a b : Bool) → (a ≡ true → b ≡ true) → cond a (g n) 0 ≤ cond b (g n) 0
    by true true f = omega arith
    by true false f = absurd (false≢true (f refl))
    by false true f = omega arith
    by false false f = omega arith

pub size_up : (ps : List Piece) (s t : Set) → ArePieces ps → ((k : ℕ) → k < jump_count ps → s k ≡ true → t k ≡ true) → size s ps ≤ size t ps
size_up ps s t sound h = let a = size_is ps sound s in let b = size_is ps sound t in let c = grown_up (growth ps) s t (jump_count ps) h in omega (arith, a, b, c)

-- with all jumps long
pub at_most_long : (ps : List Piece) → ArePieces ps → text_size ps ≤ long_size ps
at_most_long ps sound = size_up ps (least ps) (λ k. true) sound (λ k lt e. refl)

-- and with all jumps short
pub at_least_short : (ps : List Piece) → ArePieces ps → size none ps ≤ text_size ps
at_least_short ps sound = size_up ps none (least ps) sound (λ k lt e. absurd (false≢true e))

-- a set that suffices gives a size that is not less
pub at_most : (ps : List Piece) (s : Set) → ArePieces ps → Suffices ps s → text_size ps ≤ size s ps
at_most ps s sound h = size_up ps (least ps) s sound (λ k lt e. let l = has_least ps sound in l.least s h k lt e)

end_small : (ps : List Piece) (s : Set) (k at : ℕ) → ArePieces ps → end_from s k at ps ≤ at + 15 * length ps
end_small [] s k at h = omega arith
end_small (Bytes n ∷ ps) s k at h = let r = end_small ps s k (at + n) h.1 in let b : n ≤ 15 = h.0 in omega (arith, r, b)
end_small (Label l ∷ ps) s k at h = let r = end_small ps s k at h.1 in omega (arith, r)
end_small (Jump n l ∷ ps) s k at h = let r = end_small ps s (k + 1) (at + cond (s k) n 2) h.1 in let b = by (s k) n h.0.1 in omega (arith, r, b)
  where
    by : (b : Bool) (n : ℕ) → n ≤ 15 → cond b n 2 ≤ 15
    by true n le = le
    by false n le = omega arith

-- so it is a number of 64 bits
pub size_bound : (ps : List Piece) (s : Set) → ArePieces ps → size s ps ≤ 15 * length ps
size_bound ps s sound = let h = end_small ps s 0 0 sound in omega (arith, h)

-- ---- one list behind another

pub end_append : (ps qs : List Piece) (s : Set) (k at : ℕ) → end_from s k at (ps ++ qs) ≡ end_from s (k + jump_count ps) (end_from s k at ps) qs
end_append [] qs s k at = let e : k ≡ k + 0 = omega arith in ap (λ j. end_from s j at qs) e
end_append (Bytes n ∷ ps) qs s k at = end_append ps qs s k (at + n)
end_append (Label l ∷ ps) qs s k at = end_append ps qs s k at
end_append (Jump n l ∷ ps) qs s k at = let e : k + 1 + jump_count ps ≡ k + suc (jump_count ps) = omega arith in end_append ps qs s (k + 1) (at + cond (s k) n 2) ∙ ap (λ j. end_from s j (end_from s (k + 1) (at + cond (s k) n 2) ps) qs) e

-- One past the last slot in which moves set something aside.
use Rattle.std.proofs.Common.{◌≡◌, ◌≢◌, ℕ, suc, ◌+◌, ◌<◌, ◌≤◌, List, [], ◌∷◌, ◌++◌, length, map, drop, get_or, max, cond, refl, sym, ap, ◌∙◌, subst, arith, inl, inr, ◌⊎◌}
use Rattle.std.proofs.Math.Nat.{le-max_left, le-max_right, max-le}
use Rattle.std.proofs.lemmas.List.{drop_more}
use Rattle.std.proofs.lemmas.Bool.{cases_eq}
use Rattle.sch_word.specs.declared.place.Place.{Place}
use Rattle.sch_control.specs.declared.operation.Operand.{Operand}
use Rattle.sch_layout.specs.Moves as layout
use Rattle.sch_layout.specs.Moves.{EachMove}
use Rattle.sch_shuffle.specs.declared.choice.Choice.{Choice}
use Rattle.sch_shuffle.specs.declared.choice.Choice.TheVariants.{Direct, Aside}
use Rattle.sch_shuffle.specs.Assignment.{place_at}
use Rattle.sch_shuffle.specs.Greedy.{acts, evaluations, onwards}
use Rattle.sch_shuffle.specs.Plans.{Act}
use Rattle.sch_shuffle.proofs.SetAside.{asides_in}
use Rattle.sch_writer.specs.View.{move_of, moves_of}
use Rattle.sch_writer.specs.declared.moves.Move.{Move}
use Rattle.sch_homes.specs.CallMoves.{aside_end, slot_end}
use Rattle.sch_homes.proofs.ShuffledMoves.{act_move}

ends_larger : (n end : ℕ) (moves : List layout.Move) → aside_end (max n end) moves ≡ max n (aside_end end moves)
ends_larger n end [] = refl
ends_larger n end (m ∷ moves) = let h = ends_larger n end moves in omega (arith, h)

-- with one move more, the others are left
pub next_end : (i most more one whole : ℕ) (moves : List Move) (m : Move) → i < length moves → m ≡ get_or moves i m → more ≡ max one most
    → one ≡ cond m.is_temporary (slot_end m.to) 0
    → aside_end most (moves_of (drop i moves)) ≡ whole → aside_end more (moves_of (drop (i + 1) moves)) ≡ whole
next_end i most more one whole moves m lt is e o h =
    ap (λ n. aside_end n (moves_of (drop (i + 1) moves))) (e ∙ ap (λ n. max n most) o)
    ∙ (ends_larger (cond m.is_temporary (slot_end m.to) 0) most (moves_of (drop (i + 1) moves))
    ∙ (ap (λ m. aside_end most (move_of m ∷ moves_of (drop (i + 1) moves))) is
    ∙ (ap (λ ms. aside_end most (moves_of ms)) (sym (drop_more moves i m lt)) ∙ h)))

-- what one of those that are left sets aside ends no further than they all
pub one_end : (i most whole : ℕ) (moves : List Move) (m : Move) → i < length moves → m ≡ get_or moves i m → aside_end most (moves_of (drop i moves)) ≡ whole
    → cond m.is_temporary (slot_end m.to) 0 ≤ whole
one_end i most whole moves m lt is h =
    let left : max (cond m.is_temporary (slot_end m.to) 0) (aside_end most (moves_of (drop (i + 1) moves))) ≡ whole =
    ap (λ m. aside_end most (move_of m ∷ moves_of (drop (i + 1) moves))) is ∙ (ap (λ ms. aside_end most (moves_of ms)) (sym (drop_more moves i m lt)) ∙ h) in
    let first = le-max_left (cond m.is_temporary (slot_end m.to) 0) (aside_end most (moves_of (drop (i + 1) moves))) in
    omega (arith, left, first)

-- ## Bounds

-- what a move sets aside is before a number
abbrev pub IsAsideBefore : ℕ → layout.Move → Type 0
IsAsideBefore bound m = cond m.temp (slot_end m.to) 0 ≤ bound

pub end_within : (bound end : ℕ) (moves : List layout.Move) → EachMove (IsAsideBefore bound) moves → end ≤ bound → aside_end end moves ≤ bound
end_within bound end [] h le = le
end_within bound end (m ∷ moves) h le = max-le h.0 (end_within bound end moves h.1 le)

pub within_end : (bound end : ℕ) (moves : List layout.Move) → aside_end end moves ≤ bound → EachMove (IsAsideBefore bound) moves
within_end bound end [] h = tt
within_end bound end (m ∷ moves) h =
    let l = le-max_left (cond m.temp (slot_end m.to) 0) (aside_end end moves) in
    let r = le-max_right (cond m.temp (slot_end m.to) 0) (aside_end end moves) in
    (omega (arith, l, h), within_end bound end moves (omega (arith, r, h)))

pub end_least : (end : ℕ) (moves : List layout.Move) → end ≤ aside_end end moves
end_least end [] = omega arith
end_least end (m ∷ moves) =
    let r = le-max_right (cond m.temp (slot_end m.to) 0) (aside_end end moves) in
    let h = end_least end moves in
    omega (arith, r, h)

module _ (os : List (Operand Place)) (targets free : List Place) (bound : ℕ) where
  used_within : (cs : List Choice) (more : List Act) (u : ℕ) → EachMove (IsAsideBefore bound) (map (act_move os targets) (evaluations free u cs ++ more))
      → (v : ℕ) → u ≤ v → v < u + length (asides_in cs) → slot_end (place_at free v) ≤ bound
  used_within [] more u h v a b = absurd (omega (arith, a, b))
  used_within (Direct k ∷ cs) more u h v a b = used_within cs more u h.1 v a b
  used_within (Aside k ∷ cs) more u h v a b = by (cases_eq u v) (used_within cs more (suc u) h.1 v) where
    by : (u ≡ v) ⊎ (u ≢ v) → (suc u ≤ v → v < suc u + length (asides_in cs) → slot_end (place_at free v) ≤ bound) → slot_end (place_at free v) ≤ bound
    by (inl same) rest = subst (λ v. slot_end (place_at free v) ≤ bound) same h.0
    by (inr other) rest = rest (omega (arith, a, other)) (omega (arith, b))

  -- so is each free place that acts use
  pub free_within : (cs : List Choice) → EachMove (IsAsideBefore bound) (map (act_move os targets) (acts free cs)) → (v : ℕ) → v < length (asides_in cs) → slot_end (place_at free v) ≤ bound
  free_within cs h v lt = used_within cs (onwards free 0 cs) 0 h v (omega arith) (omega (arith, lt))

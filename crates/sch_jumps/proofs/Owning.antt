-- In the table each label that stands once has the place of its piece.
use Rattle.std.proofs.Common.{◌≡◌, ℕ, ◌+◌, ◌<◌, List, [], ◌∷◌, length, Bool, true, false, refl, sym, ◌∙◌, subst, arith, cond, ◌==◌, slice_index, slice_set}
use Rattle.std.proofs.Math.ListN.{length-set}
use Rattle.std.proofs.lemmas.Bool.{eqb-true, eqb-false}
use Rattle.sch_jumps.specs.declared.piece.Piece.{Piece}
use Rattle.sch_jumps.specs.declared.piece.Piece.TheVariants.{Bytes, Label, Jump}
use Rattle.sch_jumps.specs.Sizes.{Set, end_from, place_from, placed_from}
use Rattle.sch_jumps.specs.Places.{Absent, Once, Own}
use Rattle.sch_jumps.specs.Spans.{LabelsBelow}
use Rattle.sch_jumps.proofs.Placing.{end_above}
use Rattle.sch_jumps.proofs.Reaching.{placed_at}

kept : (ps : List Piece) (s : Set) (f k at l : ℕ) → Absent l ps → place_from s f k at ps l ≡ f
kept [] s f k at l h = refl
kept (Bytes n ∷ ps) s f k at l h = kept ps s f k (at + n) l h
kept (Label m ∷ ps) s f k at l h = kept ps s (cond (m == l) at f) k at l h.1 ∙ by (m == l) refl
  where
    by : (b : Bool) → (m == l) ≡ b → cond b at f ≡ f
    by true e = absurd (h.0 (sym (eqb-true m l e)))
    by false e = refl
kept (Jump n m ∷ ps) s f k at l h = kept ps s f (k + 1) (at + cond (s k) n 2) l h

itself : (m at f : ℕ) → cond (m == m) at f ≡ at
itself m at f = by (m == m) refl
  where
    by : (b : Bool) → (m == m) ≡ b → cond b at f ≡ at
    by true e = refl
    by false e = absurd (eqb-false m m e refl)

owned : (ps : List Piece) (s : Set) (n : ℕ) (place f : ℕ → ℕ) (k at : ℕ) → Once ps → LabelsBelow n ps → ((l : ℕ) → l < n → place l ≡ place_from s (f l) k at ps l) → Own s place k at ps
owned [] s n place f k at o b h = tt
owned (Bytes m ∷ ps) s n place f k at o b h = owned ps s n place f k (at + m) o b.1 h
owned (Label l ∷ ps) s n place f k at o b h = (
  h l b.0 ∙ kept ps s (cond (l == l) at (f l)) k at l o.0 ∙ itself l at (f l),
  owned ps s n place (λ j. cond (l == j) at (f j)) k at o.1 b.1 h,
)
owned (Jump m l ∷ ps) s n place f k at o b h = owned ps s n place f (k + 1) (at + cond (s k) m 2) o b.1 h

-- by the table that `place_labels` leaves
pub own_by : (ps : List Piece) (s : Set) (at : ℕ) (t : List ℕ) → Once ps → LabelsBelow (length t) ps → Own s (slice_index (placed_from s 0 at ps t)) 0 at ps
own_by ps s at t o b = owned ps s (length t) (slice_index (placed_from s 0 at ps t)) (slice_index t) 0 at o b (λ l lt. placed_at ps s 0 at t l lt)

-- Where the text ends below a bound, every place is below it.
place_small : (ps : List Piece) (s : Set) (f k at n l : ℕ) → f < n → end_from s k at ps < n → place_from s f k at ps l < n
place_small [] s f k at n l small lt = small
place_small (Bytes m ∷ ps) s f k at n l small lt = place_small ps s f k (at + m) n l small lt
place_small (Label m ∷ ps) s f k at n l small lt = place_small ps s (cond (m == l) at f) k at n l (by (m == l)) lt
  where
    by : (b : Bool) → cond b at f < n
    by true = let h = end_above ps s k at in omega (arith, h, lt)
    by false = small
place_small (Jump m j ∷ ps) s f k at n l small lt = place_small ps s f (k + 1) (at + cond (s k) m 2) n l small lt

pub placed_small : (ps : List Piece) (s : Set) (at n : ℕ) (t : List ℕ) → ((l : ℕ) → l < length t → slice_index t l < n) → end_from s 0 at ps < n → (l : ℕ) → l < length t → slice_index (placed_from s 0 at ps t) l < n
placed_small ps s at n t h lt l within =
    subst (λ a. a < n) (sym (placed_at ps s 0 at t l within)) (place_small ps s (slice_index t l) 0 at n l (h l within) lt)

pub placed_count : (ps : List Piece) (s : Set) (k at : ℕ) (t : List ℕ) → length (placed_from s k at ps t) ≡ length t
placed_count [] s k at t = refl
placed_count (Bytes n ∷ ps) s k at t = placed_count ps s k (at + n) t
placed_count (Label l ∷ ps) s k at t = placed_count ps s k at (slice_set t l at) ∙ length-set t l at
placed_count (Jump n l ∷ ps) s k at t = placed_count ps s (k + 1) (at + cond (s k) n 2) t

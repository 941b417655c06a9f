-- Where the labels of a text stand.
use Rattle.std.specs.Prelude.{◌≡◌, ◌≢◌, ℕ, ◌+◌, List, [], ◌∷◌, cond}
use Rattle.sch_jumps.specs.declared.piece.Piece.{Piece}
use Rattle.sch_jumps.specs.declared.piece.Piece.TheVariants.{Bytes, Label, Jump}
use Rattle.sch_jumps.specs.Sizes.{Set}

-- A label does not stand in pieces.
abbrev pub Absent : ℕ → List Piece → Type 0
Absent l [] = Unit {0}
Absent l (Bytes n ∷ ps) = Absent l ps
Absent l (Label m ∷ ps) = (l ≢ m) × Absent l ps
Absent l (Jump n m ∷ ps) = Absent l ps

-- No label stands twice.
abbrev pub Once : List Piece → Type 0
Once [] = Unit {0}
Once (Bytes n ∷ ps) = Once ps
Once (Label l ∷ ps) = Absent l ps × Once ps
Once (Jump n m ∷ ps) = Once ps

-- Where pieces stand from an address on and k jumps before them, each label has the address at which it stands.
abbrev pub Own : Set → (place_of : ℕ → ℕ) (k at : ℕ) → List Piece → Type 0
Own long place_of k at [] = Unit {0}
Own long place_of k at (Bytes n ∷ ps) = Own long place_of k (at + n) ps
Own long place_of k at (Label l ∷ ps) = (place_of l ≡ at) × Own long place_of k at ps
Own long place_of k at (Jump n m ∷ ps) = Own long place_of (k + 1) (at + cond (long k) n 2) ps

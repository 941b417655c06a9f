-- The files of a disk: a finite map from names to bytes.
use Rattle.std.specs.Prelude.{◌≡◌, ◌⊎◌, ℕ, List, [], ◌∷◌}
use Rattle.std.specs.Ordering.{nat_cmp}
use Rattle.std.specs.Cmp.Lexicographic.{slice_cmp}
use Rattle.std.specs.FinMap.{FinMap, insert}

abbrev pub Files : Type 0
Files = FinMap (slice_cmp nat_cmp) (List ℕ)

-- The file of this name now holds these bytes, and every other file is as it was.
abbrev pub Replaces : List ℕ → List ℕ → Files → Files → Type 0
Replaces name bytes before after = after ≡ insert before name bytes

-- What a failed write leaves: every other file is as it was, and the named one holds any bytes, or is
-- absent where it was absent before.
abbrev pub Spoils : List ℕ → Files → Files → Type 0
Spoils name before after = (after ≡ before) ⊎ ((bytes : List ℕ) × Replaces name bytes before after)

-- the files after these, each a name and its bytes, were written in order
abbrev pub written : Files → List (List ℕ × List ℕ) → Files
written files [] = files
written files (file ∷ more) = written (insert files file.0 file.1) more

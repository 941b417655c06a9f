-- What the code's lists of names stand for.
use Rattle.std.specs.Prelude.{ℕ, List, map}
use Rattle.std.specs.Borrow.{Bor}

abbrev pub name_at : Bor (List ℕ) → List ℕ
name_at x = x.now

abbrev pub given : List (Bor (List ℕ)) → List (List ℕ)
given xs = map name_at xs

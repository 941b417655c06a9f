-- What a walk has still to visit.
use Rattle.std.specs.Prelude.{List, [], ◌∷◌, ◌++◌}
use Rattle.std.specs.Borrow.{Bor}

-- the items of slices, of which the last one comes first
abbrev pub items_of : {T : Type 0} → List (Bor (List T)) → List T
items_of [] = []
items_of (items ∷ more) = items_of more ++ items.now
